use Rattle.std.proofs.Common.{◌≡◌, ◌≤◌, Bool, List, length, not, count_by}
use Rattle.std.specs.List.{FoldsTo}
use Rattle.cases.specs.Judged.{Says}
use Rattle.cases.proofs.judge.Given as goal

abbrev pub invariant-loop-cases : goal.invariant-loop-cases
invariant-loop-cases g l = goal.F-IsAlwaysCallable g l.next
    × ((rights : List Bool)
    × FoldsTo (Says g.F.FnMut) (l.fn.next, l.initial.input) rights (l.next, l.input)
    × (l.cases ≡ length rights)
    × (l.wrong ≡ count_by not rights)
    × (l.wrong ≤ l.cases))
