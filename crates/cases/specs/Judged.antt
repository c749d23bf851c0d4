-- What goes over the cases of an input has called.
use Rattle.std.specs.Prelude.{◌≡◌, ◌-◌, ◌^◌, ◌<◌, Bool, List, length, not, count_by, Some, None}
use Rattle.std.specs.declared.option.Option.{Option}
use Rattle.std.specs.List.{FoldsTo}
use Rattle.std.specs.Fn.{Mut, CalledAtMut}
use Rattle.cases.specs.declared.Tally.{Tally}
use denote.Ref.{MutBor}

module _ {F S : Type 0} (g : Mut F (MutBor S × Unit {0}) (Option Bool × (MutBor S × Unit {0}))) where
  -- a call at the input says of a case whether it is right: p is the closure and the input before the call, q both after it
  abbrev pub Says : F × S → Bool → F × S → Type 0
  Says p right q = CalledAtMut g p.0 p.1 (Some right) q.0 q.1

  -- calls, one behind the other, say of each case whether it is right, and the call behind them says that there is no other,
  -- unless there are as many cases as can be counted
  pub record Judged (next : F) (input : S) (tally : Tally) (input' : S) : Type 0 where
    pub rights : List Bool
    pub last : F × S
    pub called : FoldsTo Says (next, input) rights last
    pub ended : tally.cases < 2 ^ 64 - 1 → (next' : F) × CalledAtMut g last.0 last.1 None next' input'
    pub cases : tally.cases ≡ length rights
    pub wrong : tally.wrong ≡ count_by not rights
