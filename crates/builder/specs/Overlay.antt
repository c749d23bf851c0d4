-- A table of replacements while it is filled, the last argument first: what stands in it goes before what is still to come.
use Rattle.std.specs.Prelude.{ℕ, suc, ◌-◌, cond, List, eqb, get_or}
use Rattle.std.proofs.Math.Option.{some}
use Rattle.ast.specs.Tree.{Expr}
use Rattle.ast.specs.Subst.{Replacements}
use Rattle.ast.specs.Nodes.{tree_at}

-- what the table replaces, and where its entry is 0 what others do
unfoldable pub over : List (List ℕ) → List ℕ → Replacements → Replacements
over ns table by n = cond (eqb (get_or table n 0) 0) (by n) (some (tree_at ns (get_or table n 0 - 1)))

-- one more replacement, of the name t - 1, where t is not 0
unfoldable pub replacing : ℕ → Expr → Replacements → Replacements
replacing t e by n = cond (eqb (suc n) t) (some e) (by n)
