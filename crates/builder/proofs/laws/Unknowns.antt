-- The dependents of an unknown of an open file, by number, and of a model's variable.
use mathlib.Core.Path.{◌≡◌, refl, sym, ap, ◌∙◌}
use mathlib.Core.Bool.{true, false, not}
use mathlib.Core.List.{List, []}
use Prim.Native.Nat.{ℕ, suc, ◌+◌, ◌<◌}
use borrow.Author.Tests.{eq-eqb}
use lib.ListN.{get_or}
use Rattle.functions.specs.Lists.{any, member, is_some}
use Rattle.ast.specs.Records.{first_dep, dep_count}
use Rattle.ast.specs.Opens.{Open, contents_in, file_in}
use Rattle.ast.specs.declared.sections.Sections.{Sections}
use Rattle.ast.proofs.Files.{dep_of}
use Rattle.definitions.specs.Flatten.{model_at}
use Rattle.definitions.specs.Check.{lookup}
use Rattle.builder.specs.Checking.{scope_in, kept_names, Scoped, unknown_in}
use Rattle.builder.proofs.laws.Dependents.{lists_as, kept_member}
use Rattle.builder.proofs.laws.Calls.{entry_is, has_entry, some_entry}

-- ---- the dependents of unknown u

module _ {f : List ℕ} {s : Sections} (o : Open f s) where
  -- dependent j of unknown u
  pub deps_at_lem : (u j first : ℕ) → first ≡ first_dep (get_or (contents_in f s).unknowns u []) → j < dep_count (get_or (contents_in f s).unknowns u [])
      → get_or (unknown_in f s u).deps j 0 ≡ get_or (contents_in f s).deps (first + j) 0
  deps_at_lem u j first e h = rw e (dep_of (contents_in f s) _ j h)

-- ---- the kept dependents of the variable of the name x, by the table of the model's variables

module _ {f : List ℕ} {s : Sections} {m : ℕ} {vs : List ℕ} (g : Scoped f s m vs) (x y : ℕ) (h : is_some (lookup (scope_in f s m) x) ≡ true) (l : y < s.counts.names) where
  -- a name that is no variable is none of them
  pub kept_none : get_or vs y 0 ≡ 0 → member (suc y) (kept_names (scope_in f s m) (lookup (scope_in f s m) x)) ≡ false
  kept_none e =
      let n : is_some (lookup (scope_in f s m) y) ≡ false = has_entry (scope_in f s m) (lookup (scope_in f s m) y) ∙ ap not (eq-eqb _ 0 (sym (entry_is g y l) ∙ e)) in
      kept_member (file_in f s) (model_at (file_in f s) m) x y h ∙ rw n refl

  -- another is one if an unknown of the name x lists it
  pub kept_listed : (get_or vs y 0 ≡ 0 → ⊥) → member (suc y) (kept_names (scope_in f s m) (lookup (scope_in f s m) x)) ≡ any (lists_as x y) (model_at (file_in f s) m).unknowns
  kept_listed e =
      let n = some_entry (scope_in f s m) (lookup (scope_in f s m) y) (λ w. e (entry_is g y l ∙ w)) in
      kept_member (file_in f s) (model_at (file_in f s) m) x y h ∙ rw n refl
