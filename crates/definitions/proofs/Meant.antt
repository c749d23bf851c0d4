-- An accepted answer: its root is not refused by 6, so what it says of submodels and of reaching t is what is meant.
use mathlib.Core.Path.{◌≡◌, sym, ◌∙◌, ap, subst}
use mathlib.Core.Logic.{◌↔◌}
use Prim.Native.Nat.{ℕ, ◌<◌}
use native.Mathlib.Omega.{arith}
use mathlib.Core.Bool.{true, false}
use mathlib.Core.List.{List, ◌++◌, map, append_assoc}
use mathlib.Core.Option.{some}
use lib.ListN.{length}
use Rattle.functions.specs.Lists.{each, place}
use Rattle.functions.proofs.Lists.{clash}
use Rattle.ast.specs.Tree.{File}
use Rattle.definitions.specs.Names.{spells}
use Rattle.definitions.specs.Variables.{Error, time_dependent}
use Rattle.definitions.specs.Flatten.{model_at, scope_of, submodels, errors_of, cyclic}
use Rattle.definitions.specs.Roles.{role_of, role_errors}
use Rattle.definitions.specs.Allocate.{fates_of, paired_states, lacking, left_count, count_errors, starting_errors}
use Rattle.definitions.specs.Answer.{Answer}
use Rattle.definitions.specs.Build.{accepted, answer_from, answer, root_of}
use Rattle.definitions.specs.Meaning.{Route, SomeFrom, Meaning, Meant, ReachesTime}
use Rattle.definitions.proofs.ListLaws.{place_below}
use Rattle.definitions.proofs.Accepted.{scope, time, flats, answered, answered_of}
use Rattle.definitions.proofs.Routes.{refusals_route, time_route}
use Rattle.definitions.proofs.Depth.{meaning_of}

-- the root is a model of the file
root_below : (f : File) (root : List ℕ) (m : ℕ) → root_of f root ≡ some m → m < length f.models
unfolding root_of place
root_below f root m e = omega (arith, place_below (λ x. spells f.names root x.name) 0 f.models m e)

-- of four lists in a row, the first and what is behind it
first_of_four : (a b c d : List Error) → (later : List Error) × (a ++ b ++ c ++ d ≡ a ++ later)
first_of_four a b c d = (b ++ (c ++ d), simp append_assoc)

module _ (f : File) (m : ℕ) where
  -- not refused by 6
  no_cycle_of : cyclic f m ≡ false → SomeFrom f m (λ j. Route (submodels f) j j) → ⊥
  no_cycle_of e s = let z = (refusals_route f m).cycle.1 s in clash (cc)

  -- Of a root that is not refused by 6, flattening, errors and instances are the recursive ones.
  pub not_cyclic_meaning : m < length f.models → cyclic f m ≡ false → Meaning f m
  not_cyclic_meaning l e = meaning_of f m l (no_cycle_of e)

  -- the errors of building the model come first
  answered_errors : (later : List Error) × ((answered f m).errors ≡ errors_of f (length f.models) m ++ later)
  unfolding answer_from
  answered_errors =
      let c = scope f m in
      let rs = map (role_of c (time f m)) (flats f m) in
      first_of_four (errors_of f (length f.models) m) (each (role_errors c (time f m)) (flats f m))
      (count_errors (model_at f m).span (left_count rs) (length (lacking c.vars rs)))
      (starting_errors (model_at f m).span c.vars (flats f m) (fates_of (paired_states c.vars rs) rs))

-- Of every accepted answer: what it is of, and that no count cuts it short.
pub meant : (file root : List ℕ) (a : Answer) → answer file root ≡ accepted a → Meant file root a
unfolding answer_from scope_of
meant file root a h =
    let x = answered_of file root a h in
    let f = x.tree in
    let m = x.model in
    let e = x.is_clean.is_answer in
    let r = answered_errors f m in
    record {
      tree = f;
      model = m;
      is_open = x.is_open;
      is_root = x.is_root;
      no_cycle = no_cycle_of f m x.is_clean.no_cycle;
      meaning = not_cyclic_meaning f m (root_below f root m x.is_root) x.is_clean.no_cycle;
      stmts_are = ap (λ b. b.stmts) (sym e);
      later = r.0;
      errors_are = ap (λ b. b.errors) (sym e) ∙ r.1;
      instances_are = ap (λ b. b.instances) (sym e);
      depends_on_time = λ i. subst (λ b. (time_dependent b.vars i ≡ true) ↔ ReachesTime b.vars i) e (time_route f.names (model_at f m).unknowns i);
    }
