-- Demand 3.
use mathlib.Core.Path.{◌≡◌, refl, sym, ◌∙◌, ap}
use Prim.Native.Nat.{ℕ, zero, suc}
use mathlib.Core.Bool.{true}
use mathlib.Core.List.{List, [], ◌∷◌, ◌++◌}
use mathlib.Core.Option.{some-injective}
use lib.ListN.{length, get_elem?}
use mathlib.Core.Option.{some}
use Rattle.functions.specs.Lists.{all, each}
use Rattle.ast.specs.Tree.{Flat, Stmt, own, submodel, File}
use Rattle.definitions.specs.Variables.{Error, unknown_errors}
use Rattle.definitions.specs.Check.{flat_errors}
use Rattle.definitions.specs.Flatten.{model_at, flatten, errors_of, stmt_flats, stmt_errors}
use Rattle.definitions.specs.Roles.{role_errors}
use Rattle.definitions.specs.Allocate.{count_errors}
use Rattle.definitions.specs.Answer.{Answer}
use Rattle.definitions.specs.Build.{answer_from}
use Rattle.definitions.specs.Read.{Values, reads_flat}
use Rattle.definitions.specs.Promise.{Promise, Kept, is_own}
use Rattle.functions.proofs.Lists.{clash}
use Rattle.functions.proofs.Places.{left_nil, right_nil}
use Rattle.definitions.proofs.Accepted.{scope, time, flats, answered, answered_of}
use Rattle.definitions.proofs.Reading.{flat_reads}
use Rattle.definitions.proofs.Keeping.{state_holds, holds_one, other_holds_none, held_once, record_says, rate_held_by_name, rate_starts, other_starts_none, is_initial, is_replaced, has_fate, fate_each}

module _ (f : File) (m : ℕ) where
  promised : (answered f m).errors ≡ [] → Promise (scope f m) (answered f m)
  unfolding answer_from
  promised h =
      let c = scope f m in
      let z = (model_at f m).span in
      let built = errors_of f (length f.models) m in
      let roles = each (role_errors c (time f m)) (flats f m) in
      let h₁ = left_nil (built ++ roles ++ count_errors z _ _) _ h in
      let he = right_nil built _ (left_nil (built ++ roles) _ h₁) in
      let hc = right_nil (built ++ roles) _ h₁ in
      let hs = right_nil (built ++ roles ++ count_errors z _ _) _ h in
      record {
        state_holds = state_holds c (time f m) z (flats f m) hc;
        holds_one = holds_one c (time f m) z (flats f m) hc;
        other_holds_none = other_holds_none c (time f m) z (flats f m) hc;
        held_once = held_once c (time f m) z (flats f m);
        record_says = record_says c (time f m) z (flats f m) hc;
        rate_held_by_name = rate_held_by_name c (time f m) z (flats f m) he;
        rate_starts = rate_starts c (time f m) z (flats f m) hc hs;
        other_starts_none = other_starts_none c (time f m) z (flats f m) hc hs;
        is_initial = is_initial c (time f m) z (flats f m);
        is_replaced = is_replaced c (time f m) z (flats f m) he;
        has_fate = has_fate c (time f m) z (flats f m) hc;
        one_each = fate_each c (time f m) z (flats f m);
      }

  built_clean : (answered f m).errors ≡ [] → errors_of f (length f.models) m ≡ []
  unfolding answer_from
  built_clean h = left_nil _ _ (left_nil _ _ (left_nil _ _ h))

  answered_vars : (answered f m).vars ≡ (scope f m).vars
  unfolding answer_from
  answered_vars = refl

  answered_time : (answered f m).time ≡ time f m
  unfolding answer_from
  answered_time = refl

  answered_stmts : (answered f m).stmts ≡ flats f m
  unfolding answer_from
  answered_stmts = refl

  -- ---- reading: a root without submodel statements has its own statements, checked

  own_clean : (sub : ℕ → List Flat) (sub_errors : ℕ → List Error) (ss : List Stmt) → all is_own ss ≡ true → each (stmt_errors f sub_errors (scope f m)) ss ≡ []
      → (i : ℕ) (q : Flat) → get_elem? (each (stmt_flats f sub) ss) i ≡ some q → flat_errors (scope f m) q ≡ []
  unfolding all is_own each stmt_errors stmt_flats
  own_clean sub sube [] o h i q e = clash (cc)
  own_clean sub sube (own p ∷ ss) o h zero q e = ap (flat_errors (scope f m)) (sym (some-injective _ _ e)) ∙ left_nil _ _ h
  own_clean sub sube (own p ∷ ss) o h (suc i) q e = own_clean sub sube ss o (right_nil (flat_errors (scope f m) p) _ h) i q e
  own_clean sub sube (submodel n r z s ∷ ss) o h i q e = clash (cc)

  flat_clean : (k : ℕ) → all is_own (model_at f m).stmts ≡ true → errors_of f k m ≡ [] → (i : ℕ) (q : Flat) → get_elem? (flatten f k m) i ≡ some q → flat_errors (scope f m) q ≡ []
  unfolding flatten errors_of
  flat_clean zero o h i q e = clash (cc)
  flat_clean (suc k) o h i q e = own_clean _ _ (model_at f m).stmts o (right_nil (each (unknown_errors f.names) (model_at f m).unknowns) _ h) i q e

  module _ (a : Answer) (e : answered f m ≡ a) (h : a.errors ≡ []) where
    none_listed : (answered f m).errors ≡ []
    none_listed = ap (λ (b : Answer). b.errors) e ∙ h

    promise_of : Promise (scope f m) a
    promise_of = rw e at (promised none_listed)

    reads_of : all is_own (model_at f m).stmts ≡ true → (W : Values) (i : ℕ) (q : Flat) → get_elem? a.stmts i ≡ some q → reads_flat W (scope f m) q ≡ true
    reads_of o W i q g =
        flat_reads W (scope f m) q (flat_clean (length f.models) o (built_clean none_listed) i q (ap (λ (l : List Flat). get_elem? l i) (sym answered_stmts ∙ ap (λ (b : Answer). b.stmts) e) ∙ g))

pub kept : Kept
kept file root a ha he =
    let x = answered_of file root a ha in
    let e = x.is_clean.is_answer in
    record {
      tree = x.tree;
      model = x.model;
      is_open = x.is_open;
      is_root = x.is_root;
      vars_are = ap (λ (b : Answer). b.vars) (sym e) ∙ answered_vars x.tree x.model;
      stmts_are = ap (λ (b : Answer). b.stmts) (sym e) ∙ answered_stmts x.tree x.model;
      time_is = ap (λ (b : Answer). b.time) (sym e) ∙ answered_time x.tree x.model;
      promise = promise_of x.tree x.model a e he;
      reading = reads_of x.tree x.model a e he;
    }
