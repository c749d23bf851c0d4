-- What is reached, among models and among variables, is what there is a route to.
use mathlib.Core.Path.{◌≡◌, refl, sym, ap, subst}
use mathlib.Core.Logic.{◌↔◌, inl, inr, ⊎_elim}
use Prim.Native.Nat.{ℕ, zero, suc, ◌≤◌, ◌<◌}
use native.Mathlib.Nat.{eq-or-lt_of_le}
use native.Mathlib.Omega.{arith}
use mathlib.Core.Bool.{Bool, true, false, ◌&&◌, ◌||◌, or-true}
use mathlib.Core.List.{List}
use lib.Dec.{eqb, leb}
use lib.ListN.{length, length-map, get_or-eq_default}
use borrow.Author.Tests.{eqb-true, eq-eqb, leb-true, leb-false}
use Rattle.functions.specs.Lists.{any, each, member}
use Rattle.functions.proofs.Lists.{clash, and_both}
use Rattle.ast.specs.Tree.{Unknown, Stmt, own, submodel, Model, File}
use Rattle.ast.specs.WellFormed.{Each}
use Rattle.ast.proofs.FromBytes.{every_each}
use Rattle.definitions.specs.Variables.{Variable, variable_names, variable, variables_of, no_variable, at, time_dependent}
use Rattle.definitions.specs.Flatten.{no_model, model_named, model_at, stmt_models, submodels, reached, any_reached, cyclic, lists_itself, self_listed, stmt_beyond, overfull}
use Rattle.definitions.specs.Meaning.{Route, step, ReachesTime, From, SomeFrom, Refusals}
use Rattle.definitions.proofs.ListLaws.{or_either}
use Rattle.definitions.proofs.Everywhere.{all_every, all_get_d, all_map, all_member}
use Rattle.definitions.proofs.SoundVariables.{place_if, list_small, deps_small}
use Rattle.definitions.proofs.Steps.{reaches_route, route_step, route_within, route_reaches}

-- ---- variables

module _ (names : List (List ℕ)) (us : List Unknown) where
  -- A model's variables.
  abbrev vars : List Variable
  vars = variables_of names us

  -- kept dependents are numbers of variables
  deps_below : Each (λ v. Each (λ d. d < length vars) v.deps) vars
  unfolding variables_of variable
  deps_below =
      let vs = variable_names names us in
      subst (λ k. Each (λ v. Each (λ d. d < k) v.deps) vars) (sym (length-map vs (variable names vs us)))
      (all_map (λ (v : ℕ). Unit {0}) (λ v. Each (λ d. d < length vs) v.deps) (variable names vs us) (λ v _. deps_small vs us v)
      vs (all_every (λ (v : ℕ). Unit {0}) (λ v. tt) vs))

  -- and only variables have any
  deps_within : (i d : ℕ) → member d (at vars i).deps ≡ true → (i < length vars) × (d < length vars)
  unfolding at no_variable member any
  deps_within i d h = (
    go (leb (length vars) i) refl,
    all_member (λ d. d < length vars) d (at vars i).deps (all_get_d (λ v. Each (λ d. d < length vars) v.deps) vars i no_variable tt deps_below) h,
  )
    where
      go : (b : Bool) → leb (length vars) i ≡ b → i < length vars
      go true e = let z : false ≡ true = subst (λ v. member d v.deps ≡ true) (get_or-eq_default vars no_variable (leb-true _ _ e)) h in clash (cc)
      go false e = leb-false _ _ e

  -- Time-dependent: is t, or there is a route to t through dependents.
  pub time_route : (i : ℕ) → (time_dependent vars i ≡ true) ↔ ReachesTime vars i
  unfolding time_dependent
  time_route i = (
    λ h. or_either (eqb i 0) _ h (λ e. inl (eqb-true i 0 e)) (λ e. inr (reaches_route _ (length vars) i 0 e)),
    ⊎_elim (λ e. rw e refl) (λ r. rw (route_reaches _ (length vars) deps_within r) (or-true (eqb i 0))),
  )

-- ---- models

module _ (f : File) where
  -- the model of a submodel statement is a model
  named_small : (q : Stmt) → Each (λ j. j < length f.models) (stmt_models f q)
  unfolding stmt_models model_named
  named_small (own q) = tt
  named_small (submodel n a c s) = list_small (length f.models) _ (place_if (λ m. eqb n m.name) f.models)

  -- a test that the empty model does not pass is passed by models of the file alone
  model_below : (p : Model → Bool) → p no_model ≡ false → (m : ℕ) → p (model_at f m) ≡ true → m < length f.models
  unfolding model_at
  model_below p none m h = go (leb (length f.models) m) refl
    where
      go : (b : Bool) → leb (length f.models) m ≡ b → m < length f.models
      go true e = let z : p (model_at f m) ≡ p no_model = ap p (get_or-eq_default f.models no_model (leb-true _ _ e)) in clash (cc)
      go false e = leb-false _ _ e

  -- submodels' models are models, and only models have any
  pub submodels_within : (a m : ℕ) → member m (submodels f a) ≡ true → (a < length f.models) × (m < length f.models)
  unfolding submodels no_model member any each
  submodels_within a m h = (
    model_below (λ x. member m (each (stmt_models f) x.stmts)) refl a h,
    all_member (λ j. j < length f.models) m (submodels f a) (every_each (λ j. j < length f.models) (λ (q : Stmt). Unit {0}) (stmt_models f)
        (λ q _. named_small q) (model_at f a).stmts (all_every (λ (q : Stmt). Unit {0}) (λ q. tt) (model_at f a).stmts)) h,
  )

  -- Model b is reached from a exactly where there is a route of submodel statements.
  pub reached_route : (a b : ℕ) → (reached f a b ≡ true) ↔ Route (submodels f) a b
  unfolding reached
  reached_route a b = (reaches_route (submodels f) (length f.models) a b, route_reaches (submodels f) (length f.models) submodels_within)

  -- ---- models reached from the root

  -- they are models
  pub from_below : (root m : ℕ) → root < length f.models → From f root m → m < length f.models
  from_below root m l = ⊎_elim (λ e. omega arith) (λ r. (route_within (submodels f) (length f.models) submodels_within r).1)

  -- with each of them, its submodels' models
  pub from_step : (root m j : ℕ) → From f root m → member j (submodels f m) ≡ true → From f root j
  from_step root m j w i = inr (⊎_elim (λ e. step (rw e at i)) (λ r. route_step (submodels f) r i) w)

  module _ (root : ℕ) where
    -- the test of it
    from_test : (m : ℕ) → (eqb m root || reached f root m ≡ true) ↔ From f root m
    from_test m = (
      λ h. or_either (eqb m root) (reached f root m) h (λ e. inl (eqb-true m root e)) (λ e. inr ((reached_route root m).0 e)),
      ⊎_elim (λ e. rw (eq-eqb m root e) refl) (λ r. rw ((reached_route root m).1 r) (or-true (eqb m root))),
    )

    -- where the test of all below n passes, one of them does
    any_reached_some : (p : ℕ → Bool) (n : ℕ) → any_reached f root p n ≡ true → (m : ℕ) × From f root m × (p m ≡ true)
    unfolding any_reached
    any_reached_some p zero h = clash (cc)
    any_reached_some p (suc n) h =
        or_either ((eqb n root || reached f root n) && p n) (any_reached f root p n) h
        (λ e. let (a, b) = and_both (eqb n root || reached f root n) (p n) e in (n, (from_test n).0 a, b))
        (λ e. any_reached_some p n e)

    -- and the other way round
    some_any_reached : (p : ℕ → Bool) (n m : ℕ) → m < n → From f root m → p m ≡ true → any_reached f root p n ≡ true
    unfolding any_reached
    some_any_reached p zero m l w e = absurd (omega arith)
    some_any_reached p (suc n) m l w e =
        let k : m ≤ n = omega arith in
        ⊎_elim (λ z. rw (← z, (from_test m).1 w, e) refl) (λ z. rw (some_any_reached p n m z w e) (or-true ((eqb n root || reached f root n) && p n))) (eq-or-lt_of_le k)

    -- of a test that is passed by models alone
    any_reached_lem : (p : ℕ → Bool) → ((m : ℕ) → p m ≡ true → m < length f.models)
        → (any_reached f root p (length f.models) ≡ true) ↔ SomeFrom f root (λ m. p m ≡ true)
    any_reached_lem p l = (any_reached_some p (length f.models), λ (m, w, e). some_any_reached p (length f.models) m (l m e) w e)

    -- a model is reached from itself exactly where there is a route from it to it
    cyclic_route : (cyclic f root ≡ true) ↔ SomeFrom f root (λ m. Route (submodels f) m m)
    unfolding cyclic
    cyclic_route =
        let r = any_reached_lem (λ m. reached f m m) (λ m e. (route_within (submodels f) (length f.models) submodels_within ((reached_route m m).0 e)).0) in
        (λ h. let (m, w, e) = r.0 h in (m, w, (reached_route m m).0 e), λ (m, w, e). r.1 (m, w, (reached_route m m).1 e))

    -- The tests of the refusals 6, 7 and 8 hold exactly where the root, or a model reached from it, is so.
    pub refusals_route : Refusals f root
    unfolding self_listed overfull any no_model
    refusals_route = record {
      cycle = cyclic_route;
      listing = any_reached_lem (λ m. any (lists_itself f) (model_at f m).unknowns) (model_below (λ x. any (lists_itself f) x.unknowns) refl);
      beyond = any_reached_lem (λ m. any (stmt_beyond f) (model_at f m).stmts) (model_below (λ x. any (stmt_beyond f) x.stmts) refl);
    }
