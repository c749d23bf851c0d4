-- Where no model is reached from itself, flattening, errors and instances are the recursive ones: as many levels as models go down to the last submodel.
use mathlib.Core.Path.{◌≡◌, refl, sym, ◌∙◌, ap, ap₂}
use Prim.Native.Nat.{ℕ, zero, suc, ◌+◌, ◌<◌}
use native.Mathlib.Omega.{arith}
use mathlib.Core.Bool.{true}
use mathlib.Core.List.{List, [], ◌∷◌, ◌++◌, map}
use mathlib.Core.Option.{Option, none, some}
use lib.ListN.{length}
use borrow.Author.Tests.{eq-eqb}
use Rattle.functions.specs.Lists.{any, each, member, sum_of, to_list}
use Rattle.ast.specs.Tree.{Flat, Stmt, own, submodel, File}
use Rattle.ast.specs.Subst.{subst_flat}
use Rattle.definitions.specs.Variables.{Error, unknown_errors}
use Rattle.definitions.specs.Check.{Scope}
use Rattle.definitions.specs.Flatten.{replacements, order_errors, model_named, model_at, scope_of, sub_flats, stmt_flats, sub_errors, stmt_errors, stmt_models, submodels, flatten, errors_of, instances}
use Rattle.definitions.specs.Meaning.{Route, From, SomeFrom, MadeSo, Recursive, flatten_by, errors_by, instances_by, Meaning}
use Rattle.definitions.proofs.ListLaws.{member_left, member_right}
use Rattle.definitions.proofs.Steps.{rank, rank_small, rank_falls}
use Rattle.definitions.proofs.Routes.{submodels_within, from_below, from_step}

-- ---- what is made of functions that agree on the submodels

module _ {A : Type 0} (s t : ℕ → A) where
  -- They agree on these models.
  abbrev Agree : List ℕ → Type 0
  Agree xs = (j : ℕ) → member j xs ≡ true → s j ≡ t j

  -- on the one model that there is
  agree_one : (j : ℕ) → Agree (to_list (some j)) → s j ≡ t j
  unfolding member any to_list
  agree_one j h = h j (rw (eq-eqb j j refl) refl)

  -- statement by statement
  agree_each : {B : Type 0} (f : File) (g h : Stmt → List B) → ((q : Stmt) → Agree (stmt_models f q) → g q ≡ h q)
      → (ss : List Stmt) → Agree (each (stmt_models f) ss) → each g ss ≡ each h ss
  unfolding each
  agree_each f g h e [] k = refl
  agree_each f g h e (q ∷ ss) k =
      ap₂ ◌++◌ (e q (λ j i. k j (member_left j (stmt_models f q) (each (stmt_models f) ss) i)))
      (agree_each f g h e ss (λ j i. k j (member_right j (stmt_models f q) (each (stmt_models f) ss) i)))

-- one by one, added up
agree_sum : (s t : ℕ → ℕ) (xs : List ℕ) → Agree s t xs → sum_of s xs ≡ sum_of t xs
unfolding sum_of member any
agree_sum s t [] h = refl
agree_sum s t (x ∷ xs) h = ap₂ ◌+◌ (h x (member_left x (x ∷ []) xs (rw (eq-eqb x x refl) refl))) (agree_sum s t xs (λ j i. h j (member_right j (x ∷ []) xs i)))

module _ (f : File) where
  -- a statement's flattened statements
  agree_flats : (s t : ℕ → List Flat) (q : Stmt) → Agree s t (stmt_models f q) → stmt_flats f s q ≡ stmt_flats f t q
  unfolding stmt_flats stmt_models sub_flats
  agree_flats s t (own q) h = refl
  agree_flats s t (submodel n a c z) h = go (model_named f n) h
    where
      go : (o : Option ℕ) → Agree s t (to_list o) → sub_flats f s a o ≡ sub_flats f t a o
      go none h = refl
      go (some j) h = ap (map (subst_flat (replacements (model_at f j).unknowns a))) (agree_one s t j h)

  -- a statement's errors
  agree_errors : (c : Scope) (s t : ℕ → List Error) (q : Stmt) → Agree s t (stmt_models f q) → stmt_errors f s c q ≡ stmt_errors f t c q
  unfolding stmt_errors stmt_models sub_errors
  agree_errors c s t (own q) h = refl
  agree_errors c s t (submodel n a y z) h = go (model_named f n) h
    where
      go : (o : Option ℕ) → Agree s t (to_list o) → sub_errors f s n a z o ≡ sub_errors f t n a z o
      go none h = refl
      go (some j) h = ap (λ l. l ++ order_errors a) (agree_one s t j h)

  -- ---- going down, where no model is reached from itself

  module _ (root : ℕ) (inside : root < length f.models) (free : SomeFrom f root (λ m. Route (submodels f) m m) → ⊥) where
    -- How many models are reached from m: at least as many as lie below one another.
    abbrev depth : ℕ → ℕ
    depth m = rank (submodels f) (length f.models) (submodels_within f) m

    -- fewer than there are
    depth_small : (m : ℕ) → From f root m → depth m < length f.models
    depth_small m w = rank_small (submodels f) (length f.models) (submodels_within f) m (from_below f root m inside w) (λ r. free (m, w, r))

    -- fewer from the model of a submodel statement
    depth_falls : (m j : ℕ) → From f root m → member j (submodels f m) ≡ true → depth j < depth m
    depth_falls m j w i = rank_falls (submodels f) (length f.models) (submodels_within f) m j i (λ r. free (j, from_step f root m j w i, r))

    module _ {A : Type 0} (made : (ℕ → A) → ℕ → A) (to : ℕ → ℕ → A) (level : (k m : ℕ) → to (suc k) m ≡ made (to k) m)
        (agrees : (s t : ℕ → A) (m : ℕ) → Agree s t (submodels f m) → made s m ≡ made t m) where
      -- any two counts of levels that are more than the depth give the same
      levels_same : (j k m : ℕ) → From f root m → depth m < j → depth m < k → to j m ≡ to k m
      levels_same zero k m w l g = absurd (omega arith)
      levels_same (suc j) zero m w l g = absurd (omega arith)
      levels_same (suc j) (suc k) m w l g =
          level j m
          ∙ agrees (to j) (to k) m (λ i e. let d = depth_falls m i w e in levels_same j k i (from_step f root m i w e) (omega arith) (omega arith))
          ∙ sym (level k m)

      -- and so does whatever is made so
      levels_only : (g : ℕ → A) → MadeSo f root made g → (k m : ℕ) → From f root m → depth m < k → g m ≡ to k m
      levels_only g o zero m w l = absurd (omega arith)
      levels_only g o (suc k) m w l =
          o m w ∙ agrees g (to k) m (λ i e. let d = depth_falls m i w e in levels_only g o k i (from_step f root m i w e) (omega arith)) ∙ sym (level k m)

      -- so it is the recursive one
      recursive : Recursive f root made to
      recursive = record {
        made_so = λ m w. let l = depth_small m w in levels_same (length f.models) (suc (length f.models)) m w l (omega arith) ∙ level (length f.models) m;
        only = λ g o m w. levels_only g o (length f.models) m w (depth_small m w);
        enough = λ k h m w. let l = depth_small m w in levels_same k (length f.models) m w (omega arith) l;
      }

    -- Flattened statements, errors and instances are so.
    pub meaning_of : Meaning f root
    unfolding flatten errors_of instances submodels
    meaning_of = record {
      flattened = recursive (flatten_by f) (flatten f) (λ k m. refl) (λ s t m. agree_each s t f (stmt_flats f s) (stmt_flats f t) (agree_flats s t) (model_at f m).stmts);
      erring = recursive (errors_by f) (errors_of f) (λ k m. refl) (λ s t m h.
          let c = scope_of f (model_at f m) in
          ap (λ l. each (unknown_errors f.names) (model_at f m).unknowns ++ l)
          (agree_each s t f (stmt_errors f s c) (stmt_errors f t c) (agree_errors c s t) (model_at f m).stmts h));
      instanced = recursive (instances_by f) (instances f) (λ k m. refl) (λ s t m h. ap (λ n. 1 + n) (agree_sum s t (submodels f m) h));
    }
