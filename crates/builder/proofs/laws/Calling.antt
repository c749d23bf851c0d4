-- The models that statements call: each is one of the models, and what the code answers by the table of them.
use mathlib.Core.Path.{◌≡◌, refl, sym, ap, ◌∙◌}
use mathlib.Core.List.{List, [], ◌∷◌}
use mathlib.Core.Option.{Option, none, some}
use Prim.Native.Nat.{ℕ, suc, ◌-◌, ◌≤◌, ◌<◌}
use native.Mathlib.Omega.{arith}
use lib.ListN.{length, get_or}
use lib.Dec.{eqb}
use Rattle.functions.specs.Lists.{plus_one, to_list, place}
use Rattle.ast.specs.Tree.{Stmt, own, submodel, File}
use Rattle.ast.specs.Nodes.{kind_at}
use Rattle.definitions.specs.Flatten.{model_named, model_at, stmt_models, submodels}
use Rattle.std.specs.declared.option.Option.{Option as Found}
use Rattle.std.specs.declared.option.Option.TheVariants.{None, Some}
use Rattle.std.specs.Option.{SomeIff}
use Rattle.builder.specs.Tables.{callee_of, called_by}
use Rattle.builder.specs.Starting.{place_as}
use Rattle.ast.specs.Records.{kind_of_stmt, right_top, stmt_of}
use Rattle.ast.specs.Opens.{Open, contents_in, file_in}
use Rattle.ast.specs.declared.sections.Sections.{Sections}
use Rattle.ast.specs.WellFormed.{Each}
use Rattle.ast.proofs.FromBytes.{every_each}
use Rattle.definitions.proofs.Everywhere.{all_every}
use Rattle.builder.proofs.laws.OpenRecords.{stmt_is}
use Rattle.definitions.proofs.ListLaws.{place_small, place_below}
use Rattle.definitions.proofs.StmtKinds.{stmt_equation, stmt_rate, by_stmt_kind}

-- ---- the model that a statement calls is one of the models

module _ (f : File) where
  -- the model that a statement calls, plus 1, is at most the count of models
  pub callee_below : (q : Stmt) → callee_of f q ≤ length f.models
  unfolding callee_of model_named place
  callee_below (own q) = omega arith
  callee_below (submodel n a c s) = omega (arith, place_small (λ x. eqb n x.name) 0 f.models)

  -- its number, plus 1
  pub callee_called : (q : Stmt) → callee_of f q ≡ plus_one (called_by f q)
  unfolding callee_of called_by plus_one
  callee_called (own q) = refl
  callee_called (submodel n a c s) = refl

  -- it is one of the models
  pub called_below : (q : Stmt) (c : ℕ) → called_by f q ≡ some c → c < length f.models
  unfolding plus_one
  called_below q c e = omega (arith, callee_below q, callee_called q, ap plus_one e)

  -- the models that a statement calls are that one, or none
  called_models : (q : Stmt) → stmt_models f q ≡ to_list (called_by f q)
  unfolding called_by stmt_models to_list
  called_models (own q) = refl
  called_models (submodel n a c s) = refl

  pub calls_none : (q : Stmt) → called_by f q ≡ none → stmt_models f q ≡ []
  unfolding to_list
  calls_none q e = called_models q ∙ ap to_list e

  pub calls_one : (q : Stmt) (c : ℕ) → called_by f q ≡ some c → stmt_models f q ≡ c ∷ []
  unfolding to_list
  calls_one q c e = called_models q ∙ ap to_list e

  -- every model found by name is one of the models
  callee_all : (o : Option ℕ) (n : ℕ) → model_named f n ≡ o → Each (λ (m : ℕ). m < length f.models) (to_list o)
  unfolding model_named place to_list
  callee_all none n e = tt
  callee_all (some i) n e = (omega (arith, place_below _ 0 f.models i e), tt)

  -- so is every model that a statement calls
  calls_all : (q : Stmt) → Each (λ (m : ℕ). m < length f.models) (stmt_models f q)
  unfolding stmt_models
  calls_all (own q) = tt
  calls_all (submodel n a c s) = callee_all (model_named f n) n refl

  -- and every model that a model calls
  pub callees_all : (a : ℕ) → Each (λ (m : ℕ). m < length f.models) (submodels f a)
  unfolding submodels
  callees_all a = every_each _ (λ (q : Stmt). Unit {0}) (stmt_models f) (λ q u. calls_all q) (model_at f a).stmts (all_every (λ (q : Stmt). Unit {0}) (λ q. tt) (model_at f a).stmts)

-- ---- the statements that call

module _ (f : File) where
  -- an equation calls nothing
  own_none : (ns : List (List ℕ)) (r : List ℕ) (k : kind_of_stmt r ≡ 1) → called_by f (stmt_of ns r) ≡ none
  unfolding called_by
  own_none ns r k = ap (called_by f) (stmt_equation ns r k)

  -- nor does a rate equation
  rate_none : (ns : List (List ℕ)) (r : List ℕ) (k : kind_of_stmt r ≡ 2) → called_by f (stmt_of ns r) ≡ none
  unfolding called_by
  rate_none ns r k = ap (called_by f) (stmt_rate ns r k)

-- no place is not a place
none_some : (c : ℕ) (o : Option ℕ) → o ≡ none → o ≡ some c → ⊥
unfolding plus_one
none_some c o e g = let z : 0 ≡ suc c = ap plus_one (sym e ∙ g) in omega arith

-- a statement that calls a model is a submodel statement, and its right side a call
pub record CallIs (f : List ℕ) (s : Sections) (q : ℕ) : Type 0 where
  pub kind : kind_of_stmt (get_or (contents_in f s).stmts q []) ≡ 3
  pub below : right_top (get_or (contents_in f s).stmts q []) < s.counts.nodes
  pub call : kind_at (contents_in f s).nodes (right_top (get_or (contents_in f s).stmts q [])) ≡ 5

module _ (f : List ℕ) (s : Sections) (o : Open f s) (q : ℕ) (h : q < s.counts.stmts) where
  pub call_is : (c : ℕ) → called_by (file_in f s) (stmt_of (contents_in f s).nodes (get_or (contents_in f s).stmts q [])) ≡ some c → CallIs f s q
  call_is c e =
      let a = stmt_is f s o q h in
      let r = get_or (contents_in f s).stmts q [] in
      let k : kind_of_stmt r ≡ 3 = by_stmt_kind (kind_of_stmt r) a.kinds (λ z. absurd (none_some c _ (own_none (file_in f s) _ r z) e)) (λ z. absurd (none_some c _ (rate_none (file_in f s) _ r z) e)) (λ z. z) in
      record { kind = k; below = a.right.0; call = a.call k }

-- ---- what the code answers

-- none by an entry that is 0, and any other less 1
pub entry_less : (o : Option ℕ) (x : ℕ) (r : Found ℕ) → x ≡ plus_one o → SomeIff r (1 ≤ x) (x - 1) → place_as r ≡ o
unfolding place_as plus_one
entry_less none x None e below = refl
entry_less none x (Some v) e (least, is) = absurd (omega (arith, least, e))
entry_less (some i) x None e below = absurd (below (omega (arith, e)))
entry_less (some i) x (Some v) e (least, is) = ap some (omega (arith, is, e))
