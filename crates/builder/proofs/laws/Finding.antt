-- The tests that a model is found by, and the model that a statement calls.
use mathlib.Core.Path.{◌≡◌, refl, sym, ap}
use mathlib.Core.List.{List}
use mathlib.Core.Bool.{Bool, true, false}
use mathlib.Core.Option.{some}
use Prim.Native.Nat.{ℕ, ◌≤◌, ◌<◌}
use native.Mathlib.Omega.{arith}
use borrow.Author.Tests.{eqb-false}
use lib.Dec.{eqb}
use Rattle.functions.specs.Lists.{place, plus_one, same_text}
use Rattle.ast.specs.Tree.{Model, File}
use Rattle.ast.specs.Words.{word_of}
use Rattle.ast.specs.Nodes.{name_at}
use Rattle.ast.specs.Records.{kind_of_stmt, stmt_of}
use Rattle.ast.specs.declared.sections.Sections.{Sections}
use Rattle.ast.specs.Opens.{Open, contents_in, file_in}
use Rattle.definitions.specs.Names.{text_of, spells}
use Rattle.definitions.specs.Flatten.{model_at, model_named}
use Rattle.definitions.specs.Build.{root_of}
use Rattle.builder.specs.Tables.{callee_of}
use Rattle.builder.proofs.laws.Open.{model_record, stmt_record, models_long, model_name_is}
use Rattle.builder.proofs.laws.OpenRecords.{stmt_is}
use Rattle.definitions.proofs.ListLaws.{place_small, place_below}
use Rattle.definitions.proofs.StmtKinds.{stmt_submodel}

-- ---- the tests: a root name's bytes, and a name's number

module _ (f : List ℕ) (s : Sections) where
  abbrev pub is_root_name : List ℕ → Model → Bool
  is_root_name root m = spells (file_in f s).names root m.name

  abbrev pub is_named : ℕ → Model → Bool
  is_named n m = eqb n m.name

  -- the tests at model m, by its record
  pub root_test : (root : List ℕ) (m : ℕ) → m < s.counts.models → is_root_name root (model_at (file_in f s) m) ≡ same_text root (text_of (file_in f s).names (word_of (model_record f s m) 0))
  unfolding spells
  root_test root m h = ap (λ (n : ℕ). same_text root (text_of (file_in f s).names n)) (model_name_is f s m h)

  pub named_test : (n m : ℕ) → m < s.counts.models → is_named n (model_at (file_in f s) m) ≡ eqb n (word_of (model_record f s m) 0)
  named_test n m h = ap (λ (k : ℕ). eqb n k) (model_name_is f s m h)

  -- a model found has a number
  pub root_below : (root : List ℕ) (m : ℕ) → some m ≡ root_of (file_in f s) root → m < s.counts.models
  unfolding root_of place
  root_below root m e = omega (arith, place_below (is_root_name root) 0 (file_in f s).models m (sym e), models_long f s)

  pub named_below : (n : ℕ) → plus_one (model_named (file_in f s) n) ≤ s.counts.models
  unfolding model_named place
  named_below n = omega (arith, place_small (is_named n) 0 (file_in f s).models, models_long f s)

  -- ---- the model that a statement calls

  -- an equation or a rate equation calls none
  own_calls : (g : File) (r : List ℕ) → (kind_of_stmt r ≡ 3 → ⊥) → (1 ≤ kind_of_stmt r) × (kind_of_stmt r ≤ 3) → callee_of g (stmt_of (contents_in f s).nodes r) ≡ 0
  unfolding stmt_of callee_of
  own_calls g r n k = go (eqb (kind_of_stmt r) 1) (eqb (kind_of_stmt r) 2) refl refl
    where
      go : (x y : Bool) → eqb (kind_of_stmt r) 1 ≡ x → eqb (kind_of_stmt r) 2 ≡ y → callee_of g (stmt_of (contents_in f s).nodes r) ≡ 0
      go true y e h = rw e refl
      go false true e h = rw (e, h) refl
      go false false e h = let a = eqb-false (kind_of_stmt r) 1 e in let b = eqb-false (kind_of_stmt r) 2 h in absurd (n (omega arith))

  -- the same of statement q
  pub callee_none : (q : ℕ) → Open f s → q < s.counts.stmts → (word_of (stmt_record f s q) 0 ≡ 3 → ⊥) → callee_of (file_in f s) (stmt_of (contents_in f s).nodes (stmt_record f s q)) ≡ 0
  callee_none q o h n = own_calls (file_in f s) (stmt_record f s q) n (stmt_is f s o q h).kinds

  -- a submodel statement calls the model that its call names
  pub callee_some : (q : ℕ) → word_of (stmt_record f s q) 0 ≡ 3
      → callee_of (file_in f s) (stmt_of (contents_in f s).nodes (stmt_record f s q)) ≡ plus_one (model_named (file_in f s) (name_at (contents_in f s).nodes (word_of (stmt_record f s q) 3)))
  unfolding callee_of
  callee_some q k = ap (callee_of (file_in f s)) (stmt_submodel (contents_in f s).nodes (stmt_record f s q) k)
