-- The statements of an open file, and the flattened statements of each model, have well-formed trees.
use mathlib.Core.Path.{◌≡◌}
use Prim.Native.Nat.{ℕ, ◌+◌, ◌-◌}
use native.Mathlib.Omega.{arith}
use mathlib.Core.Bool.{true}
use mathlib.Core.List.{List, [], ◌∷◌, map}
use lib.ListN.{drop}
use borrow.Author.Tests.{ltb-true}
use Rattle.functions.proofs.Lists.{and_both}
use Rattle.ast.specs.Tree.{Flat, equation, rate, Stmt, own, submodel, Unknown, Model, File}
use Rattle.ast.specs.Subst.{Replacements, subst_flat}
use Rattle.ast.specs.Nodes.{op_at, size_at, tree_at, nodes_fit}
use Rattle.ast.specs.Records.{unknown_of, left_top, right_top, top_fits, stmt_fits, stmts_fit, stmt_of, first_stmt, stmt_count, model_of}
use Rattle.ast.specs.File.{Contents, contents_of, file_of}
use Rattle.ast.specs.Opens.{Open, contents_in, file_in}
use Rattle.ast.specs.declared.sections.Sections.{Sections}
use Rattle.ast.specs.WellFormed.{Each}
use Rattle.ast.proofs.Fitting.{node_ok}
use Rattle.ast.proofs.Formed.{WellFormed, WellFormedArgs, FormedIf, tree_formed, args_formed, subst_formed}
use Rattle.ast.proofs.Files.{Parts, parts, top_is, equation_tops, rate_top, submodel_top}
use Rattle.ast.proofs.ToBytes.{every_take, every_drop}
use Rattle.definitions.specs.Flatten.{no_model, model_at, flatten}
use Rattle.definitions.proofs.Everywhere.{all_get_d}
use Rattle.builder.proofs.laws.Allocations.{FlatFormed}
use Rattle.definitions.proofs.StmtKinds.{stmt_cases}
use Rattle.definitions.proofs.FlattenKeeps.{flatten_keeps}

abbrev StmtFormed : ℕ → Stmt → Type 0
StmtFormed names (own q) = FlatFormed names q
StmtFormed names (submodel n a c s) = WellFormedArgs names a

-- ---- one statement's record

module _ (names limit : ℕ) (ns : List (List ℕ)) (ok : nodes_fit names ns limit ≡ true) where
  top_formed : (first top : ℕ) → top_fits limit ns first top ≡ true → WellFormed names (tree_at ns top)
  top_formed first top h = let (l, x, _) = top_is names limit ns first top h in tree_formed names ns limit ok top l x

  module _ (first : ℕ) (r : List ℕ) (h : stmt_fits names limit ns first r ≡ true) where
    stmt_formed : StmtFormed names (stmt_of ns r)
    stmt_formed = stmt_cases (StmtFormed names) names limit ns first r h
        (λ k. let (t, u) = equation_tops names limit ns first r h k in (top_formed first (left_top r) t, top_formed (left_top r + 1) (right_top r) u))
        (λ k. let (n, t) = rate_top names limit ns first r h k in (ltb-true _ _ n, top_formed first (right_top r) t))
        (λ k.
        let (t, five) = submodel_top names limit ns first r h k in
        let i = right_top r in
        let (l, _, _) = top_is names limit ns first i t in
        args_formed names ns limit ok i (op_at ns i) (size_at ns i - 1) (omega arith) ((node_ok names ns limit ok i l).call five))

  stmts_formed : (first : ℕ) (rs : List (List ℕ)) → stmts_fit names limit ns first rs ≡ true → Each (StmtFormed names) (map (stmt_of ns) rs)
  unfolding stmts_fit
  stmts_formed first [] h = tt
  stmts_formed first (r ∷ rs) h =
      let (p, q) = and_both (stmt_fits names limit ns first r) _ h in
      (stmt_formed first r p, stmts_formed (right_top r + 1) rs q)

-- ---- models

module _ (names : ℕ) where
  abbrev ModelFormed : Model → Type 0
  ModelFormed m = Each (StmtFormed names) m.stmts

  none_formed : ModelFormed no_model
  unfolding no_model
  none_formed = tt

  models_formed : (us : List Unknown) (qs : List Stmt) → Each (StmtFormed names) qs → (rs : List (List ℕ)) → Each ModelFormed (map (model_of us qs) rs)
  unfolding model_of
  models_formed us qs h [] = tt
  models_formed us qs h (r ∷ rs) =
      (every_take (StmtFormed names) (stmt_count r) (drop (first_stmt r) qs) (every_drop (StmtFormed names) (first_stmt r) qs h), models_formed us qs h rs)

contents_formed : (s : Contents) → Parts s → (m : ℕ) → Each (StmtFormed s.counts.names) (model_at (file_of s) m).stmts
unfolding file_of model_at
contents_formed s p m =
    let names = s.counts.names in
    let us = map (unknown_of s.deps) s.unknowns in
    let qs = map (stmt_of s.nodes) s.stmts in
    all_get_d (ModelFormed names) (map (model_of us qs) s.models) m no_model (none_formed names)
    (models_formed names us qs (stmts_formed names s.counts.nodes s.nodes p.nodes 0 s.stmts p.stmts) s.models)

-- ---- flattened statements

module _ (names : ℕ) where
  flat_kept : (by : Replacements) → ((n : ℕ) → FormedIf names (by n)) → (q : Flat) → FlatFormed names q → FlatFormed names (subst_flat by q)
  unfolding subst_flat
  flat_kept by h (equation l r s) x = (subst_formed names by h l x.0, subst_formed names by h r x.1)
  flat_kept by h (rate n r s) x = (x.0, subst_formed names by h r x.1)

  flatten_formed : (f : File) → ((m : ℕ) → Each (StmtFormed names) (model_at f m).stmts) → (k m : ℕ) → Each (FlatFormed names) (flatten f k m)
  flatten_formed =
      flatten_keeps (FlatFormed names) (StmtFormed names) (WellFormedArgs names) (FormedIf names) tt (λ a k e s x. (x.0, x.1)) flat_kept (λ q x. x) (λ n a c s x. x)

-- of an open file
pub formed : (f : List ℕ) (s : Sections) → Open f s → (k m : ℕ) → Each (FlatFormed s.counts.names) (flatten (file_in f s) k m)
unfolding contents_of
formed f s o = flatten_formed s.counts.names (file_in f s) (contents_formed (contents_in f s) (parts (contents_in f s) o.fits))
