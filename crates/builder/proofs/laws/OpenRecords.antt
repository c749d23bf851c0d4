-- Every record of an open file: how many each section has, that each keeps the layout, and what each model, unknown and statement is by its record.
use mathlib.Core.Path.{◌≡◌, refl, ap, ◌∙◌}
use mathlib.Core.Bool.{true}
use mathlib.Core.List.{List, [], map}
use Prim.Native.Nat.{ℕ, ◌+◌, ◌-◌, ◌≤◌, ◌<◌}
use native.Mathlib.Omega.{arith}
use borrow.Author.Tests.{ltb-true}
use lib.Dec.{ltb}
use lib.ListN.{length, get_or, length-map}
use Rattle.functions.specs.Lists.{all}
use Rattle.functions.proofs.Lists.{and_both}
use Rattle.ast.specs.Tree.{Unknown, Stmt, own, Model, Flat}
use Rattle.ast.specs.Nodes.{kind_at, op_at, size_at, is_expr, nodes_fit, args_fit}
use Rattle.ast.specs.Words.{in_order}
use Rattle.ast.specs.Records.{name_of_unknown, first_dep, dep_count, span_of_unknown, domain_fits, unknown_fits, unknowns_fit, unknown_of, kind_of_stmt, name_of_stmt, left_top, right_top, stmts_fit, stmt_of, name_of_model, first_unknown, unknown_count, first_stmt, stmt_count, span_of_model, model_fits, models_fit}
use Rattle.ast.specs.File.{deps_at, contents_of}
use Rattle.ast.specs.Opens.{Open, contents_in, file_in}
use Rattle.ast.specs.declared.sections.Sections.{Sections}
use Rattle.ast.proofs.Fields.{length_section, length_deps}
use Rattle.ast.proofs.Opened.{ranges}
use Rattle.ast.proofs.Files.{all_at, unknown_fits_lem, stmt_fits_lem, model_fits_lem, unknown_run, model_runs, top_is, equation_tops, rate_top, submodel_top, unknown_at, stmt_at, unknown_count_lem, stmt_count_lem, dep_of, dep_count_lem, parts}
use Rattle.definitions.specs.Flatten.{model_at}
use Rattle.ast.proofs.Fitting.{LastArg, node_ok, last_arg}
use Rattle.builder.specs.Checking.{stmt_in}
use Rattle.builder.proofs.laws.Open.{model_record, unknown_record, stmt_record, name_records_lem, unknown_records_lem, stmt_records_lem, model_records_lem, names_long, models_long, model_by_record, model_name_is}
use Rattle.definitions.proofs.StmtKinds.{stmt_equation, stmt_rate, stmt_kinds, by_stmt_kind}

-- ---- how many records

pub record Long (f : List ℕ) (s : Sections) : Type 0 where
  pub names : length (contents_in f s).names ≡ s.counts.names
  pub nodes : length (contents_in f s).nodes ≡ s.counts.nodes
  pub deps : length (contents_in f s).deps ≡ s.counts.deps
  pub unknowns : length (contents_in f s).unknowns ≡ s.counts.unknowns
  pub stmts : length (contents_in f s).stmts ≡ s.counts.stmts
  pub models : length (contents_in f s).models ≡ s.counts.models
  pub file_names : length (file_in f s).names ≡ s.counts.names
  pub file_models : length (file_in f s).models ≡ s.counts.models

-- of an open file
pub long : (f : List ℕ) (s : Sections) → Open f s → Long f s
unfolding contents_of
long f s o =
    let r = ranges f s o in
    record {
      names = name_records_lem f s;
      nodes = length_section 8 _ _ f;
      deps = length_deps f (deps_at s.counts) s.counts.deps (omega (arith, r.deps, r.starts.deps));
      unknowns = unknown_records_lem f s;
      stmts = stmt_records_lem f s;
      models = model_records_lem f s;
      file_names = names_long f s;
      file_models = models_long f s;
    }

-- ---- each section keeps the layout

pub record Passes (f : List ℕ) (s : Sections) : Type 0 where
  pub nodes : nodes_fit s.counts.names (contents_in f s).nodes s.counts.nodes ≡ true
  pub deps : all (λ d. ltb d s.counts.names) (contents_in f s).deps ≡ true
  pub unknowns : unknowns_fit s.counts.names s.counts.deps 0 (contents_in f s).unknowns ≡ true
  pub stmts : stmts_fit s.counts.names s.counts.nodes (contents_in f s).nodes 0 (contents_in f s).stmts ≡ true
  pub models : models_fit s.counts.names s.counts.unknowns s.counts.stmts 0 0 (contents_in f s).models ≡ true

-- of an open file
pub passes : (f : List ℕ) (s : Sections) → Open f s → Passes f s
unfolding contents_of
passes f s o =
    let p = parts (contents_in f s) o.fits in
    record { nodes = p.nodes; deps = p.deps; unknowns = p.unknowns; stmts = p.stmts; models = p.models }

-- the name of each dependent is one of the names
pub dep_below : (f : List ℕ) (s : Sections) → Open f s → (i : ℕ) → i < s.counts.deps → get_or (contents_in f s).deps i 0 < s.counts.names
dep_below f s o i h = ltb-true _ _ (all_at _ (contents_in f s).deps 0 (passes f s o).deps i (omega (arith, (long f s o).deps)))

-- ---- model m, by its record

module _ (f : List ℕ) (s : Sections) (m : ℕ) where
  pub record ModelIs : Type 0 where
    pub name : (model_at (file_in f s) m).name ≡ name_of_model (model_record f s m)
    pub name_below : name_of_model (model_record f s m) < s.counts.names
    pub unknowns_within : first_unknown (model_record f s m) + unknown_count (model_record f s m) ≤ s.counts.unknowns
    pub stmts_within : first_stmt (model_record f s m) + stmt_count (model_record f s m) ≤ s.counts.stmts
    pub unknowns_long : length (model_at (file_in f s) m).unknowns ≡ unknown_count (model_record f s m)
    pub stmts_long : length (model_at (file_in f s) m).stmts ≡ stmt_count (model_record f s m)
    pub unknown : (i : ℕ) (d : Unknown) → i < unknown_count (model_record f s m)
        → get_or (model_at (file_in f s) m).unknowns i d ≡ unknown_of (contents_in f s).deps (get_or (contents_in f s).unknowns (first_unknown (model_record f s m) + i) [])
    pub stmt : (i : ℕ) (d : Stmt) → i < stmt_count (model_record f s m)
        → get_or (model_at (file_in f s) m).stmts i d ≡ stmt_of (contents_in f s).nodes (get_or (contents_in f s).stmts (first_stmt (model_record f s m) + i) [])

-- its name is one of the names
model_name_below : (names unknowns stmts u q : ℕ) (r : List ℕ) → model_fits names unknowns stmts u q r ≡ true → name_of_model r < names
unfolding model_fits
model_name_below names unknowns stmts u q r h =
    let (h₁, _) = and_both _ (in_order (span_of_model r)) h in
    let (h₂, _) = and_both _ _ h₁ in
    let (h₃, _) = and_both _ _ h₂ in
    let (h₄, _) = and_both _ _ h₃ in
    let (n, _) = and_both (ltb (name_of_model r) names) _ h₄ in
    ltb-true _ _ n

-- of an open file
pub model_is : (f : List ℕ) (s : Sections) → Open f s → (m : ℕ) → m < s.counts.models → ModelIs f s m
model_is f s o m h =
    let t = contents_in f s in
    let l = long f s o in
    let r = get_or t.models m [] in
    let us = map (unknown_of t.deps) t.unknowns in
    let qs = map (stmt_of t.nodes) t.stmts in
    let (u, q, fits) = model_fits_lem s.counts.names s.counts.unknowns s.counts.stmts t.models 0 0 (passes f s o).models m (omega (arith, l.models)) in
    let (wu, wq) = model_runs s.counts.names s.counts.unknowns s.counts.stmts u q r fits in
    let e = model_by_record f s m h in
    let lu : length us ≡ s.counts.unknowns = simp length-map l.unknowns in
    let lq : length qs ≡ s.counts.stmts = simp length-map l.stmts in
    record {
      name = model_name_is f s m h;
      name_below = model_name_below _ _ _ u q r fits;
      unknowns_within = wu;
      stmts_within = wq;
      unknowns_long = ap (λ (x : Model). length x.unknowns) e ∙ unknown_count_lem t r us qs (omega (arith, wu, lu));
      stmts_long = ap (λ (x : Model). length x.stmts) e ∙ stmt_count_lem t r us qs (omega (arith, wq, lq));
      unknown = λ i d k. ap (λ (x : Model). get_or x.unknowns i d) e ∙ unknown_at t r us qs i d refl k (omega (arith, wu, l.unknowns));
      stmt = λ i d k. ap (λ (x : Model). get_or x.stmts i d) e ∙ stmt_at t r us qs i d refl k (omega (arith, wq, l.stmts));
    }

-- ---- unknown u, by its record

module _ (f : List ℕ) (s : Sections) (u : ℕ) where
  pub record UnknownIs : Type 0 where
    pub name_below : name_of_unknown (unknown_record f s u) < s.counts.names
    pub deps_within : first_dep (unknown_record f s u) + dep_count (unknown_record f s u) ≤ s.counts.deps
    pub domain_fits_lem : domain_fits s.counts.names (unknown_record f s u) ≡ true
    pub deps_long : length (unknown_of (contents_in f s).deps (unknown_record f s u)).deps ≡ dep_count (unknown_record f s u)
    pub dep : (j : ℕ) → j < dep_count (unknown_record f s u) → get_or (unknown_of (contents_in f s).deps (unknown_record f s u)).deps j 0 ≡ get_or (contents_in f s).deps (first_dep (unknown_record f s u) + j) 0

-- its name is one of the names, and its domain keeps the layout
unknown_name_below : (names limit first : ℕ) (r : List ℕ) → unknown_fits names limit first r ≡ true → (name_of_unknown r < names) × (domain_fits names r ≡ true)
unfolding unknown_fits
unknown_name_below names limit first r h =
    let (h₁, _) = and_both _ (in_order (span_of_unknown r)) h in
    let (h₂, d) = and_both _ (domain_fits names r) h₁ in
    let (h₃, _) = and_both _ _ h₂ in
    let (n, _) = and_both (ltb (name_of_unknown r) names) _ h₃ in
    (ltb-true _ _ n, d)

-- of an open file
pub unknown_is : (f : List ℕ) (s : Sections) → Open f s → (u : ℕ) → u < s.counts.unknowns → UnknownIs f s u
unknown_is f s o u h =
    let t = contents_in f s in
    let l = long f s o in
    let r = get_or t.unknowns u [] in
    let (first, fits) = unknown_fits_lem s.counts.names s.counts.deps t.unknowns 0 (passes f s o).unknowns u (omega (arith, l.unknowns)) in
    let w = unknown_run s.counts.names s.counts.deps first r fits in
    let (n, d) = unknown_name_below s.counts.names s.counts.deps first r fits in
    record { name_below = n; deps_within = w; domain_fits_lem = d; deps_long = dep_count_lem t r (omega (arith, w, l.deps)); dep = dep_of t r }

-- each dependent that it lists is one of the names
pub listed_below : (f : List ℕ) (s : Sections) → Open f s → (u : ℕ) → u < s.counts.unknowns → (j : ℕ) → j < length (unknown_of (contents_in f s).deps (unknown_record f s u)).deps
    → get_or (unknown_of (contents_in f s).deps (unknown_record f s u)).deps j 0 < s.counts.names
listed_below f s o u h j l =
    let a = unknown_is f s o u h in
    let q : j < dep_count (unknown_record f s u) = omega (arith, a.deps_long, l) in
    omega (arith, a.dep j q, dep_below f s o (first_dep (unknown_record f s u) + j) (omega (arith, a.deps_within, q)))

-- ---- statement q, by its record and its kind

module _ (f : List ℕ) (s : Sections) (q : ℕ) where
  pub record StmtIs : Type 0 where
    pub kinds : (1 ≤ kind_of_stmt (stmt_record f s q)) × (kind_of_stmt (stmt_record f s q) ≤ 3)
    pub right : (right_top (stmt_record f s q) < s.counts.nodes) × (is_expr (contents_in f s).nodes (right_top (stmt_record f s q)) ≡ true)
    pub left : kind_of_stmt (stmt_record f s q) ≡ 1 → (left_top (stmt_record f s q) < s.counts.nodes) × (is_expr (contents_in f s).nodes (left_top (stmt_record f s q)) ≡ true)
    pub rate_name : kind_of_stmt (stmt_record f s q) ≡ 2 → name_of_stmt (stmt_record f s q) < s.counts.names
    pub call : kind_of_stmt (stmt_record f s q) ≡ 3 → kind_at (contents_in f s).nodes (right_top (stmt_record f s q)) ≡ 5

-- of an open file
pub stmt_is : (f : List ℕ) (s : Sections) → Open f s → (q : ℕ) → q < s.counts.stmts → StmtIs f s q
stmt_is f s o q h =
    let t = contents_in f s in
    let names = s.counts.names in
    let count = s.counts.nodes in
    let r = get_or t.stmts q [] in
    let (first, fits) = stmt_fits_lem names count t.nodes t.stmts 0 (passes f s o).stmts q (omega (arith, (long f s o).stmts)) in
    let ks = stmt_kinds names count t.nodes first r fits in
    record {
      kinds = ks;
      right =
          by_stmt_kind (kind_of_stmt r) ks
          (λ k. let a = top_is names count t.nodes _ _ (equation_tops names count t.nodes first r fits k).1 in (a.0, a.1))
          (λ k. let a = top_is names count t.nodes _ _ (rate_top names count t.nodes first r fits k).1 in (a.0, a.1))
          (λ k. let a = top_is names count t.nodes _ _ (submodel_top names count t.nodes first r fits k).0 in (a.0, a.1));
      left = λ k. let a = top_is names count t.nodes _ _ (equation_tops names count t.nodes first r fits k).0 in (a.0, a.1);
      rate_name = λ k. ltb-true _ _ (rate_top names count t.nodes first r fits k).0;
      call = λ k. (submodel_top names count t.nodes first r fits k).1;
    }

-- one of another kind than 3 is an equation or a rate equation
pub own_stmt : (f : List ℕ) (s : Sections) → Open f s → (q : ℕ) → q < s.counts.stmts → (kind_of_stmt (stmt_record f s q) ≡ 3 → ⊥) → (e : Flat) × (stmt_in f s q ≡ own e)
own_stmt f s o q h n =
    let r = stmt_record f s q in
    by_stmt_kind (kind_of_stmt r) (stmt_is f s o q h).kinds
    (λ k. (_, stmt_equation (contents_in f s).nodes r k))
    (λ k. (_, stmt_rate (contents_in f s).nodes r k))
    (λ k. absurd (n k))

-- ---- the arguments of a call

module _ (f : List ℕ) (s : Sections) (o : Open f s) where
  -- the arguments of a call keep the layout
  pub call_args : (i : ℕ) → i < s.counts.nodes → kind_at (contents_in f s).nodes i ≡ 5
      → args_fit (contents_in f s).nodes i (op_at (contents_in f s).nodes i) (size_at (contents_in f s).nodes i - 1) ≡ true
  call_args i l k = (node_ok _ _ _ (passes f s o).nodes i l).call k

  module _ (end c total : ℕ) (l : end ≤ s.counts.nodes) (x : args_fit (contents_in f s).nodes end c total ≡ true) (h : 0 < c) where
    -- the last of them
    pub arg_here : LastArg (contents_in f s).nodes end c total
    arg_here = last_arg _ _ _ (passes f s o).nodes end c total l x (λ e. omega arith)
