-- Descents over a model's flattened statements: its own statements one by one, a submodel's one level deeper; and their nodes, counted to a most.
use mathlib.Core.Path.{◌≡◌, refl, sym, ap, ◌∙◌, fun_ext}
use mathlib.Core.List.{List, [], ◌∷◌, ◌++◌, map}
use mathlib.Core.Option.{Option, none, some}
use mathlib.Core.Bool.{true}
use Prim.Native.Nat.{ℕ, zero, suc, ◌+◌, ◌-◌, ◌*◌, ◌≤◌, ◌<◌}
use native.Mathlib.Omega.{arith}
use native.Mathlib.Numerals.{add-one, sub-one}
use lib.ListN.{length, take, drop, get_or}
use lib.Seq.{get_or-take, take-take}
use Rattle.functions.specs.Lists.{each, sum_of}
use Rattle.functions.proofs.Lists.{drop_past}
use Rattle.functions.proofs.Loops.{each_step}
use Rattle.ast.specs.Tree.{Flat, Stmt, File, size, flat_size}
use Rattle.ast.specs.Subst.{Replacements}
use Rattle.ast.specs.Words.{section}
use Rattle.ast.specs.Nodes.{kind_at, name_at, op_at, size_at, is_expr, args_before}
use Rattle.ast.specs.Records.{kind_of_stmt, left_top, right_top, first_stmt, stmt_count, stmt_of}
use Rattle.ast.specs.Levels.{through_flat, by_table}
use Rattle.ast.specs.Rows.{levels_of, read, at_most, Ready, TreeRead}
use Rattle.ast.specs.Opens.{Open, contents_in, file_in, nodes_of}
use Rattle.ast.specs.declared.sections.Sections.{Sections}
use Rattle.ast.proofs.Filling.{levels_same}
use Rattle.ast.proofs.Opened.{ranges}
use Rattle.definitions.specs.Flatten.{replacements, model_named, model_at, sub_flats, stmt_flats, flatten}
use Rattle.builder.specs.Tables.{called_by}
use Rattle.builder.specs.Descent.{flat_at, brought_at, replaced_by, RowsIn, RowsAt, RowsKept, ExprAt, ModelCall}
use Rattle.builder.proofs.laws.Flattening.{map_each, flats_found}
use Rattle.builder.proofs.laws.OpenStmts.{nodes_from_lem, nodes_few, names_few, named_below, called_named, submodel_call}
use Rattle.builder.proofs.laws.OpenRecords.{passes, model_is}
use Rattle.builder.proofs.laws.Amounts.{at_most_add}
use Rattle.definitions.proofs.StmtKinds.{stmt_equation, stmt_rate, stmt_submodel}

-- ---- rows

-- nodes of an open file can be read at the levels of the rows
ready : (f : List ℕ) (s : Sections) → Open f s → (rows : List ℕ) → RowsIn f s rows → Ready f (nodes_of s) rows
ready f s o rows fit =
    record {
      lie = (ranges f s o).nodes;
      few = nodes_few f s o;
      names = s.counts.names;
      named = names_few f s o;
      pass = rw (nodes_from_lem f s o) (passes f s o).nodes;
      fit = rw (nodes_from_lem f s o) fit.fit;
    }

-- and at one of these the tree whose top is known by its number
pub readable : (f : List ℕ) (s : Sections) → Open f s → (rows : List ℕ) (level : ℕ) → RowsAt f s rows level
    → (i j : ℕ) → i ≡ j → (j < s.counts.nodes) × (is_expr (contents_in f s).nodes j ≡ true) → TreeRead f (nodes_of s) rows level i
readable f s o rows level r i j e h =
    record { ready = ready f s o rows r.fit; deep = r.deep; long = r.long; within = rw e h.0; expr = rw (e, nodes_from_lem f s o) h.1 }

-- a call of model m, known by its number
pub calls_model : (f : List ℕ) (s : Sections) → Open f s → (m call j : ℕ) → m < s.counts.models → call ≡ j
    → (j < s.counts.nodes) × (kind_at (contents_in f s).nodes j ≡ 5) → ModelCall f s m call
calls_model f s o m call j l e h = record { opened = o; model = l; within = rw e h.0; kind = rw e h.1 }

-- the top of a tree, known by its number
pub expr_at_lem : (f : List ℕ) (s : Sections) (i j : ℕ) → i ≡ j → (j < s.counts.nodes) × (is_expr (contents_in f s).nodes j ≡ true) → ExprAt f s i
expr_at_lem f s i j e h = record { within = rw e h.0; expr = rw e h.1 }

pub kept_at : (a b : List ℕ) (n j : ℕ) → take n a ≡ take n b → j < n → get_or a j 0 ≡ get_or b j 0
kept_at a b n j e h = sym (get_or-take n a j 0 h) ∙ ap (λ (x : List ℕ). get_or x j 0) e ∙ get_or-take n b j 0 h

pub kept_less : (a b : List ℕ) (n m : ℕ) → m ≤ n → take n a ≡ take n b → take m a ≡ take m b
kept_less a b n m h e = sym (take-take m n a h) ∙ ap (take m) e ∙ take-take m n b h

module _ (ns : List (List ℕ)) (rows rows' : List ℕ) (level : ℕ) (kept : take (256 * level) rows' ≡ take (256 * level) rows) where
  -- the rows below a level decide what is read there
  pub levels_kept : levels_of ns rows' level ≡ levels_of ns rows level
  levels_kept = levels_same ns rows' rows level (λ j h. kept_at rows' rows (256 * level) j kept h)

  -- a new row is one more level
  pub levels_more : (by : Replacements) → ((n : ℕ) → by_table ns (take 256 (drop (256 * level) rows')) n ≡ by n) → levels_of ns rows' (level + 1) ≡ by ∷ levels_of ns rows level
  unfolding levels_of
  levels_more by h =
      let e : by_table ns (take 256 (drop (256 * level) rows')) ≡ by = fun_ext h in
      rw (add-one level) (rw (e, levels_kept) refl)

-- ---- the flattened statements of a model, statement by statement

module _ (file : File) (levels : List Replacements) (k m : ℕ) where
  -- what the statements of model m from number i on bring in, to a depth of k models below it
  unfoldable pub rest : ℕ → List Flat
  rest i = each (λ x. map (through_flat levels) (stmt_flats file (λ j. flatten file k j) x)) (drop i (model_at file m).stmts)

  pub rest_step : (i : ℕ) (d : Stmt) → i < length (model_at file m).stmts
      → rest i ≡ map (through_flat levels) (stmt_flats file (λ j. flatten file k j) (get_or (model_at file m).stmts i d)) ++ rest (i + 1)
  unfolding rest
  rest_step i d h = rw (add-one i) (each_step (model_at file m).stmts d i h (λ x. map (through_flat levels) (stmt_flats file (λ j. flatten file k j) x)))

  pub rest_end : (i : ℕ) → length (model_at file m).stmts ≤ i → rest i ≡ []
  unfolding rest each
  rest_end i h = rw (drop_past (model_at file m).stmts i h) refl

pub rest_all : (file : File) (levels : List Replacements) (k m : ℕ) → (k ≡ 0 → ⊥) → map (through_flat levels) (flatten file k m) ≡ rest file levels (k - 1) m 0
unfolding rest flatten
rest_all file levels zero m ne = absurd (ne refl)
rest_all file levels (suc k) m ne = rw (sub-one (suc k)) (map_each (through_flat levels) (stmt_flats file (λ j. flatten file k j)) (model_at file m).stmts)

pub flat_zero : (file : File) (levels : List Replacements) (k m : ℕ) → k ≡ 0 → map (through_flat levels) (flatten file k m) ≡ []
unfolding flatten
flat_zero file levels zero m e = refl
flat_zero file levels (suc k) m e = absurd (omega arith)

-- what statement i of a model of an open file, which is its statement q, brings in is read with the rows as they stand then
pub rest_next : (f : List ℕ) (s : Sections) → Open f s → (rows₀ rows : List ℕ) (level k m i q : ℕ) → m < s.counts.models
    → take (256 * level) rows ≡ take (256 * level) rows₀ → i < stmt_count (get_or (contents_in f s).models m []) → q ≡ first_stmt (get_or (contents_in f s).models m []) + i
    → rest (file_in f s) (levels_of (contents_in f s).nodes rows₀ level) k m i
    ≡ brought_at f s rows level (λ j. flatten (file_in f s) k j) q ++ rest (file_in f s) (levels_of (contents_in f s).nodes rows₀ level) k m (i + 1)
rest_next f s o rows₀ rows level k m i q l kept b eq =
    let d = stmt_of [] [] in
    let c : i < length (model_at (file_in f s) m).stmts = rw (model_is f s o m l).stmts_long b in
    rw (levels_kept (contents_in f s).nodes rows₀ rows level kept, eq, ← (model_is f s o m l).stmt i d b) (rest_step (file_in f s) (levels_of (contents_in f s).nodes rows₀ level) k m i d c)

-- ---- what a submodel statement brings in

module _ (f : List ℕ) (s : Sections) (o : Open f s) (q : ℕ) (l : q < s.counts.stmts) (k : kind_of_stmt (get_or (contents_in f s).stmts q []) ≡ 3) (levels : List Replacements) where
  abbrev file : File
  file = file_in f s

  abbrev ns : List (List ℕ)
  ns = (contents_in f s).nodes

  abbrev top : ℕ
  top = right_top (get_or (contents_in f s).stmts q [])

  is_submodel : (sub : ℕ → List Flat) → map (through_flat levels) (stmt_flats file sub (stmt_of ns (get_or (contents_in f s).stmts q [])))
      ≡ map (through_flat levels) (sub_flats file sub (args_before ns top (op_at ns top) (size_at ns top - 1)) (model_named file (name_at ns top)))
  unfolding stmt_flats
  is_submodel sub = ap (λ x. map (through_flat levels) (stmt_flats file sub x)) (stmt_submodel ns (get_or (contents_in f s).stmts q []) k)

  sub_missing : (sub : ℕ → List Flat) (x : Option ℕ) → x ≡ none → map (through_flat levels) (sub_flats file sub (args_before ns top (op_at ns top) (size_at ns top - 1)) x) ≡ []
  unfolding sub_flats
  sub_missing sub x e = ap (λ z. map (through_flat levels) (sub_flats file sub (args_before ns top (op_at ns top) (size_at ns top - 1)) z)) e

  sub_empty : (sub : ℕ → List Flat) (x : Option ℕ) → ((j : ℕ) → sub j ≡ []) → map (through_flat levels) (sub_flats file sub (args_before ns top (op_at ns top) (size_at ns top - 1)) x) ≡ []
  unfolding sub_flats
  sub_empty sub none h = refl
  sub_empty sub (some j) h = rw (h j) refl

  no_depth : (d : ℕ) → d ≡ 0 → (j : ℕ) → flatten file d j ≡ []
  unfolding flatten
  no_depth zero e j = refl
  no_depth (suc d) e j = absurd (omega arith)

  -- nothing, where it calls no model
  called_missing : (sub : ℕ → List Flat) → called_by file (stmt_of ns (get_or (contents_in f s).stmts q [])) ≡ none → map (through_flat levels) (stmt_flats file sub (stmt_of ns (get_or (contents_in f s).stmts q []))) ≡ []
  called_missing sub e = is_submodel sub ∙ sub_missing sub _ (sym (called_named f s o q k) ∙ e)

  -- or the depth is used up
  depth_done : (d : ℕ) → d ≡ 0 → map (through_flat levels) (stmt_flats file (λ j. flatten file d j) (stmt_of ns (get_or (contents_in f s).stmts q []))) ≡ []
  depth_done d z = is_submodel (λ j. flatten file d j) ∙ sub_empty (λ j. flatten file d j) (model_named file (name_at ns top)) (no_depth d z)

  module _ (c : ℕ) (e : called_by file (stmt_of ns (get_or (contents_in f s).stmts q [])) ≡ some c) where
    -- its model's flattened statements, one level deeper
    pub brought : (sub : ℕ → List Flat) → map (through_flat levels) (stmt_flats file sub (stmt_of ns (get_or (contents_in f s).stmts q [])))
        ≡ map (through_flat (replacements (model_at file c).unknowns (args_before ns top (op_at ns top) (size_at ns top - 1)) ∷ levels)) (sub c)
    brought sub =
        ap (λ x. map (through_flat levels) (stmt_flats file sub x)) (stmt_submodel ns (get_or (contents_in f s).stmts q []) k)
        ∙ flats_found file sub levels _ _ _ _ c (sym (called_named f s o q k) ∙ e)

    -- read with a new row
    pub deeper : (rows rows' : List ℕ) (level d call : ℕ) → levels ≡ levels_of ns rows level → call ≡ right_top (get_or (contents_in f s).stmts q [])
        → take (256 * level) rows' ≡ take (256 * level) rows
        → ((n : ℕ) → by_table ns (take 256 (drop (256 * level) rows')) n ≡ replacements (model_at file c).unknowns (args_before ns call (op_at ns call) (size_at ns call - 1)) n)
        → map (through_flat (levels_of ns rows' (level + 1))) (flatten file d c) ≡ map (through_flat levels) (stmt_flats file (λ j. flatten file d j) (stmt_of ns (get_or (contents_in f s).stmts q [])))
    deeper rows rows' level d call el et kept by =
        let g : levels_of ns rows' (level + 1) ≡ replacements (model_at file c).unknowns (args_before ns top (op_at ns top) (size_at ns top - 1)) ∷ levels = levels_more ns rows rows' level kept _ (rw et at by) ∙ rw el refl in
        ap (λ (x : List Replacements). map (through_flat x) (flatten file d c)) g ∙ sym (brought (λ j. flatten file d j))

-- ---- from a level into the next

-- the rows of the levels that are left, before and after a row is new at this one
module _ (f : List ℕ) (s : Sections) (rows : List ℕ) (level k : ℕ) (r : RowsAt f s rows (level + k + 1)) where
  pub rows_first : RowsAt f s rows (level + 1)
  rows_first = record { deep = omega (arith, r.deep); long = omega (arith, r.long); fit = r.fit }

  module _ (rows' : List ℕ) (kept : RowsKept f s level rows rows') where
    pub rows_deeper : RowsAt f s rows' (level + 1 + k)
    rows_deeper = record { deep = omega (arith, r.deep); long = omega (arith, r.long, kept.0); fit = kept.2 }

    pub rows_kept : (rows'' : List ℕ) → RowsKept f s (level + 1) rows' rows'' → RowsKept f s level rows rows''
    rows_kept rows'' g = (g.0 ∙ kept.0, kept_less _ _ (256 * (level + 1)) (256 * level) (omega arith) g.1 ∙ kept.1, g.2)

-- what submodel statement q brings in at a level, to a depth of k more models
module _ (f : List ℕ) (s : Sections) (o : Open f s) (q : ℕ) (l : q < s.counts.stmts) (kind : kind_of_stmt (get_or (contents_in f s).stmts q []) ≡ 3) (rows : List ℕ) (level k : ℕ) where
  pub call_none : called_by (file_in f s) (stmt_of (contents_in f s).nodes (get_or (contents_in f s).stmts q [])) ≡ none → brought_at f s rows level (λ j. flatten (file_in f s) k j) q ≡ []
  call_none e = called_missing f s o q l kind (levels_of (contents_in f s).nodes rows level) (λ j. flatten (file_in f s) k j) e

  pub call_done : k ≡ 0 → brought_at f s rows level (λ j. flatten (file_in f s) k j) q ≡ []
  call_done e = depth_done f s o q l kind (levels_of (contents_in f s).nodes rows level) k e

  module _ (c : ℕ) (called : called_by (file_in f s) (stmt_of (contents_in f s).nodes (get_or (contents_in f s).stmts q [])) ≡ some c) where
    pub call_below : c < s.counts.models
    call_below = named_below f s o _ c (sym (called_named f s o q kind) ∙ called)

    module _ (call : ℕ) (top : call ≡ right_top (get_or (contents_in f s).stmts q [])) where
      pub call_is : ModelCall f s c call
      call_is = calls_model f s o _ _ _ call_below top (submodel_call f s o q l kind)

      pub call_deeper : (rows' : List ℕ) → RowsKept f s level rows rows' × ((n : ℕ) → by_table (contents_in f s).nodes (take 256 (drop (256 * level) rows')) n ≡ replaced_by f s c call n)
          → flat_at f s rows' (level + 1) k c ≡ brought_at f s rows level (λ j. flatten (file_in f s) k j) q
      call_deeper rows' g = deeper f s o q l kind (levels_of (contents_in f s).nodes rows level) c called rows rows' level k call refl top g.0.1 g.1

-- ---- what a statement of its own brings in

module _ (f : List ℕ) (s : Sections) (rows : List ℕ) (level q : ℕ) (sub : ℕ → List Flat) where
  own_rate : kind_of_stmt (get_or (contents_in f s).stmts q []) ≡ 2
      → sum_of flat_size (brought_at f s rows level sub q)
      ≡ size (read (contents_in f s).nodes rows level (right_top (get_or (contents_in f s).stmts q [])))
  unfolding sum_of flat_size stmt_flats through_flat read
  own_rate k = rw (stmt_rate (contents_in f s).nodes (get_or (contents_in f s).stmts q []) k) (omega arith)

  own_equation : kind_of_stmt (get_or (contents_in f s).stmts q []) ≡ 1
      → sum_of flat_size (brought_at f s rows level sub q)
      ≡ size (read (contents_in f s).nodes rows level (left_top (get_or (contents_in f s).stmts q []))) + size (read (contents_in f s).nodes rows level (right_top (get_or (contents_in f s).stmts q [])))
  unfolding sum_of flat_size stmt_flats through_flat read
  own_equation k = rw (stmt_equation (contents_in f s).nodes (get_or (contents_in f s).stmts q []) k) (omega arith)

-- ---- counted

module _ (f : List ℕ) (s : Sections) (o : Open f s) (rows : List ℕ) (level q : ℕ) (most : ℕ) where
  pub rate_counted : (i r : ℕ) → kind_of_stmt (get_or (contents_in f s).stmts q []) ≡ 2 → i ≡ right_top (get_or (contents_in f s).stmts q []) → r ≡ at_most most (size (read (section 8 s.counts.nodes s.starts.nodes f) rows level i))
      → (sub : ℕ → List Flat) → r ≡ at_most most (sum_of flat_size (brought_at f s rows level sub q))
  rate_counted i r k ei e sub =
      let g : r ≡ at_most most (size (read (contents_in f s).nodes rows level (right_top (get_or (contents_in f s).stmts q [])))) = rw (nodes_from_lem f s o, ei) at e in
      g ∙ ap (at_most most) (sym (own_rate f s rows level q sub k))

  pub equation_counted : (i j a b : ℕ) → kind_of_stmt (get_or (contents_in f s).stmts q []) ≡ 1 → i ≡ left_top (get_or (contents_in f s).stmts q []) → j ≡ right_top (get_or (contents_in f s).stmts q [])
      → a ≡ at_most most (size (read (section 8 s.counts.nodes s.starts.nodes f) rows level i)) → b ≡ at_most (most - a) (size (read (section 8 s.counts.nodes s.starts.nodes f) rows level j))
      → (sub : ℕ → List Flat) → a + b ≡ at_most most (sum_of flat_size (brought_at f s rows level sub q))
  equation_counted i j a b k ei ej ea eb sub =
      let ga : a ≡ at_most most (size (read (contents_in f s).nodes rows level (left_top (get_or (contents_in f s).stmts q [])))) = rw (nodes_from_lem f s o, ei) at ea in
      let gb : b ≡ at_most (most - a) (size (read (contents_in f s).nodes rows level (right_top (get_or (contents_in f s).stmts q [])))) = rw (nodes_from_lem f s o, ej) at eb in
      at_most_add most a b _ _ ga gb ∙ ap (at_most most) (sym (own_equation f s rows level q sub k))
