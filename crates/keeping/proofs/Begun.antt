-- The counts of an area that are within the mosts, where its sections then lie, and the whole test by the tests that lead to it.
use mathlib.Core.Path.{◌≡◌, refl}
use mathlib.Core.Bool.{Bool, true, false, ◌&&◌}
use mathlib.Core.List.{List}
use Prim.Native.Nat.{ℕ, ◌+◌, ◌-◌, ◌*◌, ◌^◌, ◌≤◌, ◌<◌}
use native.Mathlib.Omega.{arith}
use borrow.Author.Tests.{leb-true, lt-leb, le-leb}
use lib.Dec.{leb, ltb}
use lib.ListN.{length, take, drop}
use Rattle.std.proofs.Math.Bool.{and-false}
use Rattle.functions.specs.Lists.{all}
use Rattle.functions.proofs.Lists.{and_both}
use Rattle.ast.specs.Words.{words}
use Rattle.ast.specs.Nodes.{nodes_fit}
use Rattle.ast.specs.NodesIn as ast
use Rattle.ast.specs.RecordsIn.{records_in}
use Rattle.area.proofs.Puts.{lent_all}
use Rattle.definitions.specs.Numbers.{most_names, most_nodes, most_stmts, most_variables, most_deps, most_instances, most_listed, header_length}
use Rattle.definitions.specs.Area.{nodes_in, stmts_in, vars_in, deps_in, listed_in, instances_in, header_in}
use Rattle.definitions.specs.Layout.{plain, counts_fit, nodes_at, stmts_at, vars_at, deps_at, errors_at, end_at, records_at, rows_fit, variables_fit, names_differ, error_fits, zeros, sections_fit, records_fit, headed_fits, keeps_layout}
use Rattle.keeping.specs.Placed.{sections_of, Counted, RowsLie, VarsLie, ErrorsLie, Laid}
use Rattle.keeping.specs.declared.sections.Sections.{Sections}

pub counted : (h : List ℕ) → counts_fit h ≡ true → Counted h
unfolding counts_fit
counted h e =
    let (e₁, _) = and_both _ (leb (instances_in h) most_instances) e in
    let (e₂, d) = and_both _ (leb (deps_in h) most_deps) e₁ in
    let (e₃, v) = and_both _ (leb (vars_in h) most_variables) e₂ in
    let (n, s) = and_both (leb (nodes_in h) most_nodes) _ e₃ in
    record { nodes = leb-true (nodes_in h) most_nodes n; stmts = leb-true (stmts_in h) most_stmts s; vars = leb-true (vars_in h) most_variables v; deps = leb-true (deps_in h) most_deps d }

-- ---- where the sections lie, each behind the one before

pub record Begun (s : Sections) (h : List ℕ) : Type 0 where
  pub nodes : s.nodes.at ≡ 40
  pub stmts : s.stmts.at ≡ 40 + 32 * nodes_in h
  pub vars : s.vars.at ≡ s.stmts.at + 32 * stmts_in h
  pub deps : s.deps.at ≡ s.vars.at + 48 * vars_in h
  pub errors : s.errors.at ≡ s.deps.at + 4 * deps_in h
  pub end : s.end ≡ s.errors.at + 16 * listed_in h
  pub area_end_lem : s.end ≡ end_at plain h
  pub node_count_lem : s.nodes.count ≡ nodes_in h
  pub stmt_count_lem : s.stmts.count ≡ stmts_in h
  pub stmt_width : s.stmts.width ≡ 8
  pub var_count : s.vars.count ≡ vars_in h
  pub var_width : s.vars.width ≡ 12
  pub dep_count_lem : s.deps.count ≡ deps_in h
  pub error_count : s.errors.count ≡ listed_in h
  pub error_width : s.errors.width ≡ 4

begun_made : (h : List ℕ) → Begun (sections_of plain h) h
unfolding sections_of end_at errors_at deps_at vars_at stmts_at nodes_at
begun_made h = record {
  nodes = refl;
  stmts = refl;
  vars = refl;
  deps = refl;
  errors = refl;
  end = refl;
  area_end_lem = refl;
  node_count_lem = refl;
  stmt_count_lem = refl;
  stmt_width = refl;
  var_count = refl;
  var_width = refl;
  dep_count_lem = refl;
  error_count = refl;
  error_width = refl;
}

pub begun : (s : Sections) (h : List ℕ) → s ≡ sections_of plain h → Begun s h
begun s h e = rw e (begun_made h)

-- An area that is as long as its sections has them.
pub laid : (b h : List ℕ) (s : Sections) → counts_fit h ≡ true → s ≡ sections_of plain h → s.end ≤ length b → Laid h b
laid b h s w e l = let g = begun s h e in record { counted = counted h w; long = omega arith }

-- Each section lies within an area that has them all.
module _ {s : Sections} {h b : List ℕ} (x : Laid h b) (e : s ≡ sections_of plain h) where
  pub laid_nodes : ast.NodesLie s.nodes b
  laid_nodes = let g = begun s h e in let l = x.long in omega (arith, g.nodes, g.node_count_lem, g.stmts, g.vars, g.deps, g.errors, g.end, g.area_end_lem)

  pub laid_rows : ast.NodesLie s.nodes b × RowsLie s.stmts b
  laid_rows =
      let g = begun s h e in
      let l = x.long in
      (laid_nodes, record { lie = rw (g.stmt_width, g.stmt_count_lem) (omega (arith, g.vars, g.deps, g.errors, g.end, g.area_end_lem)); wide = omega (arith, g.stmt_width) })

  pub laid_variables : VarsLie s.vars b × (s.deps.count < 2 ^ 32)
  laid_variables =
      let g = begun s h e in
      let l = x.long in
      (record { lie = rw (g.var_width, g.var_count) (omega (arith, g.deps, g.errors, g.end, g.area_end_lem)); wide = omega (arith, g.var_width) }, omega (arith, g.dep_count_lem, x.counted.deps))

  pub laid_deps : s.deps.at + 4 * s.deps.count ≤ length b
  laid_deps = let g = begun s h e in let l = x.long in omega (arith, g.dep_count_lem, g.errors, g.end, g.area_end_lem)

  pub laid_errors : ErrorsLie s.errors b
  laid_errors =
      let g = begun s h e in
      let l = x.long in
      record { lie = rw (g.error_width, g.error_count) (omega (arith, g.end, g.area_end_lem)); wide = omega (arith, g.error_width) }

-- ---- the records' tests, by place

pub records_are : (b h : List ℕ) (s : Sections) (kinds : ℕ) → s ≡ sections_of plain h
    → (nodes_fit most_names (ast.nodes_in s.nodes b) s.nodes.count && rows_fit s.nodes.count (ast.nodes_in s.nodes b) s.vars.count 0 (records_in s.stmts b)
    && variables_fit s.stmts.count s.deps.count 0 (records_in s.vars b) && names_differ (records_in s.vars b)
    && all (λ d. ltb d s.vars.count) (take s.deps.count (words (drop s.deps.at b))) && all (error_fits kinds) (records_in s.errors b))
    ≡ records_fit kinds (records_at plain h b)
unfolding records_fit records_at sections_of
records_are b h s kinds e = rw e refl

-- ---- the whole, by the tests that led there

module _ (kinds : ℕ) (b : List ℕ) where
  abbrev header : List ℕ
  header = header_in b

  -- shorter than a header
  pub no_header : length b < 4 * header_length → false ≡ keeps_layout plain kinds b
  unfolding keeps_layout headed_fits sections_fit end_at errors_at deps_at vars_at stmts_at nodes_at
  no_header l = simp (lt-leb (end_at plain (take header_length (words b))) (length b) (omega arith), and-false)

  pub over_most_lem : counts_fit header ≡ false → false ≡ keeps_layout plain kinds b
  unfolding keeps_layout headed_fits header_in
  over_most_lem e = rw e

  module _ (s : Sections) (w : counts_fit header ≡ true) (e : s ≡ sections_of plain header) where
    pub too_short_lem : length b < s.end → false ≡ keeps_layout plain kinds b
    unfolding keeps_layout headed_fits sections_fit header_in
    too_short_lem l =
        let g = begun s header e in
        simp (w, lt-leb (end_at plain header) (length b) (omega arith))

    -- what is lent of the area behind its sections is all that stands there
    pub all_there : (z r : Bool) → s.end ≤ length b → z ≡ zeros (take (length b - s.end) (drop s.end b)) → r ≡ records_fit kinds (records_at plain header b)
        → (z && r) ≡ keeps_layout plain kinds b
    unfolding keeps_layout headed_fits sections_fit header_in
    all_there z r l ez er =
        let g = begun s header e in
        simp (w, le-leb (end_at plain header) (length b) (omega arith), ez, er, g.area_end_lem, lent_all b (end_at plain header))

-- ---- of an area that keeps its layout

-- an area that has its sections has a header
pub header_within : (p : List ℕ) → end_at plain (header_in p) ≤ length p → 4 * header_length ≤ length p
unfolding end_at errors_at deps_at vars_at stmts_at nodes_at
header_within p l = omega arith

pub kept_parts : (kinds : ℕ) (b : List ℕ) → keeps_layout plain kinds b ≡ true → (counts_fit (header_in b) ≡ true) × (end_at plain (header_in b) ≤ length b)
unfolding keeps_layout headed_fits sections_fit header_in
kept_parts kinds b k =
    let h = header_in b in
    let (k₁, _) = and_both _ (records_fit kinds (records_at plain h b)) k in
    let (w, k₂) = and_both (counts_fit h) _ k₁ in
    let (l, _) = and_both _ (zeros (drop (end_at plain h) b)) k₂ in
    (w, leb-true (end_at plain h) (length b) l)

-- It has a header, whose counts are within the mosts,
pub kept_header : (kinds : ℕ) (b : List ℕ) → keeps_layout plain kinds b ≡ true → (4 * header_length ≤ length b) × Counted (header_in b)
kept_header kinds b k = let (w, l) = kept_parts kinds b k in (header_within b l, counted (header_in b) w)

-- and its listed errors lie within it.
pub kept_errors : (kinds : ℕ) (b : List ℕ) (s : Sections) → keeps_layout plain kinds b ≡ true → s ≡ sections_of plain (header_in b)
    → ErrorsLie s.errors b × (s.errors.count ≤ most_listed)
kept_errors kinds b s k e =
    let (w, l) = kept_parts kinds b k in
    let g = begun s (header_in b) e in
    (laid_errors (record { counted = counted (header_in b) w; long = l }) e, omega (arith, g.error_count))
