-- The tests of an area's records in a loop's terms: the record at i, those behind it, and the end; and the tests of one record, case by case.
use mathlib.Core.Path.{◌≡◌, refl, ap, ap₂, ◌∙◌}
use mathlib.Core.List.{List, [], ◌∷◌}
use mathlib.Core.Bool.{Bool, true, false, not, ◌&&◌, ◌||◌}
use Prim.Native.Nat.{ℕ, zero, suc, ◌+◌, ◌≤◌, ◌<◌}
use native.Mathlib.Omega.{arith}
use borrow.Author.Tests.{leb-true, lt-ltb, ne_eqb}
use lib.Dec.{eqb, ltb, leb}
use lib.ListN.{length, drop, get_or}
use Rattle.std.specs.List.{list_all, range_with_len}
use Rattle.functions.specs.Lists.{all}
use Rattle.functions.proofs.Lists.{and_both, drop_here, drop_past}
use Rattle.ast.specs.Words.{section}
use Rattle.ast.specs.Records.{right_top}
use Rattle.ast.proofs.Turns.{turn, done}
use Rattle.definitions.specs.Numbers.{most_names}
use Rattle.definitions.specs.Layout.{row_fits, rows_fit, name_of_variable, state_of, time_index_of, first_dep_of, dep_count_of, held_stmt_of, conditions_of, time_dependent_of, variable_fits, variables_fit, named_apart, names_differ, zeros}

-- ---- statements

module _ (count : ℕ) (ns : List (List ℕ)) (vars w n at : ℕ) (b : List ℕ) (i : ℕ) where
  abbrev row : List ℕ
  row = get_or (section w n at b) i []

  pub rows_turn : (first : ℕ) → i < n → rows_fit count ns vars first (drop i (section w n at b))
      ≡ (row_fits count ns vars first row && rows_fit count ns vars (right_top row + 1) (drop (i + 1) (section w n at b)))
  unfolding rows_fit
  rows_turn first h = ap (rows_fit count ns vars first) (turn w n at b i h)

  pub rows_done : (first : ℕ) → n ≤ i → rows_fit count ns vars first (drop i (section w n at b)) ≡ eqb first count
  unfolding rows_fit
  rows_done first h = ap (rows_fit count ns vars first) (done w n at b i h)

-- ---- variables

module _ (stmts deps w n at : ℕ) (b : List ℕ) (i : ℕ) where
  abbrev variable : List ℕ
  variable = get_or (section w n at b) i []

  pub variables_turn : (first : ℕ) → i < n → variables_fit stmts deps first (drop i (section w n at b))
      ≡ (variable_fits stmts deps first variable && variables_fit stmts deps (first + dep_count_of variable) (drop (i + 1) (section w n at b)))
  unfolding variables_fit
  variables_turn first h = ap (variables_fit stmts deps first) (turn w n at b i h)

  pub variables_done : (first : ℕ) → n ≤ i → variables_fit stmts deps first (drop i (section w n at b)) ≡ eqb first deps
  unfolding variables_fit
  variables_done first h = ap (variables_fit stmts deps first) (done w n at b i h)

-- where a run that fits ends
pub variable_next : (stmts deps first : ℕ) (r : List ℕ) → variable_fits stmts deps first r ≡ true → first + dep_count_of r ≤ deps
unfolding variable_fits
variable_next stmts deps first r h =
    let (h₁, _) = and_both _ (leb (time_dependent_of r) 1) h in
    let (h₂, _) = and_both _ (leb (conditions_of r) stmts) h₁ in
    let (h₃, _) = and_both _ (leb (held_stmt_of r) stmts) h₂ in
    let (_, l) = and_both (leb (name_of_variable r) most_names && leb (state_of r) 1 && leb (time_index_of r) (dep_count_of r) && eqb (first_dep_of r) first) _ h₃ in
    leb-true (first + dep_count_of r) deps l

module _ (w n at : ℕ) (b : List ℕ) (i : ℕ) where
  pub names_turn : i < n → names_differ (drop i (section w n at b))
      ≡ (all (named_apart (name_of_variable (get_or (section w n at b) i []))) (drop (i + 1) (section w n at b)) && names_differ (drop (i + 1) (section w n at b)))
  unfolding names_differ
  names_turn h = ap names_differ (turn w n at b i h)

  pub names_done : n ≤ i → names_differ (drop i (section w n at b)) ≡ true
  unfolding names_differ
  names_done h = ap names_differ (done w n at b i h)

-- each name apart from those behind it
pub names_along : (t : ℕ → Bool) (a : ℕ) (rs : List (List ℕ)) → ((k : ℕ) → k < length rs → t (a + k) ≡ all (named_apart (name_of_variable (get_or rs k []))) (drop (suc k) rs)) → list_all t (range_with_len a (length rs)) ≡ names_differ rs
unfolding names_differ
names_along t a [] h = refl
names_along t a (r ∷ rs) h =
    let z : a + 0 ≡ a = omega arith in
    ap₂ ◌&&◌ (rw z at (h 0 (omega arith))) (names_along t (a + 1) rs (λ k l. let e : a + 1 + k ≡ a + suc k = omega arith in ap t e ∙ h (suc k) (omega arith)))

-- What the code asks of a variable whose name plus 1 is k: it is named, and bears another name.
pub apart_says : (name k : ℕ) (r : List ℕ) → k ≡ name_of_variable r → (not (eqb k 0) && not (eqb k name)) ≡ named_apart name r
unfolding named_apart
apart_says name zero r is = rw (← is) refl
apart_says name (suc k) r is = rw (← is, lt-ltb 0 (suc k) (omega arith), ne_eqb (suc k) 0 (λ e. omega arith)) refl

-- The same by the contrary test: it is not named, or it bears that name.
apart_test : (name k : ℕ) → (ltb 0 k && not (eqb k name)) ≡ not (eqb k 0 || eqb k name)
apart_test name zero = refl
apart_test name (suc k) = simp (lt-ltb 0 (suc k) (omega arith), ne_eqb (suc k) 0 (λ e. omega arith))

module _ (name k : ℕ) (r : List ℕ) (is : k ≡ name_of_variable r) where
  pub apart_no : (eqb k 0 || eqb k name) ≡ true → named_apart name r ≡ false
  unfolding named_apart
  apart_no h = rw (← is) (apart_test name k ∙ ap not h)

  pub apart_yes : (eqb k 0 || eqb k name) ≡ false → named_apart name r ≡ true
  unfolding named_apart
  apart_yes h = rw (← is) (apart_test name k ∙ ap not h)

-- ---- zeros

module _ (b : List ℕ) (i : ℕ) where
  pub zeros_turn : i < length b → zeros (drop i b) ≡ (eqb (get_or b i 0) 0 && zeros (drop (i + 1) b))
  unfolding zeros all
  zeros_turn h = ap zeros (drop_here b 0 i h)

  pub zeros_done : length b ≤ i → zeros (drop i b) ≡ true
  unfolding zeros all
  zeros_done h = ap zeros (drop_past b i h)

pub zeros_all : (b : List ℕ) → list_all (λ x. eqb x 0) b ≡ zeros b
unfolding zeros all
zeros_all [] = refl
zeros_all (x ∷ b) = ap (λ (t : Bool). eqb x 0 && t) (zeros_all b)
