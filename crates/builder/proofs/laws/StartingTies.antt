-- Errors 16 and 17 over the records of statements with their fates are those of the statements and fates.
use mathlib.Core.Path.{◌≡◌, refl, sym, ap, ap₂, ◌∙◌}
use mathlib.Core.Bool.{Bool, true, false, cond}
use mathlib.Core.List.{List, [], ◌∷◌, ◌++◌, map, append-nil, append_assoc}
use mathlib.Core.Option.{Option, none, some}
use Prim.Native.Nat.{ℕ, zero, suc, ◌+◌, ◌-◌, ◌≤◌, ◌<◌}
use native.Mathlib.Omega.{arith}
use borrow.Author.Tests.{eq-eqb, ne_eqb, lt-ltb, le-ltb}
use lib.Dec.{eqb, ltb}
use lib.ListN.{length, get_or, length-append}
use lib.Seq.{get_or_at}
use Rattle.functions.specs.Lists.{keep, place, place_from, each, unless, plus_one}
use Rattle.functions.proofs.Lists.{clash}
use Rattle.ast.specs.Tree.{Span, Expr, name, number, binary, unary, call, Flat, equation, rate, size, sizes, flat_size}
use Rattle.ast.specs.Words.{word_of, span_from}
use Rattle.ast.specs.Nodes.{span_at}
use Rattle.ast.specs.Encode.{node, nodes, arg_nodes, flat_nodes}
use Rattle.ast.proofs.Encodes.{length_nodes, length_args}
use Rattle.definitions.specs.Variables.{Error, Variable, at}
use Rattle.definitions.specs.Allocate.{Fate, numbers_from, is_held_by, is_initial_of, conditions, expr_span, right_span, no_flat, right_span_at, held_errors, state_errors, starting_errors}
use Rattle.definitions.specs.Answer.{flat_words, flat_records}
use Rattle.builder.specs.Starting.{right_span_in, held_errors_in, state_errors_in, starting_in}
use Rattle.builder.specs.Fating.{fate_pair}
use Rattle.builder.proofs.laws.FateLaws.{record_pair, held_place_in, initial_in}
use Rattle.definitions.proofs.Lengths.{length_flat_nodes}

-- ---- the span of a tree's top node

last_node : (xs before rest : List (List ℕ)) (x : List ℕ) (k : ℕ) → k ≡ length before + length xs → get_or (before ++ ((xs ++ x ∷ []) ++ rest)) k [] ≡ x
last_node xs before rest x k e =
    let a : before ++ ((xs ++ x ∷ []) ++ rest) ≡ (before ++ xs) ++ x ∷ rest = ap (λ (l : List (List ℕ)). before ++ l) (append_assoc xs (x ∷ []) rest) ∙ sym (append_assoc before xs (x ∷ rest)) in
    ap (λ (l : List (List ℕ)). get_or l k []) a ∙ get_or_at (before ++ xs) x rest [] k (length-append before xs ∙ sym e)

node_span : (k n o z : ℕ) (s : Span) (b : ℕ) → span_from (node k n o z s b) 4 ≡ s
unfolding span_from word_of node
node_span k n o z s b = refl

expr_span_lem : (e : Expr) (before rest : List (List ℕ)) (k : ℕ) → k + 1 ≡ length before + size e → span_at (before ++ (nodes e ++ rest)) k ≡ expr_span e
unfolding nodes arg_nodes size sizes expr_span
expr_span_lem (name n s) before rest k e = ap (λ (r : List ℕ). span_from r 4) (last_node [] before rest _ k (omega arith)) ∙ node_span _ _ _ _ s _
expr_span_lem (number b s) before rest k e = ap (λ (r : List ℕ). span_from r 4) (last_node [] before rest _ k (omega arith)) ∙ node_span _ _ _ _ s _
expr_span_lem (binary o l r s) before rest k e =
    ap (λ (r : List ℕ). span_from r 4) (last_node (nodes l ++ nodes r) before rest _ k (omega (arith, length-append (nodes l) (nodes r), length_nodes l, length_nodes r))) ∙ node_span _ _ _ _ s _
expr_span_lem (unary o x s) before rest k e = ap (λ (r : List ℕ). span_from r 4) (last_node (nodes x) before rest _ k (omega (arith, length_nodes x))) ∙ node_span _ _ _ _ s _
expr_span_lem (call f a s) before rest k e = ap (λ (r : List ℕ). span_from r 4) (last_node (arg_nodes a) before rest _ k (omega (arith, length_args a))) ∙ node_span _ _ _ _ s _

-- every tree has a node
size_more : (e : Expr) → 1 ≤ size e
unfolding size sizes
size_more (name n s) = omega arith
size_more (number b s) = omega arith
size_more (binary o l r s) = omega arith
size_more (unary o x s) = omega arith
size_more (call f a s) = omega arith

-- ---- the records of statements

unfoldable kind_number : Flat → ℕ
kind_number (equation l r s) = 1
kind_number (rate n r s) = 2

flat_kind : (first : ℕ) (q : Flat) (x : Fate) → word_of (flat_words first q x) 0 ≡ kind_number q
unfolding word_of flat_words kind_number
flat_kind first (equation l r s) x = refl
flat_kind first (rate n r s) x = refl

flat_pair : (first : ℕ) (q : Flat) (x : Fate) → record_pair (flat_words first q x) ≡ fate_pair x
unfolding word_of flat_words
flat_pair first (equation l r s) x = refl
flat_pair first (rate n r s) x = refl

flat_span : (q : Flat) (x : Fate) (before rest : List (List ℕ)) → span_at (before ++ (flat_nodes q ++ rest)) (word_of (flat_words (length before) q x) 3) ≡ right_span q
unfolding word_of flat_words flat_nodes right_span
flat_span (equation l r s) x before rest =
    let a : before ++ ((nodes l ++ nodes r) ++ rest) ≡ (before ++ nodes l) ++ (nodes r ++ rest) = ap (λ (m : List (List ℕ)). before ++ m) (append_assoc (nodes l) (nodes r) rest) ∙ sym (append_assoc before (nodes l) (nodes r ++ rest)) in
    ap (λ (m : List (List ℕ)). span_at m (length before + size l + size r - 1)) a
    ∙ expr_span_lem r (before ++ nodes l) rest _ (omega (arith, length-append before (nodes l), length_nodes l, size_more r))
flat_span (rate n r s) x before rest = expr_span_lem r before rest _ (omega (arith, size_more r))

-- fates and variables are those of the fates
pub records_pairs : (first : ℕ) (qs : List Flat) (fs : List Fate) → length fs ≡ length qs → map record_pair (flat_records first qs fs) ≡ map fate_pair fs
unfolding flat_records
records_pairs first [] [] h = refl
records_pairs first [] (x ∷ fs) h = absurd (omega arith)
records_pairs first (q ∷ qs) [] h = absurd (omega arith)
records_pairs first (q ∷ qs) (x ∷ fs) h = ap₂ ◌∷◌ (flat_pair first q x) (records_pairs (first + flat_size q) qs fs (omega arith))

-- kinds are those of the statements
records_kind : (first : ℕ) (qs : List Flat) (fs : List Fate) (i : ℕ) → length fs ≡ length qs → i < length qs → word_of (get_or (flat_records first qs fs) i []) 0 ≡ kind_number (get_or qs i no_flat)
unfolding flat_records
records_kind first [] fs i h l = absurd (omega arith)
records_kind first (q ∷ qs) [] i h l = absurd (omega arith)
records_kind first (q ∷ qs) (x ∷ fs) zero h l = flat_kind first q x
records_kind first (q ∷ qs) (x ∷ fs) (suc i) h l = records_kind (first + flat_size q) qs fs i (omega arith) (omega arith)

-- and so are the spans of right sides, where the trees' nodes stand behind others
pub records_span : (before : List (List ℕ)) (first : ℕ) (qs : List Flat) (fs : List Fate) (i : ℕ) → first ≡ length before → length fs ≡ length qs → i < length qs
    → span_at (before ++ each flat_nodes qs) (word_of (get_or (flat_records first qs fs) i []) 3) ≡ right_span (get_or qs i no_flat)
unfolding flat_records each
records_span before first [] fs i e h l = absurd (omega arith)
records_span before first (q ∷ qs) [] i e h l = absurd (omega arith)
records_span before first (q ∷ qs) (x ∷ fs) zero e h l = rw e (flat_span q x before (each flat_nodes qs))
records_span before first (q ∷ qs) (x ∷ fs) (suc i) e h l =
    ap (λ (m : List (List ℕ)). span_at m (word_of (get_or (flat_records (first + flat_size q) qs fs) i []) 3)) (sym (append_assoc before (flat_nodes q) (each flat_nodes qs)))
    ∙ records_span (before ++ flat_nodes q) (first + flat_size q) qs fs i (omega (arith, length-append before (flat_nodes q), length_flat_nodes q)) (omega arith) (omega arith)

-- ---- no first element that passes, and one

keep_none : {A : Type 0} (p : A → Bool) (k : ℕ) (xs : List A) → place_from k p xs ≡ none → length (keep p xs) ≡ 0
unfolding keep place_from
keep_none p k [] e = refl
keep_none p k (x ∷ xs) e = by (p x) e (keep_none p (suc k) xs)
  where
    by : (b : Bool) → cond b (some k) (place_from (suc k) p xs) ≡ none → (place_from (suc k) p xs ≡ none → length (keep p xs) ≡ 0) → length (cond b (x ∷ keep p xs) (keep p xs)) ≡ 0
    by true e ih = clash (cc)
    by false e ih = ih e

keep_some : {A : Type 0} (p : A → Bool) (k : ℕ) (xs : List A) (i : ℕ) → place_from k p xs ≡ some i → (1 ≤ length (keep p xs)) × (i < k + length xs)
unfolding keep place_from
keep_some p k [] i e = clash (cc)
keep_some p k (x ∷ xs) i e = by (p x) e (keep_some p (suc k) xs i)
  where
    by : (b : Bool) → cond b (some k) (place_from (suc k) p xs) ≡ some i → (place_from (suc k) p xs ≡ some i → (1 ≤ length (keep p xs)) × (i < suc k + length xs))
        → (1 ≤ length (cond b (x ∷ keep p xs) (keep p xs))) × (i < k + suc (length xs))
    by true e ih = let h : k ≡ i = cc in (omega arith, omega arith)
    by false e ih = let r = ih e in (r.0, omega (arith, r.1))

-- ---- of a variable

module _ (model : Span) (vs : List Variable) (qs : List Flat) (fs : List Fate) (h : length fs ≡ length qs) (v : ℕ) where
  abbrev ns : List (List ℕ)
  ns = each flat_nodes qs

  abbrev rs : List (List ℕ)
  rs = flat_records 0 qs fs

  by_kind : (i : ℕ) (q : Flat) (o : Option ℕ) → word_of (get_or rs i []) 0 ≡ kind_number q → place (is_initial_of v) fs ≡ o
      → held_errors_in model ns rs (at vs v).name (suc i) (plus_one o) ≡ held_errors model vs qs fs v q
  unfolding held_errors_in held_errors plus_one kind_number unless conditions right_span_at right_span_in place
  by_kind i (equation l r s) none k g =
      let c : eqb (suc i) 0 ≡ false = ne_eqb (suc i) 0 (λ e. omega arith) in
      let d : suc i - 1 ≡ i = omega arith in
      let n : eqb (length (keep (is_initial_of v) fs)) 0 ≡ true = eq-eqb (length (keep (is_initial_of v) fs)) 0 (keep_none (is_initial_of v) 0 fs g) in
      rw (c, d, k, n) refl
  by_kind i (equation l r s) (some j) k g =
      let c : eqb (suc i) 0 ≡ false = ne_eqb (suc i) 0 (λ e. omega arith) in
      let d : suc i - 1 ≡ i = omega arith in
      let c' : eqb (suc j) 0 ≡ false = ne_eqb (suc j) 0 (λ e. omega arith) in
      let d' : suc j - 1 ≡ j = omega arith in
      let (m, b) = keep_some (is_initial_of v) 0 fs j g in
      let n : eqb (length (keep (is_initial_of v) fs)) 0 ≡ false = ne_eqb (length (keep (is_initial_of v) fs)) 0 (λ e. omega (arith, m)) in
      let w = records_span [] 0 qs fs j refl h (omega (arith, b)) in
      rw (c, d, k, c', n, g, d', w) refl
  by_kind i (rate a r s) none k g =
      let c : eqb (suc i) 0 ≡ false = ne_eqb (suc i) 0 (λ e. omega arith) in
      let d : suc i - 1 ≡ i = omega arith in
      let n : ltb 0 (length (keep (is_initial_of v) fs)) ≡ false = le-ltb 0 (length (keep (is_initial_of v) fs)) (omega (arith, keep_none (is_initial_of v) 0 fs g)) in
      rw (c, d, k, n) refl
  by_kind i (rate a r s) (some j) k g =
      let c : eqb (suc i) 0 ≡ false = ne_eqb (suc i) 0 (λ e. omega arith) in
      let c' : eqb (suc j) 0 ≡ false = ne_eqb (suc j) 0 (λ e. omega arith) in
      let d : suc i - 1 ≡ i = omega arith in
      let n : ltb 0 (length (keep (is_initial_of v) fs)) ≡ true = lt-ltb 0 (length (keep (is_initial_of v) fs)) (omega (arith, (keep_some (is_initial_of v) 0 fs j g).0)) in
      rw (c, d, k, c', n) refl

  by_held : (o : Option ℕ) → place (is_held_by v) fs ≡ o → held_errors_in model ns rs (at vs v).name (plus_one o) (plus_one (place (is_initial_of v) fs)) ≡ state_errors model vs qs fs v o
  unfolding held_errors_in state_errors plus_one place
  by_held none e = refl
  by_held (some i) e = by_kind i (get_or qs i no_flat) (place (is_initial_of v) fs) (records_kind 0 qs fs i h (omega (arith, (keep_some (is_held_by v) 0 fs i e).1))) refl

  pub state_tie : state_errors_in model ns rs (at vs v).name v ≡ state_errors model vs qs fs v (place (is_held_by v) fs)
  unfolding state_errors_in
  state_tie =
      let p = records_pairs 0 qs fs h in
      let a = held_place_in rs fs p v in
      let b = initial_in rs fs p v in
      rw (a, b) (by_held (place (is_held_by v) fs) refl)

-- ---- of all variables

module _ (model : Span) (vs : List Variable) (qs : List Flat) (fs : List Fate) (h : length fs ≡ length qs) (names : List ℕ) (t : (v : ℕ) → v < length vs → get_or names v 0 ≡ (at vs v).name) where
  starting_run : (k : ℕ) (us : List Variable) → k + length us ≤ length vs
      → starting_in model (each flat_nodes qs) (flat_records 0 qs fs) names k ++ each (λ v. state_errors model vs qs fs v (place (is_held_by v) fs)) (numbers_from k us)
      ≡ starting_in model (each flat_nodes qs) (flat_records 0 qs fs) names (k + length us)
  unfolding starting_in each numbers_from
  starting_run k [] l = let e : k + 0 ≡ k = omega arith in rw e (append-nil _)
  starting_run k (u ∷ us) l =
      let e : k + suc (length us) ≡ suc k + length us = omega arith in
      let s = state_tie model vs qs fs h k in
      let n = t k (omega arith) in
      sym (append_assoc (starting_in model (each flat_nodes qs) (flat_records 0 qs fs) names k) (state_errors model vs qs fs k (place (is_held_by k) fs)) _)
      ∙ ap (λ (x : List Error). starting_in model (each flat_nodes qs) (flat_records 0 qs fs) names k ++ x ++ each (λ v. state_errors model vs qs fs v (place (is_held_by v) fs)) (numbers_from (suc k) us)) (sym s ∙ ap (λ (m : ℕ). state_errors_in model (each flat_nodes qs) (flat_records 0 qs fs) m k) (sym n))
      ∙ starting_run (suc k) us (omega arith)
      ∙ ap (λ (m : ℕ). starting_in model (each flat_nodes qs) (flat_records 0 qs fs) names m) (sym e)

  -- The errors over the records are the errors of the statements and their fates.
  pub starting_tie : starting_in model (each flat_nodes qs) (flat_records 0 qs fs) names (length vs) ≡ starting_errors model vs qs fs
  unfolding starting_in starting_errors
  starting_tie =
      let e : length vs ≡ 0 + length vs = omega arith in
      ap (λ (m : ℕ). starting_in model (each flat_nodes qs) (flat_records 0 qs fs) names m) e ∙ sym (starting_run 0 vs (omega arith))
