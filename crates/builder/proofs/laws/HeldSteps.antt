-- What the variables' records hold of the statements, from the last to the first: one statement more, by its fate and variable.
use mathlib.Core.Path.{◌≡◌, refl, sym, ap, ◌∙◌}
use mathlib.Core.Logic.{◌⊎◌, inl, inr}
use mathlib.Core.Bool.{Bool, true, false, cond, ◌&&◌}
use mathlib.Core.List.{List, [], ◌∷◌}
use mathlib.Core.Option.{some}
use Prim.Native.Nat.{ℕ, suc, ◌+◌, ◌*◌, ◌≤◌, ◌<◌}
use native.Mathlib.Omega.{arith}
use native.Mathlib.Decide.{ℕ_discrete}
use native.Mathlib.Numerals.{add-one}
use borrow.Author.Tests.{eq-eqb, ne_eqb}
use lib.Dec.{eqb}
use lib.ListN.{length, drop, get_or, set, length-drop, length-map}
use lib.Seq.{get_or-set_same, get_or-set_other, length-take-le}
use Rattle.functions.specs.Lists.{place_from, plus_one, times, flag}
use Rattle.functions.proofs.Lists.{drop_here, drop_past}
use Rattle.ast.specs.Words.{words, word_of}
use Rattle.ast.proofs.Fields.{length_section}
use Rattle.area.specs.Sections.{stmts_at, vars_at, deps_at, area_stmts, area_stmt, area_vars, column, with_word, VarsAre}
use Rattle.area.specs.declared.sections.Sizes.{Sizes}
use Rattle.area.proofs.SectionsKept.{section_kept}
use Rattle.area.proofs.VarsWritten.{column_set, column_kept, vars_stay, vars_then}
use Rattle.builder.specs.Fating.{is_fated}
use Rattle.builder.specs.VarRecords.{NothingHeld, HeldBehind, HeldChanged}
use Rattle.builder.proofs.laws.FateRecords.{length_words, record_placed}

-- ---- the first that passes, and how many do, with one more in front

module _ {A : Type 0} (p : A → Bool) (xs : List A) (d : A) (i : ℕ) (h : i < length xs) where
  pub place_here : p (get_or xs i d) ≡ true → i + 1 ≡ plus_one (place_from i p (drop i xs))
  unfolding place_from plus_one
  place_here e =
      let q : place_from i p (drop i xs) ≡ some i = ap (place_from i p) (drop_here xs d i h) ∙ rw e refl in
      sym (ap plus_one q ∙ sym (add-one i))

  pub place_behind : p (get_or xs i d) ≡ false → plus_one (place_from (i + 1) p (drop (i + 1) xs)) ≡ plus_one (place_from i p (drop i xs))
  unfolding place_from
  place_behind e = sym (ap plus_one (ap (place_from i p) (drop_here xs d i h) ∙ rw (e, add-one) refl))

  times_front : times p (drop i xs) ≡ flag (p (get_or xs i d)) + times p (drop (i + 1) xs)
  unfolding times
  times_front = ap (times p) (drop_here xs d i h)

-- ---- bounds

module _ {A : Type 0} (p : A → Bool) where
  pub place_few : (i : ℕ) (xs : List A) → plus_one (place_from i p xs) ≤ i + length xs
  unfolding place_from plus_one
  place_few i [] = omega arith
  place_few i (x ∷ xs) = go (p x) (place_few (suc i) xs)
    where
      go : (b : Bool) → plus_one (place_from (suc i) p xs) ≤ suc i + length xs → plus_one (cond b (some i) (place_from (suc i) p xs)) ≤ i + length (x ∷ xs)
      go true h = omega arith
      go false h = omega (arith, h)

  flag_few : (b : Bool) → flag b ≤ 1
  unfolding flag
  flag_few true = omega arith
  flag_few false = omega arith

  times_few : (xs : List A) → times p xs ≤ length xs
  unfolding times
  times_few [] = omega arith
  times_few (x ∷ xs) = omega (arith, flag_few (p x), times_few xs)

-- ---- a record of a fate

module _ (r : List ℕ) where
  is_fate : (k v : ℕ) → word_of r 6 ≡ k → v ≡ word_of r 7 → is_fated k v r ≡ true
  unfolding is_fated
  is_fate k v e g = rw (eq-eqb (word_of r 6) k e, eq-eqb (word_of r 7) v (sym g)) refl

  no_fate : (k v : ℕ) → (word_of r 6 ≡ k → ⊥) → is_fated k v r ≡ false
  unfolding is_fated
  no_fate k v e = rw (ne_eqb (word_of r 6) k e) refl

  and_false : (b : Bool) → (b && false) ≡ false
  and_false true = refl
  and_false false = refl

  no_variable_lem : (k v : ℕ) → (word_of r 7 ≡ v → ⊥) → is_fated k v r ≡ false
  unfolding is_fated
  no_variable_lem k v e = rw (ne_eqb (word_of r 7) v e) (and_false (eqb (word_of r 6) k))

-- ---- an area's records of variables

-- twelve words each
pub var_twelve : (z : Sizes) (b : List ℕ) (v : ℕ) → deps_at z ≤ length b → v < z.vars → length (get_or (area_vars b z) v []) ≡ 12
unfolding deps_at
var_twelve z b v room h =
    let at = vars_at z + v * 48 in
    ap length (record_placed 12 z.vars (vars_at z) v b h)
    ∙ length-take-le 12 (words (drop at b)) (length_words 12 (drop at b) (simp length-drop (omega arith)))

-- the statements in front of them stay
pub stmts_stay : (z : Sizes) (b b' : List ℕ) (rs : List (List ℕ)) → deps_at z ≤ length b → VarsAre z b rs b' → area_stmts b' z ≡ area_stmts b z
unfolding vars_at deps_at
stmts_stay z b b' rs room w = section_kept 8 z.stmts (stmts_at z) (vars_at z) b' b (omega arith) (omega (arith, w.long)) (omega arith) w.front

-- a word put into one: at its place, elsewhere in its column, and in every other
module _ (z : Sizes) (b b' : List ℕ) (w k x : ℕ) (room : deps_at z ≤ length b) (few : w < z.vars) (word : k < 12) (q : VarsAre z b (with_word (area_vars b z) w k x) b') where
  own_column : column k (area_vars b' z) ≡ set (column k (area_vars b z)) w x
  own_column = ap (column k) q.records ∙ column_set (area_vars b z) w k x (omega (arith, var_twelve z b w room few))

  word_here : get_or (column k (area_vars b' z)) w 0 ≡ x
  unfolding column
  word_here =
      let n : length (column k (area_vars b z)) ≡ z.vars = length-map (area_vars b z) (λ r. word_of r k) ∙ length_section 12 z.vars (vars_at z) b in
      ap (λ (c : List ℕ). get_or c w 0) own_column ∙ get_or-set_same (column k (area_vars b z)) w x 0 (omega arith)

  word_elsewhere : (v : ℕ) → (v ≡ w → ⊥) → get_or (column k (area_vars b' z)) v 0 ≡ get_or (column k (area_vars b z)) v 0
  word_elsewhere v n = ap (λ (c : List ℕ). get_or c v 0) own_column ∙ get_or-set_other (column k (area_vars b z)) w v x 0 n

  other_column : (j : ℕ) → (j ≡ k → ⊥) → column j (area_vars b' z) ≡ column j (area_vars b z)
  other_column j n = ap (column j) q.records ∙ column_kept (area_vars b z) w k j x n

-- ---- one change after the other

pub held_same : (z : Sizes) (b : List ℕ) → HeldChanged z b b
held_same z b = record { changed = vars_stay z b; kept = λ k m n. refl }

pub held_then : (z : Sizes) (b b₁ b₂ : List ℕ) → HeldChanged z b b₁ → HeldChanged z b₁ b₂ → HeldChanged z b b₂
held_then z b b₁ b₂ p q = record {
  changed = vars_then z b b₁ b₂ _ _ p.changed q.changed;
  kept = λ k m n. q.kept k m n ∙ p.kept k m n;
}

-- ---- one statement more

module _ (z : Sizes) (b : List ℕ) (i : ℕ) (h : i < z.stmts) (t : HeldBehind z (i + 1) b) where
  there : i < length (area_stmts b z)
  there = omega (arith, length_section 8 z.stmts (stmts_at z) b)

  -- entries that stay
  held_stays : (v : ℕ) → v < z.vars → is_fated 2 v (area_stmt b z i) ≡ false → get_or (column 5 (area_vars b z)) v 0 ≡ plus_one (place_from i (is_fated 2 v) (drop i (area_stmts b z)))
  held_stays v l e = t.held v l ∙ place_behind (is_fated 2 v) (area_stmts b z) [] i there e

  initial_stays : (v : ℕ) → v < z.vars → is_fated 1 v (area_stmt b z i) ≡ false → get_or (column 6 (area_vars b z)) v 0 ≡ times (is_fated 1 v) (drop i (area_stmts b z))
  unfolding flag
  initial_stays v l e = omega (arith, t.initial v l, times_front (is_fated 1 v) (area_stmts b z) [] i there, ap flag e)

  -- of no variable, or of another fate
  pub hold_beyond : z.vars ≤ word_of (area_stmt b z i) 7 → HeldBehind z i b × HeldChanged z b b
  hold_beyond n = (
    record {
      small = t.small;
      long = t.long;
      held = λ v l. held_stays v l (no_variable_lem (area_stmt b z i) 2 v (λ e. omega arith));
      initial = λ v l. initial_stays v l (no_variable_lem (area_stmt b z i) 1 v (λ e. omega arith));
    },
    held_same z b,
  )

  pub hold_other : (word_of (area_stmt b z i) 6 ≡ 2 → ⊥) → (word_of (area_stmt b z i) 6 ≡ 1 → ⊥) → HeldBehind z i b × HeldChanged z b b
  hold_other m n = (
    record {
      small = t.small;
      long = t.long;
      held = λ v l. held_stays v l (no_fate (area_stmt b z i) 2 v m);
      initial = λ v l. initial_stays v l (no_fate (area_stmt b z i) 1 v n);
    },
    held_same z b,
  )

  module _ (w : ℕ) (g : w ≡ word_of (area_stmt b z i) 7) (few : w < z.vars) (b' : List ℕ) where
    -- a word 5 or 6 put into its variable's record
    written : (k x : ℕ) → (k ≡ 5) ⊎ (k ≡ 6) → VarsAre z b (with_word (area_vars b z) w k x) b' → HeldChanged z b b'
    written k x e q = record {
      changed = record { front = q.front; behind = q.behind; long = q.long; records = refl };
      kept = λ j m n. ap (column j) q.records ∙ column_kept (area_vars b z) w k j x (other e j m n);
    }
      where
        other : (k ≡ 5) ⊎ (k ≡ 6) → (j : ℕ) → (j ≡ 5 → ⊥) → (j ≡ 6 → ⊥) → j ≡ k → ⊥
        other (inl p) j m n s = m (s ∙ p)
        other (inr p) j m n s = n (s ∙ p)

    -- a variable holds it
    pub hold_held : word_of (area_stmt b z i) 6 ≡ 2 → VarsAre z b (with_word (area_vars b z) w 5 (i + 1)) b' → HeldBehind z i b' × HeldChanged z b b'
    hold_held e q = (
      record {
        small = t.small;
        long = omega (arith, t.long, q.long);
        held = λ v l. rw (stmts_stay z b b' _ t.long q) (go v l (ℕ_discrete v w));
        initial = λ v l.
            rw (stmts_stay z b b' _ t.long q, other_column z b b' w 5 (i + 1) t.long few (omega arith) q 6 (λ s. omega arith))
            (initial_stays v l (no_fate (area_stmt b z i) 1 v (λ s. omega arith)));
      },
      written 5 (i + 1) (inl refl) q,
    )
      where
        go : (v : ℕ) → v < z.vars → Dec (v ≡ w) → get_or (column 5 (area_vars b' z)) v 0 ≡ plus_one (place_from i (is_fated 2 v) (drop i (area_stmts b z)))
        go v l (yes s) = rw s (word_here z b b' w 5 (i + 1) t.long few (omega arith) q ∙ place_here (is_fated 2 w) (area_stmts b z) [] i there (is_fate (area_stmt b z i) 2 w e g))
        go v l (no s) = word_elsewhere z b b' w 5 (i + 1) t.long few (omega arith) q v s ∙ held_stays v l (no_variable_lem (area_stmt b z i) 2 v (λ k. s (sym (g ∙ k))))

    -- it is an initial condition of a variable
    pub hold_initial : (x : ℕ) → word_of (area_stmt b z i) 6 ≡ 1 → x ≡ get_or (column 6 (area_vars b z)) w 0 + 1 → VarsAre z b (with_word (area_vars b z) w 6 x) b' → HeldBehind z i b' × HeldChanged z b b'
    unfolding flag
    hold_initial x e more q = (
      record {
        small = t.small;
        long = omega (arith, t.long, q.long);
        held = λ v l.
            rw (stmts_stay z b b' _ t.long q, other_column z b b' w 6 x t.long few (omega arith) q 5 (λ s. omega arith))
            (held_stays v l (no_fate (area_stmt b z i) 2 v (λ s. omega arith)));
        initial = λ v l. rw (stmts_stay z b b' _ t.long q) (go v l (ℕ_discrete v w));
      },
      written 6 x (inr refl) q,
    )
      where
        one : x ≡ times (is_fated 1 w) (drop i (area_stmts b z))
        one = omega (arith, more, t.initial w few, times_front (is_fated 1 w) (area_stmts b z) [] i there, ap flag (is_fate (area_stmt b z i) 1 w e g))

        go : (v : ℕ) → v < z.vars → Dec (v ≡ w) → get_or (column 6 (area_vars b' z)) v 0 ≡ times (is_fated 1 v) (drop i (area_stmts b z))
        go v l (yes s) = rw s (word_here z b b' w 6 x t.long few (omega arith) q ∙ one)
        go v l (no s) = word_elsewhere z b b' w 6 x t.long few (omega arith) q v s ∙ initial_stays v l (no_variable_lem (area_stmt b z i) 1 v (λ k. s (sym (g ∙ k))))

  -- no more conditions than statements
  pub initial_few : (w : ℕ) → w < z.vars → get_or (column 6 (area_vars b z)) w 0 ≤ z.stmts
  initial_few w few =
      omega (arith, t.initial w few, times_few (is_fated 1 w) (drop (i + 1) (area_stmts b z)), length-drop (i + 1) (area_stmts b z), length_section 8 z.stmts (stmts_at z) b)

-- ---- behind the last statement

pub held_none : (z : Sizes) (b : List ℕ) → NothingHeld z b → HeldBehind z z.stmts b
unfolding place_from plus_one times
held_none z b t =
    let past : drop z.stmts (area_stmts b z) ≡ [] = drop_past (area_stmts b z) z.stmts (omega (arith, length_section 8 z.stmts (stmts_at z) b)) in
    record {
      small = t.small;
      long = t.long;
      held = λ v l. t.held v l ∙ sym (ap (λ (xs : List (List ℕ)). plus_one (place_from z.stmts (is_fated 2 v) xs)) past);
      initial = λ v l. t.initial v l ∙ sym (ap (times (is_fated 1 v)) past);
    }
