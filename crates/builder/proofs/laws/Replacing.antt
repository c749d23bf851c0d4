-- The replacements of a call, noted in a row from the last argument back.
use mathlib.Core.Path.{◌≡◌, refl, sym, ap, ◌∙◌}
use mathlib.Core.Bool.{Bool, true, false, cond}
use mathlib.Core.List.{List, [], ◌∷◌, ◌++◌}
use Prim.Native.Nat.{ℕ, zero, suc, ◌+◌, ◌-◌, ◌*◌, ◌≤◌, ◌<◌}
use native.Mathlib.Nat.{zero-add}
use native.Mathlib.Omega.{arith}
use borrow.Author.Tests.{eqb-true, eqb-false, eq-eqb, ne_eqb, leb-true, ltb-true, ltb-false}
use lib.Dec.{eqb, ltb}
use lib.ListN.{length, take, drop, get_or, set, replicate, length-set, length-append, length-take, length-drop, length-replicate, get_or-append, get_or-eq_default}
use lib.Seq.{get_or-set_same, get_or-set_other, get_or-append-add, get_or-take, get_or-drop, length-take-le, take_at, drop_at}
use Rattle.ast.specs.Tree.{Expr, Unknown}
use Rattle.ast.specs.Subst.{Replacements}
use Rattle.ast.specs.Words.{word_of}
use Rattle.ast.specs.Nodes.{kind_at, name_at, op_at, size_at, is_expr, args_fit, tree_at, args_before}
use Rattle.ast.specs.Levels.{by_table}
use Rattle.ast.specs.Records.{unknown_count, first_unknown, unknown_of}
use Rattle.ast.specs.Rows.{RowsFit}
use Rattle.ast.specs.Opens.{Open, contents_in, file_in}
use Rattle.ast.specs.declared.sections.Sections.{Sections}
use Rattle.ast.proofs.Fitting.{node_ok, LastArg, last_arg}
use Rattle.ast.proofs.Trees.{args_more, args_none}
use Rattle.ast.proofs.Sizes.{count_before}
use Rattle.ast.proofs.Filling.{rows_fit_set}
use Rattle.definitions.specs.Flatten.{unknown_name, replaced_name, replacements, model_at}
use Rattle.builder.specs.Descent.{replaced_by, RowsIn, RowIn, RowsKept}
use Rattle.builder.specs.Overlay.{over, replacing}
use Rattle.builder.proofs.laws.OpenRecords.{passes, unknown_is, model_is}
use Rattle.builder.proofs.laws.OpenStmts.{names_few}

-- ---- what an argument replaces

unknown_name_at : (us : List Unknown) (i : ℕ) (d : Unknown) → i < length us → unknown_name us i ≡ suc (get_or us i d).name
unfolding unknown_name
unknown_name_at [] i d h = absurd (omega arith)
unknown_name_at (u ∷ us) zero d h = refl
unknown_name_at (u ∷ us) (suc i) d h = unknown_name_at us i d (omega arith)

unknown_name_past : (us : List Unknown) (i : ℕ) → length us ≤ i → unknown_name us i ≡ 0
unfolding unknown_name
unknown_name_past [] i h = refl
unknown_name_past (u ∷ us) zero h = absurd (omega arith)
unknown_name_past (u ∷ us) (suc i) h = unknown_name_past us i (omega arith)

-- a keyword's is itself
pub target_keyword : (us : List Unknown) (i k n : ℕ) → k ≡ suc n → suc n ≡ replaced_name us i k
unfolding replaced_name
target_keyword us i k n h = rw h refl

target_place : (us : List Unknown) (i k : ℕ) → k ≡ 0 → replaced_name us i k ≡ unknown_name us i
unfolding replaced_name
target_place us i zero e = refl
target_place us i (suc k) e = absurd (omega arith)

module _ (f : List ℕ) (s : Sections) (o : Open f s) (m : ℕ) (l : m < s.counts.models) (i k many : ℕ) (pos : k ≡ 0)
    (e : many ≡ unknown_count (get_or (contents_in f s).models m [])) where
  -- a positional one's is its unknown's name
  pub target_unknown : (first w : ℕ) → i < many → first ≡ first_unknown (get_or (contents_in f s).models m []) → w ≡ word_of (get_or (contents_in f s).unknowns (first + i) []) 0
      → (suc w ≡ replaced_name (model_at (file_in f s) m).unknowns i k) × (w < s.counts.names)
  unfolding unknown_of
  target_unknown first w h ef ew =
      let c : i < unknown_count (get_or (contents_in f s).models m []) = omega arith in
      let b : i < length (model_at (file_in f s) m).unknowns = rw (model_is f s o m l).unknowns_long c in
      let d = unknown_of [] [] in
      let w₁ : w ≡ word_of (get_or (contents_in f s).unknowns (first_unknown (get_or (contents_in f s).models m []) + i) []) 0 = rw ef at ew in
      let n : (get_or (model_at (file_in f s) m).unknowns i d).name ≡ w = ap (λ (u : Unknown). u.name) ((model_is f s o m l).unknown i d c) ∙ sym w₁ in
      let t : replaced_name (model_at (file_in f s) m).unknowns i k ≡ suc w = target_place _ i k pos ∙ unknown_name_at _ i d b ∙ ap suc n in
      let y = (unknown_is f s o (first_unknown (get_or (contents_in f s).models m []) + i) (omega (arith, (model_is f s o m l).unknowns_within))).name_below in
      (omega arith, omega (arith, y))

  -- one beyond the unknowns has none
  pub target_beyond : many ≤ i → 0 ≡ replaced_name (model_at (file_in f s) m).unknowns i k
  target_beyond h = sym (target_place _ i k pos ∙ unknown_name_past _ i (rw (model_is f s o m l).unknowns_long (omega arith)))

-- ---- one entry

module _ (ns : List (List ℕ)) where
  noted_by : (row : List ℕ) (j v : ℕ) (by : Replacements) (n : ℕ) → j < length row → 0 < v → (b : Bool) → eqb (get_or row j 0) 0 ≡ b → (d : Bool) → eqb n j ≡ d
      → over ns (cond b (set row j v) row) by n ≡ over ns row (replacing (suc j) (tree_at ns (v - 1)) by) n
  unfolding over replacing
  noted_by row j v by n h p true e true q =
      let nz : eqb v 0 ≡ false = ne_eqb v 0 (λ z. omega arith) in
      let same : eqb (suc j) (suc j) ≡ true = eq-eqb (suc j) (suc j) refl in
      rw (eqb-true n j q, get_or-set_same row j v 0 h, nz, e, same) refl
  noted_by row j v by n h p true e false q =
      let ne : eqb (suc n) (suc j) ≡ false = ne_eqb (suc n) (suc j) (λ z. eqb-false n j q (omega arith)) in
      rw (get_or-set_other row j n v 0 (eqb-false n j q), ne) refl
  noted_by row j v by n h p false e true q = rw (eqb-true n j q, e) refl
  noted_by row j v by n h p false e false q =
      let ne : eqb (suc n) (suc j) ≡ false = ne_eqb (suc n) (suc j) (λ z. eqb-false n j q (omega arith)) in
      rw ne refl

  -- the entry of name j is set where it is free
  pub noted : (row row' : List ℕ) (j v : ℕ) → j < length row → 0 < v → row' ≡ cond (eqb (get_or row j 0) 0) (set row j v) row
      → (by : Replacements) (n : ℕ) → over ns row' by n ≡ over ns row (replacing (suc j) (tree_at ns (v - 1)) by) n
  noted row row' j v h p e by n = ap (λ (x : List ℕ). over ns x by n) e ∙ noted_by row j v by n h p _ refl _ refl

  -- nothing is noted
  pub noted_none : (row : List ℕ) (e : Expr) (by : Replacements) (n : ℕ) → over ns row by n ≡ over ns row (replacing 0 e by) n
  unfolding over replacing
  noted_none row e by n =
      let ne : eqb (suc n) 0 ≡ false = ne_eqb (suc n) 0 (λ q. omega arith) in
      rw ne refl

  free_fit : (k : ℕ) (row : List ℕ) (j v : ℕ) (b : Bool) → RowsFit ns k row → j < length row → 0 < v → v - 1 < k → is_expr ns (v - 1) ≡ true → RowsFit ns k (cond b (set row j v) row)
  free_fit k row j v true fit h p l x =
      let e : suc (v - 1) ≡ v = omega arith in
      rw e at (rows_fit_set ns k row j (v - 1) fit h l x)
  free_fit k row j v false fit h p l x = fit

-- in each row of 256 the entries beyond the names are 0
abbrev Bare : ℕ → List ℕ → Type 0
Bare names rows = (level j : ℕ) → names ≤ j → j < 256 → get_or rows (256 * level + j) 0 ≡ 0

-- an entry of a name may be set
free_bare : (names : ℕ) (row : List ℕ) (j v : ℕ) (b : Bool) → Bare names row → j < names → Bare names (cond b (set row j v) row)
free_bare names row j v true bare l = λ level i p h. get_or-set_other row j (256 * level + i) v 0 (λ e. omega arith) ∙ bare level i p h
free_bare names row j v false bare l = bare

pub noted_in : (f : List ℕ) (s : Sections) (row row' : List ℕ) (j v : ℕ) → RowsIn f s row → j < s.counts.names → j < length row → 0 < v → v - 1 < s.counts.nodes → is_expr (contents_in f s).nodes (v - 1) ≡ true
    → row' ≡ cond (eqb (get_or row j 0) 0) (set row j v) row → RowsIn f s row'
noted_in f s row row' j v i k h p l x e =
    rw e record {
      fit = free_fit (contents_in f s).nodes s.counts.nodes row j v (eqb (get_or row j 0) 0) i.fit h p l x;
      bare = free_bare s.counts.names row j v (eqb (get_or row j 0) 0) i.bare k;
    }

length_free : (row : List ℕ) (j v : ℕ) (b : Bool) → length (cond b (set row j v) row) ≡ length row
length_free row j v true = length-set row j v
length_free row j v false = refl

pub noted_length : (row row' : List ℕ) (j v : ℕ) → row' ≡ cond (eqb (get_or row j 0) 0) (set row j v) row → length row' ≡ length row
noted_length row row' j v e = ap length e ∙ length_free row j v (eqb (get_or row j 0) 0)

-- ---- an argument of an open file

module _ (f : List ℕ) (s : Sections) (o : Open f s) (end : ℕ) (p : 1 ≤ end) (l : end ≤ s.counts.nodes) (k : kind_at (contents_in f s).nodes (end - 1) ≡ 6) where
  pub argument_child : (2 ≤ end) × (is_expr (contents_in f s).nodes (end - 1 - 1) ≡ true)
  argument_child =
      let a = (node_ok s.counts.names (contents_in f s).nodes s.counts.nodes (passes f s o).nodes (end - 1) (omega arith)).argument k in
      (omega (arith, a.0), a.2)

  pub argument_keyword : name_at (contents_in f s).nodes (end - 1) ≤ s.counts.names
  argument_keyword = leb-true _ _ ((node_ok s.counts.names (contents_in f s).nodes s.counts.nodes (passes f s o).nodes (end - 1) (omega arith)).keyword k)

-- ---- all of them

pub none_at : (k n : ℕ) → ◌≡◌ {A = ℕ} (get_or (replicate k 0) n 0) 0
none_at zero n = refl
none_at (suc k) zero = refl
none_at (suc k) (suc n) = none_at k n

-- rows in which nothing stands
pub zeros_in : (f : List ℕ) (s : Sections) (rows : List ℕ) → ((n : ℕ) → get_or rows n 0 ≡ 0) → RowsIn f s rows
zeros_in f s rows e = record { fit = λ j h. absurd (omega (arith, e j)); bare = λ level j p h. e (256 * level + j) }

module _ (f : List ℕ) (s : Sections) (m call : ℕ) where
  -- `left` arguments before node `end` are still to be noted
  pub record Filling (row : List ℕ) (end left : ℕ) : Type 0 where
    pub long : length row ≡ 256
    pub fit : RowsIn f s row
    pub within : end ≤ s.counts.nodes
    pub total : ℕ
    pub args : args_fit (contents_in f s).nodes end left total ≡ true
    pub noted : (n : ℕ) → over (contents_in f s).nodes row (replacements (model_at (file_in f s) m).unknowns (args_before (contents_in f s).nodes end left total)) n
        ≡ replaced_by f s m call n

  module _ (o : Open f s) where
    over_zeros : (row : List ℕ) → ((n : ℕ) → get_or row n 0 ≡ 0) → (by : Replacements) (n : ℕ) → over (contents_in f s).nodes row by n ≡ by n
    unfolding over
    over_zeros row e by n = rw (e n) refl

    pub filling_start : (row : List ℕ) (many : ℕ) → call < s.counts.nodes → kind_at (contents_in f s).nodes call ≡ 5 → length row ≡ 256 → ((n : ℕ) → get_or row n 0 ≡ 0) → many ≡ op_at (contents_in f s).nodes call
        → Filling row call many
    filling_start row many l k long e em =
        record {
          long = long;
          fit = zeros_in f s row e;
          within = omega arith;
          total = size_at (contents_in f s).nodes call - 1;
          args = rw em ((node_ok s.counts.names (contents_in f s).nodes s.counts.nodes (passes f s o).nodes call l).call k);
          noted = λ n. rw em (over_zeros row e _ n);
        }

    module _ (row : List ℕ) (end left : ℕ) (h : Filling row end left) where
      module _ (p : 0 < left) where
        pub filling_last : LastArg (contents_in f s).nodes end left h.total
        filling_last = last_arg s.counts.names (contents_in f s).nodes s.counts.nodes (passes f s o).nodes end left h.total h.within h.args (λ z. omega arith)

        last_noted : (row' : List ℕ) (n : ℕ)
            → ((by : Replacements) (n : ℕ) → over (contents_in f s).nodes row' by n ≡ over (contents_in f s).nodes row (replacing (replaced_name (model_at (file_in f s) m).unknowns (left - 1) (name_at (contents_in f s).nodes (end - 1))) (tree_at (contents_in f s).nodes (end - 1 - 1)) by) n)
            → over (contents_in f s).nodes row' (replacements (model_at (file_in f s) m).unknowns (args_before (contents_in f s).nodes (end - size_at (contents_in f s).nodes (end - 1)) (left - 1) (h.total - size_at (contents_in f s).nodes (end - 1)))) n
            ≡ over (contents_in f s).nodes row (replacements (model_at (file_in f s) m).unknowns (args_before (contents_in f s).nodes end left h.total)) n
        unfolding over replacing replacements
        last_noted row' n g =
            let ok = (passes f s o).nodes in
            let ne : (left ≡ 0) → ⊥ = λ z. omega arith in
            let b : end - size_at (contents_in f s).nodes (end - 1) ≤ s.counts.nodes = omega (arith, h.within) in
            g (replacements (model_at (file_in f s) m).unknowns (args_before (contents_in f s).nodes (end - size_at (contents_in f s).nodes (end - 1)) (left - 1) (h.total - size_at (contents_in f s).nodes (end - 1)))) n
            ∙ sym (rw (args_more s.counts.names (contents_in f s).nodes s.counts.nodes ok end left h.total h.within h.args ne, count_before s.counts.names (contents_in f s).nodes s.counts.nodes ok (left - 1) _ _ b filling_last.rest) refl)

        pub filling_step : (row' : List ℕ) (z : ℕ) → z ≡ size_at (contents_in f s).nodes (end - 1)
            → RowIn f s row'
            × ((by : Replacements) (n : ℕ) → over (contents_in f s).nodes row' by n ≡ over (contents_in f s).nodes row (replacing (replaced_name (model_at (file_in f s) m).unknowns (left - 1) (name_at (contents_in f s).nodes (end - 1))) (tree_at (contents_in f s).nodes (end - 1 - 1)) by) n)
            → Filling row' (end - z) (left - 1)
        filling_step row' z e g =
            record {
              long = g.0.long;
              fit = g.0.fit;
              within = omega (arith, h.within);
              total = h.total - z;
              args = rw e filling_last.rest;
              noted = λ n. rw e (last_noted row' n g.1) ∙ h.noted n;
            }

      pub filling_end : left ≤ 0 → (n : ℕ) → by_table (contents_in f s).nodes row n
          ≡ replaced_by f s m call n
      unfolding over by_table replacements
      filling_end z n =
          let e : left ≡ 0 = omega arith in
          sym (rw (args_none (contents_in f s).nodes end left h.total e) refl) ∙ h.noted n

-- ---- a row cleared

module _ (P : ℕ → Type 0) (none : P 0) where
  all_append : (xs ys : List ℕ) → ((j : ℕ) → P (get_or xs j 0)) → ((j : ℕ) → P (get_or ys j 0)) → (j : ℕ) → P (get_or (xs ++ ys) j 0)
  all_append [] ys h g j = g j
  all_append (x ∷ xs) ys h g zero = h zero
  all_append (x ∷ xs) ys h g (suc j) = all_append xs ys (λ i. h (suc i)) g j

  all_take : (n : ℕ) (xs : List ℕ) → ((j : ℕ) → P (get_or xs j 0)) → (j : ℕ) → P (get_or (take n xs) j 0)
  all_take zero xs h j = none
  all_take (suc n) [] h j = none
  all_take (suc n) (x ∷ xs) h zero = h zero
  all_take (suc n) (x ∷ xs) h (suc j) = all_take n xs (λ i. h (suc i)) j

  all_drop : (n : ℕ) (xs : List ℕ) → ((j : ℕ) → P (get_or xs j 0)) → (j : ℕ) → P (get_or (drop n xs) j 0)
  all_drop n xs h j = rw (get_or-drop n xs j 0) (h (n + j))

module _ (names : ℕ) (row : List ℕ) (long : length row ≡ 256) (bare : Bare names row) where
  -- a row alone is level 0, and has nothing from the names on
  bare_behind : (n : ℕ) → names ≤ n → get_or row n 0 ≡ 0
  bare_behind n p = go (ltb n 256) refl
    where
      go : (b : Bool) → ltb n 256 ≡ b → get_or row n 0 ≡ 0
      go true e = rw (zero-add n) at (bare 0 n p (ltb-true n 256 e))
      go false e = get_or-eq_default row 0 (omega (arith, ltb-false n 256 e))

  bare_cleared : (e : List ℕ) → ((n : ℕ) → get_or e n 0 ≡ 0) → (n : ℕ) → get_or (e ++ drop names row) n 0 ≡ 0
  bare_cleared e h = all_append (λ (t : ℕ). t ≡ 0) refl e (drop names row) h (λ j. rw (get_or-drop names row j 0) (bare_behind (names + j) (omega arith)))

-- once the names of a row are cleared, all of it is
pub cleared : (f : List ℕ) (s : Sections) (row zeros : List ℕ) → Open f s → length row ≡ 256 → RowsIn f s row → zeros ≡ replicate (length (take s.counts.names row)) 0
    → (length (zeros ++ drop s.counts.names row) ≡ 256) × ((n : ℕ) → get_or (zeros ++ drop s.counts.names row) n 0 ≡ 0)
cleared f s row zeros o l i e =
    rw e (simp (length-append, length-replicate, length-take, length-drop) (omega (arith, names_few f s o)), bare_cleared s.counts.names row l i.bare _ (none_at (length (take s.counts.names row))))

-- ---- a row lent out of the rows of all levels

-- k rows, and what is before and behind them
module _ (names k : ℕ) where
  bare_append : (xs ys : List ℕ) → length xs ≡ 256 * k → Bare names xs → Bare names ys → Bare names (xs ++ ys)
  bare_append xs ys e h g level j p l = go (ltb level k) refl
    where
      go : (b : Bool) → ltb level k ≡ b → get_or (xs ++ ys) (256 * level + j) 0 ≡ 0
      go true t = get_or-append xs ys 0 (256 * level + j) (omega (arith, ltb-true level k t)) ∙ h level j p l
      go false t =
          let i : 256 * level + j ≡ length xs + (256 * (level - k) + j) = omega (arith, ltb-false level k t) in
          rw i (get_or-append-add xs ys (256 * (level - k) + j) 0 ∙ g (level - k) j p l)

  bare_take : (xs : List ℕ) → Bare names xs → Bare names (take (256 * k) xs)
  bare_take xs h level j p l = go (ltb level k) refl
    where
      go : (b : Bool) → ltb level k ≡ b → get_or (take (256 * k) xs) (256 * level + j) 0 ≡ 0
      go true t = get_or-take (256 * k) xs (256 * level + j) 0 (omega (arith, ltb-true level k t)) ∙ h level j p l
      go false t = get_or-eq_default (take (256 * k) xs) 0 (rw (length-take (256 * k) xs) (omega (arith, ltb-false level k t)))

  bare_drop : (xs : List ℕ) → Bare names xs → Bare names (drop (256 * k) xs)
  bare_drop xs h level j p l =
      let i : 256 * k + (256 * level + j) ≡ 256 * (k + level) + j = omega arith in
      get_or-drop (256 * k) xs (256 * level + j) 0 ∙ rw i (h (k + level) j p l)

module _ (f : List ℕ) (s : Sections) (rows : List ℕ) (level : ℕ) (within : RowsIn f s rows) where
  abbrev Fits : ℕ → Type 0
  Fits t = 0 < t → (t - 1 < s.counts.nodes) × (is_expr (contents_in f s).nodes (t - 1) ≡ true)

  none_fits : Fits 0
  none_fits p = absurd (omega arith)

  rows_joined : (ys : List ℕ) → length (take (256 * level) rows) ≡ 256 * level → length ys ≡ 256 → RowsIn f s ys → RowsIn f s (take (256 * level) rows ++ (ys ++ drop 256 (drop (256 * level) rows)))
  rows_joined ys l long own =
      let before = take (256 * level) rows in
      let behind = drop 256 (drop (256 * level) rows) in
      record {
        fit = all_append Fits none_fits before (ys ++ behind) (all_take Fits none_fits (256 * level) rows within.fit)
            (all_append Fits none_fits ys behind own.fit (all_drop Fits none_fits 256 (drop (256 * level) rows) (all_drop Fits none_fits (256 * level) rows within.fit)));
        bare = bare_append s.counts.names level before (ys ++ behind) l (bare_take s.counts.names level rows within.bare)
            (bare_append s.counts.names 1 ys behind long own.bare (bare_drop s.counts.names 1 (drop (256 * level) rows) (bare_drop s.counts.names level rows within.bare)));
      }

  -- the new row stands at its level, and the rows before it are as they were
  pub row_lent : (ys : List ℕ) (w : ℕ) (by : Replacements) → 256 * level + 256 ≤ length rows → w ≡ 256
      → RowIn f s ys × ((n : ℕ) → by_table (contents_in f s).nodes ys n ≡ by n)
      → RowsKept f s level rows (take (256 * level) rows ++ (ys ++ drop w (drop (256 * level) rows)))
      × ((n : ℕ) → by_table (contents_in f s).nodes (take 256 (drop (256 * level) (take (256 * level) rows ++ (ys ++ drop w (drop (256 * level) rows))))) n ≡ by n)
  row_lent ys w by h ew g =
      let before = take (256 * level) rows in
      let rest = ys ++ drop w (drop (256 * level) rows) in
      let l : length (take (256 * level) rows) ≡ 256 * level = length-take-le (256 * level) rows (omega arith) in
      let row : take 256 (drop (256 * level) (before ++ rest)) ≡ ys = rw (drop_at before rest (256 * level) l) (take_at ys (drop w (drop (256 * level) rows)) 256 g.0.long) in
      ((simp (length-append, length-drop) (omega (arith, l, g.0.long)), take_at before rest (256 * level) l, rw ew (rows_joined ys l g.0.long g.0.fit)), λ n. ap (λ (x : List ℕ). by_table (contents_in f s).nodes x n) row ∙ g.1 n)
