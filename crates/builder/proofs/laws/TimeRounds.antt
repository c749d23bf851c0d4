-- Reaching t in the records of an area's variables: round by round, the marks of a round taken over record by record.
use mathlib.Core.Path.{◌≡◌, refl, sym, ap, ap₂, ◌∙◌}
use mathlib.Core.Bool.{Bool, true, false, not, ◌||◌, or-false as or_nothing}
use mathlib.Core.List.{List, [], ◌∷◌}
use Prim.Native.Nat.{ℕ, zero, suc, ◌+◌, ◌-◌, ◌*◌, ◌≤◌, ◌<◌}
use native.Mathlib.Nat.{zero-add}
use native.Mathlib.Numerals.{add-one}
use native.Mathlib.Omega.{arith}
use native.Mathlib.Decide.{ℕ_discrete}
use borrow.Author.Tests.{ltb-true, eqb-true, not-false}
use lib.Dec.{ltb, eqb}
use lib.ListN.{length, take, drop, get_or, set, length-drop, length-map}
use lib.Seq.{get_or-take, get_or-drop, length-take-le, get_or-set_same, get_or-set_other, set-get_or, set-set}
use Rattle.std.specs.List.{list_any, range_with_len}
use Rattle.functions.specs.Lists.{any, reaches, flag}
use Rattle.ast.specs.Words.{words, word_of}
use Rattle.ast.proofs.Fields.{length_deps, length_section}
use Rattle.ast.proofs.Files.{all_at}
use Rattle.area.specs.Sections.{vars_at, deps_at, area_vars, with_word, VarsAre, column}
use Rattle.area.specs.declared.sections.Sizes.{Sizes}
use Rattle.area.proofs.VarsWritten.{column_set, vars_stay, vars_then}
use Rattle.definitions.proofs.Counts.{or_false}
use Rattle.definitions.proofs.ListLaws.{flag_one}
use Rattle.builder.specs.Reaching.{deps_in, marks_in, leads, DepsIn, Round, timed_by, timed_from}
use Rattle.builder.proofs.laws.Ranges.{any_along}
use Rattle.builder.proofs.laws.Filled.{Filled, filled_none, filled_more}
use Rattle.builder.proofs.laws.FateRecords.{record_placed, length_words}
use Rattle.builder.proofs.laws.Timing.{any_alike}

-- ---- the dependents of one variable, one by one

module _ (z : Sizes) (b : List ℕ) (d : DepsIn z b) (v : ℕ) (h : v < z.vars) where
  abbrev first : ℕ
  first = get_or (column 3 (area_vars b z)) v 0

  abbrev count : ℕ
  count = get_or (column 4 (area_vars b z)) v 0

  abbrev listed : List ℕ
  listed = take z.deps (words (drop (deps_at z) b))

  -- as many as the record tells
  how_many : length (deps_in b z v) ≡ count
  unfolding deps_in
  how_many = length-take-le count (drop first listed) (simp length-drop (omega (arith, length_deps b (deps_at z) z.deps d.long, d.within v h)))

  -- the one at place i is among all that are listed
  dep_listed : (i : ℕ) → i < count → get_or listed (first + i) 0 ≡ get_or (deps_in b z v) i 0
  unfolding deps_in
  dep_listed i l = sym (get_or-take count (drop first listed) i 0 l ∙ get_or-drop first listed i 0)

  module _ (f n : ℕ) (ef : f ≡ first) (en : n ≡ count) where
    -- each of them is there
    pub run_within : f + n ≤ z.deps
    run_within = omega (arith, d.within v h)

    -- and is a variable
    pub dep_below : (at k r : ℕ) → at ≡ deps_at z → f ≤ k → k < f + n → r ≡ get_or (take z.deps (words (drop at b))) k 0 → r < z.vars
    dep_below at k r ea l g e =
        let i : first + (k - first) ≡ k = omega arith in
        let w : k - first < count = omega arith in
        let t : ltb (get_or (deps_in b z v) (k - first) 0) z.vars ≡ true = all_at (λ d. ltb d z.vars) (deps_in b z v) 0 (d.below v h) (k - first) (omega (arith, how_many)) in
        let q : r ≡ get_or (deps_in b z v) (k - first) 0 = rw ea at e ∙ ap (λ (j : ℕ). get_or listed j 0) (sym i) ∙ dep_listed (k - first) w in
        ltb-true r z.vars (rw (← q) at t)

    -- whether any passes, by the numbers of those listed
    pub any_dep : (p : ℕ → Bool) → list_any (λ k. p (get_or listed k 0)) (range_with_len f n) ≡ any p (deps_in b z v)
    any_dep p =
        ap₂ (λ (a m : ℕ). list_any (λ k. p (get_or listed k 0)) (range_with_len a m)) ef (en ∙ sym how_many)
        ∙ any_along (λ k. p (get_or listed k 0)) p 0 first (deps_in b z v) (λ k l. ap p (dep_listed k (omega (arith, how_many))))

-- ---- records with marks

module _ (t : ℕ → Bool) where
  -- records marked so already
  timed_stays : (v : ℕ) (rs : List (List ℕ)) → ((i : ℕ) → i < length rs → get_or (column 7 rs) i 0 ≡ flag (t (v + i))) → timed_from t v rs ≡ rs
  unfolding timed_from column word_of
  timed_stays v [] h = refl
  timed_stays v (r ∷ rs) h =
      let z : v + 0 ≡ v = omega arith in
      let e : get_or r 7 0 ≡ flag (t v) = rw z at (h 0 (omega arith)) in
      rw (← e, set-get_or, timed_stays (suc v) rs (λ i l. let s : v + suc i ≡ suc v + i = omega arith in rw s at (h (suc i) (omega arith))))

  -- marks of before are of no account
  timed_again : (u : ℕ → Bool) (v : ℕ) (rs : List (List ℕ)) → timed_from t v (timed_from u v rs) ≡ timed_from t v rs
  unfolding timed_from
  timed_again u v [] = refl
  timed_again u v (r ∷ rs) = rw (set-set r 7 (flag (u v)) (flag (t v)), timed_again u (suc v) rs)

  -- nor is a mark put into one record
  timed_one : (v i x : ℕ) (rs : List (List ℕ)) → timed_from t v (with_word rs i 7 x) ≡ timed_from t v rs
  unfolding timed_from with_word
  timed_one v i x [] = refl
  timed_one v zero x (r ∷ rs) = rw (set-set r 7 x (flag (t v)))
  timed_one v (suc i) x (r ∷ rs) = ap (λ (l : List (List ℕ)). set r 7 (flag (t v)) ∷ l) (timed_one (suc v) i x rs)

  -- the same marks
  timed_same : (u : ℕ → Bool) (v : ℕ) (rs : List (List ℕ)) → ((i : ℕ) → i < length rs → t (v + i) ≡ u (v + i)) → timed_from t v rs ≡ timed_from u v rs
  unfolding timed_from
  timed_same u v [] h = refl
  timed_same u v (r ∷ rs) h =
      let z : v + 0 ≡ v = omega arith in
      let e : t v ≡ u v = rw z at (h 0 (omega arith)) in
      rw (e, timed_same u (suc v) rs (λ i l. let s : v + suc i ≡ suc v + i = omega arith in rw s at (h (suc i) (omega arith))))

  -- every other word is as it was
  timed_other : (j v : ℕ) (rs : List (List ℕ)) → (j ≡ 7 → ⊥) → column j (timed_from t v rs) ≡ column j rs
  unfolding timed_from column word_of
  timed_other j v [] h = refl
  timed_other j v (r ∷ rs) h = rw (get_or-set_other r 7 j (flag (t v)) 0 h) (ap (λ (l : List ℕ). get_or r j 0 ∷ l) (timed_other j (suc v) rs h))

  -- the marks
  timed_marks : (v i : ℕ) (rs : List (List ℕ)) → i < length rs → 7 < length (get_or rs i []) → get_or (column 7 (timed_from t v rs)) i 0 ≡ flag (t (v + i))
  unfolding timed_from column word_of
  timed_marks v i [] l w = absurd (omega arith)
  timed_marks v zero (r ∷ rs) l w = let z : v ≡ v + 0 = omega arith in get_or-set_same r 7 (flag (t v)) 0 w ∙ ap (λ (n : ℕ). flag (t n)) z
  timed_marks v (suc i) (r ∷ rs) l w = let s : suc v + i ≡ v + suc i = omega arith in timed_marks (suc v) i rs (omega arith) w ∙ ap (λ (n : ℕ). flag (t n)) s

-- ---- an area's records

module _ (z : Sizes) (b : List ℕ) where
  length_vars : length (area_vars b z) ≡ z.vars
  length_vars = length_section 12 z.vars (vars_at z) b

  length_marks : length (marks_in b z) ≡ z.vars
  unfolding column
  length_marks = length-map (area_vars b z) _ ∙ length_vars

  -- each has all its words
  var_long : deps_at z ≤ length b → (v : ℕ) → v < z.vars → length (get_or (area_vars b z) v []) ≡ 12
  unfolding deps_at
  var_long room v h =
      let ws = words (drop (vars_at z + v * (4 * 12)) b) in
      let l : 12 ≤ length ws = length_words 12 (drop (vars_at z + v * (4 * 12)) b) (simp length-drop (omega arith)) in
      ap length (record_placed 12 z.vars (vars_at z) v b h) ∙ length-take-le 12 ws l

  vars_stay_marked : (t : ℕ → Bool) → ((v : ℕ) → v < z.vars → get_or (marks_in b z) v 0 ≡ flag (t v)) → timed_from t 0 (area_vars b z) ≡ area_vars b z
  vars_stay_marked t h = timed_stays t 0 (area_vars b z) (λ i l. rw zero-add (h i (omega (arith, length_vars))))

  vars_same_marks : (t u : ℕ → Bool) → ((v : ℕ) → v < z.vars → t v ≡ u v) → timed_from t 0 (area_vars b z) ≡ timed_from u 0 (area_vars b z)
  vars_same_marks t u h = timed_same t u 0 (area_vars b z) (λ i l. rw zero-add (h i (omega (arith, length_vars))))

-- ---- marks taken over from a round

-- the first v of a table's marks, taken over from a test, and whether one of those was new
pub record Taken (was : List ℕ) (next : ℕ → Bool) (v : ℕ) (changed : Bool) (table : List ℕ) : Type 0 where
  pub filled : Filled 0 (length was) (λ (k : ℕ). flag (next k)) v table
  pub rest : (k : ℕ) → v ≤ k → get_or table k 0 ≡ get_or was k 0
  pub same : changed ≡ false → (k : ℕ) → k < v → flag (next k) ≡ get_or was k 0

module _ (was : List ℕ) (next : ℕ → Bool) where
  taken_none : Taken was next 0 false was
  taken_none = record { filled = filled_none 0 (length was) _ was refl; rest = λ k l. refl; same = λ q k l. absurd (omega arith) }

  taken_more : (v : ℕ) (changed : Bool) (table : List ℕ) → v < length was → Taken was next v changed table
      → Taken was next (v + 1) (changed || not (eqb (get_or table v 0) (flag (next v)))) (set table v (flag (next v)))
  taken_more v changed table l t = record {
    filled = filled_more 0 (length was) _ v (flag (next v)) table l refl t.filled;
    rest = λ k h. get_or-set_other table v k (flag (next v)) 0 (λ q. omega arith) ∙ t.rest k (omega arith);
    same = λ q k h. let (a, b) = or_false changed _ q in go a (not-false _ b) k h (ℕ_discrete k v);
  }
    where
      go : changed ≡ false → eqb (get_or table v 0) (flag (next v)) ≡ true → (k : ℕ) → k < v + 1 → Dec (k ≡ v) → flag (next k) ≡ get_or was k 0
      go a b k h (yes q) = rw q (sym (eqb-true (get_or table v 0) (flag (next v)) b) ∙ t.rest v (omega arith))
      go a b k h (no q) = t.same a k (omega arith)

-- an area in which the first v marks are taken over from a test, by the area at first and as it is
pub record TakenOver (z : Sizes) (b : List ℕ) (next : ℕ → Bool) (v : ℕ) (changed : Bool) (b' : List ℕ) : Type 0 where
  pub kept : VarsAre z b (area_vars b' z) b'
  pub others : timed_from next 0 (area_vars b' z) ≡ timed_from next 0 (area_vars b z)
  pub marks : Taken (marks_in b z) next v changed (marks_in b' z)

module _ (z : Sizes) (b : List ℕ) (next : ℕ → Bool) where
  -- none yet
  pub over_none : TakenOver z b next 0 false b
  over_none = record { kept = vars_stay z b; others = refl; marks = taken_none (marks_in b z) next }

  -- one more
  pub over_more : (v : ℕ) (changed : Bool) (b₁ b₂ : List ℕ) (old : ℕ) → deps_at z ≤ length b → v < z.vars → old ≡ get_or (marks_in b₁ z) v 0
      → VarsAre z b₁ (with_word (area_vars b₁ z) v 7 (flag (next v))) b₂ → TakenOver z b next v changed b₁
      → TakenOver z b next (v + 1) (changed || not (eqb old (flag (next v)))) b₂
  over_more v changed b₁ b₂ old room h e w t =
      let wide : 7 < length (get_or (area_vars b₁ z) v []) = omega (arith, var_long z b₁ (omega (arith, t.kept.long)) v h) in
      let m : marks_in b₂ z ≡ set (marks_in b₁ z) v (flag (next v)) = ap (column 7) w.records ∙ column_set (area_vars b₁ z) v 7 (flag (next v)) wide in
      record {
        kept = vars_then z b b₁ b₂ (area_vars b₁ z) (area_vars b₂ z) t.kept (record { front = w.front; behind = w.behind; long = w.long; records = refl });
        others = ap (timed_from next 0) w.records ∙ timed_one next 0 v (flag (next v)) (area_vars b₁ z) ∙ t.others;
        marks = rw (e, m) (taken_more (marks_in b z) next v changed (marks_in b₁ z) (omega (arith, length_marks z b)) t.marks);
      }

  -- all of them
  pub over_all : (v : ℕ) (changed : Bool) (b' : List ℕ) → z.vars ≤ v → TakenOver z b next v changed b' → VarsAre z b (timed_from next 0 (area_vars b z)) b'
  over_all v changed b' l t = record {
    front = t.kept.front;
    behind = t.kept.behind;
    long = t.kept.long;
    records = sym (vars_stay_marked z b' next (λ w h. t.marks.filled.entry w (omega arith))) ∙ t.others;
  }

-- ---- round by round

module _ (z : Sizes) (b : List ℕ) where
  -- a step more
  timed_step : (k v : ℕ) → timed_by b z (suc k) v ≡ (eqb v 0 || any (timed_by b z k) (deps_in b z v))
  unfolding timed_by reaches
  timed_step k v = refl

  -- where t alone is marked, no step is taken yet
  pub reached_none : ((v : ℕ) → v < z.vars → get_or (marks_in b z) v 0 ≡ flag (eqb v 0)) → VarsAre z b (timed_from (timed_by b z 0) 0 (area_vars b z)) b
  unfolding timed_by reaches
  reached_none h = record {
    front = refl;
    behind = refl;
    long = refl;
    records = sym (vars_stay_marked z b (timed_by b z 0) (λ v l. h v l ∙ ap flag (sym (or_nothing (eqb v 0)))));
  }

-- the marks after k rounds
module _ (z : Sizes) (b : List ℕ) (d : DepsIn z b) (k : ℕ) (b' : List ℕ) (e : VarsAre z b (timed_from (timed_by b z k) 0 (area_vars b z)) b') where
  -- the words but the marks, and so the dependents, are as they were
  column_stays : (j : ℕ) → (j ≡ 7 → ⊥) → column j (area_vars b' z) ≡ column j (area_vars b z)
  column_stays j h = ap (column j) e.records ∙ timed_other (timed_by b z k) j 0 (area_vars b z) h

  deps_same : (v : ℕ) → deps_in b' z v ≡ deps_in b z v
  unfolding deps_in
  deps_same v = rw (column_stays 3 (λ q. omega arith), column_stays 4 (λ q. omega arith), e.behind)

  -- the dependents are there still
  pub deps_stay : DepsIn z b'
  deps_stay = record {
    small = d.small;
    long = omega (arith, d.long, e.long);
    within = λ v h. rw (column_stays 3 (λ q. omega arith), column_stays 4 (λ q. omega arith)) (d.within v h);
    below = λ v h. rw (deps_same v) (d.below v h);
  }

  -- the marks are those of k steps
  marks_now : (v : ℕ) → v < z.vars → get_or (marks_in b' z) v 0 ≡ flag (timed_by b z k v)
  marks_now v h =
      let wide : 7 < length (get_or (area_vars b z) v []) = omega (arith, var_long z b (omega (arith, d.long)) v h) in
      ap (λ (rs : List (List ℕ)). get_or (column 7 rs) v 0) e.records
      ∙ timed_marks (timed_by b z k) 0 v (area_vars b z) (omega (arith, length_vars z b)) wide
      ∙ rw zero-add refl

  module _ (new : List Bool) (r : Round z b' new) where
    -- a round more is a step more
    round_is : (v : ℕ) → v < z.vars → get_or new v false ≡ timed_by b z (suc k) v
    unfolding leads
    round_is v h =
        r.mark v h
        ∙ ap (λ (ds : List ℕ). eqb v 0 || any (leads (marks_in b' z)) ds) (deps_same v)
        ∙ ap (λ (a : Bool). eqb v 0 || a) (any_alike (leads (marks_in b' z)) (timed_by b z k) z.vars (deps_in b z v) (d.below v h) (λ x l. rw (marks_now x l) (flag_one _)))
        ∙ sym (timed_step z b k v)

    module _ (b'' : List ℕ) (w : VarsAre z b' (timed_from (λ v. get_or new v false) 0 (area_vars b' z)) b'') where
      -- the marks taken over are any that the round's agree with
      taken_as : (u : ℕ → Bool) → ((v : ℕ) → v < z.vars → get_or new v false ≡ u v) → VarsAre z b (timed_from u 0 (area_vars b z)) b''
      taken_as u h =
          let t : ℕ → Bool = λ v. get_or new v false in
          vars_then z b b' b'' _ _ e (record {
            front = w.front;
            behind = w.behind;
            long = w.long;
            records = w.records ∙ ap (timed_from t 0) e.records ∙ timed_again t (timed_by b z k) 0 (area_vars b z) ∙ vars_same_marks z b t u h;
          })

      -- after one round more
      pub reached_more : VarsAre z b (timed_from (timed_by b z (k + 1)) 0 (area_vars b z)) b''
      reached_more = rw add-one (taken_as (timed_by b z (suc k)) round_is)

      module _ (same : (v : ℕ) → v < z.vars → flag (get_or new v false) ≡ get_or (marks_in b' z) v 0) where
        -- a step more marks nothing new
        same_step : (v : ℕ) → v < z.vars → timed_by b z (suc k) v ≡ timed_by b z k v
        same_step v h = sym (round_is v h) ∙ sym (flag_one _) ∙ ap (λ (n : ℕ). eqb n 1) (same v h ∙ marks_now v h) ∙ flag_one _

        -- nor do any more
        same_on : (j v : ℕ) → v < z.vars → timed_by b z (j + k) v ≡ timed_by b z k v
        same_on zero v h = let n : 0 + k ≡ k = omega arith in rw n refl
        same_on (suc j) v h =
            let n : suc j + k ≡ suc (j + k) = omega arith in
            ap (λ (i : ℕ). timed_by b z i v) n
            ∙ timed_step z b (j + k) v
            ∙ ap (λ (a : Bool). eqb v 0 || a) (any_alike (timed_by b z (j + k)) (timed_by b z k) z.vars (deps_in b z v) (d.below v h) (same_on j))
            ∙ sym (timed_step z b k v)
            ∙ same_step v h

        -- so all are marked from which t is reached at all
        pub reached_end : k ≤ z.vars → VarsAre z b (timed_from (timed_by b z z.vars) 0 (area_vars b z)) b''
        reached_end l =
            let n : z.vars - k + k ≡ z.vars = omega arith in
            taken_as (timed_by b z z.vars)
            (λ v h. round_is v h ∙ same_step v h ∙ sym (same_on (z.vars - k) v h) ∙ ap (λ (i : ℕ). timed_by b z i v) n)
