-- The variables' records and the header that the code writes are the answer's.
use mathlib.Core.Path.{◌≡◌, refl, sym, ap, ap₂, ◌∙◌}
use mathlib.Core.Bool.{Bool, true, false, cond, not, ◌&&◌, ◌||◌}
use mathlib.Core.List.{List, [], ◌∷◌, ◌++◌, map}
use Prim.Native.Nat.{ℕ, zero, suc, ◌+◌, ◌-◌, ◌*◌, ◌≤◌, ◌<◌}
use native.Mathlib.Omega.{arith}
use native.Mathlib.Numerals.{add-one}
use borrow.Author.Tests.{eq-eqb, ne_eqb, ltb-true, ltb-false}
use lib.Dec.{eqb, ltb}
use lib.ListN.{length, take, get_or, length-append, length-map, get_or-append}
use lib.Seq.{take-suc, length-take-le, get_or_at}
use Rattle.functions.specs.Lists.{each, plus_one, flag, any, member, is_empty}
use Rattle.functions.proofs.Lists.{clash}
use Rattle.ast.specs.Tree.{Unknown}
use Rattle.ast.specs.Words.{word_of, bytes_of}
use Rattle.ast.specs.Encode.{encode}
use Rattle.ast.proofs.Encodes.{length_bytes, encode_append, encode_one}
use Rattle.area.specs.Sections.{column}
use Rattle.area.specs.declared.sections.Sizes.{Sizes}
use Rattle.definitions.specs.Names.{is_reserved, time_name}
use Rattle.definitions.specs.Variables.{Bounds, Variable, from_zero, unbounded, last_bounds, time_bounds, bounds_of, declare, variable_names, variable, variables_of, at, no_variable, is_state, time_index, time_dependent}
use Rattle.definitions.specs.Answer.{Answer, bounds_words, variable_words, variable_records, node_count, deps_of, header}
use Rattle.builder.specs.VarRecords.{is_time, LeadOf, lead_words, var_bounds, unheld_words, unheld_from, unheld_records, with_held, held_in, held_from, head_words}
use Rattle.builder.specs.declared.variables.records.Lead.{Lead}
use Rattle.builder.specs.Fating.{fate_pair}
use Rattle.builder.proofs.laws.FateLaws.{record_pair, held_in_lem, conditions_in}
use Rattle.definitions.proofs.ListLaws.{get_d_map, run_some, flag_one}

-- ---- the header

pub head_is : (a : Answer) (z : Sizes) (errors instances : ℕ) (b : Bounds) → z.nodes ≡ node_count a → z.stmts ≡ length a.stmts → z.vars ≡ length a.vars → z.deps ≡ length (deps_of a)
    → errors ≡ length a.errors → instances ≡ a.instances → b ≡ a.time → head_words z errors instances b ≡ header a
unfolding head_words header
head_is a z errors instances b n s v d e i t = rw (n, s, v, d, e, i, t) refl

-- time's bounds are those declared last for t
pub time_last : (texts : List (List ℕ)) (us : List Unknown) → last_bounds texts (time_name texts) from_zero us ≡ time_bounds texts us
unfolding time_bounds
time_last texts us = refl

-- ---- the records of variables

-- 12 words each
abbrev pub Twelves : List (List ℕ) → Type 0
Twelves [] = Unit {0}
Twelves (r ∷ rs) = (length r ≡ 12) × Twelves rs

-- as bytes
pub length_twelves : (rs : List (List ℕ)) → Twelves rs → length (encode rs) ≡ 48 * length rs
unfolding encode each
length_twelves [] h = refl
length_twelves (r ∷ rs) h = simp (length-append, length_bytes) (omega (arith, h.0, length_twelves rs h.1))

-- before it is known what the variables hold, from variable i on, time-dependent where it is said so
module _ (timed : ℕ → Bool) where
  pub from_twelves : (i first : ℕ) (vs : List Variable) → Twelves (unheld_from timed i first vs)
  unfolding unheld_from unheld_words bounds_words
  from_twelves i first [] = tt
  from_twelves i first (v ∷ vs) = (refl, from_twelves (suc i) (first + length v.deps) vs)

  -- one for each variable
  pub length_from : (i first : ℕ) (vs : List Variable) → length (unheld_from timed i first vs) ≡ length vs
  unfolding unheld_from
  length_from i first [] = refl
  length_from i first (v ∷ vs) = ap suc (length_from (suc i) (first + length v.deps) vs)

  -- what each record says that its variable and its number tell
  from_at : (g : List ℕ → ℕ) (h : ℕ → Variable → ℕ) → ((i first : ℕ) (x : Variable) → g (unheld_words timed i first x) ≡ h i x)
      → (vs : List Variable) (i first v : ℕ) → v < length vs → get_or (map g (unheld_from timed i first vs)) v 0 ≡ h (i + v) (at vs v)
  unfolding unheld_from at
  from_at g h e [] i first v l = absurd (omega arith)
  from_at g h e (x ∷ vs) i first zero l = let z : i ≡ i + 0 = omega arith in e i first x ∙ ap (λ (k : ℕ). h k x) z
  from_at g h e (x ∷ vs) i first (suc v) l =
      let z : suc i + v ≡ i + suc v = omega arith in
      from_at g h e vs (suc i) (first + length x.deps) v (omega arith) ∙ ap (λ (k : ℕ). h k (get_or vs v no_variable)) z

-- of all variables
module _ (vs : List Variable) where
  pub unheld_twelves : Twelves (unheld_records vs)
  unfolding unheld_records
  unheld_twelves = from_twelves (time_dependent vs) 0 0 vs

  pub count_unheld : length (unheld_records vs) ≡ length vs
  unfolding unheld_records
  count_unheld = length_from (time_dependent vs) 0 0 vs

  -- ---- the columns that are read again

  module _ (v : ℕ) (l : v < length vs) where
    -- name plus 1, state, time index plus 1 or 0
    pub column_name : get_or (column 0 (unheld_records vs)) v 0 ≡ (at vs v).name
    unfolding unheld_records unheld_words column word_of
    column_name = from_at (time_dependent vs) (λ r. word_of r 0) (λ i x. x.name) (λ i first x. refl) vs 0 0 v l

    pub column_state : get_or (column 1 (unheld_records vs)) v 0 ≡ flag (is_state (at vs v))
    unfolding unheld_records unheld_words column word_of
    column_state = from_at (time_dependent vs) (λ r. word_of r 1) (λ i x. flag (is_state x)) (λ i first x. refl) vs 0 0 v l

    pub column_index : get_or (column 2 (unheld_records vs)) v 0 ≡ plus_one (time_index (at vs v))
    unfolding unheld_records unheld_words column word_of
    column_index = from_at (time_dependent vs) (λ r. word_of r 2) (λ i x. plus_one (time_index x)) (λ i first x. refl) vs 0 0 v l

    -- whether a rate equation may go to it
    pub column_rate : get_or (map (λ r. flag (eqb (word_of r 1) 1 && eqb (word_of r 7) 1)) (unheld_records vs)) v 0 ≡ flag (is_state (at vs v) && time_dependent vs v)
    unfolding unheld_records unheld_words word_of
    column_rate =
        let z : 0 + v ≡ v = omega arith in
        from_at (time_dependent vs) (λ r. flag (eqb (word_of r 1) 1 && eqb (word_of r 7) 1)) (λ i x. flag (is_state x && time_dependent vs i))
        (λ i first x. ap₂ (λ (s t : Bool). flag (s && t)) (flag_one (is_state x)) (flag_one (time_dependent vs i))) vs 0 0 v l
        ∙ ap (λ (k : ℕ). flag (is_state (at vs v) && time_dependent vs k)) z

-- ---- with what each variable holds

-- by the statements' records with their fates they are the answer's
held_from_lem : (a : Answer) (stmts : List (List ℕ)) → map record_pair stmts ≡ map fate_pair a.fates → (vs : List Variable) (i first : ℕ)
    → held_from stmts i (unheld_from (time_dependent a.vars) i first vs) ≡ variable_records a i first vs
unfolding held_from unheld_from variable_records with_held held_in unheld_words variable_words
held_from_lem a stmts e [] i first = refl
held_from_lem a stmts e (x ∷ vs) i first =
    rw (held_in_lem stmts a.fates e i, conditions_in stmts a.fates e i)
    (ap (λ (rs : List (List ℕ)). variable_words a i first x ∷ rs) (held_from_lem a stmts e vs (suc i) (first + length x.deps)))

-- of all variables
pub held_are : (a : Answer) (stmts : List (List ℕ)) (vs : List Variable) → vs ≡ a.vars → map record_pair stmts ≡ map fate_pair a.fates
    → held_from stmts 0 (unheld_records vs) ≡ variable_records a 0 0 vs
unfolding unheld_records
held_are a stmts vs e f = ap (λ (us : List Variable). held_from stmts 0 (unheld_from (time_dependent us) 0 0 vs)) e ∙ held_from_lem a stmts f vs 0 0

-- what does not read words 5 and 6 reads the same of both
module _ (a : Answer) (vs : List Variable) (e : vs ≡ a.vars) where
  same_words : (g : List ℕ → ℕ) → ((i first : ℕ) (x : Variable) → g (variable_words a i first x) ≡ g (unheld_words (time_dependent a.vars) i first x))
      → map g (variable_records a 0 0 vs) ≡ map g (unheld_records vs)
  unfolding unheld_records variable_records unheld_from
  same_words g h = go vs 0 0 ∙ ap (λ (us : List Variable). map g (unheld_from (time_dependent us) 0 0 vs)) (sym e)
    where
      go : (us : List Variable) (i first : ℕ) → map g (variable_records a i first us) ≡ map g (unheld_from (time_dependent a.vars) i first us)
      go [] i first = refl
      go (x ∷ us) i first = ap₂ ◌∷◌ (h i first x) (go us (suc i) (first + length x.deps))

  -- names, states, time indexes, and what rate equations may go to
  pub names_stay_lem : column 0 (variable_records a 0 0 vs) ≡ column 0 (unheld_records vs)
  unfolding column word_of variable_words unheld_words
  names_stay_lem = same_words (λ r. word_of r 0) (λ i first x. refl)

  pub states_stay : column 1 (variable_records a 0 0 vs) ≡ column 1 (unheld_records vs)
  unfolding column word_of variable_words unheld_words
  states_stay = same_words (λ r. word_of r 1) (λ i first x. refl)

  pub indexes_stay : column 2 (variable_records a 0 0 vs) ≡ column 2 (unheld_records vs)
  unfolding column word_of variable_words unheld_words
  indexes_stay = same_words (λ r. word_of r 2) (λ i first x. refl)

  pub rates_stay : map (λ r. flag (eqb (word_of r 1) 1 && eqb (word_of r 7) 1)) (variable_records a 0 0 vs) ≡ map (λ r. flag (eqb (word_of r 1) 1 && eqb (word_of r 7) 1)) (unheld_records vs)
  unfolding word_of variable_words unheld_words
  rates_stay = same_words (λ r. flag (eqb (word_of r 1) 1 && eqb (word_of r 7) 1)) (λ i first x. refl)

-- ---- one record after the other, where it is said of some variables that they are time-dependent

module _ (timed : ℕ → Bool) where
  -- record v of those from variable i on
  pub record_at : (vs : List Variable) (i first v : ℕ) → v < length vs
      → get_or (unheld_from timed i first vs) v [] ≡ unheld_words timed (i + v) (first + length (each (λ x. x.deps) (take v vs))) (at vs v)
  unfolding unheld_from at each
  record_at [] i first v l = absurd (omega arith)
  record_at (x ∷ vs) i first zero l =
      let a : i ≡ i + 0 = omega arith in
      let b : first ≡ first + 0 = omega arith in
      ap₂ (λ (j n : ℕ). unheld_words timed j n x) a b
  record_at (x ∷ vs) i first (suc v) l =
      let a : suc i + v ≡ i + suc v = omega arith in
      let b : first + length x.deps + length (each (λ y. y.deps) (take v vs)) ≡ first + length (x.deps ++ each (λ y. y.deps) (take v vs)) = simp length-append (omega arith) in
      record_at vs (suc i) (first + length x.deps) v (omega arith) ∙ ap₂ (λ (j n : ℕ). unheld_words timed j n (get_or vs v no_variable)) a b

  -- one record more
  pub records_more : (vs : List Variable) (v : ℕ) → v < length vs
      → encode (take (v + 1) (unheld_from timed 0 0 vs)) ≡ encode (take v (unheld_from timed 0 0 vs)) ++ bytes_of (unheld_words timed v (length (each (λ x. x.deps) (take v vs))) (at vs v))
  records_more vs v l =
      let rs = unheld_from timed 0 0 vs in
      let n : v < length rs = omega (arith, length_from timed 0 0 vs) in
      let a : 0 + v ≡ v = omega arith in
      let b : 0 + length (each (λ x. x.deps) (take v vs)) ≡ length (each (λ x. x.deps) (take v vs)) = omega arith in
      rw (add-one, take-suc rs v [] n)
      (encode_append (take v rs) (get_or rs v [] ∷ [])
      ∙ ap (λ (b : List ℕ). encode (take v rs) ++ b) (encode_one (get_or rs v []) ∙ ap bytes_of (record_at vs 0 0 v l ∙ ap₂ (λ (j k : ℕ). unheld_words timed j k (at vs v)) a b)))

  -- the bytes of the first v
  pub length_first : (vs : List Variable) (v : ℕ) → v ≤ length vs → length (encode (take v (unheld_from timed 0 0 vs))) ≡ 48 * v
  length_first vs v l =
      let rs = unheld_from timed 0 0 vs in
      length_twelves (take v rs) (twelves_take v rs (from_twelves timed 0 0 vs))
      ∙ ap (λ (n : ℕ). 48 * n) (length-take-le v rs (omega (arith, length_from timed 0 0 vs)))
    where
      twelves_take : (v : ℕ) (rs : List (List ℕ)) → Twelves rs → Twelves (take v rs)
      twelves_take zero rs h = tt
      twelves_take (suc v) [] h = tt
      twelves_take (suc v) (r ∷ rs) h = (h.0, twelves_take v rs h.1)

-- a variable's words by what its record's lead says
pub lead_words_lem : (l : Lead) (v first end : ℕ) (x : Variable) (b : Bounds) → LeadOf l v x.name first end x.deps → end ≡ first + length x.deps → b ≡ x.bounds
    → lead_words l.name l.first l.end l.index l.time ++ bounds_words b ≡ unheld_words is_time v first x
unfolding lead_words unheld_words is_state time_index
lead_words_lem l v first end x b h e eb =
    let n : end - first ≡ length x.deps = omega arith in
    let s : ltb first end ≡ not (is_empty x.deps) = run_some first end x.deps e in
    rw (h.name_of, h.first_of, h.end_of, h.index_of, h.time_of, n, s, eb) refl

-- ---- bounds of the variables of a model

-- t stands first and nowhere else
pub record FirstOnly (t : ℕ) (vs : List ℕ) : Type 0 where
  pub some : 0 < length vs
  pub first : get_or vs 0 0 ≡ t
  pub others : (v : ℕ) → 0 < v → v < length vs → get_or vs v 0 ≡ t → ⊥

no_member : (x : ℕ) (vs : List ℕ) (v : ℕ) → v < length vs → member x vs ≡ false → get_or vs v 0 ≡ x → ⊥
unfolding member any
no_member x [] v h e g = omega arith
no_member x (y ∷ vs) zero h e g = let t : eqb x y ≡ true = eq-eqb x y (sym g) in let q : true ≡ false = (rw t at e) in clash (cc)
no_member x (y ∷ vs) (suc v) h e g = no_member x vs v (omega arith) (behind (eqb x y) e) g
  where
    behind : (b : Bool) → b || any (eqb x) vs ≡ false → any (eqb x) vs ≡ false
    behind true e = clash (cc)
    behind false e = e

module _ (texts : List (List ℕ)) (t : ℕ) where
  one_more : (x : ℕ) (vs : List ℕ) → FirstOnly t vs → member x vs ≡ false → FirstOnly t (vs ++ x ∷ [])
  one_more x vs f e =
      let l : length (vs ++ x ∷ []) ≡ length vs + 1 = simp length-append refl in
      record {
        some = omega (arith, l, f.some);
        first = get_or-append vs (x ∷ []) 0 0 f.some ∙ f.first;
        others = λ v p h g. by v p (omega (arith, l, h)) g (ltb v (length vs)) refl;
      }
    where
      by : (v : ℕ) → 0 < v → v < length vs + 1 → get_or (vs ++ x ∷ []) v 0 ≡ t → (b : Bool) → ltb v (length vs) ≡ b → ⊥
      by v p h g true k = let q = ltb-true v (length vs) k in f.others v p q (sym (get_or-append vs (x ∷ []) 0 v q) ∙ g)
      by v p h g false k =
          let q = ltb-false v (length vs) k in
          let z : v ≡ length vs = omega arith in
          let y : get_or (vs ++ x ∷ []) v 0 ≡ x = get_or_at vs x [] 0 v (sym z) in
          no_member x vs 0 f.some e (f.first ∙ sym g ∙ y)

  declared_first : (us : List Unknown) (vs : List ℕ) → FirstOnly t vs → FirstOnly t (declare texts vs us)
  unfolding declare
  declared_first [] vs f = f
  declared_first (u ∷ us) vs f = declared_first us _ (by (is_reserved texts u.name) (member (suc u.name) vs) refl)
    where
      by : (a b : Bool) → member (suc u.name) vs ≡ b → FirstOnly t (cond (a || b) vs (vs ++ suc u.name ∷ []))
      by true b e = f
      by false true e = f
      by false false e = one_more (suc u.name) vs f e

pub names_first : (texts : List (List ℕ)) (us : List Unknown) → FirstOnly (time_name texts) (variable_names texts us)
unfolding variable_names
names_first texts us =
    declared_first texts (time_name texts) us (time_name texts ∷ []) (record { some = omega arith; first = refl; others = λ v p h g. omega arith })

-- Variable v's bounds by its number and name.
pub own_bounds_lem : (texts : List (List ℕ)) (us : List Unknown) (v : ℕ) → v < length (variables_of texts us) → var_bounds texts us v (at (variables_of texts us) v).name ≡ (at (variables_of texts us) v).bounds
unfolding variables_of at variable var_bounds bounds_of
own_bounds_lem texts us v h =
    let l : v < length (variable_names texts us) = omega (arith, length-map (variable_names texts us) (variable texts (variable_names texts us) us)) in
    let e : at (variables_of texts us) v ≡ variable texts (variable_names texts us) us (get_or (variable_names texts us) v 0) = get_d_map (variable texts (variable_names texts us) us) (variable_names texts us) v 0 no_variable l in
    rw e (ap (λ (b : Bool). cond b from_zero (last_bounds texts (get_or (variable_names texts us) v 0) unbounded us)) (same v l (names_first texts us)))
  where
    same : (v : ℕ) → v < length (variable_names texts us) → FirstOnly (time_name texts) (variable_names texts us) → eqb v 0 ≡ eqb (get_or (variable_names texts us) v 0) (time_name texts)
    same zero l f = sym (eq-eqb (get_or (variable_names texts us) 0 0) (time_name texts) f.first)
    same (suc v) l f = ne_eqb (suc v) 0 (λ q. omega arith) ∙ sym (ne_eqb (get_or (variable_names texts us) (suc v) 0) (time_name texts) (f.others (suc v) (omega arith) l))
