-- The table of a scope's variables, unknown after unknown: which names are variables, and how many kept dependents each has.
use mathlib.Core.Path.{◌≡◌, refl, sym, ap, ◌∙◌}
use mathlib.Core.Bool.{Bool, true, false, cond, not, ◌||◌, or-true, or-false}
use mathlib.Core.List.{List, [], ◌∷◌, ◌++◌, append-nil, map}
use mathlib.Core.Option.{Option, none, some}
use Prim.Native.Nat.{ℕ, zero, suc, ◌+◌, ◌≤◌, ◌<◌}
use native.Mathlib.Omega.{arith}
use native.Mathlib.Decide.{ℕ_discrete}
use native.Mathlib.Numerals.{add-one}
use borrow.Author.Tests.{eqb-true, eq-eqb, ne_eqb}
use lib.Dec.{eqb, leb}
use lib.ListN.{length, take, drop, get_or, set, length-set, length-append}
use lib.Seq.{take-suc, take_all, get_or-set_same, get_or-set_other}
use Rattle.functions.specs.Lists.{any, place_from, place, plus_one, text, same_text, member, flag, each, sum_of, to_list}
use Rattle.functions.proofs.Lists.{clash}
use Rattle.ast.specs.Tree.{Unknown}
use Rattle.ast.specs.Words.{word_of}
use Rattle.ast.specs.Records.{unknown_of}
use Rattle.ast.specs.Opens.{contents_in, file_in}
use Rattle.ast.specs.declared.sections.Sections.{Sections}
use Rattle.ast.proofs.Encodes.{each_append}
use Rattle.definitions.specs.Names.{text_of, spells, is_time, is_reserved, time_name}
use Rattle.definitions.specs.Variables.{Variable, declare, variable_names, number_of, kept_deps, variable, variables_of, no_variable, at}
use Rattle.definitions.specs.Check.{Scope, lookup}
use Rattle.definitions.specs.Flatten.{model_at, scope_of}
use Rattle.builder.specs.declared.names.Class.{Class}
use Rattle.builder.specs.declared.names.Class.TheVariants.{Time}
use Rattle.builder.specs.contracts.names.ClassPartialEq.TheImpl.{ghosts}
use Rattle.builder.specs.Tables.{class_number, Classes, Marks, kept_in, entry_of, VarsOf}
use Rattle.builder.specs.Checking.{scope_in, unknown_in}
use Rattle.builder.proofs.laws.Classes.{entry_time, entry_reserved}
use Rattle.builder.proofs.laws.PutWords.{each_fits, of_named}
use Rattle.definitions.proofs.ListLaws.{any_append, place_below}

-- ---- whether name n is t

pub time_test : (names : List (List ℕ)) (cs : List Class) → Classes names cs → (n : ℕ) → n < length names → same_text (text "t") (get_or names n []) ≡ ghosts.eq (get_or cs n Time) Time
unfolding is_time spells text_of
time_test names cs h n l = sym (entry_time h n l)

-- ---- the names of variables, one unknown more

module _ (names : List (List ℕ)) where
  abbrev pub one_more : List ℕ → Unknown → List ℕ
  one_more vs u = cond (is_reserved names u.name || member (suc u.name) vs) vs (vs ++ suc u.name ∷ [])

  pub declare_last : (us : List Unknown) (vs : List ℕ) (u : Unknown) → declare names vs (us ++ u ∷ []) ≡ one_more (declare names vs us) u
  unfolding declare
  declare_last [] vs u = refl
  declare_last (w ∷ us) vs u = declare_last us _ u

  -- a reserved name adds none
  pub more_reserved : (vs : List ℕ) (u : Unknown) → is_reserved names u.name ≡ true → one_more vs u ≡ vs
  more_reserved vs u e = rw e refl

  -- another is one of them
  more_member : (y : ℕ) (vs : List ℕ) (u : Unknown) → is_reserved names u.name ≡ false → member y (one_more vs u) ≡ (member y vs || eqb y (suc u.name))
  unfolding member any
  more_member y vs u e = rw e (go (member (suc u.name) vs) refl)
    where
      go : (d : Bool) → member (suc u.name) vs ≡ d → member y (cond d vs (vs ++ suc u.name ∷ [])) ≡ (member y vs || eqb y (suc u.name))
      go true q = same (eqb y (suc u.name)) refl
        where
          same : (x : Bool) → eqb y (suc u.name) ≡ x → member y vs ≡ (member y vs || x)
          same true z = let w : y ≡ suc u.name = eqb-true _ _ z in let v : member y vs ≡ true = ap (λ (k : ℕ). member k vs) w ∙ q in rw v refl
          same false z = sym (or-false (member y vs))
      go false q = any_append (eqb y) vs (suc u.name ∷ []) ∙ ap (λ (x : Bool). any (eqb y) vs || x) (or-false (eqb y (suc u.name)))

  -- the marks, with its name
  pub marks_more : (n : ℕ) (vs t : List ℕ) (u : Unknown) → u.name < n → n ≤ 256 → is_reserved names u.name ≡ false → Marks n vs t → Marks n (one_more vs u) (set t u.name 1)
  unfolding flag
  marks_more n vs t u l w e m = record { long = simp length-set m.long; mark = λ k h. rw (more_member (suc k) vs u e) (go k h (ℕ_discrete k u.name)) }
    where
      go : (k : ℕ) → k < n → Dec (k ≡ u.name) → get_or (set t u.name 1) k 0 ≡ flag (member (suc k) vs || eqb (suc k) (suc u.name))
      go k h (yes q) =
          let z : eqb (suc k) (suc u.name) ≡ true = eq-eqb _ _ (ap suc q) in
          rw (z, or-true (member (suc k) vs), q) (get_or-set_same t u.name 1 0 (omega (arith, m.long)))
      go k h (no q) =
          let z : eqb (suc k) (suc u.name) ≡ false = ne_eqb _ _ (λ (p : suc k ≡ suc u.name). q (omega (arith, p))) in
          rw (z, or-false (member (suc k) vs)) (get_or-set_other t u.name k 1 0 q ∙ m.mark k h)

-- ---- marks, from t's on

below_of : (o : Option ℕ) (n : ℕ) → ((i : ℕ) → o ≡ some i → i < n) → plus_one o ≤ n
unfolding plus_one
below_of none n g = omega arith
below_of (some i) n g = omega (arith, g i refl)

pub time_below : (names : List (List ℕ)) → time_name names ≤ length names
unfolding time_name place
time_below names = below_of (place_from 0 (same_text (text "t")) names) (length names) (λ i e. omega (arith, place_below (same_text (text "t")) 0 names i e))

one_member : (k x : ℕ) → member k (x ∷ []) ≡ eqb k x
unfolding member any
one_member k x = or-false (eqb k x)

module _ (n x : ℕ) (t : List ℕ) (long : length t ≡ 256) (e : (k : ℕ) → get_or t k 0 ≡ 0) where
  -- where no name is t
  pub marks_none : 0 ≡ x → Marks n (x ∷ []) t
  unfolding flag
  marks_none z = record { long = long; mark = λ k h. e k ∙ sym (ap flag (one_member (suc k) x ∙ ne_eqb (suc k) x (λ (q : suc k ≡ x). omega arith))) }

  -- where name y is
  pub marks_time : (y : ℕ) → suc y ≡ x → y < 256 → Marks n (x ∷ []) (set t y 1)
  unfolding flag
  marks_time y z l = record { long = simp length-set long; mark = λ k h. go k (ℕ_discrete k y) }
    where
      go : (k : ℕ) → Dec (k ≡ y) → get_or (set t y 1) k 0 ≡ flag (member (suc k) (x ∷ []))
      go k (yes q) =
          let p : suc k ≡ x = omega (arith, z, q) in
          rw q (get_or-set_same t y 1 0 (omega (arith, long))) ∙ sym (ap flag (one_member (suc k) x ∙ eq-eqb (suc k) x p))
      go k (no q) = get_or-set_other t y k 1 0 q ∙ e k ∙ sym (ap flag (one_member (suc k) x ∙ ne_eqb (suc k) x (λ (p : suc k ≡ x). q (omega (arith, p, z)))))

-- ---- marks with the unknown at place i, u, whose name is x

module _ (names : List (List ℕ)) (cs : List Class) (h : Classes names cs) (us : List Unknown) (vs : List ℕ) (u : Unknown) (i : ℕ) (l : i < length us) (e : get_or us i u ≡ u)
    (n x : ℕ) (b : Bool) (t : List ℕ) (en : length names ≡ n) (ex : x ≡ u.name) (lx : x < n) (eb : b ≡ leb (class_number (get_or cs x Time)) 5) (m : Marks n (declare names vs (take i us)) t) where
  declare_next : declare names vs (take (i + 1) us) ≡ one_more names (declare names vs (take i us)) u
  declare_next = rw (add-one, take-suc us i u, e) (declare_last names (take i us) vs u)

  reserved_is : is_reserved names u.name ≡ b
  reserved_is = ap (is_reserved names) (sym ex) ∙ sym (entry_reserved h x (omega (arith, en, lx))) ∙ sym eb

  -- its name is reserved, or it is not
  pub marks_kept : b ≡ true → Marks n (declare names vs (take (i + 1) us)) t
  marks_kept y = rw (declare_next, more_reserved names (declare names vs (take i us)) u (reserved_is ∙ y)) m

  pub marks_next : n ≤ 256 → b ≡ false → Marks n (declare names vs (take (i + 1) us)) (set t x 1)
  marks_next w y = rw (declare_next, ex) (marks_more names n (declare names vs (take i us)) t u (omega (arith, ex, lx)) w (reserved_is ∙ y) m)

-- all of them
pub marks_all : (names : List (List ℕ)) (us : List Unknown) (n i : ℕ) (t : List ℕ) → length us ≤ i → Marks n (declare names (time_name names ∷ []) (take i us)) t → Marks n (variable_names names us) t
unfolding variable_names
marks_all names us n i t l m = let e : take i us ≡ us = take_all i us l in rw e at m

-- none of them yet
pub marks_begin : (names : List (List ℕ)) (us : List Unknown) (n : ℕ) (t : List ℕ) → Marks n (time_name names ∷ []) t → Marks n (declare names (time_name names ∷ []) (take 0 us)) t
unfolding declare
marks_begin names us n t m = m

-- the name of unknown u by its record
pub name_of : (f : List ℕ) (s : Sections) (u : ℕ) → (unknown_in f s u).name ≡ word_of (get_or (contents_in f s).unknowns u []) 0
unfolding unknown_of
name_of f s u = refl

-- ---- entries: one more than the kept dependents among the unknowns passed

abbrev pub entry_by : List ℕ → List Unknown → ℕ → ℕ
entry_by vs us k = cond (member (suc k) vs) (suc (length (kept_deps vs us (suc k)))) 0

pub record Counted (n : ℕ) (vs : List ℕ) (us : List Unknown) (t : List ℕ) : Type 0 where
  pub long : length t ≡ 256
  pub entry : (k : ℕ) → k < n → get_or t k 0 ≡ entry_by vs us k

pub counted_begin : (n : ℕ) (vs : List ℕ) (us : List Unknown) (t : List ℕ) → Marks n vs t → Counted n vs (take 0 us) t
unfolding kept_deps each flag
counted_begin n vs us t m = record { long = m.long; entry = λ k h. m.mark k h ∙ go (member (suc k) vs) }
  where
    go : (b : Bool) → flag b ≡ cond b (suc zero) zero
    go true = refl
    go false = refl

found_length : (p : ℕ → Bool) (k : ℕ) (xs : List ℕ) → length (to_list (place_from k p xs)) ≡ flag (any p xs)
unfolding place_from to_list any flag
found_length p k [] = refl
found_length p k (x ∷ xs) = go (p x) (found_length p (suc k) xs)
  where
    go : (b : Bool) → length (to_list (place_from (suc k) p xs)) ≡ flag (any p xs) → length (to_list (cond b (some k) (place_from (suc k) p xs))) ≡ flag (b || any p xs)
    go true e = refl
    go false e = e

one_kept_is : (b : Bool) (l : ℕ) → flag b ≡ flag (not (eqb (cond b (suc l) 0) 0))
one_kept_is true l = rw (ne_eqb (suc l) 0 (λ (e : suc l ≡ 0). omega arith)) refl
one_kept_is false l = refl

kept_last : (vs : List ℕ) (us : List Unknown) (u : Unknown) (v : ℕ) → kept_deps vs (us ++ u ∷ []) v ≡ kept_deps vs us v ++ cond (eqb (suc u.name) v) (each (λ d. to_list (number_of vs d)) u.deps) []
unfolding kept_deps each
kept_last vs us u v = each_append _ us (u ∷ []) ∙ ap (λ (z : List ℕ). kept_deps vs us v ++ z) (append-nil _)

module _ {n : ℕ} {vs : List ℕ} {us : List Unknown} {t : List ℕ} (m : Counted n vs us t) where
  dep_length_lem : (d : ℕ) → d < n → length (to_list (number_of vs d)) ≡ flag (not (eqb (get_or t d 0) 0))
  unfolding number_of place member
  dep_length_lem d h = found_length (eqb (suc d)) 0 vs ∙ one_kept_is (any (eqb (suc d)) vs) (length (kept_deps vs us (suc d))) ∙ sym (ap (λ (y : ℕ). flag (not (eqb y 0))) (m.entry d h))

  deps_length : (ds : List ℕ) → ((j : ℕ) → j < length ds → get_or ds j 0 < n) → length (each (λ d. to_list (number_of vs d)) ds) ≡ kept_in t ds
  unfolding each kept_in sum_of
  deps_length [] g = refl
  deps_length (d ∷ ds) g =
      let a = dep_length_lem d (g 0 (omega arith)) in
      let b = deps_length ds (λ j l. g (suc j) (omega arith)) in
      length-append (to_list (number_of vs d)) _ ∙ omega (arith, a, b)

  -- one unknown more, of the name x
  module _ (u : Unknown) (x : ℕ) (ex : x ≡ u.name) (lx : x < n) where
    others : (k : ℕ) → (k ≡ x → ⊥) → entry_by vs (us ++ u ∷ []) k ≡ entry_by vs us k
    others k q =
        let y : eqb (suc u.name) (suc k) ≡ false = ne_eqb (suc u.name) (suc k) (λ (p : suc u.name ≡ suc k). q (omega (arith, ex, p))) in
        ap (λ (l : List ℕ). cond (member (suc k) vs) (suc (length l)) 0) (kept_last vs us u (suc k) ∙ rw y (append-nil _))

    -- which is no variable's
    pub counted_same : get_or t x 0 ≡ 0 → Counted n vs (us ++ u ∷ []) t
    counted_same z = record { long = m.long; entry = λ k h. go k h (ℕ_discrete k x) }
      where
        at_x : (b : Bool) → member (suc x) vs ≡ b → get_or t x 0 ≡ entry_by vs (us ++ u ∷ []) x
        at_x true e = let a : get_or t x 0 ≡ suc (length (kept_deps vs us (suc x))) = m.entry x lx ∙ rw e refl in absurd (omega arith)
        at_x false e = z ∙ rw e refl

        go : (k : ℕ) → k < n → Dec (k ≡ x) → get_or t k 0 ≡ entry_by vs (us ++ u ∷ []) k
        go k h (yes q) = rw q (at_x (member (suc x) vs) refl)
        go k h (no q) = m.entry k h ∙ sym (others k q)

    -- or one's
    pub counted_more : (kept : ℕ) → (get_or t x 0 ≡ 0 → ⊥) → n ≤ 256 → kept ≡ kept_in t u.deps → ((j : ℕ) → j < length u.deps → get_or u.deps j 0 < n) → Counted n vs (us ++ u ∷ []) (set t x (get_or t x 0 + kept))
    counted_more kept z w ek g = record { long = simp length-set m.long; entry = λ k h. go k h (ℕ_discrete k x) }
      where
        at_x : (b : Bool) → member (suc x) vs ≡ b → get_or t x 0 + kept ≡ entry_by vs (us ++ u ∷ []) x
        at_x true e =
            let a : get_or t x 0 ≡ suc (length (kept_deps vs us (suc x))) = m.entry x lx ∙ rw e refl in
            let y : eqb (suc u.name) (suc x) ≡ true = eq-eqb (suc u.name) (suc x) (ap suc (sym ex)) in
            let p : kept_deps vs (us ++ u ∷ []) (suc x) ≡ kept_deps vs us (suc x) ++ each (λ d. to_list (number_of vs d)) u.deps = kept_last vs us u (suc x) ∙ rw y refl in
            let l : length (kept_deps vs (us ++ u ∷ []) (suc x)) ≡ length (kept_deps vs us (suc x)) + kept = omega (arith, ap length p, length-append (kept_deps vs us (suc x)) (each (λ d. to_list (number_of vs d)) u.deps), deps_length u.deps g, ek) in
            rw e (omega (arith, a, l))
        at_x false e = absurd (z (m.entry x lx ∙ rw e refl))

        go : (k : ℕ) → k < n → Dec (k ≡ x) → get_or (set t x (get_or t x 0 + kept)) k 0 ≡ entry_by vs (us ++ u ∷ []) k
        go k h (yes q) = rw q (get_or-set_same t x (get_or t x 0 + kept) 0 (omega (arith, m.long)) ∙ at_x (member (suc x) vs) refl)
        go k h (no q) = get_or-set_other t x k (get_or t x 0 + kept) 0 q ∙ m.entry k h ∙ sym (others k q)

-- ---- the entries of a scope

drop_tail : {A : Type 0} (all : List A) (j : ℕ) (z : A) (zs : List A) → drop j all ≡ z ∷ zs → drop (suc j) all ≡ zs
drop_tail [] zero z zs e = clash (cc)
drop_tail [] (suc j) z zs e = clash (cc)
drop_tail (a ∷ all) zero z zs e = cc
drop_tail (a ∷ all) (suc j) z zs e = drop_tail all j z zs e

drop_head : {A : Type 0} (all : List A) (j : ℕ) (z d : A) (zs : List A) → drop j all ≡ z ∷ zs → get_or all j d ≡ z
drop_head [] zero z d zs e = clash (cc)
drop_head [] (suc j) z d zs e = clash (cc)
drop_head (a ∷ all) zero z d zs e = cc
drop_head (a ∷ all) (suc j) z d zs e = drop_head all j z d zs e

module _ (names : List (List ℕ)) (vs : List ℕ) (us : List Unknown) (c : Scope) (y : ℕ) where
  entry_from : (j : ℕ) (xs : List ℕ) → drop j c.vars ≡ map (variable names vs us) xs
      → entry_of c (place_from j (λ v. eqb y v.name) (map (variable names vs us) xs)) ≡ cond (any (eqb y) xs) (suc (length (kept_deps vs us y))) 0
  unfolding place_from any entry_of variable at
  entry_from j [] e = refl
  entry_from j (x ∷ xs) e = go (eqb y x) refl (entry_from (suc j) xs (drop_tail c.vars j _ _ e))
    where
      go : (b : Bool) → eqb y x ≡ b
          → entry_of c (place_from (suc j) (λ v. eqb y v.name) (map (variable names vs us) xs)) ≡ cond (any (eqb y) xs) (suc (length (kept_deps vs us y))) 0
          → entry_of c (cond b (some j) (place_from (suc j) (λ v. eqb y v.name) (map (variable names vs us) xs))) ≡ cond (b || any (eqb y) xs) (suc (length (kept_deps vs us y))) 0
      go true q r = ap (λ (w : Variable). suc (length w.deps)) (drop_head c.vars j _ no_variable _ e) ∙ ap (λ (z : ℕ). suc (length (kept_deps vs us z))) (sym (eqb-true y x q))
      go false q r = r

pub counted_vars : (f : List ℕ) (s : Sections) (m n i : ℕ) (t : List ℕ) → length (file_in f s).names ≡ n → length (model_at (file_in f s) m).unknowns ≤ i
    → Counted n (variable_names (file_in f s).names (model_at (file_in f s) m).unknowns) (take i (model_at (file_in f s) m).unknowns) t → VarsOf (scope_in f s m) t
unfolding scope_of variables_of lookup place member
counted_vars f s m n i t en l c =
    let us = (model_at (file_in f s) m).unknowns in
    let names = (file_in f s).names in
    let e : take i us ≡ us = take_all i us l in
    let d = rw e at c in
    record { var = λ k h. d.entry k (omega (arith, en, h)) ∙ sym (entry_from names (variable_names names us) us (scope_in f s m) (suc k) 0 (variable_names names us) refl) }

pub counted_next : (n i : ℕ) (vs : List ℕ) (us : List Unknown) (t : List ℕ) (u : Unknown) → i < length us → get_or us i u ≡ u → Counted n vs (take i us ++ u ∷ []) t → Counted n vs (take (i + 1) us) t
counted_next n i vs us t u l e c = let q : take (i + 1) us ≡ take i us ++ u ∷ [] = rw (add-one, take-suc us i u, e) refl in rw q c

-- ---- an entry is small: a model's kept dependents are at most as many as the file's dependents

member_fits : (g : ℕ → List ℕ) (y : ℕ) (vs : List ℕ) → member y vs ≡ true → length (g y) ≤ length (each g vs)
unfolding member any each
member_fits g y [] h = clash (cc)
member_fits g y (v ∷ vs) h = rw length-append (go (eqb y v) refl h (member_fits g y vs))
  where
    go : (b : Bool) → eqb y v ≡ b → b || any (eqb y) vs ≡ true → (member y vs ≡ true → length (g y) ≤ length (each g vs)) → length (g y) ≤ length (g v) + length (each g vs)
    go true e h more = let q : y ≡ v = eqb-true y v e in rw q (omega arith)
    go false e h more = omega (arith, more h)

pub counted_few : (n i : ℕ) (vs : List ℕ) (us : List Unknown) (t : List ℕ) → Counted n vs (take i us) t → length (each (kept_deps vs us) vs) ≤ 1024 → (k : ℕ) → k < n → get_or t k 0 ≤ 1025
unfolding kept_deps of_named
counted_few n i vs us t c few k h = go (member (suc k) vs) refl
  where
    go : (b : Bool) → member (suc k) vs ≡ b → get_or t k 0 ≤ 1025
    go true e =
        let a : get_or t k 0 ≡ suc (length (kept_deps vs (take i us) (suc k))) = c.entry k h ∙ rw e refl in
        omega (arith, a, each_fits (of_named vs (suc k)) us i, member_fits (kept_deps vs us) (suc k) vs e, few)
    go false e =
        let a : get_or t k 0 ≡ 0 = c.entry k h ∙ rw e refl in
        omega (arith, a)
