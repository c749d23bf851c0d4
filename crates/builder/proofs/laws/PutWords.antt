-- Words put one run after the other behind those there are: the kept dependents of an unknown, of a name and of all variables.
use mathlib.Core.Path.{◌≡◌, refl, sym, ap, ◌∙◌}
use mathlib.Core.Bool.{cond}
use mathlib.Core.List.{List, [], ◌∷◌, ◌++◌, append-nil, map}
use mathlib.Core.Option.{Option, none, some}
use Prim.Native.Nat.{ℕ, zero, suc, ◌+◌, ◌-◌, ◌*◌, ◌≤◌, ◌<◌}
use native.Mathlib.Numerals.{add-one, sub-one}
use native.Mathlib.Omega.{arith}
use lib.Dec.{eqb}
use lib.ListN.{length, take, drop, get_or, length-append, take-append-drop}
use lib.Seq.{take-suc, take_all}
use Rattle.functions.specs.Lists.{each, plus_one, to_list}
use Rattle.ast.specs.Tree.{Unknown}
use Rattle.ast.specs.Words.{bytes_of}
use Rattle.ast.specs.File.{contents_of}
use Rattle.ast.specs.Opens.{Open, contents_in, file_in}
use Rattle.ast.specs.declared.sections.Sections.{Sections}
use Rattle.ast.specs.Bytes.{put}
use Rattle.ast.proofs.Encodes.{each_append, length_bytes}
use Rattle.definitions.specs.Variables.{number_of, kept_deps, variable_names, variable, variables_of}
use Rattle.builder.specs.VariableTables.{Numbers, one_below, kept_by, unknowns_in, roster_in}
use Rattle.definitions.specs.Flatten.{model_at}
use Rattle.definitions.proofs.Counts.{length_kept}
use Rattle.definitions.proofs.Opened.{contents_listed}
use Rattle.area.proofs.Puts.{words_none, length_put, put_more}

-- ---- one run for each element of a list

module _ {A : Type 0} (g : A → List ℕ) (xs : List A) where
  -- the runs of one element more
  pub each_take : (d : A) (i : ℕ) → i < length xs → each g (take (i + 1) xs) ≡ each g (take i xs) ++ g (get_or xs i d)
  unfolding each
  each_take d i h = rw (add-one, take-suc xs i d h) (each_append g (take i xs) (get_or xs i d ∷ []) ∙ ap (λ (e : List ℕ). each g (take i xs) ++ e) (append-nil (g (get_or xs i d))))

  -- are no more than all
  pub each_fits : (i : ℕ) → length (each g (take i xs)) ≤ length (each g xs)
  each_fits i =
      let e : each g (take i xs) ++ each g (drop i xs) ≡ each g xs = sym (each_append g (take i xs) (drop i xs)) ∙ ap (each g) (take-append-drop i xs) in
      omega (arith, simp length-append at (ap length e))

  -- the runs of the first i elements are put behind `done` words, and then there are `total`
  pub record Runs (d₀ : List ℕ) (done i : ℕ) (d : List ℕ) (total : ℕ) : Type 0 where
    pub sum : total ≡ done + length (each g (take i xs))
    pub bytes : d ≡ put d₀ (4 * done) (bytes_of (each g (take i xs)))

  module _ (d₀ : List ℕ) (done : ℕ) (room : 4 * (done + length (each g xs)) ≤ length d₀) where
    -- none is put yet
    pub runs_first : Runs d₀ done 0 d₀ done
    unfolding each
    runs_first = record { sum = omega arith; bytes = sym (words_none d₀ (4 * done)) }

    module _ (i : ℕ) (d : List ℕ) (total : ℕ) (r : Runs d₀ done i d total) where
      -- the length stays
      pub runs_length : length d ≡ length d₀
      runs_length = ap length r.bytes ∙ length_put d₀ (bytes_of (each g (take i xs))) (4 * done) (rw length_bytes (omega (arith, each_fits i)))

      -- there is room for the next
      pub runs_room : (o x : A) → i < length xs → x ≡ get_or xs i o → 4 * (total + length (g x)) ≤ length d
      runs_room o x h e =
          let t = each_fits (i + 1) in
          rw (e, runs_length) (omega (arith, r.sum, simp length-append at (ap length (each_take o i h)), t))

      -- the next is put
      pub runs_next : (o x : A) (d' : List ℕ) (total' : ℕ) → i < length xs → x ≡ get_or xs i o → total' ≡ total + length (g x) → d' ≡ put d (4 * total) (bytes_of (g x)) → Runs d₀ done (i + 1) d' total'
      runs_next o x d' total' h e et ed =
          let q : each g (take (i + 1) xs) ≡ each g (take i xs) ++ g x = each_take o i h ∙ ap (λ (y : A). each g (take i xs) ++ g y) (sym e) in
          record {
            sum = rw (q, length-append) (omega (arith, r.sum));
            bytes = rw q (ed ∙ put_more d₀ d (each g (take i xs)) (4 * done) (4 * total) (omega (arith, r.sum)) r.bytes (g x) (omega arith));
          }

      -- all are put
      pub runs_last : length xs ≤ i → (total ≡ done + length (each g xs)) × (d ≡ put d₀ (4 * done) (bytes_of (each g xs)))
      runs_last h = let e = take_all i xs h in (rw e at r.sum, rw e at r.bytes)

-- ---- a kept dependent

-- none
pub below_none : (v : ℕ) → v ≡ 0 → one_below v ≡ []
unfolding one_below
below_none zero e = refl
below_none (suc v) e = absurd (omega arith)

-- one
pub below_one : (v : ℕ) → (v ≡ 0 → ⊥) → one_below v ≡ (v - 1) ∷ []
unfolding one_below
below_one zero h = absurd (h refl)
below_one (suc v) h = rw (sub-one (suc v))

-- by the table of numbers what is kept is what has a number
unfoldable pub numbered : List ℕ → ℕ → List ℕ
numbered table d = one_below (get_or table d 0)

below_plus : (o : Option ℕ) → one_below (plus_one o) ≡ to_list o
unfolding one_below plus_one to_list
below_plus none = refl
below_plus (some i) = refl

-- those of a list
kept_numbered : (vs table ds : List ℕ) → Numbers vs table → ((j : ℕ) → j < length ds → get_or ds j 0 < 256) → kept_by table ds ≡ each (λ d. to_list (number_of vs d)) ds
unfolding kept_by each
kept_numbered vs table [] n h = refl
kept_numbered vs table (d ∷ ds) n h =
    rw (n.number d (h 0 (omega arith)), below_plus (number_of vs d), kept_numbered vs table ds n (λ j l. h (suc j) (omega arith)))

-- of one unknown, where it declares the name
unfoldable pub of_named : List ℕ → ℕ → Unknown → List ℕ
of_named vs v u = cond (eqb (suc u.name) v) (each (λ d. to_list (number_of vs d)) u.deps) []

-- by the table
pub named_kept : (vs table : List ℕ) (v : ℕ) (u : Unknown) → Numbers vs table → ((j : ℕ) → j < length u.deps → get_or u.deps j 0 < 256) → cond (eqb (suc u.name) v) (kept_by table u.deps) [] ≡ of_named vs v u
unfolding of_named
named_kept vs table v u n h = ap (λ (ds : List ℕ). cond (eqb (suc u.name) v) ds []) (kept_numbered vs table u.deps n h)

-- ---- all kept dependents of a model

each_map : {A B : Type 0} (g : B → List ℕ) (h : A → B) (xs : List A) → each g (map h xs) ≡ each (λ x. g (h x)) xs
unfolding each
each_map g h [] = refl
each_map g h (x ∷ xs) = ap (λ (e : List ℕ). g (h x) ++ e) (each_map g h xs)

kept_of : (names : List (List ℕ)) (us : List Unknown) → each (λ v. v.deps) (variables_of names us) ≡ each (kept_deps (variable_names names us) us) (variable_names names us)
unfolding variables_of variable
kept_of names us = each_map (λ v. v.deps) (variable names (variable_names names us) us) (variable_names names us)

module _ (f : List ℕ) (s : Sections) (o : Open f s) (m : ℕ) where
  -- no more than the file lists
  pub kept_few : length (each (kept_deps (roster_in f s m) (unknowns_in f s m)) (roster_in f s m)) ≤ 1024
  unfolding roster_in unknowns_in contents_of
  kept_few =
      let us = (model_at (file_in f s) m).unknowns in
      omega (arith, length_kept (file_in f s).names us, ap length (kept_of (file_in f s).names us), contents_listed (contents_in f s) o.fits m, o.laid.within.deps)
