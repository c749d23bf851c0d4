-- The statements of an answer's area by number: what each asks for by its words, and loops over all of them.
use mathlib.Core.Path.{◌≡◌, refl, sym, ap, ◌∙◌}
use mathlib.Core.Logic.{⊎_elim}
use mathlib.Core.Bool.{Bool, true, false, ◌&&◌}
use mathlib.Core.List.{List, [], ◌∷◌, ◌++◌, map, map-append, map-map}
use Prim.Native.Nat.{ℕ, ◌+◌, ◌-◌, ◌≤◌, ◌<◌}
use native.Mathlib.Omega.{arith}
use borrow.Author.Tests.{ne_eqb}
use lib.Dec.{eqb}
use lib.ListN
use lib.ListN.{length, get_or, length-map}
use lib.Ieee.{Float, eq}
use Rattle.std.specs.List.{list_any, range_with_len}
use Rattle.std.proofs.lemmas.List.FromFn.{fill_by_all, length-range_with_len, map-range_with_len_more}
use Rattle.functions.specs.Lists.{any, flag}
use Rattle.ast.specs.Tree.{Flat, equation, rate}
use Rattle.ast.specs.Words.{word_of, span_from}
use Rattle.ast.specs.Nodes.{name_at, bits_at, tree_at}
use Rattle.ast.specs.Numbers.{number_of}
use Rattle.ast.proofs.Fields.{length_section}
use Rattle.definitions.specs.Roles.{same_float}
use Rattle.area.specs.Sections.{stmts_at, area_nodes, area_stmts, area_stmt, area_vars, column}
use Rattle.area.specs.declared.sections.Sizes.{Sizes}
use Rattle.std.specs.declared.option.Option as answer
use Rattle.std.specs.declared.option.Option.TheVariants.{None, Some}
use Rattle.builder.specs.declared.allocation.roles.Role.TheVariants.{Neither, Initial, Rate}
use Rattle.builder.specs.declared.allocation.roles.Start.{Start}
use Rattle.builder.specs.declared.allocation.roles.Start.TheVariants.{Short, Number}
use Rattle.builder.specs.Allocating.{flat_at, flat_in, flats_in, Flattened, states_in, rates_in, entry_by, short_by, role_as, start_role_by, rate_role_by, role_by, found_start, start_at, is_short, StartFits}
use Rattle.definitions.proofs.ListLaws.{flag_one, get_d_map}
use Rattle.builder.proofs.laws.LeftSides.{entry_none, entry_some, found_start_lem, short_start}

-- ---- an answer for a left side, case by case

-- f64's == on bits
pub same_float_lem : (a b : ℕ) → eq (number_of a) (number_of b) ≡ same_float a b
unfolding number_of same_float
same_float_lem a b = refl

-- the variable and the argument of an answer with a number
pub number_fits : (z : Sizes) (s : answer.Option Start) (x : Start) (v a : ℕ) → s ≡ Some x → x ≡ Number v a → StartFits z s → (v < z.vars) × (1 ≤ a) × (a < z.nodes)
unfolding StartFits
number_fits z s x v a e g f = rw (e, g) at f

module _ (ns : List (List ℕ)) (lower : Float) (f : ℕ) (s : answer.Option Start) where
  module _ (x : Start) (e : s ≡ Some x) where
    -- a number that is time's lower bound, or another
    module _ (v a : ℕ) (g : x ≡ Number v a) where
      -- an initial condition
      pub role_lower : eq (number_of (bits_at ns (a - 1))) lower ≡ true → role_as (Initial v) ≡ start_role_by lower (found_start ns f s)
      unfolding role_as start_role_by found_start
      role_lower h = rw (e, g, h) refl

      -- no role
      pub role_wrong : eq (number_of (bits_at ns (a - 1))) lower ≡ false → role_as Neither ≡ start_role_by lower (found_start ns f s)
      unfolding role_as start_role_by found_start
      role_wrong h = rw (e, g, h) refl

    -- one too short has no role
    pub role_short : x ≡ Short → role_as Neither ≡ start_role_by lower (found_start ns f s)
    unfolding role_as start_role_by found_start
    role_short g = rw (e, g) refl

  -- nothing of the kind has no role
  pub role_nothing : s ≡ None → role_as Neither ≡ start_role_by lower (found_start ns f s)
  unfolding role_as start_role_by found_start
  role_nothing e = rw e refl

-- ---- statement i

-- a table by number, where one more is put behind it
pub one_more : {A B : Type 0} (f : A → B) (g : ℕ → B) (xs : List A) (i : ℕ) (x : A) → f x ≡ g i → map f xs ≡ map g (range_with_len 0 i) → map f (xs ++ (x ∷ [])) ≡ map g (range_with_len 0 (i + 1))
one_more f g xs i x e p =
    rw (map-append, p, e) (sym (map-range_with_len_more g 0 i i (omega arith)))

-- and how long it is
pub long_by : {A B : Type 0} (f : A → B) (g : ℕ → B) (xs : List A) (i : ℕ) → map f xs ≡ map g (range_with_len 0 i) → length xs ≡ i
long_by f g xs i p = simp (length-map, length-range_with_len) at (ap length p)

any_map : {A B : Type 0} (p : B → Bool) (f : A → B) (xs : List A) → any p (map f xs) ≡ list_any (λ x. p (f x)) xs
unfolding any
any_map p f [] = refl
any_map p f (x ∷ xs) = rw (any_map p f xs) refl

module _ (b : List ℕ) (z : Sizes) where
  -- there are as many as the sizes say
  pub flats_count : length (flats_in b z) ≡ z.stmts
  unfolding flats_in
  flats_count = simp length-map (length_section 8 z.stmts (stmts_at z) b)

  -- and as many entries has a table of what a function gives of each
  pub flats_each : {A B : Type 0} (f : A → B) (g : Flat → B) (xs : List A) → map f xs ≡ map g (flats_in b z) → length xs ≡ z.stmts
  flats_each f g xs p = simp (length-map, flats_count) at (ap length p)

  -- statement i of all
  pub flat_at_lem : (i : ℕ) → get_or (flats_in b z) i (flat_at (area_nodes b z) []) ≡ flat_in b z i
  unfolding flats_in flat_in
  flat_at_lem i = ListN.get_or-map (flat_at (area_nodes b z)) (area_stmts b z) i []

  -- the same by its own value, as a run's laws have it
  pub flat_here : (i : ℕ) → i < z.stmts → get_or (flats_in b z) i (flat_in b z i) ≡ flat_in b z i
  unfolding flats_in flat_in
  flat_here i h = get_d_map (flat_at (area_nodes b z)) (area_stmts b z) i [] (flat_in b z i) (omega (arith, length_section 8 z.stmts (stmts_at z) b))

  -- all of them, by number
  pub flats_by : flats_in b z ≡ map (flat_in b z) (range_with_len 0 z.stmts)
  flats_by = fill_by_all (flat_in b z) (flats_in b z) z.stmts (flat_at (area_nodes b z) []) flats_count (λ k h. flat_at_lem k)

  -- what a function gives of each of them
  pub map_by : {B : Type 0} (g : Flat → B) → map (λ i. g (flat_in b z i)) (range_with_len 0 z.stmts) ≡ map g (flats_in b z)
  map_by g = rw flats_by (sym (map-map g (flat_in b z) (range_with_len 0 z.stmts)))

  -- whether one of them passes a test
  pub any_by : (p : Flat → Bool) → list_any (λ i. p (flat_in b z i)) (range_with_len 0 z.stmts) ≡ any p (flats_in b z)
  any_by p = rw flats_by (sym (any_map p (flat_in b z) (range_with_len 0 z.stmts)))

  -- a rate equation may go to variable v where its record says that it is a state and time-dependent
  pub rate_at : (v : ℕ) → eqb (get_or (rates_in b z) v 0) 1 ≡ eqb (get_or (states_in b z) v 0) 1 && eqb (get_or (column 7 (area_vars b z)) v 0) 1
  unfolding rates_in column word_of flag
  rate_at v =
      ap (λ (n : ℕ). eqb n 1) (ListN.get_or-map (λ r. flag (eqb (word_of r 1) 1 && eqb (word_of r 7) 1)) (area_vars b z) v [])
      ∙ flag_one (eqb (word_of (get_or (area_vars b z) v []) 1) 1 && eqb (word_of (get_or (area_vars b z) v []) 7) 1)
      ∙ sym (rw (word 1, word 7) refl)
    where
      word : (k : ℕ) → get_or (column k (area_vars b z)) v 0 ≡ word_of (get_or (area_vars b z) v []) k
      word k = ListN.get_or-map (λ r. word_of r k) (area_vars b z) v []

  module _ (i : ℕ) where
    -- one of kind 1 is an equation
    pub flat_equation : word_of (area_stmt b z i) 0 ≡ 1
        → flat_in b z i ≡ equation (tree_at (area_nodes b z) (word_of (area_stmt b z i) 2)) (tree_at (area_nodes b z) (word_of (area_stmt b z i) 3)) (span_from (area_stmt b z i) 4)
    unfolding flat_in flat_at
    flat_equation e = rw e refl

    -- another is a rate equation
    pub flat_rate : (word_of (area_stmt b z i) 0 ≡ 1 → ⊥) → flat_in b z i ≡ rate (word_of (area_stmt b z i) 1) (tree_at (area_nodes b z) (word_of (area_stmt b z i) 3)) (span_from (area_stmt b z i) 4)
    unfolding flat_in flat_at
    flat_rate ne = rw (ne_eqb _ _ ne) refl

  -- a rate equation's name
  pub rate_name : (names : ℕ) → Flattened names b z → (i : ℕ) → i < z.stmts → (word_of (area_stmt b z i) 0 ≡ 1 → ⊥) → word_of (area_stmt b z i) 1 < 256
  rate_name names o i h ne = ⊎_elim (λ e. absurd (ne e)) (λ e. omega (arith, o.name i h e, o.few)) (o.kind i h)

  module _ (names : ℕ) (o : Flattened names b z) (numbers indexes : List ℕ) (i : ℕ) (h : i < z.stmts) where
    -- an equation, by the answer for its left side
    module _ (e : word_of (area_stmt b z i) 0 ≡ 1) where
      -- whether it is too short
      pub short_equation : (l : ℕ) → l ≡ word_of (area_stmt b z i) 2 → (s : answer.Option Start) → s ≡ start_at (area_nodes b z) numbers indexes l → is_short s ≡ short_by numbers indexes (flat_in b z i)
      unfolding short_by
      short_equation l g s k =
          let t = o.left i h e in
          rw (k, g) (sym (ap (short_by numbers indexes) (flat_equation i e) ∙ sym (short_start names (area_nodes b z) z.nodes o.nodes numbers indexes (word_of (area_stmt b z i) 2) t.0 t.1)))

      -- its role
      pub role_equation : (rates : List ℕ) (lower : Float)
          → role_by numbers indexes rates lower (flat_in b z i) ≡ start_role_by lower (found_start (area_nodes b z) (name_at (area_nodes b z) (word_of (area_stmt b z i) 2)) (start_at (area_nodes b z) numbers indexes (word_of (area_stmt b z i) 2)))
      unfolding role_by
      role_equation rates lower =
          let t = o.left i h e in
          ap (role_by numbers indexes rates lower) (flat_equation i e) ∙ ap (start_role_by lower) (sym (found_start_lem names (area_nodes b z) z.nodes o.nodes numbers indexes (word_of (area_stmt b z i) 2) t.0 t.1))

    -- a rate equation of name f
    module _ (ne : word_of (area_stmt b z i) 0 ≡ 1 → ⊥) where
      -- it is never too short
      pub short_rate : short_by numbers indexes (flat_in b z i) ≡ false
      unfolding short_by
      short_rate = ap (short_by numbers indexes) (flat_rate i ne)

      module _ (table : List ℕ) (lower : Float) (f : ℕ) (g : f ≡ word_of (area_stmt b z i) 1) where
        role_rate : role_by numbers indexes table lower (flat_in b z i) ≡ rate_role_by table (entry_by numbers f)
        unfolding role_by
        role_rate = ap (role_by numbers indexes table lower) (flat_rate i ne) ∙ rw g refl

        -- of a name that is no variable's
        pub rate_unknown : (1 ≤ get_or numbers f 0 → ⊥) → role_as Neither ≡ role_by numbers indexes table lower (flat_in b z i)
        unfolding role_as rate_role_by
        rate_unknown p = sym (role_rate ∙ rw (entry_none numbers f p) refl)

        module _ (v : ℕ) (p : (1 ≤ get_or numbers f 0) × (v ≡ get_or numbers f 0 - 1)) where
          -- of a variable that it may go to
          pub rate_goes : eqb (get_or table v 0) 1 ≡ true → role_as (Rate v) ≡ role_by numbers indexes table lower (flat_in b z i)
          unfolding role_as rate_role_by
          rate_goes q = sym (role_rate ∙ rw (entry_some numbers f v p, q) refl)

          -- of another variable
          pub rate_stays : eqb (get_or table v 0) 1 ≡ false → role_as Neither ≡ role_by numbers indexes table lower (flat_in b z i)
          unfolding role_as rate_role_by
          rate_stays q = sym (role_rate ∙ rw (entry_some numbers f v p, q) refl)
