-- The errors of statements by number: what a test finds, of an equation by the answer for its left side, of a rate equation by its name's entries, and of all.
use mathlib.Core.Path.{◌≡◌, refl, sym, ap, ◌∙◌}
use mathlib.Core.Bool.{Bool, true, false}
use mathlib.Core.List.{List, [], ◌∷◌}
use mathlib.Core.Option.{Option, none, some}
use Prim.Native.Nat.{ℕ, suc, ◌+◌, ◌-◌, ◌^◌, ◌≤◌, ◌<◌}
use native.Mathlib.Omega.{arith}
use lib.Dec.{eqb}
use lib.ListN.{length, take, get_or}
use lib.Ieee.{Float, eq}
use Rattle.functions.specs.Lists.{each, unless}
use Rattle.ast.specs.Tree.{Span, Flat, equation, rate}
use Rattle.ast.specs.Words.{word_of, span_from}
use Rattle.ast.specs.Nodes.{name_at, bits_at, span_at}
use Rattle.definitions.specs.Numbers.{name_not_found, wrong_start, rate_invalid}
use Rattle.definitions.specs.Variables.{Error, error}
use Rattle.definitions.specs.Roles as roles
use Rattle.ast.specs.Numbers.{number_of}
use Rattle.area.specs.Listing.{kind_number, error_as, found_as, Lists}
use Rattle.area.specs.LentList.{Listed, RoomFor}
use Rattle.area.specs.declared.errors.Errors.{Errors}
use Rattle.area.specs.declared.errors.Found.{Found}
use Rattle.area.specs.declared.errors.ErrorKind.{ErrorKind}
use Rattle.std.specs.Prelude as rust
use Rattle.area.specs.declared.sections.Sizes.{Sizes}
use Rattle.std.specs.declared.option.Option as answer
use Rattle.std.specs.declared.option.Option.TheVariants.{None, Some}
use Rattle.builder.specs.declared.allocation.roles.Start.{Start}
use Rattle.builder.specs.declared.allocation.roles.Start.TheVariants.{Short, Number}
use Rattle.builder.specs.Allocating.{flat_in, flats_in, Flattened, entry_by, start_by, start_errors_by, rate_errors_by, role_errors_by, found_start, start_at, CallFits}
use Rattle.area.specs.Sections.{area_nodes, area_stmt}
use Rattle.area.proofs.Listings.{found_one}
use Rattle.builder.proofs.laws.LeftSides.{entry_none, entry_some, found_start_lem}
use Rattle.builder.proofs.laws.Flats.{flats_count, flat_here, flat_equation, flat_rate}
use Rattle.builder.proofs.laws.ModelErrors.{run_room, run_goes, run_ends}
use Rattle.definitions.proofs.ErrorCount.{length_unless}

-- ---- what a test finds

-- an error with the span from word k of a record on
pub found_spanned : (r : List ℕ) (k : ℕ) (kind : ErrorKind) (a b n m : ℕ) → a ≡ word_of r k → b ≡ word_of r (suc k) → n ≡ m
    → error_as (record { kind = kind; from = a; to = b; name = n }) ≡ error (kind_number kind) (span_from r k) m
unfolding span_from
found_spanned r k kind a b n m e g h = rw (e, g, h) refl

module _ (b : Bool) (e : Error) where
  -- nothing where the test passes
  pub found_none : b ≡ true → found_as rust.None ≡ unless b e
  unfolding found_as unless
  found_none h = rw h refl

  -- the error where it fails
  pub found_error : (x : Found) → b ≡ false → error_as x ≡ e → found_as (rust.Some x) ≡ unless b e
  unfolding unless
  found_error x h g = rw h (found_one x e g)

-- ---- by the answer for a left side

-- the name of the call of an answer with a number
pub number_calls : (ns : List (List ℕ)) (i : ℕ) (s : answer.Option Start) (x : Start) (v a : ℕ) → s ≡ Some x → x ≡ Number v a → CallFits ns i s → name_at ns i < 256
unfolding CallFits
number_calls ns i s x v a e g f = rw (e, g) at f

module _ (ns : List (List ℕ)) (lower : Float) (f : ℕ) (s : answer.Option Start) where
  module _ (x : Start) (e : s ≡ Some x) where
    -- a number is an error unless it is time's lower bound
    pub errors_number : (v a : ℕ) → x ≡ Number v a → start_errors_by lower (found_start ns f s) ≡ unless (eq (number_of (bits_at ns (a - 1))) lower) (error wrong_start (span_at ns a) (suc f))
    unfolding start_errors_by found_start
    errors_number v a g = rw (e, g) refl

    -- one too short has none
    pub errors_short : x ≡ Short → start_errors_by lower (found_start ns f s) ≡ []
    unfolding start_errors_by found_start
    errors_short g = rw (e, g) refl

  -- nothing of the kind has none
  pub errors_nothing : s ≡ None → start_errors_by lower (found_start ns f s) ≡ []
  unfolding start_errors_by found_start
  errors_nothing e = rw e refl

-- ---- by a rate equation's name

module _ (numbers rates : List ℕ) (s : Span) (n f : ℕ) (g : f ≡ n) where
  one_more : 1 + f ≡ suc n
  one_more = omega arith

  -- a name that is no variable's
  pub errors_unknown : (1 ≤ get_or numbers f 0 → ⊥) → error name_not_found s (1 + f) ∷ [] ≡ rate_errors_by rates n s (entry_by numbers n)
  unfolding rate_errors_by
  errors_unknown e = rw (entry_none numbers n (rw (← g) e), one_more) refl

  -- a variable's name is an error unless the equation may go to variable v
  pub errors_known : (v : ℕ) → (1 ≤ get_or numbers f 0) × (v ≡ get_or numbers f 0 - 1) → unless (eqb (get_or rates v 0) 1) (error rate_invalid s (1 + f)) ≡ rate_errors_by rates n s (entry_by numbers n)
  unfolding rate_errors_by
  errors_known v e = rw (entry_some numbers n v (rw g at e), one_more) refl

-- ---- of statement i

module _ (b : List ℕ) (z : Sizes) (names : ℕ) (o : Flattened names b z) (numbers indexes rates : List ℕ) (lower : Float) (i : ℕ) (h : i < z.stmts) where
  -- an equation's, by the answer for its left side
  pub errors_equation : word_of (area_stmt b z i) 0 ≡ 1
      → role_errors_by numbers indexes rates lower (flat_in b z i) ≡ start_errors_by lower (found_start (area_nodes b z) (name_at (area_nodes b z) (word_of (area_stmt b z i) 2)) (start_at (area_nodes b z) numbers indexes (word_of (area_stmt b z i) 2)))
  unfolding role_errors_by
  errors_equation e =
      let t = o.left i h e in
      ap (role_errors_by numbers indexes rates lower) (flat_equation b z i e) ∙ ap (start_errors_by lower) (sym (found_start_lem names (area_nodes b z) z.nodes o.nodes numbers indexes (word_of (area_stmt b z i) 2) t.0 t.1))

  -- a rate equation's, by its name
  pub errors_rate : (word_of (area_stmt b z i) 0 ≡ 1 → ⊥)
      → role_errors_by numbers indexes rates lower (flat_in b z i) ≡ rate_errors_by rates (word_of (area_stmt b z i) 1) (span_from (area_stmt b z i) 4) (entry_by numbers (word_of (area_stmt b z i) 1))
  unfolding role_errors_by
  errors_rate ne = ap (role_errors_by numbers indexes rates lower) (flat_rate b z i ne)

-- whatever it is
pub errors_few : (numbers indexes rates : List ℕ) (lower : Float) (q : Flat) → length (role_errors_by numbers indexes rates lower q) ≤ 1
unfolding role_errors_by start_errors_by rate_errors_by
errors_few numbers indexes rates lower (equation l r s) = go (start_by numbers indexes l)
  where
    go : (o : Option roles.Start) → length (start_errors_by lower o) ≤ 1
    go none = omega arith
    go (some x) = length_unless _ _
errors_few numbers indexes rates lower (rate n r s) = go (entry_by numbers n)
  where
    go : (o : Option ℕ) → length (rate_errors_by rates n s o) ≤ 1
    go none = omega arith
    go (some v) = length_unless _ _

-- ---- of all statements, listed one after the other

module _ (b : List ℕ) (z : Sizes) (g : Flat → List Error) (d d' : List ℕ) (n r i : ℕ) (p : Lists d n (each g (take i (flats_in b z))) r d') where
  module _ (h : i < z.stmts) where
    there : i < length (flats_in b z)
    there = omega (arith, flats_count b z)

    -- what is found of statement i can be counted
    pub statement_room : n + length (each g (flats_in b z)) < 2 ^ 40 → r < 2 ^ 40
    statement_room m = omega (arith, run_room g (flats_in b z) (flat_in b z i) i there (flat_here b z i h) d d' n r m p)

    -- listed behind those before
    pub statement_goes : (x : rust.Option Found) → found_as x ≡ g (flat_in b z i) → (d'' : List ℕ) (r' : ℕ) → Lists d' r (found_as x) r' d'' → Lists d n (each g (take (i + 1) (flats_in b z))) r' d''
    statement_goes x e d'' r' q = run_goes g (flats_in b z) (flat_in b z i) i there (flat_here b z i h) d d' d'' n r r' p (rw e at q)

  -- up to the last they are all
  pub statements_end : z.stmts ≤ i → Lists d n (each g (flats_in b z)) r d'
  statements_end h = run_ends g (flats_in b z) i (omega (arith, flats_count b z)) d d' n r p

-- the same in lent bytes
module _ (b : List ℕ) (z : Sizes) (g : Flat → List Error) {e₀ e₁ : Errors} (i : ℕ) (p : Listed e₀ (each g (take i (flats_in b z))) e₁) where
  module _ (h : i < z.stmts) where
    pub statement_room_lent : RoomFor e₀ (each g (flats_in b z)) → e₁.count < 2 ^ 40
    statement_room_lent m = statement_room b z g _ _ _ _ i p.lists h m

    pub statement_goes_lent : (x : rust.Option Found) → found_as x ≡ g (flat_in b z i) → {e₂ : Errors} → Listed e₁ (found_as x) e₂ → Listed e₀ (each g (take (i + 1) (flats_in b z))) e₂
    statement_goes_lent x e q = record { lists = statement_goes b z g _ _ _ _ i p.lists h x e _ _ q.lists; same = q.same ∙ p.same }

  pub statements_end_lent : z.stmts ≤ i → Listed e₀ (each g (flats_in b z)) e₁
  statements_end_lent h = record { lists = statements_end b z g _ _ _ _ i p.lists h; same = p.same }
