-- The roster of variables, declared name by name.
use mathlib.Core.Path.{◌≡◌, refl, sym, ap, ◌∙◌}
use mathlib.Core.Bool.{Bool, true, false, cond, ◌||◌}
use mathlib.Core.List.{List, [], ◌∷◌, ◌++◌}
use mathlib.Core.Option.{none, some}
use Prim.Native.Nat.{ℕ, suc, ◌+◌, ◌≤◌, ◌<◌}
use native.Mathlib.Numerals.{add-one}
use native.Mathlib.Omega.{arith}
use borrow.Author.Tests.{eqb-true, eqb-false, eq-eqb, ne_eqb}
use lib.Dec.{eqb, leb}
use lib.ListN.{length, drop, get_or, set, length-append, length-set}
use lib.Seq.{get_or-set_same, get_or-set_other}
use Rattle.std.specs.Prelude.{Option, None, Some}
use Rattle.functions.specs.Lists.{any, member, place_from, place, plus_one}
use Rattle.functions.proofs.Lists.{drop_here, drop_past}
use Rattle.ast.specs.Tree.{Unknown}
use Rattle.ast.specs.Words.{records, section}
use Rattle.ast.specs.Opens.{Open, file_in}
use Rattle.ast.specs.declared.sections.Sections.{Sections}
use Rattle.area.specs.Sections.{Small, Grown, stmts_at, vars_at, deps_at, area_vars, with_word, VarsAre, column}
use Rattle.area.specs.declared.sections.Sizes.{Sizes}
use Rattle.area.proofs.VarsWritten.{vars_own, column_long, column_next}
use Rattle.definitions.specs.Names.{is_reserved, time_name}
use Rattle.definitions.specs.Variables as vars
use Rattle.definitions.specs.Variables.{number_of, variable_names}
use Rattle.builder.specs.declared.names.Class.{Class}
use Rattle.builder.specs.declared.names.Class.TheVariants.{Time}
use Rattle.builder.specs.Tables.{class_number, Classes, Blank}
use Rattle.builder.specs.VariableTables.{declare_one, Listing, unknowns_in, roster_in, RosterRoom}
use Rattle.builder.specs.Allocating.{names_in}
use Rattle.builder.specs.Root.{VarsRoom}
use Rattle.builder.specs.Starting.{place_as}
use Rattle.builder.proofs.laws.Classes.{entry_reserved}
use Rattle.definitions.proofs.Counts.{or_false}
use Rattle.builder.proofs.laws.OpenUnknowns.{no_unknown}
use Rattle.builder.proofs.laws.Open.{names_long}

-- ---- where the first that passes stands, with one more behind

module _ (p : ℕ → Bool) where
  -- one that does not pass changes nothing
  place_other : (xs : List ℕ) (y k : ℕ) → p y ≡ false → place_from k p (xs ++ y ∷ []) ≡ place_from k p xs
  unfolding place_from
  place_other [] y k h = rw h
  place_other (x ∷ xs) y k h = rw (place_other xs y (suc k) h)

  -- the first that passes
  place_new : (xs : List ℕ) (y k : ℕ) → any p xs ≡ false → p y ≡ true → place_from k p (xs ++ y ∷ []) ≡ some (k + length xs)
  unfolding place_from any
  place_new [] y k n h = rw h (ap some (omega arith))
  place_new (x ∷ xs) y k n h =
      let (a, b) = or_false (p x) (any p xs) n in
      rw a (place_new xs y (suc k) b h ∙ ap some (omega arith))

  -- no place: none passes
  no_place : (xs : List ℕ) (k : ℕ) → plus_one (place_from k p xs) ≡ 0 → any p xs ≡ false
  unfolding place_from any plus_one
  no_place [] k h = refl
  no_place (x ∷ xs) k h = go (p x) h (no_place xs (suc k))
    where
      go : (b : Bool) → plus_one (cond b (some k) (place_from (suc k) p xs)) ≡ 0 → (plus_one (place_from (suc k) p xs) ≡ 0 → any p xs ≡ false) → b || any p xs ≡ false
      go true g ih = absurd (omega arith)
      go false g ih = ih g

  -- a place: one passes
  some_place : (xs : List ℕ) (k : ℕ) → (plus_one (place_from k p xs) ≡ 0 → ⊥) → any p xs ≡ true
  unfolding place_from any plus_one
  some_place [] k h = absurd (h refl)
  some_place (x ∷ xs) k h = go (p x) h (some_place xs (suc k))
    where
      go : (b : Bool) → (plus_one (cond b (some k) (place_from (suc k) p xs)) ≡ 0 → ⊥) → ((plus_one (place_from (suc k) p xs) ≡ 0 → ⊥) → any p xs ≡ true) → b || any p xs ≡ true
      go true g ih = refl
      go false g ih = ih g

-- ---- t alone

module _ (time : ℕ) (names numbers : List ℕ) (are : names ≡ time ∷ []) (every : length numbers ≡ 256) (blank : (n : ℕ) → get_or numbers n 0 ≡ 0) where
  -- where name m is t
  module _ (m : ℕ) (h : time ≡ suc m) (few : m < 256) where
    alone_at : (n : ℕ) (b : Bool) → eqb (suc n) time ≡ b → get_or (set numbers m 1) n 0 ≡ plus_one (cond b (some 0) none)
    unfolding plus_one
    alone_at n true e = let q : n ≡ m = omega (arith, h, eqb-true (suc n) time e) in rw q (get_or-set_same numbers m 1 0 (omega arith))
    alone_at n false e = get_or-set_other numbers m n 1 0 (λ q. eqb-false (suc n) time e (omega arith)) ∙ blank n

    time_listed : Listing (time ∷ []) names (set numbers m 1)
    unfolding number_of place place_from
    time_listed = record {
      are = are;
      few = omega arith;
      numbers = record { number = λ n l. alone_at n (eqb (suc n) time) refl };
      every = simp length-set every;
    }

  -- where no name is t
  none_listed : time ≡ 0 → Listing (time ∷ []) names numbers
  unfolding number_of place place_from plus_one
  none_listed h = record {
    are = are;
    few = omega arith;
    numbers = record { number = λ n l. let q : suc n ≡ time → ⊥ = λ e. omega arith in rw (ne_eqb (suc n) time q) (blank n) };
    every = every;
  }

-- ---- a name more

module _ (vs numbers : List ℕ) (name : ℕ) (l : Listing vs vs numbers) (small : name < 256) where
  -- that is one already
  pub declare_old : (get_or numbers name 0 ≡ 0 → ⊥) → Listing (declare_one vs name) vs numbers
  unfolding declare_one member number_of place
  declare_old h = rw (some_place (eqb (suc name)) vs 0 (λ e. h (l.numbers.number name small ∙ e))) l

  module _ (h : get_or numbers name 0 ≡ 0) (count : ℕ) (counted : length vs ≡ count) where
    -- the name is none of them
    fresh : any (eqb (suc name)) vs ≡ false
    unfolding number_of place
    fresh = no_place (eqb (suc name)) vs 0 (sym (l.numbers.number name small) ∙ h)

    new_number : (n : ℕ) (b : Bool) → n < 256 → eqb (suc n) (suc name) ≡ b → get_or (set numbers name (count + 1)) n 0 ≡ plus_one (number_of (vs ++ suc name ∷ []) n)
    unfolding number_of place plus_one
    new_number n true g e =
        let q : n ≡ name = omega (arith, eqb-true (suc n) (suc name) e) in
        rw q (get_or-set_same numbers name (count + 1) 0 (omega (arith, l.every))
        ∙ rw (place_new (eqb (suc name)) vs (suc name) 0 fresh (eq-eqb (suc name) (suc name) refl)) (omega (arith, counted)))
    new_number n false g e =
        get_or-set_other numbers name n (count + 1) 0 (λ q. eqb-false (suc n) (suc name) e (ap suc q))
        ∙ l.numbers.number n g
        ∙ rw (place_other (eqb (suc n)) vs (suc name) 0 e)

    -- that is none yet
    declare_new : (names : List ℕ) → count < 129 → names ≡ vs ++ suc name ∷ [] → Listing (declare_one vs name) names (set numbers name (count + 1))
    unfolding declare_one member
    declare_new names few are =
        rw fresh record {
          are = are;
          few = simp length-append (omega (arith, counted));
          numbers = record { number = λ n g. new_number n (eqb (suc n) (suc name)) g refl };
          every = simp length-set l.every;
        }

-- ---- names in the variables' records of an area

-- sizes with one variable more
abbrev one_more : Sizes → Sizes
one_more z = record { nodes = z.nodes; stmts = z.stmts; vars = z.vars + 1; deps = z.deps }

-- an area with room for the variables of every model has it for t
pub room_first : (n q : ℕ) (b : List ℕ) → VarsRoom n q b → RosterRoom (record { nodes = n; stmts = q; vars = 1; deps = 0 }) b
unfolding stmts_at vars_at
room_first n q b room = record {
  small = record { nodes = room.nodes; stmts = room.stmts; vars = omega arith; deps = omega arith };
  long = omega (arith, room.long, room.nodes, room.stmts);
}

module _ (z : Sizes) (b : List ℕ) (room : RosterRoom z b) where
  -- there is room for those there are
  pub vars_room : deps_at z ≤ length b
  unfolding deps_at
  vars_room = omega (arith, room.long, room.small.vars)

  -- and for one more
  pub more_room : z.vars < 129 → Small (one_more z) × (deps_at (one_more z) ≤ length b)
  unfolding stmts_at vars_at deps_at
  more_room few = (record { nodes = room.small.nodes; stmts = room.small.stmts; vars = omega arith; deps = room.small.deps }, omega (arith, room.long))

module _ (z : Sizes) (b b' : List ℕ) (room : RosterRoom z b) where
  -- more variables leave the room
  pub room_kept : (r : Sizes) → Grown z r → r.vars ≤ 129 → length b' ≡ length b → RosterRoom r b'
  unfolding stmts_at vars_at
  room_kept r g few long = record {
    small = record { nodes = omega (arith, g.nodes, room.small.nodes); stmts = omega (arith, g.stmts, room.small.stmts); vars = few; deps = omega (arith, g.deps, room.small.deps) };
    long = omega (arith, long, room.long, g.nodes, g.stmts);
  }

  module _ (time : Option ℕ) (numbers : List ℕ) (blank : Blank 256 numbers) (one : z.vars ≡ 1) (w : ℕ) (e : w ≡ plus_one (place_as time)) (p : VarsAre z b (with_word (area_vars b z) 0 0 w) b') where
    -- t's name alone
    name_alone : names_in b' z ≡ plus_one (place_as time) ∷ []
    unfolding column section records
    name_alone =
        column_next (record { nodes = z.nodes; stmts = z.stmts; vars = 0; deps = z.deps }) z b b' 0 w (record { nodes = refl; stmts = refl; vars = omega arith; deps = refl }) one (vars_room z b room) (omega arith) p
        ∙ ap (λ (n : ℕ). n ∷ []) e

    -- t put first, where name m is t
    pub time_put : (m : ℕ) → time ≡ Some m → m < 256 → Listing (plus_one (place_as time) ∷ []) (names_in b' z) (set numbers m 1) × VarsAre z b (area_vars b' z) b'
    unfolding place_as plus_one
    time_put m h few = (time_listed (plus_one (place_as time)) (names_in b' z) numbers name_alone blank.long blank.zeros m (rw h refl) few, vars_own z b b' _ p)

    -- where no name is t
    pub none_put : time ≡ None → Listing (plus_one (place_as time) ∷ []) (names_in b' z) numbers × VarsAre z b (area_vars b' z) b'
    unfolding place_as plus_one
    none_put h = (none_listed (plus_one (place_as time)) (names_in b' z) numbers name_alone blank.long blank.zeros (rw h refl), vars_own z b b' _ p)

  -- a new name put behind the others
  pub declare_put : z.vars < 129 → (name : ℕ) (numbers : List ℕ) → Listing (names_in b z) (names_in b z) numbers → name < 256 → get_or numbers name 0 ≡ 0
      → VarsAre (one_more z) b (with_word (area_vars b (one_more z)) z.vars 0 (name + 1)) b'
      → Listing (declare_one (names_in b z) name) (names_in b' (one_more z)) (set numbers name (z.vars + 1)) × Grown z (one_more z) × (z.vars + 1 ≤ z.vars + 1) × VarsAre (one_more z) b (area_vars b' (one_more z)) b'
  declare_put few name numbers l small h p =
      let g : Grown z (one_more z) = record { nodes = refl; stmts = refl; vars = omega arith; deps = refl } in
      let behind : names_in b' (one_more z) ≡ names_in b z ++ suc name ∷ [] =
      column_next z (one_more z) b b' 0 (name + 1) g refl (more_room z b room few).1 (omega arith) p ∙ rw add-one in
      (declare_new (names_in b z) numbers name l small h z.vars (column_long z b 0) (names_in b' (one_more z)) few behind, g, omega arith, vars_own (one_more z) b b' _ p)

-- what is listed are the names themselves
own_names : (vs names numbers : List ℕ) → Listing vs names numbers → Listing names names numbers
own_names vs names numbers l = rw (sym l.are) at l

-- ---- an unknown after the other

-- one step of `declare`
step : List (List ℕ) → List ℕ → ℕ → List ℕ
step names vs n = cond (is_reserved names n || member (suc n) vs) vs (vs ++ suc n ∷ [])

module _ (names : List (List ℕ)) (vs : List ℕ) (us : List Unknown) (d : Unknown) (i name : ℕ) (l : i < length us) (e : (get_or us i d).name ≡ name) where
  declare_step : vars.declare names vs (drop i us) ≡ vars.declare names (step names vs name) (drop (i + 1) us)
  unfolding vars.declare step
  declare_step = ap (vars.declare names vs) (drop_here us d i l) ∙ ap (λ (n : ℕ). vars.declare names (step names vs n) (drop (i + 1) us)) e

  -- an unreserved unknown
  pub declare_next : is_reserved names name ≡ false → vars.declare names vs (drop i us) ≡ vars.declare names (declare_one vs name) (drop (i + 1) us)
  unfolding declare_one step
  declare_next g = declare_step ∙ ap (λ (b : Bool). vars.declare names (cond (b || member (suc name) vs) vs (vs ++ suc name ∷ [])) (drop (i + 1) us)) g

  -- a reserved one
  pub declare_pass : is_reserved names name ≡ true → vars.declare names vs (drop i us) ≡ vars.declare names vs (drop (i + 1) us)
  unfolding step
  declare_pass g = declare_step ∙ ap (λ (b : Bool). vars.declare names (cond (b || member (suc name) vs) vs (vs ++ suc name ∷ [])) (drop (i + 1) us)) g

-- none is left
pub declare_done : (names : List (List ℕ)) (vs : List ℕ) (us : List Unknown) (i : ℕ) → length us ≤ i → vars.declare names vs (drop i us) ≡ vs
unfolding vars.declare
declare_done names vs us i h = ap (vars.declare names vs) (drop_past us i h)

-- names that are those declared up to an unknown
module _ (f : List ℕ) (s : Sections) (m i name : ℕ) (names : List ℕ) (now : roster_in f s m ≡ vars.declare (file_in f s).names names (drop i (unknowns_in f s m))) (l : i < length (unknowns_in f s m))
    (e : (get_or (unknowns_in f s m) i no_unknown).name ≡ name) where
  -- an unreserved unknown is declared
  pub roster_next : (names' numbers : List ℕ) → is_reserved (file_in f s).names name ≡ false → Listing (declare_one names name) names' numbers
      → Listing names' names' numbers × (roster_in f s m ≡ vars.declare (file_in f s).names names' (drop (i + 1) (unknowns_in f s m)))
  roster_next names' numbers g k =
      (own_names _ names' numbers k, rw k.are (now ∙ declare_next (file_in f s).names names (unknowns_in f s m) no_unknown i name l e g))

  -- a reserved one is passed over
  pub roster_pass : is_reserved (file_in f s).names name ≡ true → roster_in f s m ≡ vars.declare (file_in f s).names names (drop (i + 1) (unknowns_in f s m))
  roster_pass g = now ∙ declare_pass (file_in f s).names names (unknowns_in f s m) no_unknown i name l e g

-- t alone before the first
pub roster_first : (f : List ℕ) (s : Sections) (m time : ℕ) (names numbers : List ℕ) → time ≡ time_name (file_in f s).names → Listing (time ∷ []) names numbers
    → Listing names names numbers × (roster_in f s m ≡ vars.declare (file_in f s).names names (drop 0 (unknowns_in f s m)))
unfolding roster_in variable_names
roster_first f s m time names numbers e k = (own_names _ names numbers k, rw (k.are, e))

-- all of them behind the last
pub roster_last : (f : List ℕ) (s : Sections) (m i : ℕ) (names numbers : List ℕ) → Listing names names numbers → roster_in f s m ≡ vars.declare (file_in f s).names names (drop i (unknowns_in f s m))
    → length (unknowns_in f s m) ≤ i → Listing (roster_in f s m) names numbers
roster_last f s m i names numbers k e h = rw (e, declare_done (file_in f s).names names (unknowns_in f s m) i h) k

-- whether a name is reserved, by the classes of an open file's names
pub reserved_in : (f : List ℕ) (s : Sections) (classes : List Class) → Open f s → Classes (file_in f s).names classes → (n : ℕ) → n < s.counts.names → leb (class_number (get_or classes n Time)) 5 ≡ is_reserved (file_in f s).names n
reserved_in f s classes o h n l = entry_reserved h n (omega (arith, names_long f s))
