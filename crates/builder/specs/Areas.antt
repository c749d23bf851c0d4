-- What an area that is read shows of the root model: its flattened statements, and its variables by number.
use Rattle.std.specs.Prelude.{ℕ, List}
use Rattle.ast.specs.Tree.{Flat}
use Rattle.area.specs.declared.records.Area.{Area}
use Rattle.builder.specs.Allocating.{flat_in, flats_in, Flattened, Numbered, names_in, states_in, indexes_in, rates_in}
use Rattle.builder.specs.Reaching.{deps_in, marks_in, DepsIn}
use Rattle.builder.specs.Starting.{Righted}

abbrev pub flat_seen : Area → ℕ → Flat
flat_seen a = flat_in a.bytes.now a.sizes

abbrev pub flats_seen : Area → List Flat
flats_seen a = flats_in a.bytes.now a.sizes

abbrev pub names_seen : Area → List ℕ
names_seen a = names_in a.bytes.now a.sizes

abbrev pub states_seen : Area → List ℕ
states_seen a = states_in a.bytes.now a.sizes

abbrev pub indexes_seen : Area → List ℕ
indexes_seen a = indexes_in a.bytes.now a.sizes

abbrev pub rates_seen : Area → List ℕ
rates_seen a = rates_in a.bytes.now a.sizes

abbrev pub deps_seen : Area → ℕ → List ℕ
deps_seen a = deps_in a.bytes.now a.sizes

abbrev pub marks_seen : Area → List ℕ
marks_seen a = marks_in a.bytes.now a.sizes

-- ---- what is known of it

abbrev pub FlattenedSeen : Area → Type 0
FlattenedSeen a = (names : ℕ) × Flattened names a.bytes.now a.sizes

abbrev pub NumberedSeen : Area → List ℕ → Type 0
NumberedSeen a numbers = Numbered a.bytes.now a.sizes numbers

abbrev pub RightedSeen : Area → Type 0
RightedSeen a = Righted a.bytes.now a.sizes

abbrev pub DepsSeen : Area → Type 0
DepsSeen a = DepsIn a.sizes a.bytes.now
