-- The words of an answer area's records by number, and how many there are in a part of one. `area::layout` has them for the code.
use Rattle.std.specs.Prelude.{ℕ}

-- ---- a statement's record: kind, name, tops of the trees, span, fate, and the fate's variable

abbrev pub stmt_kind : ℕ
stmt_kind = 0

abbrev pub stmt_name : ℕ
stmt_name = 1

abbrev pub stmt_left : ℕ
stmt_left = 2

abbrev pub stmt_right : ℕ
stmt_right = 3

abbrev pub stmt_span : ℕ
stmt_span = 4

abbrev pub stmt_fate : ℕ
stmt_fate = 6

abbrev pub stmt_variable : ℕ
stmt_variable = 7

-- ---- a variable's record: name, state, time index, first dependent, count of dependents, held statement, initial conditions, time-dependence; then its bounds

abbrev pub var_name : ℕ
var_name = 0

abbrev pub var_state : ℕ
var_state = 1

abbrev pub var_time_index : ℕ
var_time_index = 2

abbrev pub var_first_dep : ℕ
var_first_dep = 3

abbrev pub var_deps : ℕ
var_deps = 4

abbrev pub var_held : ℕ
var_held = 5

abbrev pub var_initial : ℕ
var_initial = 6

abbrev pub var_timed : ℕ
var_timed = 7

-- ---- lengths, in words

-- The counts of the header, in front of time's bounds.
abbrev pub counts_length : ℕ
counts_length = 6

-- A variable's record in front of its bounds.
abbrev pub lead_length : ℕ
lead_length = 8

-- Bounds: two numbers.
abbrev pub bounds_length : ℕ
bounds_length = 4

-- A number's bits.
abbrev pub bits_length : ℕ
bits_length = 2
