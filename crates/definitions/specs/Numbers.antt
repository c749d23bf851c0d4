-- The numbers of document 01, each once: refusals, errors, fates, mosts, lengths and kinds. Those of the tree file are passed on from `FileNumbers` of ast.
use Rattle.std.specs.Prelude.{ℕ}
-- refusals 2, 3 and 4, and the form
pub use Rattle.ast.specs.FileNumbers.{no_form, count_over_most, broken_layout, file_form}
-- mosts of the file; those of nodes, dependents and statements are the area's too
pub use Rattle.ast.specs.FileNumbers.{most_text, most_names, most_nodes, most_deps, most_unknowns, most_stmts, most_models}
-- lengths of the file's records; a node's is the area's too
pub use Rattle.ast.specs.FileNumbers.{name_length, node_length, dep_length, unknown_length, file_stmt_length, model_length, trailer_length}
-- kinds of nodes and of statements, domains, the word of a missing span
pub use Rattle.ast.specs.FileNumbers.{name_kind, number_kind, binary_kind, unary_kind, call_kind, argument_kind, equation_kind, rate_kind, submodel_kind, no_domain, range_domain, named_domain, missing_word}

-- ---- refusals. 2, 3 and 4 are those of opening the file

-- The area is shorter than the answer.
abbrev pub short_area : ℕ
short_area = 1

-- No model has the root name.
abbrev pub no_root : ℕ
no_root = 5

-- A model is reached from itself.
abbrev pub model_cycle : ℕ
model_cycle = 6

-- An unknown that is t or unreserved lists itself.
abbrev pub self_listed_unknown : ℕ
self_listed_unknown = 7

-- A positional argument whose number isn't below the model's count of declared unknowns.
abbrev pub argument_beyond : ℕ
argument_beyond = 8

-- Over 1,024 instances, 1,024 flattened nodes or 256 flattened statements.
abbrev pub over_most : ℕ
over_most = 9

-- A left side with too few arguments to reach its time index.
abbrev pub short_left_side : ℕ
short_left_side = 10

-- ---- errors

abbrev pub unknown_domain : ℕ
unknown_domain = 1

abbrev pub reserved_name : ℕ
reserved_name = 2

abbrev pub submodel_missing : ℕ
submodel_missing = 3

-- in a submodel statement
abbrev pub positional_after_keyword : ℕ
positional_after_keyword = 4

abbrev pub name_not_found : ℕ
name_not_found = 5

-- count against the table
abbrev pub count_against_table : ℕ
count_against_table = 6

abbrev pub keyword_in_built_in : ℕ
keyword_in_built_in = 7

-- count against the variable
abbrev pub count_against_variable : ℕ
count_against_variable = 8

abbrev pub no_such_dependent : ℕ
no_such_dependent = 9

-- in a call of a variable
abbrev pub positional_after_named : ℕ
positional_after_named = 10

abbrev pub call_not_found : ℕ
call_not_found = 11

abbrev pub wrong_start : ℕ
wrong_start = 12

abbrev pub rate_invalid : ℕ
rate_invalid = 13

abbrev pub underdetermined : ℕ
underdetermined = 14

abbrev pub overdetermined : ℕ
overdetermined = 15

abbrev pub no_initial_condition : ℕ
no_initial_condition = 16

abbrev pub algebraic_initial_condition : ℕ
algebraic_initial_condition = 17

-- ---- fates

abbrev pub initial_fate : ℕ
initial_fate = 1

abbrev pub held_fate : ℕ
held_fate = 2

abbrev pub replaced_fate : ℕ
replaced_fate = 3

abbrev pub left_over_fate : ℕ
left_over_fate = 4

-- ---- mosts of the area

abbrev pub most_instances : ℕ
most_instances = 1024

-- t and 128 unknowns.
abbrev pub most_variables : ℕ
most_variables = 129

-- All errors are counted, the first 256 are listed.
abbrev pub most_listed : ℕ
most_listed = 256

-- An answer area's bytes.
abbrev pub most_bytes : ℕ
most_bytes = 55384

-- ---- the lengths of the area's header and records, in words

abbrev pub header_length : ℕ
header_length = 10

abbrev pub stmt_length : ℕ
stmt_length = 8

abbrev pub variable_length : ℕ
variable_length = 12

abbrev pub error_length : ℕ
error_length = 4
