-- The numbers of the tree file in document 01: the refusals of opening it, its form, mosts, lengths and kinds. `Numbers` of definitions has the others.
use Rattle.std.specs.Prelude.{ℕ}

-- ---- refusals of opening a file

-- Under 32 bytes, or form not 1.
abbrev pub no_form : ℕ
no_form = 2

-- A count over its most.
abbrev pub count_over_most : ℕ
count_over_most = 3

-- Length or any record breaks the layout.
abbrev pub broken_layout : ℕ
broken_layout = 4

-- ---- the form

abbrev pub file_form : ℕ
file_form = 1

-- ---- mosts. Those of nodes, dependents and statements are the answer area's too

-- Text, in bytes.
abbrev pub most_text : ℕ
most_text = 4096

abbrev pub most_names : ℕ
most_names = 256

abbrev pub most_nodes : ℕ
most_nodes = 1024

abbrev pub most_deps : ℕ
most_deps = 1024

abbrev pub most_unknowns : ℕ
most_unknowns = 128

abbrev pub most_stmts : ℕ
most_stmts = 256

abbrev pub most_models : ℕ
most_models = 32

-- ---- the lengths of records, in words. A node's is the same in the area

abbrev pub name_length : ℕ
name_length = 2

abbrev pub node_length : ℕ
node_length = 8

abbrev pub dep_length : ℕ
dep_length = 1

abbrev pub unknown_length : ℕ
unknown_length = 10

abbrev pub file_stmt_length : ℕ
file_stmt_length = 6

abbrev pub model_length : ℕ
model_length = 7

abbrev pub trailer_length : ℕ
trailer_length = 8

-- ---- the signs of operators

abbrev pub times_sign : ℕ
times_sign = 42

abbrev pub plus_sign : ℕ
plus_sign = 43

abbrev pub minus_sign : ℕ
minus_sign = 45

abbrev pub divide_sign : ℕ
divide_sign = 47

-- ---- kinds of nodes

abbrev pub name_kind : ℕ
name_kind = 1

abbrev pub number_kind : ℕ
number_kind = 2

abbrev pub binary_kind : ℕ
binary_kind = 3

abbrev pub unary_kind : ℕ
unary_kind = 4

abbrev pub call_kind : ℕ
call_kind = 5

abbrev pub argument_kind : ℕ
argument_kind = 6

-- ---- kinds of statements

abbrev pub equation_kind : ℕ
equation_kind = 1

abbrev pub rate_kind : ℕ
rate_kind = 2

abbrev pub submodel_kind : ℕ
submodel_kind = 3

-- ---- domains

abbrev pub no_domain : ℕ
no_domain = 0

abbrev pub range_domain : ℕ
range_domain = 1

abbrev pub named_domain : ℕ
named_domain = 2

-- ---- both words of a missing span

abbrev pub missing_word : ℕ
missing_word = 4294967295
