-- Records by place: those of a file and those of an answer area alike. A test that names a record's words by number serves records of any width that has them.
use Rattle.std.specs.Prelude.{List, [], ℕ, ◌+◌, ◌*◌, ◌≤◌, length, get_or}
use Rattle.ast.specs.Words.{section}
use Rattle.ast.specs.declared.sections.Records.{Records}

abbrev pub records_in : Records → List ℕ → List (List ℕ)
records_in rs f = section rs.width rs.count rs.at f

abbrev pub record_in : Records → List ℕ → ℕ → List ℕ
record_in rs f i = get_or (records_in rs f) i []

-- they lie within the bytes
abbrev pub RecordsLie : Records → List ℕ → Type 0
RecordsLie rs f = rs.at + 4 * (rs.count * rs.width) ≤ length f
