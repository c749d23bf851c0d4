-- Errors listed in an area: all are counted, the first 256 are listed, four words each.
use Rattle.std.specs.Prelude.{◌≡◌, Option, None, Some, cond, List, [], ◌∷◌, ℕ, ◌+◌, ◌*◌, ltb, length}
use Rattle.ast.specs.Tree.{Span}
use Rattle.ast.specs.Words.{bytes_of}
use Rattle.ast.specs.Bytes.{put}
use Rattle.definitions.specs.Numbers.{most_listed, error_length}
use Rattle.definitions.specs.Numbers.{unknown_domain, reserved_name, submodel_missing, positional_after_keyword, name_not_found, count_against_table, keyword_in_built_in, count_against_variable, no_such_dependent, positional_after_named, call_not_found, wrong_start, rate_invalid, underdetermined, overdetermined, no_initial_condition, algebraic_initial_condition}
use Rattle.definitions.specs.Variables as definitions
use Rattle.definitions.specs.Variables.{error}
use Rattle.definitions.specs.Answer.{error_words}
use Rattle.area.specs.declared.errors.ErrorKind.{ErrorKind}
use Rattle.area.specs.declared.errors.ErrorKind.TheVariants.{UnknownDomain, ReservedName, SubmodelMissing, PositionalAfterKeyword, NameNotFound, CountAgainstTable, KeywordInBuiltIn, CountAgainstVariable, NoSuchDependent, PositionalAfterNamed, CallNotFound, WrongStart, RateInvalid, Underdetermined, Overdetermined, NoInitialCondition, AlgebraicInitialCondition}
use Rattle.area.specs.declared.errors.Found.{Found}

abbrev pub spanned : ℕ → ℕ → Span
spanned a b = record { from = a; to = b }

-- all errors that are listed, in bytes
abbrev pub list_length : ℕ
list_length = 4 * error_length * most_listed

-- The area with an error listed behind n of them, if it is among the first 256.
unfoldable pub put_error : List ℕ → ℕ → definitions.Error → List ℕ
put_error d n e = cond (ltb n most_listed) (put d (4 * error_length * n) (bytes_of (error_words e))) d

-- The area with errors listed behind n of them.
unfoldable pub listed : List ℕ → ℕ → List definitions.Error → List ℕ
listed d n [] = d
listed d n (e ∷ es) = listed (put_error d n e) (n + 1) es

-- From n errors in the area d, the errors es lead to r errors in the area d'.
abbrev pub Lists : List ℕ → ℕ → List definitions.Error → ℕ → List ℕ → Type 0
Lists d n es r d' = (r ≡ n + length es) × (d' ≡ listed d n es)

-- a kind's number
abbrev pub kind_number : ErrorKind → ℕ
kind_number UnknownDomain = unknown_domain
kind_number ReservedName = reserved_name
kind_number SubmodelMissing = submodel_missing
kind_number PositionalAfterKeyword = positional_after_keyword
kind_number NameNotFound = name_not_found
kind_number CountAgainstTable = count_against_table
kind_number KeywordInBuiltIn = keyword_in_built_in
kind_number CountAgainstVariable = count_against_variable
kind_number NoSuchDependent = no_such_dependent
kind_number PositionalAfterNamed = positional_after_named
kind_number CallNotFound = call_not_found
kind_number WrongStart = wrong_start
kind_number RateInvalid = rate_invalid
kind_number Underdetermined = underdetermined
kind_number Overdetermined = overdetermined
kind_number NoInitialCondition = no_initial_condition
kind_number AlgebraicInitialCondition = algebraic_initial_condition

-- an error that a test finds
abbrev pub error_as : Found → definitions.Error
error_as e = error (kind_number e.kind) (spanned e.from e.to) e.name

-- what a test finds: no error, or one
unfoldable pub found_as : Option Found → List definitions.Error
found_as None = []
found_as (Some e) = error_as e ∷ []
