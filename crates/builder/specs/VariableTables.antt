-- A model's variables: their names by number, their numbers by name, and their kept dependents.
use Rattle.std.specs.Prelude.{ℕ, zero, suc, ◌+◌, ◌-◌, ◌*◌, ◌≤◌, ◌<◌, ◌≡◌, cond, List, [], ◌∷◌, ◌++◌, eqb, length, take, drop, get_or}
use Rattle.functions.specs.Lists.{each, member, plus_one}
use Rattle.ast.specs.Tree.{Unknown}
use Rattle.ast.specs.Bytes.{put}
use Rattle.ast.specs.Words.{words, bytes_of}
use Rattle.ast.specs.Records.{unknown_of}
use Rattle.ast.specs.Opens.{Open, contents_in, file_in}
use Rattle.ast.specs.declared.sections.Sections.{Sections}
use Rattle.area.specs.Sections.{Small, vars_at}
use Rattle.area.specs.declared.sections.Sizes.{Sizes}
use Rattle.definitions.specs.Numbers.{most_names, most_variables, variable_length}
use Rattle.definitions.specs.Variables as vars
use Rattle.definitions.specs.Variables.{variable_names}
use Rattle.definitions.specs.Flatten.{model_at}

-- ---- dependents, as words of bytes, from the first up to an end

unfoldable pub words_from : List ℕ → ℕ → ℕ → List ℕ
words_from bytes first end = take (end - first) (drop first (words bytes))

-- ---- the variables' names, plus 1, by number, and their numbers, plus 1 or 0, by name

-- a name that is new goes behind those there are
unfoldable pub declare_one : List ℕ → ℕ → List ℕ
declare_one vs n = cond (member (suc n) vs) vs (vs ++ suc n ∷ [])

pub record Numbers (vs table : List ℕ) : Type 0 where
  pub number : (n : ℕ) → n < most_names → get_or table n 0 ≡ plus_one (vars.number_of vs n)

-- The variables vs, by their names and by the table of their numbers.
pub record Listing (vs names table : List ℕ) : Type 0 where
  pub are : names ≡ vs
  pub few : length vs ≤ most_variables
  pub numbers : Numbers vs table
  pub every : length table ≡ most_names

-- the unknowns of model m, and the names of its variables
unfoldable pub unknowns_in : List ℕ → Sections → ℕ → List Unknown
unknowns_in f s m = (model_at (file_in f s) m).unknowns

unfoldable pub roster_in : List ℕ → Sections → ℕ → List ℕ
roster_in f s m = variable_names (file_in f s).names (unknowns_in f s m)

-- unknown u of the file
unfoldable pub unknown_in : List ℕ → Sections → ℕ → Unknown
unknown_in f s u = unknown_of (contents_in f s).deps (get_or (contents_in f s).unknowns u [])

-- ---- kept dependents, by the table of numbers

unfoldable pub one_below : ℕ → List ℕ
one_below zero = []
one_below (suc v) = v ∷ []

unfoldable pub kept_by : List ℕ → List ℕ → List ℕ
kept_by table ds = each (λ d. one_below (get_or table d 0)) ds

-- those of an unknown that declares the name (plus 1), and none of another
abbrev pub kept_named : List ℕ → ℕ → Unknown → List ℕ
kept_named table name u = cond (eqb (suc u.name) name) (kept_by table u.deps) []

-- Room for words behind the first `done` words of some bytes.
abbrev pub RoomBehind : List ℕ → ℕ → List ℕ → Type 0
RoomBehind ws done was = 4 * (done + length ws) ≤ length was

-- Words written behind the first `done` words of some bytes: the new count of words, and the bytes.
abbrev pub PutBehind : List ℕ → ℕ → List ℕ → ℕ → List ℕ → Type 0
PutBehind ws done was count new = (count ≡ done + length ws) × (new ≡ put was (4 * done) (bytes_of ws))

-- Model m of an open file, and the numbers, plus 1 or 0, of its variables by name.
pub record Numbered (f : List ℕ) (s : Sections) (m : ℕ) (numbers : List ℕ) : Type 0 where
  pub opened : Open f s
  pub model : m < s.counts.models
  pub numbered : Numbers (roster_in f s m) numbers
  pub long : length numbers ≡ most_names

-- An area with room for the records of as many variables as there may be.
pub record RosterRoom (z : Sizes) (b : List ℕ) : Type 0 where
  pub small : Small z
  pub long : vars_at z + 4 * variable_length * most_variables ≤ length b
