-- The tables that the code works out of an open file, by number, and what each entry says.
use Rattle.std.specs.Prelude.{ℕ, zero, suc, ◌+◌, ◌*◌, ◌<◌, ◌≡◌, Bool, cond, not, ◌&&◌, eqb, List, [], ◌∷◌, ◌++◌, length, get_or}
use Rattle.std.proofs.Math.Option.{Option, none, some}
use Rattle.functions.specs.Lists.{text, same_text, any, plus_one, reaches, flag, member, sum_of}
use Rattle.functions.specs.declared.Rule.{Rule}
use Rattle.functions.specs.Rules.{rule_of}
use Rattle.ast.specs.Tree.{Stmt, own, submodel, File}
use Rattle.ast.specs.Records.{stmt_of}
use Rattle.ast.specs.Opens.{contents_in, file_in}
use Rattle.ast.specs.declared.sections.Sections.{Sections}
use Rattle.definitions.specs.Numbers.{most_names, most_models}
use Rattle.definitions.specs.Names.{text_of}
use Rattle.definitions.specs.Variables.{at}
use Rattle.definitions.specs.Check.{Scope, lookup}
use Rattle.definitions.specs.Flatten.{model_named, submodels}
use Rattle.definitions.specs.Roles.{Role}
use Rattle.definitions.specs.Allocate.{is_rate_of}
use Rattle.builder.specs.declared.names.Class.{Class}
use Rattle.builder.specs.declared.names.Class.TheVariants as classes

-- ---- classes of names: the place of a text among those that decide something, or 18

unfoldable pub deciding : List (List ℕ)
deciding = text "t" ∷ text "u" ∷ text "dudt" ∷ text "F" ∷ text "G" ∷ text "input" ∷ text "NonNegative" ∷ text "R" ∷ text "sin" ∷ text "cos" ∷ text "tan" ∷ text "pow" ∷ text "exp" ∷ text "log" ∷ text "sqrt" ∷ text "abs" ∷ text "interp1d" ∷ text "piecewise" ∷ []

unfoldable pub class_from : ℕ → List (List ℕ) → List ℕ → ℕ
class_from i [] x = i
class_from i (y ∷ ys) x = cond (same_text x y) i (class_from (i + 1) ys x)

unfoldable pub class_of : List ℕ → ℕ
class_of x = class_from 0 deciding x

-- of t, the last reserved name, NonNegative, the first built-in function, and every text that decides nothing
abbrev pub time_class : ℕ
time_class = 0

abbrev pub last_reserved : ℕ
last_reserved = 5

abbrev pub non_negative : ℕ
non_negative = 6

abbrev pub first_built_in : ℕ
first_built_in = 8

abbrev pub other_class : ℕ
other_class = 18

-- the number of each class
abbrev pub class_number : Class → ℕ
class_number classes.Time = time_class
class_number classes.U = 1
class_number classes.Dudt = 2
class_number classes.F = 3
class_number classes.G = 4
class_number classes.Input = last_reserved
class_number classes.NonNegative = non_negative
class_number classes.Real = 7
class_number classes.Sin = first_built_in
class_number classes.Cos = 9
class_number classes.Tan = 10
class_number classes.Pow = 11
class_number classes.Exp = 12
class_number classes.Log = 13
class_number classes.Sqrt = 14
class_number classes.Abs = 15
class_number classes.Interp1d = 16
class_number classes.Piecewise = 17
class_number classes.Other = other_class

-- the class of each name
pub record Classes (names : List (List ℕ)) (table : List Class) : Type 0 where
  pub class : (n : ℕ) (d : Class) → n < length names → class_number (get_or table n d) ≡ class_of (text_of names n)

-- A table of n entries that are all 0.
pub record Blank (n : ℕ) (table : List ℕ) : Type 0 where
  pub long : length table ≡ n
  pub zeros : (k : ℕ) → get_or table k 0 ≡ 0

-- the argument rule of each name
pub record Rules (names : List (List ℕ)) (table : List Rule) : Type 0 where
  pub rule : (n : ℕ) (d : Rule) → n < length names → get_or table n d ≡ rule_of (text_of names n)

-- ---- statements: the model that one calls, if it calls one; and its number plus 1, or 0

unfoldable pub called_by : File → Stmt → Option ℕ
called_by f (own q) = none
called_by f (submodel n a c s) = model_named f n

unfoldable pub callee_of : File → Stmt → ℕ
callee_of f (own q) = 0
callee_of f (submodel n a c s) = plus_one (model_named f n)

-- of each statement of the file
pub record Callees (f : List ℕ) (s : Sections) (table : List ℕ) : Type 0 where
  pub callee : (q : ℕ) → q < s.counts.stmts → get_or table q 0 ≡ callee_of (file_in f s) (stmt_of (contents_in f s).nodes (get_or (contents_in f s).stmts q []))

-- ---- models: 1 at 32 a + b where b is reached from a by at most k steps

pub record Reaching (f : File) (n k : ℕ) (table : List ℕ) : Type 0 where
  pub reach : (a b : ℕ) → a < n → b < n → get_or table (most_models * a + b) 0 ≡ flag (reaches (submodels f) k a b)

-- by any number of steps, of all models of an open file
abbrev pub ReachedIn : List ℕ → Sections → List ℕ → Type 0
ReachedIn f s table = Reaching (file_in f s) s.counts.models s.counts.models table

-- ---- variables of a scope by name: 0 where a name is none, else 1 plus the count of its kept dependents

unfoldable pub entry_of : Scope → Option ℕ → ℕ
entry_of c none = 0
entry_of c (some v) = suc (length (at c.vars v).deps)

pub record VarsOf (c : Scope) (table : List ℕ) : Type 0 where
  pub var : (n : ℕ) → n < length c.names → get_or table n 0 ≡ entry_of c (lookup c n)

-- 1 at each name that is among the variables' names, plus 1, `vs`, and 0 at every other
pub record Marks (n : ℕ) (vs table : List ℕ) : Type 0 where
  pub long : length table ≡ most_names
  pub mark : (k : ℕ) → k < n → get_or table k 0 ≡ flag (member (suc k) vs)

-- how many of some names have an entry
unfoldable pub kept_in : List ℕ → List ℕ → ℕ
kept_in table ds = sum_of (λ d. flag (not (eqb (get_or table d 0) 0))) ds

-- ---- by the roles of statements

-- Whether variable v is a state, 1 in the table, that none of the roles goes to.
unfoldable pub lacks_in : List Role → List ℕ → ℕ → Bool
lacks_in roles states v = eqb (get_or states v 0) 1 && not (any (is_rate_of v) roles)

-- Those below n, in order.
unfoldable pub lacking_in : List Role → List ℕ → ℕ → List ℕ
lacking_in roles states zero = []
lacking_in roles states (suc n) = lacking_in roles states n ++ cond (lacks_in roles states n) (n ∷ []) []
