-- The fates of statements by their roles, as the code writes them into words 6 and 7 of the statements' records.
use Rattle.std.specs.Prelude.{ℕ, Bool, ◌&&◌, List, [], ◌∷◌, ◌++◌, eqb, take, drop}
use Rattle.functions.specs.Lists.{any}
use Rattle.ast.specs.Words.{word_of}
use Rattle.area.specs.Fields.{stmt_fate, stmt_variable}
use Rattle.definitions.specs.Roles.{Role, starts, rates, free}
use Rattle.definitions.specs.Allocate.{Fate, initial, held, left_over, is_rate_of, rate_fate}
use Rattle.definitions.specs.Answer.{fate_number, fate_variable}

-- A statement that is left holds the queue's first state, or is left over.
unfoldable pub left_in : List ℕ → Fate
left_in [] = left_over
left_in (v ∷ queue) = held v

-- The fate of a statement of a role: `later` are the roles behind it.
unfoldable pub fate_in : List ℕ → Role → List Role → Fate
fate_in queue (starts v) later = initial v
fate_in queue (rates v) later = rate_fate (any (is_rate_of v) later) v
fate_in queue free later = left_in queue

-- The states that are still to be paired behind it.
unfoldable pub queue_in : List ℕ → Role → List ℕ
queue_in queue (starts v) = queue
queue_in queue (rates v) = queue
queue_in queue free = drop 1 queue

-- ---- in the records

-- a fate as its two numbers
abbrev pub fate_pair : Fate → ℕ × ℕ
fate_pair x = (fate_number x, fate_variable x)

-- the words of fate and variable
unfoldable pub with_fate : List ℕ → ℕ × ℕ → List ℕ
with_fate r x = take stmt_fate r ++ (x.0 ∷ x.1 ∷ [])

unfoldable pub fated : List (List ℕ) → List (ℕ × ℕ) → List (List ℕ)
fated [] xs = []
fated (r ∷ rs) [] = r ∷ rs
fated (r ∷ rs) (x ∷ xs) = with_fate r x ∷ fated rs xs

-- a record of this fate and variable
unfoldable pub is_fated : ℕ → ℕ → List ℕ → Bool
is_fated fate v r = eqb (word_of r stmt_fate) fate && eqb (word_of r stmt_variable) v
