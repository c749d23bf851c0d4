-- ModelInfo::build: what a build answers. Refusals are tested 2, 3, 4, 5, 6, 7, 8, 9, 10, 1.
use Rattle.std.specs.Prelude.{ℕ, ◌+◌, ◌-◌, ◌*◌, Bool, cond, ◌||◌, List, ◌++◌, map, leb, ltb, length, replicate}
use Rattle.std.proofs.Math.Option.{Option, none, some}
use Rattle.functions.specs.Lists.{any, each, place, sum_of}
use Rattle.ast.specs.Tree.{Flat, File, flat_size}
use Rattle.ast.specs.File.{Opened, refused, opened, open_file}
use Rattle.definitions.specs.Numbers.{short_area, no_root, model_cycle, self_listed_unknown, argument_beyond, over_most, short_left_side, most_instances, most_nodes, most_stmts}
use Rattle.definitions.specs.Names.{spells}
use Rattle.definitions.specs.Variables.{time_bounds, Bounds}
use Rattle.definitions.specs.Check.{Scope}
use Rattle.definitions.specs.Flatten.{model_at, scope_of, flatten, errors_of, instances, cyclic, self_listed, overfull}
use Rattle.definitions.specs.Roles.{Role, role_of, role_errors, too_short}
use Rattle.definitions.specs.Allocate.{fates_of, paired_states, lacking, left_count, count_errors, starting_errors}
use Rattle.definitions.specs.Answer.{Answer, answer_bytes}

-- A refusal's number, or what was asked for.
pub data Result (A : Type 0) : Type 0 where
  refusal : ℕ → Result A
  accepted : A → Result A

-- The answer of root model `root`: its variables are those of c, its flattened statements qs have the roles rs.
-- Errors: of building the model, of each statement's role, of the count, of the initial conditions.
unfoldable pub answer_from : File → ℕ → Scope → Bounds → List Flat → List Role → Answer
answer_from f root c time qs rs =
    let fs = fates_of (paired_states c.vars rs) rs in
    let m = model_at f root in
    record {
      stmts = qs;
      fates = fs;
      vars = c.vars;
      errors = errors_of f (length f.models) root ++ each (role_errors c time) qs ++ count_errors m.span (left_count rs) (length (lacking c.vars rs)) ++ starting_errors m.span c.vars qs fs;
      instances = instances f (length f.models) root;
      time = time;
    }

-- Over 1,024 instances, 1,024 flattened nodes or 256 flattened statements.
unfoldable pub too_big : File → ℕ → List Flat → Bool
too_big f root qs = ltb most_instances (instances f (length f.models) root) || ltb most_nodes (sum_of flat_size qs) || ltb most_stmts (length qs)

unfoldable pub any_short : Scope → List Flat → Bool
any_short c qs = any (too_short c) qs

unfoldable pub allocated : File → ℕ → Scope → Bounds → List Flat → Result Answer
allocated f root c time qs =
    cond (too_big f root qs) (refusal over_most)
    (cond (any_short c qs) (refusal short_left_side) (accepted (answer_from f root c time qs (map (role_of c time) qs))))

-- A root model's answer.
unfoldable pub answer_of_model : File → ℕ → Result Answer
answer_of_model f root =
    cond (cyclic f root) (refusal model_cycle)
    (cond (self_listed f root) (refusal self_listed_unknown)
    (cond (overfull f root) (refusal argument_beyond)
    (allocated f root (scope_of f (model_at f root)) (time_bounds f.names (model_at f root).unknowns) (flatten f (length f.models) root))))

-- The first model bearing the root name is the one meant.
unfoldable pub root_of : File → List ℕ → Option ℕ
root_of f root = place (λ m. spells f.names root m.name) f.models

unfoldable pub answer_of_root : File → Option ℕ → Result Answer
answer_of_root f none = refusal no_root
answer_of_root f (some m) = answer_of_model f m

unfoldable pub answer_in_file : List ℕ → Opened → Result Answer
answer_in_file root (refused n) = refusal n
answer_in_file root (opened f) = answer_of_root f (root_of f root)

-- The answer of a tree file and a root name, before it is written.
unfoldable pub answer : List ℕ → List ℕ → Result Answer
answer file root = answer_in_file root (open_file file)

-- An answer's bytes, where an area of `room` bytes is long enough.
unfoldable pub fitted : ℕ → List ℕ → Result (List ℕ)
fitted room b = cond (leb (length b) room) (accepted b) (refusal short_area)

unfoldable pub written : ℕ → Result Answer → Result (List ℕ)
written room (refusal n) = refusal n
written room (accepted a) = fitted room (answer_bytes a)

-- The bytes used of an answer area of `room` bytes.
unfoldable pub build : List ℕ → List ℕ → ℕ → Result (List ℕ)
build file root room = written room (answer file root)

-- ---- what the caller is told. Accepted: number 0 and the bytes used. Refused: number and 0; the whole area is zero

unfoldable pub result_number : Result (List ℕ) → ℕ
result_number (refusal n) = n
result_number (accepted b) = 0

unfoldable pub result_used : Result (List ℕ) → ℕ
result_used (refusal n) = 0
result_used (accepted b) = length b

-- Both in one number: the number in the low 32 bits, the bytes used in the high ones.
unfoldable pub told : Result (List ℕ) → ℕ
told r = result_number r + 4294967296 * result_used r

-- The area afterwards: the answer with zeros behind it, or zeros only.
unfoldable pub result_area : ℕ → Result (List ℕ) → List ℕ
result_area room (refusal n) = replicate room 0
result_area room (accepted b) = b ++ replicate (room - length b) 0
