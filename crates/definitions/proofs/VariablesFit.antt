-- The variables of a sound answer: their records pass, their runs fill the dependents in order, and no two have one name.
use mathlib.Core.Path.{◌≡◌, refl, ap}
use mathlib.Core.Bool.{Bool, true, false, cond, ◌||◌}
use mathlib.Core.List.{List, [], ◌∷◌, ◌++◌, map}
use Prim.Native.Nat.{ℕ, suc, ◌+◌, ◌≤◌}
use native.Mathlib.Omega.{arith}
use borrow.Author.Tests.{lt-ltb, le-leb, eq-eqb, ne_eqb, eqb-false}
use lib.Dec.{leb, eqb}
use lib.ListN.{length}
use Rattle.functions.specs.Lists.{all, any, member, sum_of, flag, place, plus_one}
use Rattle.ast.specs.Tree.{Unknown, File}
use Rattle.ast.specs.Words.{word_of}
use Rattle.ast.specs.WellFormed.{Each}
use Rattle.ast.proofs.FromBytes.{every_append}
use Rattle.definitions.specs.Numbers.{most_names}
use Rattle.definitions.specs.Names.{is_reserved, time_name}
use Rattle.definitions.specs.Variables.{Variable, declare, variable_names, variable, variables_of, is_state, time_index, time_dependent}
use Rattle.definitions.specs.Flatten.{model_at, scope_of}
use Rattle.definitions.specs.Allocate.{is_held_by, is_initial_of, held_by, conditions}
use Rattle.definitions.specs.Answer.{Answer, variable_words, variable_records}
use Rattle.definitions.specs.Build.{accepted, answer_from, answer}
use Rattle.definitions.specs.Layout.{variable_fits, variables_fit, named_apart, names_differ}
use Rattle.definitions.proofs.Accepted.{answered, answered_of}
use Rattle.definitions.proofs.Counts.{or_false}
use Rattle.definitions.proofs.ListLaws.{place_small}
use Rattle.definitions.proofs.SoundVariables.{SoundVariable, length_keep}
use Rattle.definitions.proofs.SoundAnswer.{index_small}

-- ---- names plus 1: each but the first is 1 or more, and no two are one

-- behind n
abbrev Behind : ℕ → ℕ → Type 0
Behind n m = (1 ≤ m) × (m ≡ n → ⊥)

-- each behind all before it
abbrev Apart : List ℕ → Type 0
Apart [] = Unit {0}
Apart (n ∷ ns) = Each (Behind n) ns × Apart ns

-- one more at the end that is no member
apart_last : (ns : List ℕ) (m : ℕ) → Apart ns → 1 ≤ m → member m ns ≡ false → Apart (ns ++ m ∷ [])
unfolding member any
apart_last [] m x h g = (tt, tt)
apart_last (n ∷ ns) m x h g =
    let (e, k) = or_false (eqb m n) (any (eqb m) ns) g in
    (every_append (Behind n) ns (m ∷ []) x.0 ((h, eqb-false m n e), tt), apart_last ns m x.1 h k)

-- one more, unless it is reserved or a member
apart_next : (b d : Bool) (ns : List ℕ) (m : ℕ) → member m ns ≡ d → Apart ns → 1 ≤ m → Apart (cond (b || d) ns (ns ++ m ∷ []))
apart_next true d ns m e x h = x
apart_next false true ns m e x h = x
apart_next false false ns m e x h = apart_last ns m x h e

-- the names of unknowns in order of first declaration
declare_apart : (names : List (List ℕ)) (vs : List ℕ) (us : List Unknown) → Apart vs → Apart (declare names vs us)
unfolding declare
declare_apart names vs [] x = x
declare_apart names vs (u ∷ us) x = declare_apart names (cond (is_reserved names u.name || member (suc u.name) vs) vs (vs ++ suc u.name ∷ [])) us (apart_next (is_reserved names u.name) _ vs (suc u.name) refl x (omega arith))

-- a variable bears the name it is made of
variable_names_lem : (names : List (List ℕ)) (vs : List ℕ) (us : List Unknown) (ws : List ℕ) → map (λ (v : Variable). v.name) (map (variable names vs us) ws) ≡ ws
unfolding variable
variable_names_lem names vs us [] = refl
variable_names_lem names vs us (w ∷ ws) = ap (λ (xs : List ℕ). w ∷ xs) (variable_names_lem names vs us ws)

-- The names of an answer's variables are apart.
abbrev pub NamesApart : Answer → Type 0
NamesApart a = Apart (map (λ (v : Variable). v.name) a.vars)

-- those of a model's variables are
variables_apart : (names : List (List ℕ)) (us : List Unknown) → Apart (map (λ (v : Variable). v.name) (variables_of names us))
unfolding variables_of variable_names
variables_apart names us =
    let vs = declare names (time_name names ∷ []) us in
    rw (variable_names_lem names vs us vs) (declare_apart names (time_name names ∷ []) us (tt, tt))

-- and those of its answer
answered_apart : (f : File) (m : ℕ) → NamesApart (answered f m)
unfolding answer_from scope_of
answered_apart f m = variables_apart f.names (model_at f m).unknowns

-- Those of every accepted answer are.
pub names_apart : (file root : List ℕ) (a : Answer) → answer file root ≡ accepted a → NamesApart a
names_apart file root a h =
    let x = answered_of file root a h in
    rw x.is_clean.is_answer at (answered_apart x.tree x.model)

module _ (a : Answer) where
  -- one record behind a name, and all of them
  named_apart_lem : (n i first : ℕ) (v : Variable) → Behind n v.name → named_apart n (variable_words a i first v) ≡ true
  unfolding named_apart variable_words word_of
  named_apart_lem n i first v h = simp (lt-ltb 0 v.name h.0, ne_eqb v.name n h.1)

  all_named_apart : (n i first : ℕ) (vs : List Variable) → Each (Behind n) (map (λ (v : Variable). v.name) vs) → all (named_apart n) (variable_records a i first vs) ≡ true
  unfolding all variable_records
  all_named_apart n i first [] h = refl
  all_named_apart n i first (v ∷ vs) h = rw (named_apart_lem n i first v h.0) (all_named_apart n (suc i) (first + length v.deps) vs h.1)

  -- No two records have one name, and only the first may be unnamed.
  pub names_differ_lem : (i first : ℕ) (vs : List Variable) → Apart (map (λ (v : Variable). v.name) vs) → names_differ (variable_records a i first vs) ≡ true
  unfolding names_differ variable_records variable_words word_of
  names_differ_lem i first [] h = refl
  names_differ_lem i first (v ∷ vs) h =
      rw (all_named_apart v.name (suc i) (first + length v.deps) vs h.0) (names_differ_lem (suc i) (first + length v.deps) vs h.1)

-- ---- records

-- a 0/1 field
flag_fits : (b : Bool) → leb (flag b) 1 ≡ true
unfolding flag
flag_fits true = refl
flag_fits false = refl

module _ (names : ℕ) (few : names ≤ most_names) (a : Answer) (stmts limit : ℕ) (same : length a.fates ≡ stmts) where
  -- one more than the statement held, and how many conditions: at most the statements
  held_fits : (i : ℕ) → leb (held_by a.fates i) stmts ≡ true
  unfolding held_by place
  held_fits i = le-leb _ stmts (omega (arith, place_small (is_held_by i) 0 a.fates))

  conditions_fit : (i : ℕ) → leb (conditions a.fates i) stmts ≡ true
  unfolding conditions
  conditions_fit i = le-leb _ stmts (omega (arith, length_keep (is_initial_of i) a.fates))

  -- a variable's record passes
  variable_fits_lem : (k i first : ℕ) (v : Variable) → SoundVariable names k v → first + length v.deps ≤ limit → variable_fits stmts limit first (variable_words a i first v) ≡ true
  unfolding variable_fits variable_words word_of
  variable_fits_lem k i first v x h =
      simp (
        le-leb v.name most_names (omega (arith, x.name)),
        flag_fits (is_state v),
        le-leb (plus_one (time_index v)) (length v.deps) (index_small v),
        eq-eqb first first refl,
        le-leb (first + length v.deps) limit h,
        held_fits i,
        conditions_fit i,
        flag_fits (time_dependent a.vars i),
      )

  -- The records pass, and their runs fill the dependents.
  pub variables_fit_lem : (k i first : ℕ) (vs : List Variable) → Each (SoundVariable names k) vs → first + sum_of (λ v. length v.deps) vs ≡ limit
      → variables_fit stmts limit first (variable_records a i first vs) ≡ true
  unfolding variables_fit variable_records sum_of variable_words word_of
  variables_fit_lem k i first [] x h = eq-eqb first limit (omega arith)
  variables_fit_lem k i first (v ∷ vs) x h =
      rw (variable_fits_lem k i first v x.0 (omega arith)) (variables_fit_lem k (suc i) (first + length v.deps) vs x.1 (omega arith))
