-- One round over the table of models reached: from at most k steps to one more.
use mathlib.Core.Path.{◌≡◌, refl, sym, ap, ◌∙◌}
use mathlib.Core.Bool.{Bool, true, false, cond, ◌||◌, or-false}
use mathlib.Core.List.{List, [], ◌∷◌}
use mathlib.Core.Logic.{◌⊎◌, ⊎_elim}
use mathlib.Core.Option.{none, some}
use Prim.Native.Nat.{ℕ, ◌+◌, ◌*◌, ◌≤◌, ◌<◌}
use native.Mathlib.Omega.{arith}
use native.Mathlib.Numerals.{add-one}
use native.Mathlib.Nat.{eq-or-lt_of_le}
use lib.Dec.{eqb}
use lib.ListN.{length, take, get_or, replicate, length-replicate, get_or-replicate}
use lib.Seq.{take-suc, take_all}
use Rattle.functions.specs.Lists.{any, each, reaches, flag}
use Rattle.ast.specs.Tree.{Stmt, File}
use Rattle.definitions.specs.Flatten.{model_at, stmt_models, submodels}
use Rattle.builder.specs.Tables.{called_by, Reaching}
use Rattle.builder.specs.Rounds.{onward, steps_on, Added, Stepped}
use Rattle.ast.specs.Words.{word_of}
use Rattle.ast.specs.Records.{stmt_of}
use Rattle.ast.specs.Opens.{Open, contents_in, file_in}
use Rattle.ast.specs.declared.sections.Sections.{Sections}
use Rattle.ast.specs.WellFormed.{Each}
use Rattle.builder.proofs.laws.OpenRecords.{model_is}
use Rattle.builder.proofs.laws.Calling.{callees_all, calls_none, calls_one}
use Rattle.definitions.proofs.ListLaws.{any_append, flag_one}

-- of lists in a row, list by list
any_each : {A B : Type 0} (p : B → Bool) (g : A → List B) (xs : List A) → any p (each g xs) ≡ any (λ x. any p (g x)) xs
unfolding any each
any_each p g [] = refl
any_each p g (x ∷ xs) = any_append p (g x) (each g xs) ∙ ap (λ (b : Bool). any p (g x) || b) (any_each p g xs)

-- of one element more
any_first : {A : Type 0} (p : A → Bool) (xs : List A) (d : A) (i : ℕ) → i < length xs → any p (take (i + 1) xs) ≡ (any p (take i xs) || p (get_or xs i d))
unfolding any
any_first p xs d i h = rw (add-one, take-suc xs i d h) (any_append p (take i xs) (get_or xs i d ∷ []) ∙ ap (λ (b : Bool). any p (take i xs) || b) (or-false (p (get_or xs i d))))

-- ---- one round over the table

-- two tests that agree on every element
any_same : {A : Type 0} (P : A → Type 0) (p q : A → Bool) → ((x : A) → P x → p x ≡ q x) → (xs : List A) → Each P xs → any p xs ≡ any q xs
unfolding any
any_same P p q e [] h = refl
any_same P p q e (x ∷ xs) h = rw (e x h.0, any_same P p q e xs h.1) refl

-- a number below one more
up_to : (x a : ℕ) → x < a + 1 → (x ≡ a) ⊎ (x < a)
up_to x a h = let g : x ≤ a = omega arith in eq-or-lt_of_le g

-- an entry set to 1 where one more test passes
flag_or : (t u : Bool) → cond u 1 (flag t) ≡ flag (t || u)
unfolding flag
flag_or true true = refl
flag_or true false = refl
flag_or false true = refl
flag_or false false = refl

module _ (f : File) where
  -- one step on from model a, statement by statement
  steps_by : (old : List ℕ) (a b : ℕ) → steps_on f old a b ≡ any (λ q. any (onward old b) (stmt_models f q)) (model_at f a).stmts
  unfolding steps_on submodels
  steps_by old a b = any_each (onward old b) (stmt_models f) (model_at f a).stmts

  module _ (old : List ℕ) (b : ℕ) (q : Stmt) where
    -- a statement that calls nothing goes nowhere
    onward_none : called_by f q ≡ none → any (onward old b) (stmt_models f q) ≡ false
    unfolding any
    onward_none e = ap (any (onward old b)) (calls_none f q e)

    -- any other goes to its callee, and on from there
    onward_one : (c : ℕ) → called_by f q ≡ some c → any (onward old b) (stmt_models f q) ≡ onward old b c
    unfolding any
    onward_one c e = ap (any (onward old b)) (calls_one f q c e) ∙ or-false _

  module _ (n : ℕ) (old : List ℕ) where
    -- before the first row
    pub stepped_none : Stepped f n old 0 (replicate 1024 0)
    stepped_none = record { size = length-replicate {A = ℕ} 1024 0; rows = λ x y h g. absurd (omega arith); rest = λ z h g. get_or-replicate 1024 z 0 0 g }

    -- the rows below a are one step on, and row a is so by the model's first i statements
    pub record Rowed (a i : ℕ) (new : List ℕ) : Type 0 where
      pub size : length new ≡ 1024
      pub rows : (x y : ℕ) → x < a → y < n → get_or new (32 * x + y) 0 ≡ flag (steps_on f old x y)
      pub row : (y : ℕ) → y < n → get_or new (32 * a + y) 0 ≡ flag (any (λ q. any (onward old y) (stmt_models f q)) (take i (model_at f a).stmts))
      pub rest : (z : ℕ) → 32 * (a + 1) ≤ z → z < 1024 → get_or new z 0 ≡ 0

    module _ (m : n ≤ 32) (a : ℕ) (l : a < n) where
      -- by none yet
      pub rowed_none : (t : List ℕ) → Stepped f n old a t → Rowed a 0 t
      unfolding any flag
      rowed_none t s = record { size = s.size; rows = s.rows; row = λ y h. s.rest (32 * a + y) (omega arith) (omega arith); rest = λ z h g. s.rest z (omega arith) g }

      -- by one more, which is q
      rowed_more : (i : ℕ) (q : Stmt) (t t' : List ℕ) → i < length (model_at f a).stmts → get_or (model_at f a).stmts i q ≡ q
          → Added n a (λ y. any (onward old y) (stmt_models f q)) t t' → Rowed a i t → Rowed a (i + 1) t'
      rowed_more i q t t' h e d s = record {
        size = d.size ∙ s.size;
        rows = λ x y hx hy. d.before (32 * x + y) (omega arith) ∙ s.rows x y hx hy;
        row = λ y hy.
            d.row y hy ∙ ap (λ (x : ℕ). cond (goes y q) 1 x) (s.row y hy) ∙ flag_or _ (goes y q)
            ∙ ap flag (ap (λ (x : Stmt). any (goes y) (take i (model_at f a).stmts) || goes y x) (sym e) ∙ sym (any_first (goes y) (model_at f a).stmts q i h));
        rest = λ z hz g. d.behind z (omega arith) ∙ s.rest z hz g;
      }
        where
          goes : ℕ → Stmt → Bool
          goes y x = any (onward old y) (stmt_models f x)

      -- by all
      rowed_done : (i : ℕ) (t : List ℕ) → length (model_at f a).stmts ≤ i → Rowed a i t → Stepped f n old (a + 1) t
      rowed_done i t h s = record {
        size = s.size;
        rows = λ x y hx hy. ⊎_elim (λ z. rw z (s.row y hy ∙ ap flag (ap (any (λ q. any (onward old y) (stmt_models f q))) (take_all i (model_at f a).stmts h) ∙ sym (steps_by old a y)))) (λ z. s.rows x y z hy) (up_to x a hx);
        rest = s.rest;
      }

    -- all rows one step on: one step more is allowed
    pub stepped_done : (k : ℕ) (t : List ℕ) → n ≡ length f.models → Reaching f n k old → Stepped f n old n t → Reaching f n (k + 1) t
    unfolding steps_on onward reaches
    stepped_done k t e r s = record {
      reach = λ a b ha hb. rw (add-one k) (s.rows a b ha hb ∙ ap flag (any_same (λ (m : ℕ). m < length f.models) _ _ (λ m h.
          let g : m < n = omega arith in
          ap (λ (x : Bool). eqb m b || x) (ap (λ (x : ℕ). eqb x 1) (r.reach m b g hb) ∙ flag_one _)) (submodels f a) (callees_all f a)));
    }

  -- by no step nothing is reached
  pub reaching_none : (n : ℕ) → n ≤ 32 → Reaching f n 0 (replicate 1024 0)
  unfolding reaches flag
  reaching_none n h = record { reach = λ a b ha hb. get_or-replicate 1024 (32 * a + b) 0 0 (omega arith) }

  -- what an entry says
  pub reaching_flag : (n k : ℕ) (t : List ℕ) → Reaching f n k t → (a b : ℕ) → a < n → b < n → eqb (get_or t (32 * a + b) 0) 1 ≡ reaches (submodels f) k a b
  reaching_flag n k t r a b ha hb = ap (λ (x : ℕ). eqb x 1) (r.reach a b ha hb) ∙ flag_one _

-- ---- by the model that a statement calls

module _ (f : File) (q : Stmt) (old : List ℕ) (n a : ℕ) (was : List ℕ) where
  -- statement q adds nothing where it calls none
  pub called_none : called_by f q ≡ none → Added n a (λ y. any (onward old y) (stmt_models f q)) was was
  called_none e = record {
    size = refl;
    row = λ y k. sym (ap (λ (b : Bool). cond b 1 (get_or was (32 * a + y) 0)) (onward_none f old y q e));
    before = λ z k. refl;
    behind = λ z k. refl;
  }

  -- else what that model does
  pub called_one : (c : ℕ) (new : List ℕ) → called_by f q ≡ some c → Added n a (λ y. onward old y c) was new → Added n a (λ y. any (onward old y) (stmt_models f q)) was new
  called_one c new e d = record {
    size = d.size;
    row = λ y k. d.row y k ∙ ap (λ (b : Bool). cond b 1 (get_or was (32 * a + y) 0)) (sym (onward_one f old y q c e));
    before = d.before;
    behind = d.behind;
  }

-- ---- the statements of model a in a loop's terms; the first one's number and the count are those of its record

module _ (f : List ℕ) (s : Sections) (o : Open f s) (old : List ℕ) (a : ℕ) (l : a < s.counts.models) (first count q i : ℕ) (eq : q ≡ first + i)
    (ef : first ≡ word_of (get_or (contents_in f s).models a []) 3) (ec : count ≡ word_of (get_or (contents_in f s).models a []) 4) where
  -- one more
  pub row_more : (t t' : List ℕ) → q < first + count → Added s.counts.models a (λ y. any (onward old y) (stmt_models (file_in f s) (stmt_of (contents_in f s).nodes (get_or (contents_in f s).stmts q [])))) t t'
      → Rowed (file_in f s) s.counts.models old a i t → Rowed (file_in f s) s.counts.models old a (i + 1) t'
  row_more t t' h d r =
      let m = model_is f s o a l in
      let it = λ (k : ℕ). stmt_of (contents_in f s).nodes (get_or (contents_in f s).stmts k []) in
      let e : get_or (model_at (file_in f s) a).stmts i (it q) ≡ it q = m.stmt i (it q) (omega (arith, ec, eq)) ∙ ap it (sym (eq ∙ ap (λ (k : ℕ). k + i) ef)) in
      rowed_more (file_in f s) s.counts.models old o.laid.within.models a l i (it q) t t' (omega (arith, m.stmts_long, ec, eq)) e d r

  -- all
  pub row_done : (t : List ℕ) → first + count ≤ q → Rowed (file_in f s) s.counts.models old a i t → Stepped (file_in f s) s.counts.models old (a + 1) t
  row_done t h r = rowed_done (file_in f s) s.counts.models old o.laid.within.models a l i t (omega (arith, (model_is f s o a l).stmts_long, ec, eq)) r
