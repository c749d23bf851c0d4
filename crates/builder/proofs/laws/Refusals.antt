-- The refusals 6, 7 and 8 in the code's terms: models reached, unknowns that list themselves, arguments beyond.
use mathlib.Core.Path.{◌≡◌, refl, sym, ap, ◌∙◌}
use mathlib.Core.Bool.{Bool, true, false, not, ◌&&◌, ◌||◌, or-true, or-false, or_comm}
use mathlib.Core.List.{List, [], ◌∷◌, ◌++◌}
use Rattle.std.specs.List.{list_any, range_with_len}
use Rattle.std.proofs.lemmas.List.Folds.{list_any-append}
use mathlib.Core.Option.{none, some}
use Prim.Native.Nat.{ℕ, zero, suc, ◌+◌, ◌-◌, ◌*◌, ◌≤◌, ◌<◌}
use native.Mathlib.Omega.{arith}
use borrow.Author.Tests.{ne_eqb}
use lib.Dec.{leb, eqb}
use lib.ListN.{length, get_or}
use Rattle.functions.specs.Lists.{member, reaches}
use Rattle.ast.specs.Tree.{Span, Expr, Args, snoc, count, Stmt, own, submodel, File}
use Rattle.ast.specs.Nodes.{name_at, op_at, size_at, args_fit, nodes_fit, args_before}
use Rattle.ast.proofs.Fitting.{last_arg}
use Rattle.ast.proofs.Trees.{args_more, args_none}
use Rattle.ast.proofs.Sizes.{count_before}
use Rattle.builder.specs.declared.names.Class.{Class}
use Rattle.builder.specs.declared.names.Class.TheVariants.{Time}
use Rattle.builder.specs.contracts.names.ClassPartialEq.TheImpl.{ghosts}
use Rattle.definitions.specs.Flatten.{args_beyond, model_at, submodels, reached, any_reached, lists_itself, stmt_beyond, sub_beyond}
use Rattle.builder.specs.Tables.{class_number, Classes, called_by, Reaching}
use Rattle.ast.specs.Words.{word_of}
use Rattle.ast.specs.Records.{unknown_of, right_top, stmt_of}
use Rattle.ast.specs.Opens.{Open, contents_in, file_in}
use Rattle.ast.specs.declared.sections.Sections.{Sections}
use Rattle.builder.proofs.laws.Classes.{entry_usable}
use Rattle.builder.proofs.laws.OpenRecords.{long, passes, model_is, unknown_is}
use Rattle.builder.proofs.laws.Calling.{call_is, called_below}
use Rattle.builder.proofs.laws.Rounds.{reaching_flag}
use Rattle.definitions.proofs.StmtKinds.{stmt_submodel}

-- ---- whether any model reached passes, by the models' numbers

range_last : (a n : ℕ) → range_with_len a (suc n) ≡ range_with_len a n ++ (a + n) ∷ []
range_last a zero = let z : a ≡ a + 0 = omega arith in ap (λ (k : ℕ). k ∷ []) z
range_last a (suc n) = let z : a + 1 + n ≡ a + suc n = omega arith in ap (λ (xs : List ℕ). a ∷ xs) (range_last (a + 1) n ∙ ap (λ (k : ℕ). range_with_len (a + 1) n ++ k ∷ []) z)

module _ (f : File) (root : ℕ) where
  module _ (p : ℕ → Bool) where
    -- of the first n models
    models_along : (n : ℕ) → list_any (λ m. (eqb m root || reached f root m) && p m) (range_with_len 0 n) ≡ any_reached f root p n
    unfolding any_reached
    models_along zero = refl
    models_along (suc n) =
        let z : 0 + n ≡ n = omega arith in
        let test = λ (m : ℕ). (eqb m root || reached f root m) && p m in
        ap (list_any test) (range_last 0 n) ∙ list_any-append test (range_with_len 0 n) _ ∙ or_comm (list_any test (range_with_len 0 n)) _ ∙ rw (z, or-false (test n), models_along n) refl

    -- of all models
    pub reached_along : (n : ℕ) → length f.models ≡ n → list_any (λ m. (eqb m root || reached f root m) && p m) (range_with_len 0 n) ≡ any_reached f root p (length f.models)
    reached_along n l = rw l (models_along n)

  -- the same where t says of each of the first n models what p says
  pub reached_same : (t p : ℕ → Bool) (n : ℕ) → ((m : ℕ) → m < n → t m ≡ p m) → any_reached f root t n ≡ any_reached f root p n
  unfolding any_reached
  reached_same t p zero h = refl
  reached_same t p (suc n) h = rw (h n (omega arith), reached_same t p n (λ m l. h m (omega arith))) refl

-- ---- what the table of models reached says

module _ (f : List ℕ) (s : Sections) (o : Open f s) (t : List ℕ) (h : Reaching (file_in f s) s.counts.models s.counts.models t) where
  -- whether b is reached from a
  pub reached_flag : (a b : ℕ) → a < s.counts.models → b < s.counts.models → eqb (get_or t (32 * a + b) 0) 1 ≡ reached (file_in f s) a b
  unfolding reached
  reached_flag a b ha hb = reaching_flag (file_in f s) _ _ t h a b ha hb ∙ ap (λ (k : ℕ). reaches (submodels (file_in f s)) k a b) (sym (long f s o).file_models)

  -- whether a is reached from itself
  pub itself_flag : (a : ℕ) → a < s.counts.models → eqb (get_or t (33 * a) 0) 1 ≡ reached (file_in f s) a a
  itself_flag a ha =
      let e : 33 * a ≡ 32 * a + a = omega arith in
      ap (λ (k : ℕ). eqb (get_or t k 0) 1) e ∙ reached_flag a a ha ha

-- ---- an unknown that lists itself, by the table of classes

-- by its record's words
pub lists_itself_is : (f : List ℕ) (s : Sections) → Open f s → (t : List Class) → Classes (file_in f s).names t → (u : ℕ) → u < s.counts.unknowns
    → (name : ℕ) → name ≡ word_of (get_or (contents_in f s).unknowns u []) 0
    → ((ghosts.eq (get_or t name Time) Time || not (leb (class_number (get_or t name Time)) 5)) && member name (unknown_of (contents_in f s).deps (get_or (contents_in f s).unknowns u [])).deps)
    ≡ lists_itself (file_in f s) (unknown_of (contents_in f s).deps (get_or (contents_in f s).unknowns u []))
unfolding lists_itself unknown_of
lists_itself_is f s o t h u l name en =
    let r = get_or (contents_in f s).unknowns u [] in
    let names = (file_in f s).names in
    let b : word_of r 0 < length names = omega (arith, (unknown_is f s o u l).name_below, (long f s o).file_names) in
    rw (en, entry_usable h (word_of r 0) b) refl

-- ---- positional arguments beyond, from the last argument down

-- by the last argument and those before it
beyond_last : (m k : ℕ) (a : Args) (e : Expr) (s : Span) → args_beyond m (snoc a k e s) ≡ (args_beyond m a || (eqb k 0 && leb m (count a)))
unfolding args_beyond
beyond_last m zero a e s = refl
beyond_last m (suc k) a e s = rw (ne_eqb (suc k) 0 (λ z. omega arith)) (sym (or-false (args_beyond m a)))

module _ (names : ℕ) (ns : List (List ℕ)) (n : ℕ) (ok : nodes_fit names ns n ≡ true) (m end c total : ℕ) (l : end ≤ n) (x : args_fit ns end c total ≡ true) where
  -- the same of the arguments before node `end`
  pub beyond_turn : 0 < c → args_beyond m (args_before ns end c total)
      ≡ (args_beyond m (args_before ns (end - size_at ns (end - 1)) (c - 1) (total - size_at ns (end - 1))) || (eqb (name_at ns (end - 1)) 0 && leb m (c - 1)))
  beyond_turn h =
      let ne : (c ≡ 0) → ⊥ = λ e. omega arith in
      let a = last_arg names ns n ok end c total l x ne in
      let z = size_at ns (end - 1) in
      let g : count (args_before ns (end - z) (c - 1) (total - z)) ≡ c - 1 = count_before names ns n ok (c - 1) (end - z) (total - z) (omega arith) a.rest in
      ap (args_beyond m) (args_more names ns n ok end c total l x ne) ∙ beyond_last m _ _ _ _ ∙ ap (λ (j : ℕ). args_beyond m (args_before ns (end - z) (c - 1) (total - z)) || (eqb (name_at ns (end - 1)) 0 && leb m j)) g

-- no argument is left
pub beyond_done : (ns : List (List ℕ)) (m end c total : ℕ) → c ≤ 0 → args_beyond m (args_before ns end c total) ≡ false
unfolding args_beyond
beyond_done ns m end c total h = ap (args_beyond m) (args_none ns end c total (omega arith))

module _ (f : List ℕ) (s : Sections) (o : Open f s) (end c total : ℕ) (l : end ≤ s.counts.nodes) (x : args_fit (contents_in f s).nodes end c total ≡ true) (h : 0 < c) where
  -- the same in an open file
  beyond_here : (m : ℕ) → args_beyond m (args_before (contents_in f s).nodes end c total)
      ≡ (args_beyond m (args_before (contents_in f s).nodes (end - size_at (contents_in f s).nodes (end - 1)) (c - 1) (total - size_at (contents_in f s).nodes (end - 1)))
      || (eqb (name_at (contents_in f s).nodes (end - 1)) 0 && leb m (c - 1)))
  beyond_here m = beyond_turn _ _ _ (passes f s o).nodes m end c total l x h

  abbrev before : Args
  before = args_before (contents_in f s).nodes (end - size_at (contents_in f s).nodes (end - 1)) (c - 1) (total - size_at (contents_in f s).nodes (end - 1))

  -- where the last argument is beyond, one is; where it is not, those before it decide
  pub beyond_yes : (m : ℕ) → (eqb (name_at (contents_in f s).nodes (end - 1)) 0 && leb m (c - 1)) ≡ true → args_beyond m (args_before (contents_in f s).nodes end c total) ≡ true
  beyond_yes m e = beyond_here m ∙ ap (λ (b : Bool). args_beyond m before || b) e ∙ or-true (args_beyond m before)

  pub beyond_no : (m : ℕ) → (eqb (name_at (contents_in f s).nodes (end - 1)) 0 && leb m (c - 1)) ≡ false → args_beyond m (args_before (contents_in f s).nodes end c total) ≡ args_beyond m before
  beyond_no m e = beyond_here m ∙ ap (λ (b : Bool). args_beyond m before || b) e ∙ or-false (args_beyond m before)

-- ---- a submodel statement whose model is found

module _ (f : File) where
  -- a statement that calls nothing
  pub too_none : (q : Stmt) → called_by f q ≡ none → stmt_beyond f q ≡ false
  unfolding called_by stmt_beyond sub_beyond
  too_none (own q) e = refl
  too_none (submodel n a c s) e = ap (sub_beyond f a) e

  -- a submodel statement whose model is found
  too_some : (n : ℕ) (a : Args) (c s : Span) (m : ℕ) → called_by f (submodel n a c s) ≡ some m → stmt_beyond f (submodel n a c s) ≡ args_beyond (length (model_at f m).unknowns) a
  unfolding called_by stmt_beyond sub_beyond
  too_some n a c s m e = ap (sub_beyond f a) e

module _ (f : List ℕ) (s : Sections) (o : Open f s) (q : ℕ) (l : q < s.counts.stmts) (c : ℕ)
    (e : called_by (file_in f s) (stmt_of (contents_in f s).nodes (get_or (contents_in f s).stmts q [])) ≡ some c) where
  -- statement q, by the model that it calls and the arguments of its call
  pub too_many_is : stmt_beyond (file_in f s) (stmt_of (contents_in f s).nodes (get_or (contents_in f s).stmts q []))
      ≡ args_beyond (length (model_at (file_in f s) c).unknowns)
      (args_before (contents_in f s).nodes (right_top (get_or (contents_in f s).stmts q [])) (op_at (contents_in f s).nodes (right_top (get_or (contents_in f s).stmts q []))) (size_at (contents_in f s).nodes (right_top (get_or (contents_in f s).stmts q [])) - 1))
  too_many_is =
      let k = stmt_submodel (contents_in f s).nodes (get_or (contents_in f s).stmts q []) (call_is f s o q l c e).kind in
      ap (stmt_beyond (file_in f s)) k ∙ too_some (file_in f s) _ _ _ _ c (sym (ap (called_by (file_in f s)) k) ∙ e)

  -- the arguments of its call, against the unknowns of that model
  pub call_beyond : (n top : ℕ) → n ≡ word_of (get_or (contents_in f s).models c []) 2 → top ≡ word_of (get_or (contents_in f s).stmts q []) 3
      → args_beyond n (args_before (contents_in f s).nodes top (op_at (contents_in f s).nodes top) (size_at (contents_in f s).nodes top - 1))
      ≡ stmt_beyond (file_in f s) (stmt_of (contents_in f s).nodes (get_or (contents_in f s).stmts q []))
  call_beyond n top en et =
      let ns = (contents_in f s).nodes in
      let r = right_top (get_or (contents_in f s).stmts q []) in
      let b : c < s.counts.models = omega (arith, called_below (file_in f s) _ c e, (long f s o).file_models) in
      let k : n ≡ length (model_at (file_in f s) c).unknowns = en ∙ sym (model_is f s o c b).unknowns_long in
      ap (λ (j : ℕ). args_beyond n (args_before ns j (op_at ns j) (size_at ns j - 1))) et ∙ ap (λ (j : ℕ). args_beyond j (args_before ns r (op_at ns r) (size_at ns r - 1))) k ∙ sym too_many_is
