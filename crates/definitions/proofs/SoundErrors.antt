-- The errors of a sound file: their kinds exist, their spans are the file's, their names are names of the file.
use mathlib.Core.Path.{◌≡◌, refl}
use Prim.Native.Nat.{ℕ, zero, suc, ◌≤◌}
use native.Mathlib.Omega.{arith}
use mathlib.Core.Bool.{Bool, true, false, cond}
use mathlib.Core.List.{List, [], ◌∷◌}
use mathlib.Core.Option.{Option, none, some}
use lib.Dec.{ltb, leb, eqb}
use lib.ListN.{get_or}
use borrow.Author.Tests.{ltb-true, leb-true}
use Rattle.functions.specs.Lists.{each, place, unless}
use Rattle.ast.specs.Tree.{Span, Expr, name, number, binary, unary, call, Args, empty, snoc, Flat, equation, rate, Stmt, own, submodel, Domain, unstated, range, named, Unknown, File, count}
use Rattle.ast.specs.Words.{in_order}
use Rattle.ast.specs.WellFormed.{Each}
use Rattle.ast.proofs.FromBytes.{every_append, every_each}
use Rattle.definitions.specs.Numbers.{count_against_table, count_against_variable, underdetermined, overdetermined}
use Rattle.definitions.specs.Names.{is_built_in, allows_count}
use Rattle.definitions.specs.Variables.{Error, error, Bounds, Variable, at, time_index, domain_errors, unknown_errors}
use Rattle.definitions.specs.Check.{Scope, lookup, dep_names, count_fits, keyword_errors, dependent_errors, variable_errors, call_errors, expr_errors, args_errors, flat_errors}
use Rattle.definitions.specs.Flatten.{model_named, model_at, scope_of, order_errors, sub_errors, stmt_errors, errors_of}
use Rattle.definitions.specs.Roles.{Start, arg_at, number_in, start_of, start_errors, rate_errors, role_errors}
use Rattle.definitions.specs.Allocate.{Fate, expr_span, right_span, no_flat, right_span_at, numbers_from, count_errors, is_held_by, is_initial_of, held_errors, state_errors, starting_errors}
use Rattle.definitions.proofs.Everywhere.{If, if_bind, if_any, all_unless, all_cond, all_every}
use Rattle.definitions.proofs.Sound.{Sound, SoundArgs, SoundSpan, SoundFlat, SoundStmt}
use Rattle.definitions.proofs.SoundFile.{SoundDomain, SoundUnknown, SoundFile}

module _ (names : ℕ) where
  pub record SoundError (e : Error) : Type 0 where
    pub some_kind : 1 ≤ e.kind
    pub kind : e.kind ≤ 17
    pub span : SoundSpan names e.span
    pub name : e.name ≤ names

  abbrev Errs : List Error → Type 0
  Errs es = Each SoundError es

  make : (k : ℕ) (s : Span) (n : ℕ) → 1 ≤ k → k ≤ 17 → SoundSpan names s → n ≤ names → SoundError (error k s n)
  unfolding error
  make k s n h g x y = record { some_kind = h; kind = g; span = x; name = y }

  named_by : (n : ℕ) → ltb n names ≡ true → suc n ≤ names
  named_by n h = ltb-true n names h

  keyword_by : (k : ℕ) → leb k names ≡ true → k ≤ names
  keyword_by k h = leb-true k names h

  -- ---- unknowns

  domain_sound : (ns : List (List ℕ)) (s : Span) (d : Domain) → SoundSpan names s → SoundDomain names d → Errs (domain_errors ns s d)
  unfolding domain_errors
  domain_sound ns s unstated h g = tt
  domain_sound ns s (range l u) h g = tt
  domain_sound ns s (named d) h g = all_unless SoundError _ _ (make 1 s (suc d) (omega arith) (omega arith) h (named_by d g))

  unknown_errors_lem : (ns : List (List ℕ)) (u : Unknown) → SoundUnknown names u → Errs (unknown_errors ns u)
  unfolding unknown_errors
  unknown_errors_lem ns u h =
      every_append SoundError (domain_errors ns u.span u.domain) _ (domain_sound ns u.span u.domain h.span h.domain)
      (all_unless SoundError _ _ (make 2 u.span (suc u.name) (omega arith) (omega arith) h.span (named_by u.name h.name)))

  -- ---- expressions

  arg_span : (a : Args) (k : ℕ) (e : Expr) (s : Span) → SoundArgs names (snoc a k e s) → SoundSpan names s
  arg_span a k e s x = (x.0.3, x.1.2)

  before : (a : Args) (k : ℕ) (e : Expr) (s : Span) → SoundArgs names (snoc a k e s) → SoundArgs names a
  before a k e s x = (x.0.0, x.1.0)

  keywords_sound : (a : Args) → SoundArgs names a → Errs (keyword_errors a)
  unfolding keyword_errors
  keywords_sound empty x = tt
  keywords_sound (snoc a zero e s) x = keywords_sound a (before a 0 e s x)
  keywords_sound (snoc a (suc k) e s) x =
      every_append SoundError (keyword_errors a) _ (keywords_sound a (before a (suc k) e s x)) (make 7 s (suc k) (omega arith) (omega arith) (arg_span a (suc k) e s x) (keyword_by (suc k) x.0.2), tt)

  dependents_sound : (ds : List ℕ) (a : Args) → SoundArgs names a → Errs (dependent_errors ds a)
  unfolding dependent_errors
  dependents_sound ds empty x = tt
  dependents_sound ds (snoc a zero e s) x =
      every_append SoundError (dependent_errors ds a) _ (dependents_sound ds a (before a 0 e s x)) (all_unless SoundError _ _ (make 10 s 0 (omega arith) (omega arith) (arg_span a 0 e s x) (omega arith)))
  dependents_sound ds (snoc a (suc k) e s) x =
      every_append SoundError (dependent_errors ds a) _ (dependents_sound ds a (before a (suc k) e s x))
      (all_unless SoundError _ _ (make 9 s (suc k) (omega arith) (omega arith) (arg_span a (suc k) e s x) (keyword_by (suc k) x.0.2)))

  order_sound : (a : Args) → SoundArgs names a → Errs (order_errors a)
  unfolding order_errors
  order_sound empty x = tt
  order_sound (snoc a zero e s) x =
      every_append SoundError (order_errors a) _ (order_sound a (before a 0 e s x)) (all_unless SoundError _ _ (make 4 s 0 (omega arith) (omega arith) (arg_span a 0 e s x) (omega arith)))
  order_sound (snoc a (suc k) e s) x = order_sound a (before a (suc k) e s x)

  module _ (c : Scope) where
    variable_sound : (f : ℕ) (a : Args) (s : Span) (o : Option ℕ) → suc f ≤ names → SoundArgs names a → SoundSpan names s → Errs (variable_errors c f a s o)
    unfolding variable_errors
    variable_sound f a s none n x h = (make 11 s (suc f) (omega arith) (omega arith) h n, tt)
    variable_sound f a s (some v) n x h =
        let b = count_fits c v a in
        let e = error count_against_variable s (suc f) in
        every_append SoundError (unless b e) (dependent_errors (dep_names c v) a) (all_unless SoundError b e (make 8 s (suc f) (omega arith) (omega arith) h n)) (dependents_sound (dep_names c v) a x)

    call_sound : (f : ℕ) (a : Args) (s : Span) → suc f ≤ names → SoundArgs names a → SoundSpan names s → Errs (call_errors c f a s)
    unfolding call_errors
    call_sound f a s n x h =
        let b = allows_count c.names f (count a) in
        let e = error count_against_table s (suc f) in
        let d = is_built_in c.names f in
        every_append SoundError (unless b e) (cond d (keyword_errors a) (variable_errors c f a s (lookup c f))) (all_unless SoundError b e (make 6 s (suc f) (omega arith) (omega arith) h n))
        (all_cond SoundError d (keyword_errors a) (variable_errors c f a s (lookup c f)) (keywords_sound a x) (variable_sound f a s (lookup c f) n x h))

    mutual
      unfolding expr_errors

      expr_errors_lem : (e : Expr) → Sound names e → Errs (expr_errors c e)
      expr_errors_lem (name n s) x = all_unless SoundError _ _ (make 5 s (suc n) (omega arith) (omega arith) (x.0.1, x.1) (named_by n x.0.0))
      expr_errors_lem (number b s) x = tt
      expr_errors_lem (binary o l r s) x = every_append SoundError (expr_errors c l) (expr_errors c r) (expr_errors_lem l (x.0.0, x.1.0)) (expr_errors_lem r (x.0.1, x.1.1))
      expr_errors_lem (unary o e s) x = expr_errors_lem e (x.0.0, x.1.0)
      expr_errors_lem (call f a s) x =
          every_append SoundError (call_errors c f a s) (args_errors c a) (call_sound f a s (named_by f x.0.1) (x.0.0, x.1.0) (x.0.2, x.1.1)) (args_errors_lem a (x.0.0, x.1.0))

      args_errors_lem : (a : Args) → SoundArgs names a → Errs (args_errors c a)
      args_errors_lem empty x = tt
      args_errors_lem (snoc a k e s) x = every_append SoundError (args_errors c a) (expr_errors c e) (args_errors_lem a (x.0.0, x.1.0)) (expr_errors_lem e (x.0.1, x.1.1))

    flat_errors_lem : (q : Flat) → SoundFlat names q → Errs (flat_errors c q)
    unfolding flat_errors
    flat_errors_lem (equation l r s) x = every_append SoundError (expr_errors c r) (expr_errors c l) (expr_errors_lem r x.1) (expr_errors_lem l x.0)
    flat_errors_lem (rate n r s) x = expr_errors_lem r x.1

  -- ---- models

  module _ (f : File) (h : SoundFile names f) where
    sub_errors_lem : (sub : ℕ → List Error) → ((m : ℕ) → Errs (sub m)) → (n : ℕ) (a : Args) (s : Span) (o : Option ℕ) → suc n ≤ names → SoundArgs names a → SoundSpan names s → Errs (sub_errors f sub n a s o)
    unfolding sub_errors
    sub_errors_lem sub k n a s none y x z = (make 3 s (suc n) (omega arith) (omega arith) z y, tt)
    sub_errors_lem sub k n a s (some m) y x z = every_append SoundError (sub m) (order_errors a) (k m) (order_sound a x)

    stmt_errors_lem : (sub : ℕ → List Error) → ((m : ℕ) → Errs (sub m)) → (c : Scope) (q : Stmt) → SoundStmt names q → Errs (stmt_errors f sub c q)
    unfolding stmt_errors
    stmt_errors_lem sub k c (own q) x = flat_errors_lem c q x
    stmt_errors_lem sub k c (submodel n a z s) x = sub_errors_lem sub k n a s (model_named f n) (named_by n x.0) x.1 x.2

    pub built_errors : (k m : ℕ) → Errs (errors_of f k m)
    unfolding errors_of
    built_errors zero m = tt
    built_errors (suc k) m =
        every_append SoundError (each (unknown_errors f.names) (model_at f m).unknowns) (each (stmt_errors f (λ j. errors_of f k j) (scope_of f (model_at f m))) (model_at f m).stmts)
        (every_each SoundError (SoundUnknown names) _ (unknown_errors_lem f.names) (model_at f m).unknowns (h.model m).unknowns)
        (every_each SoundError (SoundStmt names) _ (stmt_errors_lem (λ j. errors_of f k j) (λ j. built_errors k j) (scope_of f (model_at f m))) (model_at f m).stmts (h.model m).stmts)

  -- ---- roles

  arg_sound : (i : ℕ) (a : Args) → SoundArgs names a → If (λ (p : Expr × Span). SoundSpan names p.1) (arg_at i a)
  unfolding arg_at
  arg_sound i empty x = tt
  arg_sound i (snoc a k e s) x = go (eqb i (count a)) (arg_sound i a (before a k e s x))
    where
      go : (b : Bool) → If (λ (p : Expr × Span). SoundSpan names p.1) (arg_at i a) → If (λ (p : Expr × Span). SoundSpan names p.1) (cond b (some (e, s)) (arg_at i a))
      go true y = arg_span a k e s x
      go false y = y

  abbrev SoundStart : Start → Type 0
  SoundStart x = (suc x.caller ≤ names) × SoundSpan names x.span

  module _ (c : Scope) where
    start_sound : (l : Expr) → Sound names l → If SoundStart (start_of c l)
    unfolding start_of
    start_sound (name n s) x = tt
    start_sound (number b s) x = tt
    start_sound (binary o l r s) x = tt
    start_sound (unary o e s) x = tt
    start_sound (call f a s) x =
        if_bind _ SoundStart (lookup c f) _ (if_any (lookup c f)) (λ v _.
        if_bind _ SoundStart (time_index (at c.vars v)) _ (if_any (time_index (at c.vars v))) (λ i _.
        if_bind (λ (p : Expr × Span). SoundSpan names p.1) SoundStart (arg_at i a) _ (arg_sound i a (x.0.0, x.1.0)) (λ p y.
        if_bind _ SoundStart (number_in p.0) _ (if_any (number_in p.0)) (λ b _. (named_by f x.0.1, y)))))

    start_errors_lem : (time : Bounds) (o : Option Start) → If SoundStart o → Errs (start_errors time o)
    unfolding start_errors
    start_errors_lem time none x = tt
    start_errors_lem time (some y) x = all_unless SoundError _ _ (make 12 y.span (suc y.caller) (omega arith) (omega arith) x.1 x.0)

    rate_errors_lem : (n : ℕ) (s : Span) (o : Option ℕ) → suc n ≤ names → SoundSpan names s → Errs (rate_errors c n s o)
    unfolding rate_errors
    rate_errors_lem n s none h g = (make 5 s (suc n) (omega arith) (omega arith) g h, tt)
    rate_errors_lem n s (some v) h g = all_unless SoundError _ _ (make 13 s (suc n) (omega arith) (omega arith) g h)

    pub role_errors_lem : (time : Bounds) (q : Flat) → SoundFlat names q → Errs (role_errors c time q)
    unfolding role_errors
    role_errors_lem time (equation l r s) x = start_errors_lem time (start_of c l) (start_sound l x.0)
    role_errors_lem time (rate n r s) x = rate_errors_lem n s (lookup c n) (named_by n x.0) x.2

  pub count_errors_lem : (s : Span) (left states : ℕ) → SoundSpan names s → Errs (count_errors s left states)
  unfolding count_errors
  count_errors_lem s left states h =
      let under = error underdetermined s 0 ∷ [] in
      let over = error overdetermined s 0 ∷ [] in
      all_cond SoundError (eqb left states) [] (cond (ltb left states) under over) tt
      (all_cond SoundError (ltb left states) under over (make 14 s 0 (omega arith) (omega arith) h (omega arith), tt) (make 15 s 0 (omega arith) (omega arith) h (omega arith), tt))

  -- ---- initial conditions

  expr_span_lem : (e : Expr) → Sound names e → SoundSpan names (expr_span e)
  unfolding expr_span
  expr_span_lem (name n s) x = (x.0.1, x.1)
  expr_span_lem (number b s) x = (x.0, x.1.1)
  expr_span_lem (binary o l r s) x = (x.0.3, x.1.2)
  expr_span_lem (unary o e s) x = (x.0.2, x.1.1)
  expr_span_lem (call f a s) x = (x.0.2, x.1.1)

  right_span_lem : (q : Flat) → SoundFlat names q → SoundSpan names (right_span q)
  unfolding right_span
  right_span_lem (equation l r s) x = expr_span_lem r x.1
  right_span_lem (rate n r s) x = expr_span_lem r x.1

  none_span : SoundSpan names (right_span no_flat)
  unfolding right_span no_flat expr_span in_order
  none_span = (refl, (omega arith, omega arith))

  spans_sound : (qs : List Flat) → Each (SoundFlat names) qs → (i : ℕ) → SoundSpan names (right_span (get_or qs i no_flat))
  spans_sound [] h i = none_span
  spans_sound (q ∷ qs) h zero = right_span_lem q h.0
  spans_sound (q ∷ qs) h (suc i) = spans_sound qs h.1 i

  first_span : (qs : List Flat) → Each (SoundFlat names) qs → (o : Option ℕ) → SoundSpan names (right_span_at qs o)
  unfolding right_span_at
  first_span qs h none = none_span
  first_span qs h (some i) = spans_sound qs h i

  module _ (model : Span) (vs : List Variable) (qs : List Flat) (fs : List Fate) (hm : SoundSpan names model) (hv : (v : ℕ) → (at vs v).name ≤ names) (hq : Each (SoundFlat names) qs) where
    held_errors_lem : (v : ℕ) (q : Flat) → Errs (held_errors model vs qs fs v q)
    unfolding held_errors
    held_errors_lem v (equation l r s) = all_unless SoundError _ _ (make 17 _ _ (omega arith) (omega arith) (first_span qs hq (place (is_initial_of v) fs)) (hv v))
    held_errors_lem v (rate n r s) = all_unless SoundError _ _ (make 16 _ _ (omega arith) (omega arith) hm (hv v))

    state_errors_lem : (v : ℕ) (o : Option ℕ) → Errs (state_errors model vs qs fs v o)
    unfolding state_errors
    state_errors_lem v none = tt
    state_errors_lem v (some i) = held_errors_lem v (get_or qs i no_flat)

    pub starting_errors_lem : Errs (starting_errors model vs qs fs)
    unfolding starting_errors
    starting_errors_lem = every_each SoundError (λ (v : ℕ). Unit {0}) _ (λ v _. state_errors_lem v (place (is_held_by v) fs)) (numbers_from 0 vs) (all_every _ (λ v. tt) (numbers_from 0 vs))
