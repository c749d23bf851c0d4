-- How many errors there can be: all are counted, and the count is a word.
use mathlib.Core.Path.{◌≡◌}
use Prim.Native.Nat.{ℕ, zero, suc, ◌+◌, ◌-◌, ◌*◌, ◌≤◌}
use native.Mathlib.Omega.{arith}
use native.Mathlib.Nat.{mul-add}
use mathlib.Core.Bool.{Bool, true, false, cond, not, ◌||◌}
use mathlib.Core.List.{List, [], ◌∷◌, ◌++◌, map}
use mathlib.Core.Option.{Option, none, some}
use lib.Dec.{eqb, ltb}
use lib.ListN.{length, drop, get_or, length-append}
use borrow.Author.Tests.{eqb-true}
use Rattle.functions.specs.Lists.{each, place, sum_of, unless, to_list}
use Rattle.functions.proofs.Lists.{and_both}
use Rattle.ast.specs.Tree.{Span, Expr, name, number, binary, unary, call, Args, empty, snoc, Flat, equation, rate, Stmt, own, submodel, Domain, unstated, range, named, Unknown, Model, File, count, size, sizes, flat_size}
use Rattle.ast.specs.Nodes.{op_at, size_at, nodes_fit}
use Rattle.ast.specs.Records.{left_top, right_top, stmt_fits, stmts_fit, stmt_of, unknown_of, first_stmt, stmt_count, model_of}
use Rattle.ast.specs.File.{Contents, contents_of, file_of, open_file, opened}
use Rattle.ast.specs.Write.{stmt_size}
use Rattle.ast.proofs.Fitting.{node_ok}
use Rattle.ast.proofs.Sizes.{size_at_lem, sizes_before}
use Rattle.ast.proofs.Files.{is_open, parts, top_is, equation_tops, rate_top, submodel_top}
use Rattle.ast.proofs.Trailers.{is_within}
use Rattle.definitions.specs.Numbers.{reserved_name, count_against_table, count_against_variable, wrong_start, rate_invalid, underdetermined, overdetermined, no_initial_condition, algebraic_initial_condition}
use Rattle.definitions.specs.Names.{is_reserved, is_time, is_built_in, allows_count}
use Rattle.definitions.specs.Variables.{Error, error, Bounds, Variable, at, domain_errors, unknown_errors}
use Rattle.definitions.specs.Check.{Scope, lookup, dep_names, count_fits, keyword_errors, dependent_errors, variable_errors, call_errors, expr_errors, args_errors, flat_errors}
use Rattle.definitions.specs.Flatten.{no_model, model_named, model_at, scope_of, order_errors, sub_errors, stmt_errors, stmt_models, submodels, errors_of, instances}
use Rattle.definitions.proofs.Opened.{any_model, sum_take, sum_drop, model_unknowns}
use Rattle.definitions.specs.Roles.{Start, start_of, at_lower, start_errors, takes_rate, rate_errors, role_errors}
use Rattle.definitions.specs.Allocate.{Fate, numbers_from, count_errors, is_held_by, is_initial_of, conditions, no_flat, right_span_at, held_errors, state_errors, starting_errors}
use Rattle.definitions.proofs.ListLaws.{sum_append}
use Rattle.definitions.proofs.StmtKinds.{stmt_cases}

pub length_unless : (b : Bool) (x : Error) → length (unless b x) ≤ 1
unfolding unless
length_unless true x = omega arith
length_unless false x = omega arith

length_both : (xs ys : List Error) (m n : ℕ) → length xs ≤ m → length ys ≤ n → length (xs ++ ys) ≤ m + n
length_both xs ys m n h g = rw length-append (omega arith)

-- one more at most
length_more : (xs : List Error) (b : Bool) (x : Error) (n : ℕ) → length xs ≤ n → length (xs ++ unless b x) ≤ suc n
length_more xs b x n h = omega (arith, length_both xs (unless b x) n 1 h (length_unless b x))

length_cond : (b : Bool) (xs ys : List Error) (n : ℕ) → length xs ≤ n → length ys ≤ n → length (cond b xs ys) ≤ n
length_cond true xs ys n h g = h
length_cond false xs ys n h g = g

-- ---- an expression: two a node at most

length_keywords : (a : Args) → length (keyword_errors a) ≤ count a
unfolding keyword_errors count
length_keywords empty = omega arith
length_keywords (snoc a zero e s) = omega (arith, length_keywords a)
length_keywords (snoc a (suc k) e s) = rw length-append (omega (arith, length_keywords a))

length_dependents : (ds : List ℕ) (a : Args) → length (dependent_errors ds a) ≤ count a
unfolding dependent_errors count
length_dependents ds empty = omega arith
length_dependents ds (snoc a zero e s) = length_more (dependent_errors ds a) _ _ _ (length_dependents ds a)
length_dependents ds (snoc a (suc k) e s) = length_more (dependent_errors ds a) _ _ _ (length_dependents ds a)

length_order : (a : Args) → length (order_errors a) ≤ count a
unfolding order_errors count
length_order empty = omega arith
length_order (snoc a zero e s) = length_more (order_errors a) _ _ _ (length_order a)
length_order (snoc a (suc k) e s) = omega (arith, length_order a)

module _ (c : Scope) where
  length_variable : (f : ℕ) (a : Args) (s : Span) (o : Option ℕ) → length (variable_errors c f a s o) ≤ 1 + count a
  unfolding variable_errors
  length_variable f a s none = omega arith
  length_variable f a s (some v) =
      let e = error count_against_variable s (suc f) in
      length_both (unless (count_fits c v a) e) (dependent_errors (dep_names c v) a) 1 (count a) (length_unless (count_fits c v a) e) (length_dependents (dep_names c v) a)

  length_call : (f : ℕ) (a : Args) (s : Span) → length (call_errors c f a s) ≤ 1 + (1 + count a)
  unfolding call_errors
  length_call f a s =
      let e = error count_against_table s (suc f) in
      let b = allows_count c.names f (count a) in
      let d = is_built_in c.names f in
      let k : length (keyword_errors a) ≤ 1 + count a = omega (arith, length_keywords a) in
      length_both (unless b e) (cond d (keyword_errors a) (variable_errors c f a s (lookup c f))) 1 (1 + count a) (length_unless b e) (length_cond d (keyword_errors a) _ (1 + count a) k (length_variable f a s (lookup c f)))

  name_one : (b : Bool) (x : Error) → length (unless b x) ≤ 2 * 1
  name_one b x = omega (arith, length_unless b x)

  mutual
    unfolding expr_errors size count

    length_expr : (e : Expr) → length (expr_errors c e) ≤ 2 * size e
    length_expr (name n s) = name_one _ _
    length_expr (number b s) = omega arith
    length_expr (binary o l r s) = rw length-append (omega (arith, length_expr l, length_expr r))
    length_expr (unary o e s) = omega (arith, length_expr e)
    length_expr (call f a s) = rw length-append (omega (arith, length_call f a s, length_args a))

    length_args : (a : Args) → count a + length (args_errors c a) ≤ 2 * sizes a
    length_args empty = omega arith
    length_args (snoc a k e s) = rw length-append (omega (arith, length_args a, length_expr e))

  length_flat : (q : Flat) → length (flat_errors c q) ≤ 2 * flat_size q
  unfolding flat_errors flat_size
  length_flat (equation l r s) = rw length-append (omega (arith, length_expr l, length_expr r))
  length_flat (rate n r s) = length_expr r

-- ---- an unknown: two at most

length_domain : (names : List (List ℕ)) (s : Span) (d : Domain) → length (domain_errors names s d) ≤ 1
unfolding domain_errors
length_domain names s unstated = omega arith
length_domain names s (range l u) = omega arith
length_domain names s (named d) = length_unless _ _

length_unknown : (names : List (List ℕ)) (u : Unknown) → length (unknown_errors names u) ≤ 2
unfolding unknown_errors
length_unknown names u = length_more (domain_errors names u.span u.domain) (not (is_reserved names u.name) || is_time names u.name) (error reserved_name u.span (suc u.name)) 1 (length_domain names u.span u.domain)

length_unknowns : (names : List (List ℕ)) (us : List Unknown) → length (each (unknown_errors names) us) ≤ 2 * length us
unfolding each
length_unknowns names [] = omega arith
length_unknowns names (u ∷ us) = rw length-append (omega (arith, length_unknown names u, length_unknowns names us))

-- ---- a model: `most` is what an instance of one has at most, by itself

pub count_sizes : (a : Args) → count a ≤ sizes a
unfolding count sizes
count_sizes empty = omega arith
count_sizes (snoc a k e s) = omega (arith, count_sizes a)

module _ (f : File) (most : ℕ) (sub : ℕ → List Error) (n : ℕ → ℕ) (h : (m : ℕ) → length (sub m) ≤ most * n m) where
  length_sub : (k : ℕ) (a : Args) (s : Span) (o : Option ℕ) → length (sub_errors f sub k a s o) ≤ 1 + count a + most * sum_of n (to_list o)
  unfolding sub_errors to_list sum_of
  length_sub k a s none = omega arith
  length_sub k a s (some m) =
      let e : n m + 0 ≡ n m = omega arith in
      rw (e, length-append) (omega (arith, h m, length_order a))

  length_stmt : (c : Scope) (q : Stmt) → length (stmt_errors f sub c q) ≤ 2 * stmt_size q + most * sum_of n (stmt_models f q)
  unfolding stmt_errors stmt_models stmt_size
  length_stmt c (own q) = omega (arith, length_flat c q)
  length_stmt c (submodel k a z s) = omega (arith, length_sub k a s (model_named f k), count_sizes a)

  length_stmts : (c : Scope) (qs : List Stmt) → length (each (stmt_errors f sub c) qs) ≤ 2 * sum_of stmt_size qs + most * sum_of n (each (stmt_models f) qs)
  unfolding each sum_of
  length_stmts c [] = omega arith
  length_stmts c (q ∷ qs) =
      rw (length-append, sum_append n (stmt_models f q) (each (stmt_models f) qs), mul-add most (sum_of n (stmt_models f q)) (sum_of n (each (stmt_models f) qs)))
      (omega (arith, length_stmt c q, length_stmts c qs))

module _ (f : File) (most : ℕ) (h : (m : ℕ) → 2 * length (model_at f m).unknowns + 2 * sum_of stmt_size (model_at f m).stmts ≤ most) where
  pub length_errors : (k m : ℕ) → length (errors_of f k m) ≤ most * instances f k m
  unfolding errors_of instances submodels
  length_errors zero m = omega arith
  length_errors (suc k) m =
      let us = (model_at f m).unknowns in
      let qs = (model_at f m).stmts in
      let c = scope_of f (model_at f m) in
      let s = sum_of (λ j. instances f k j) (each (stmt_models f) qs) in
      rw (length-append, mul-add most 1 s)
      (omega (arith, h m, length_unknowns f.names us, length_stmts f most (λ j. errors_of f k j) (λ j. instances f k j) (λ j. length_errors k j) c qs))

-- ---- the statements of a file: their trees fill the nodes

module _ (names limit : ℕ) (ns : List (List ℕ)) (ok : nodes_fit names ns limit ≡ true) where
  module _ (first : ℕ) (r : List ℕ) (h : stmt_fits names limit ns first r ≡ true) where
    size_stmt : first + stmt_size (stmt_of ns r) ≡ right_top r + 1
    unfolding stmt_size flat_size
    size_stmt = stmt_cases (λ q. first + stmt_size q ≡ right_top r + 1) names limit ns first r h
        (λ k.
        let (t, u) = equation_tops names limit ns first r h k in
        let (l, x, z) = top_is names limit ns first (left_top r) t in
        let (m, y, w) = top_is names limit ns (left_top r + 1) (right_top r) u in
        omega (arith, z, w, size_at_lem names ns limit ok (left_top r) l x, size_at_lem names ns limit ok (right_top r) m y))
        (λ k.
        let (_, t) = rate_top names limit ns first r h k in
        let (l, x, z) = top_is names limit ns first (right_top r) t in
        omega (arith, z, size_at_lem names ns limit ok (right_top r) l x))
        (λ k.
        let (t, five) = submodel_top names limit ns first r h k in
        let i = right_top r in
        let (l, _, z) = top_is names limit ns first i t in
        let o = node_ok names ns limit ok i l in
        omega (arith, z, o.pos, sizes_before names ns limit ok i (op_at ns i) (size_at ns i - 1) (omega arith) (o.call five)))

  pub stmts_total : (first : ℕ) (rs : List (List ℕ)) → stmts_fit names limit ns first rs ≡ true → first + sum_of stmt_size (map (stmt_of ns) rs) ≡ limit
  unfolding stmts_fit sum_of
  stmts_total first [] h = omega (arith, eqb-true first limit h)
  stmts_total first (r ∷ rs) h =
      let (p, q) = and_both (stmt_fits names limit ns first r) _ h in
      omega (arith, size_stmt first r p, stmts_total (right_top r + 1) rs q)

pub few_nodes : (s : Contents) (m : ℕ) → sum_of stmt_size (model_at (file_of s) m).stmts ≤ sum_of stmt_size (map (stmt_of s.nodes) s.stmts)
unfolding file_of model_at no_model model_of sum_of
few_nodes s m =
    let qs = map (stmt_of s.nodes) s.stmts in
    any_model (λ (x : Model). sum_of stmt_size x.stmts ≤ sum_of stmt_size qs) (map (unknown_of s.deps) s.unknowns) qs s.models (omega arith)
    (λ r. omega (arith, sum_take stmt_size (stmt_count r) (drop (first_stmt r) qs), sum_drop stmt_size (first_stmt r) qs)) m

module _ (file : List ℕ) (f : File) (ho : open_file file ≡ opened f) where
  model_nodes : (m : ℕ) → sum_of stmt_size (model_at f m).stmts ≤ 1024
  unfolding contents_of
  model_nodes m =
      let o = is_open file f ho in
      let s = contents_of o.counts file in
      let p = parts s o.fits in
      let few : sum_of stmt_size (model_at f m).stmts ≤ sum_of stmt_size (map (stmt_of s.nodes) s.stmts) = rw o.says at (few_nodes s m) in
      omega (arith, few, stmts_total o.counts.names o.counts.nodes s.nodes p.nodes 0 s.stmts p.stmts, (is_within o.counts o.within).nodes)

  -- 2 for each of 128 unknowns and of 1,024 nodes
  pub few_errors : (k m : ℕ) → length (errors_of f k m) ≤ 2304 * instances f k m
  few_errors k m = length_errors f 2304 (λ j. omega (arith, model_unknowns file f ho j, model_nodes j)) k m

-- ---- allocation: one a statement, one, and one a variable at most

length_start : (time : Bounds) (o : Option Start) → length (start_errors time o) ≤ 1
unfolding start_errors
length_start time none = omega arith
length_start time (some x) = length_unless (at_lower time x) (error wrong_start x.span (suc x.caller))

length_rate : (c : Scope) (n : ℕ) (s : Span) (o : Option ℕ) → length (rate_errors c n s o) ≤ 1
unfolding rate_errors
length_rate c n s none = omega arith
length_rate c n s (some v) = length_unless (takes_rate c v) (error rate_invalid s (suc n))

length_role : (c : Scope) (time : Bounds) (q : Flat) → length (role_errors c time q) ≤ 1
unfolding role_errors
length_role c time (equation l r s) = length_start time (start_of c l)
length_role c time (rate n r s) = length_rate c n s (lookup c n)

pub length_roles : (c : Scope) (time : Bounds) (qs : List Flat) → length (each (role_errors c time) qs) ≤ length qs
unfolding each
length_roles c time [] = omega arith
length_roles c time (q ∷ qs) = rw length-append (omega (arith, length_role c time q, length_roles c time qs))

pub length_counts : (s : Span) (left states : ℕ) → length (count_errors s left states) ≤ 1
unfolding count_errors
length_counts s left states = go (eqb left states) (ltb left states)
  where
    go : (b d : Bool) → length (cond b [] (cond d (error underdetermined s 0 ∷ []) (error overdetermined s 0 ∷ []))) ≤ 1
    go true d = omega arith
    go false true = omega arith
    go false false = omega arith

module _ (model : Span) (vs : List Variable) (qs : List Flat) (fs : List Fate) where
  length_held : (v : ℕ) (q : Flat) → length (held_errors model vs qs fs v q) ≤ 1
  unfolding held_errors
  length_held v (equation l r s) = length_unless (eqb (conditions fs v) 0) (error algebraic_initial_condition (right_span_at qs (place (is_initial_of v) fs)) (at vs v).name)
  length_held v (rate n r s) = length_unless (ltb 0 (conditions fs v)) (error no_initial_condition model (at vs v).name)

  length_state : (v : ℕ) (o : Option ℕ) → length (state_errors model vs qs fs v o) ≤ 1
  unfolding state_errors
  length_state v none = omega arith
  length_state v (some i) = length_held v (get_or qs i no_flat)

  length_states : (i : ℕ) (ws : List Variable) → length (each (λ v. state_errors model vs qs fs v (place (is_held_by v) fs)) (numbers_from i ws)) ≤ length ws
  unfolding each numbers_from
  length_states i [] = omega arith
  length_states i (w ∷ ws) = rw length-append (omega (arith, length_state i (place (is_held_by i) fs), length_states (suc i) ws))

  pub length_starting : length (starting_errors model vs qs fs) ≤ length vs
  unfolding starting_errors
  length_starting = length_states 0 vs
