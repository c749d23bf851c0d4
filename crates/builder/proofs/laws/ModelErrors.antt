-- How the errors of a model go on, in the code's terms: those of an unknown, of a run, of the arguments of a submodel statement and of a statement.
use mathlib.Core.Path.{◌≡◌, refl, sym, ap, ◌∙◌}
use mathlib.Core.Bool.{Bool, true, false, not, ◌||◌}
use mathlib.Core.List.{List, [], ◌∷◌, ◌++◌, append-nil}
use mathlib.Core.Option.{none, some}
use Prim.Native.Nat.{ℕ, zero, suc, ◌+◌, ◌-◌, ◌^◌, ◌≤◌, ◌<◌}
use native.Mathlib.Omega.{arith}
use native.Mathlib.Numerals.{add-one, sub-one}
use borrow.Author.Tests.{eqb-true, eqb-false, ne_eqb}
use lib.Dec.{eqb, leb}
use lib.Ieee.{Float}
use lib.ListN.{length, take, drop, get_or, take-append-drop}
use lib.Seq.{take-suc, take_all}
use Rattle.functions.specs.Lists.{unless, each}
use Rattle.functions.proofs.Lists.{clash, drop_here}
use Rattle.ast.specs.Tree.{Span, Expr, Args, snoc, Domain, unstated, range, named, submodel, File}
use Rattle.ast.specs.Words.{word_of}
use Rattle.ast.specs.Nodes.{name_at, span_at, tree_at}
use Rattle.ast.specs.NodesIn.{nodes_in}
use Rattle.ast.specs.Records.{right_top, domain_of, unknown_of, span_of_unknown, span_of_stmt}
use Rattle.ast.specs.Numbers.{DomainRead}
use Rattle.ast.specs.WellFormed.{DomainFormed}
use Rattle.ast.specs.Opens.{Open, contents_in, file_in, nodes_of}
use Rattle.ast.specs.declared.sections.Nodes.{Nodes}
use Rattle.ast.specs.declared.sections.Sections.{Sections}
use Rattle.ast.specs.declared.numbers.Domain as declared_domain
use Rattle.ast.specs.declared.numbers.Domain.TheVariants as is
use Rattle.ast.proofs.Encodes.{each_append}
use Rattle.definitions.specs.Variables.{Error, error, domain_errors, unknown_errors}
use Rattle.definitions.specs.Check.{Scope, has_keyword, expr_errors, flat_errors}
use Rattle.definitions.specs.Flatten.{model_named, model_at, scope_of, order_errors, sub_errors, stmt_errors, errors_of}
use Rattle.builder.specs.declared.names.Class.{Class}
use Rattle.builder.specs.declared.names.Class.TheVariants.{Time, NonNegative, Real}
use Rattle.builder.specs.contracts.names.ClassPartialEq.TheImpl.{ghosts}
use Rattle.builder.specs.Tables.{class_number, called_by}
use Rattle.area.specs.Listing.{Lists}
use Rattle.area.specs.LentList.{Listed, RoomFor}
use Rattle.area.specs.declared.errors.Errors.{Errors}
use Rattle.builder.specs.declared.errors.check.Run.{Run}
use Rattle.builder.specs.Checking.{args_in, before_last, run_of, unknown_in, stmt_in, missing_at, UnknownIn, ExprIn, CallIn, ArgsIn}
use Rattle.builder.proofs.laws.Domains.{domain_formed, coded, says_coded, coded_named}
use Rattle.builder.proofs.laws.Classes.{entry_time, entry_reserved, entry_non_negative, entry_real}
use Rattle.builder.proofs.laws.OpenRecords.{long, model_is, unknown_is, stmt_is}
use Rattle.area.proofs.Listings.{Joins, lists_none, lists_then, room_first, room_then, listed_then}
use Rattle.builder.proofs.laws.Checks.{open_formed, args_are}
use Rattle.builder.proofs.laws.Calls.{call_small}
use Rattle.builder.proofs.laws.OpenStmts.{nodes_from_lem}
use Rattle.definitions.proofs.StmtKinds.{stmt_equation, stmt_rate, stmt_submodel}

-- ---- a domain that is no name has no error

no_name : (names : List (List ℕ)) (p : Span) (d : Domain) → ((n : ℕ) → coded d ≡ is.Named n → ⊥) → domain_errors names p d ≡ []
unfolding domain_errors
no_name names p unstated h = refl
no_name names p (range l u) h = refl
no_name names p (named n) h = absurd (h n refl)

-- ---- unknown u

module _ {f : List ℕ} {s : Sections} {cs : List Class} {u : ℕ} (q : UnknownIn f s cs u) where
  abbrev record_u : List ℕ
  record_u = get_or (contents_in f s).unknowns u []

  named_lem : (x : ℕ) → x < s.counts.names → x < length (file_in f s).names
  named_lem x h = omega (arith, (long f s q.opened).file_names)

  -- its domain, read as x
  module _ (x : declared_domain.Domain) (e : DomainRead (domain_of record_u) x) where
    is_coded : x ≡ coded (domain_of record_u)
    is_coded = says_coded x (domain_of record_u) e.says

    -- none
    pub domain_none : x ≡ is.None → domain_errors (file_in f s).names (unknown_in f s u).span (unknown_in f s u).domain ≡ []
    unfolding unknown_of
    domain_none g = no_name (file_in f s).names (span_of_unknown record_u) (domain_of record_u) (λ n h. let k : is.None ≡ is.Named n = sym g ∙ is_coded ∙ h in clash (cc))

    -- a range
    pub domain_range : (l h : Float) → x ≡ is.Span l h → domain_errors (file_in f s).names (unknown_in f s u).span (unknown_in f s u).domain ≡ []
    unfolding unknown_of
    domain_range l h g = no_name (file_in f s).names (span_of_unknown record_u) (domain_of record_u) (λ n i. let k : is.Span l h ≡ is.Named n = sym g ∙ is_coded ∙ i in clash (cc))

    -- a name
    module _ (n : ℕ) (g : x ≡ is.Named n) where
      is_named_lem : domain_of record_u ≡ named n
      is_named_lem = coded_named (domain_of record_u) n (sym is_coded ∙ g)

      pub domain_below : n < s.counts.names
      domain_below =
          let h : DomainFormed s.counts.names (domain_of record_u) = domain_formed s.counts.names record_u (unknown_is f s q.opened u q.within).domain_fits_lem e.small in
          rw is_named_lem at h

      pub domain_small : n < 256
      domain_small = omega (arith, domain_below, q.opened.laid.within.names)

      pub domain_named : (a b : Bool) → a ≡ ghosts.eq (get_or cs n Time) NonNegative → b ≡ ghosts.eq (get_or cs n Time) Real
          → domain_errors (file_in f s).names (unknown_in f s u).span (unknown_in f s u).domain ≡ unless (a || b) (error 1 (span_of_unknown record_u) (n + 1))
      unfolding unknown_of domain_errors
      domain_named a b ea eb =
          let e₁ = entry_non_negative q.classes n (named_lem n domain_below) in
          let e₂ = entry_real q.classes n (named_lem n domain_below) in
          rw (is_named_lem, ea, eb, e₁, e₂, add-one) refl

  -- its name
  module _ (x : ℕ) (ex : x ≡ word_of record_u 0) where
    pub unknown_below : x < s.counts.names
    unknown_below = omega (arith, ex, (unknown_is f s q.opened u q.within).name_below)

    pub unknown_small : x < 256
    unknown_small = omega (arith, unknown_below, q.opened.laid.within.names)

    pub unknown_more : (a b : Bool) → a ≡ leb (class_number (get_or cs x Time)) 5 → b ≡ ghosts.eq (get_or cs x Time) Time
        → Joins (unknown_errors (file_in f s).names (unknown_in f s u)) (domain_errors (file_in f s).names (unknown_in f s u).span (unknown_in f s u).domain) (unless (not a || b) (error 2 (span_of_unknown record_u) (x + 1)))
    unfolding unknown_errors unknown_of
    unknown_more a b ea eb =
        let e₁ = entry_reserved q.classes x (named_lem x unknown_below) in
        let e₂ = entry_time q.classes x (named_lem x unknown_below) in
        record { is = rw (ea, eb, e₁, e₂, add-one, ex) refl }

-- ---- the errors of a run, element by element

module _ {A : Type 0} (g : A → List Error) (xs : List A) where
  each_split : (i : ℕ) → Joins (each g xs) (each g (take i xs)) (each g (drop i xs))
  each_split i = record { is = sym (ap (each g) (take-append-drop i xs)) ∙ each_append g (take i xs) (drop i xs) }

  -- none yet
  pub run_begins : (d : List ℕ) (n : ℕ) → Lists d n (each g (take 0 xs)) n d
  unfolding each
  run_begins d n = lists_none d n

  -- the element at place i is x
  module _ (x : A) (i : ℕ) (h : i < length xs) (e : get_or xs i x ≡ x) where
    each_here : Joins (each g (drop i xs)) (g x) (each g (drop (i + 1) xs))
    unfolding each
    each_here = record { is = ap (each g) (drop_here xs x i h) ∙ ap (λ (y : A). g y ++ each g (drop (i + 1) xs)) e }

    each_next : Joins (each g (take (i + 1) xs)) (each g (take i xs)) (g x)
    unfolding each
    each_next = record { is = rw (add-one, take-suc xs i x) (each_append g (take i xs) (get_or xs i x ∷ []) ∙ rw (append-nil, e) refl) }

    -- where all can be counted, so can its own behind those before it
    pub run_room : (d d' : List ℕ) (n r : ℕ) → n + length (each g xs) < 2 ^ 40 → Lists d n (each g (take i xs)) r d' → r + length (g x) < 2 ^ 40
    run_room d d' n r m p = room_first each_here r (room_then (each_split i) d d' n r m p)

    pub run_goes : (d d' d'' : List ℕ) (n r r' : ℕ) → Lists d n (each g (take i xs)) r d' → Lists d' r (g x) r' d'' → Lists d n (each g (take (i + 1) xs)) r' d''
    run_goes d d' d'' n r r' p t = lists_then each_next d d' d'' n r r' p t

  -- all of them
  pub run_ends : (i : ℕ) → length xs ≤ i → (d d' : List ℕ) (n r : ℕ) → Lists d n (each g (take i xs)) r d' → Lists d n (each g xs) r d'
  run_ends i h d d' n r p = let t : take i xs ≡ xs = take_all i xs h in rw t at p

  -- the same in lent bytes
  pub run_begins_lent : (e : Errors) → Listed e (each g (take 0 xs)) e
  run_begins_lent e = record { lists = run_begins e.bytes.now e.count; same = refl }

  module _ (x : A) (i : ℕ) (h : i < length xs) (e : get_or xs i x ≡ x) where
    pub run_room_lent : {a b : Errors} → RoomFor a (each g xs) → Listed a (each g (take i xs)) b → RoomFor b (g x)
    run_room_lent m p = run_room x i h e _ _ _ _ m p.lists

    pub run_goes_lent : {a b c : Errors} → Listed a (each g (take i xs)) b → Listed b (g x) c → Listed a (each g (take (i + 1) xs)) c
    run_goes_lent p t = listed_then (each_next x i h e) p t

  pub run_ends_lent : (i : ℕ) → length xs ≤ i → {a b : Errors} → Listed a (each g (take i xs)) b → Listed a (each g xs) b
  run_ends_lent i h p = record { lists = run_ends i h _ _ _ _ p.lists; same = p.same }

-- of a model's unknowns and statements; the first one's number and the count are those of its record
module _ (f : List ℕ) (s : Sections) (o : Open f s) (m : ℕ) (h : m < s.counts.models) (first count k i : ℕ) (ek : k ≡ first + i) where
  module _ (ef : first ≡ word_of (get_or (contents_in f s).models m []) 1) (ec : count ≡ word_of (get_or (contents_in f s).models m []) 2) where
    pub unknown_here : k < first + count → get_or (model_at (file_in f s) m).unknowns i (unknown_in f s k) ≡ unknown_in f s k
    unknown_here l = (model_is f s o m h).unknown i _ (omega (arith, ec, ek)) ∙ ap (unknown_in f s) (sym (ek ∙ ap (λ (n : ℕ). n + i) ef))

    pub unknown_there : k < first + count → i < length (model_at (file_in f s) m).unknowns
    unknown_there l = omega (arith, (model_is f s o m h).unknowns_long, ec, ek)

    pub unknowns_past : first + count ≤ k → length (model_at (file_in f s) m).unknowns ≤ i
    unknowns_past l = omega (arith, (model_is f s o m h).unknowns_long, ec, ek)

  module _ (ef : first ≡ word_of (get_or (contents_in f s).models m []) 3) (ec : count ≡ word_of (get_or (contents_in f s).models m []) 4) where
    pub stmt_here : k < first + count → get_or (model_at (file_in f s) m).stmts i (stmt_in f s k) ≡ stmt_in f s k
    stmt_here l = (model_is f s o m h).stmt i _ (omega (arith, ec, ek)) ∙ ap (stmt_in f s) (sym (ek ∙ ap (λ (n : ℕ). n + i) ef))

    pub stmt_there : k < first + count → i < length (model_at (file_in f s) m).stmts
    stmt_there l = omega (arith, (model_is f s o m h).stmts_long, ec, ek)

    pub stmts_past : first + count ≤ k → length (model_at (file_in f s) m).stmts ≤ i
    stmts_past l = omega (arith, (model_is f s o m h).stmts_long, ec, ek)

-- ---- the arguments of a submodel statement: the last of them is the node before the end, its keyword k

order_snoc : (a : Args) (k : ℕ) (e : Expr) (s : Span) (b : Bool) → b ≡ has_keyword a → order_errors (snoc a k e s) ≡ order_errors a ++ unless (not (eqb k 0) || not b) (error 4 s 0)
unfolding order_errors unless
order_snoc a zero e s b h = rw h refl
order_snoc a (suc k) e s b h = rw (ne_eqb (suc k) 0 (λ q. omega arith)) (sym (append-nil (order_errors a)))

pub order_more : {names : ℕ} {b : List ℕ} {ns : Nodes} {r : Run} (a : ArgsIn names b ns r) → (r.args ≡ 0 → ⊥) → (z : Run) → z ≡ before_last (nodes_in ns b) r
    → (k : ℕ) → k ≡ name_at (nodes_in ns b) (r.end - 1) → (t : Bool) → t ≡ has_keyword (args_in (nodes_in ns b) z)
    → Joins (order_errors (args_in (nodes_in ns b) r)) (order_errors (args_in (nodes_in ns b) z)) (unless (not (eqb k 0) || not t) (error 4 (span_at (nodes_in ns b) (r.end - 1)) 0))
order_more a ne z ez k ek t et = record { is = rw ek (ap order_errors (args_are a ne z ez) ∙ order_snoc _ _ _ _ t et) }

-- ---- statement q, its kind k

module _ {f : List ℕ} {s : Sections} (o : Open f s) (q : ℕ) (l : q < s.counts.stmts) where
  abbrev record_q : List ℕ
  record_q = get_or (contents_in f s).stmts q []

  abbrev nodes_q : List (List ℕ)
  nodes_q = nodes_in (nodes_of s) f

  pub right_in : (x : ℕ) → x ≡ word_of record_q 3 → ExprIn s.counts.names f (nodes_of s) x
  right_in x e =
      let a = (stmt_is f s o q l).right in
      rw e (record { formed = open_formed o; within = a.0; expr = rw (nodes_from_lem f s o) a.1 })

  module _ (k : ℕ) (ek : k ≡ word_of record_q 0) where
    pub left_in_lem : k ≡ 1 → (x : ℕ) → x ≡ word_of record_q 2 → ExprIn s.counts.names f (nodes_of s) x
    left_in_lem h x e =
        let a = (stmt_is f s o q l).left (sym ek ∙ h) in
        rw e (record { formed = open_formed o; within = a.0; expr = rw (nodes_from_lem f s o) a.1 })

    pub call_in : k ≡ 3 → (x : ℕ) → x ≡ word_of record_q 3 → CallIn s.counts.names f (nodes_of s) x
    call_in h x e =
        let a = stmt_is f s o q l in
        rw e (record { formed = open_formed o; within = a.right.0; call = rw (nodes_from_lem f s o) (a.call (sym ek ∙ h)) })

    -- the call's name is a small number
    pub call_named : k ≡ 3 → (x : ℕ) → x ≡ word_of record_q 3 → name_at (contents_in f s).nodes x < 256
    call_named h x e = let a = call_small (call_in h x e) in rw (nodes_from_lem f s o) at a

    -- what is neither a rate equation nor a submodel statement is an equation
    pub an_equation : k < 3 → (k ≡ 2 → ⊥) → k ≡ 1
    an_equation h n = let a = (stmt_is f s o q l).kinds in omega (arith, a.0, n)

    pub not_three : (k ≡ 3 → ⊥) → k < 3
    not_three n = let a = (stmt_is f s o q l).kinds in omega (arith, a.1, n)

    module _ (sub : ℕ → List Error) (c : Scope) where
      pub rate_errors_lem : k ≡ 2 → (x : ℕ) → x ≡ word_of record_q 3 → stmt_errors (file_in f s) sub c (stmt_in f s q) ≡ expr_errors c (tree_at nodes_q x)
      unfolding stmt_errors flat_errors
      rate_errors_lem h x e = rw (e, nodes_from_lem f s o) (ap (stmt_errors (file_in f s) sub c) (stmt_rate (contents_in f s).nodes record_q (sym ek ∙ h)))

      pub equation_errors : k ≡ 1 → (x y : ℕ) → x ≡ word_of record_q 3 → y ≡ word_of record_q 2 → Joins (stmt_errors (file_in f s) sub c (stmt_in f s q)) (expr_errors c (tree_at nodes_q x)) (expr_errors c (tree_at nodes_q y))
      unfolding stmt_errors flat_errors
      equation_errors h x y ex ey = record { is = rw (ex, ey, nodes_from_lem f s o) (ap (stmt_errors (file_in f s) sub c) (stmt_equation (contents_in f s).nodes record_q (sym ek ∙ h))) }

      -- whatever the left side adds
      pub right_first_lem : k < 3 → (x : ℕ) → x ≡ word_of record_q 3 → (ys : List Error) × Joins (stmt_errors (file_in f s) sub c (stmt_in f s q)) (expr_errors c (tree_at nodes_q x)) ys
      right_first_lem h x ex = go (eqb k 2) refl
        where
          go : (b : Bool) → eqb k 2 ≡ b → (ys : List Error) × Joins (stmt_errors (file_in f s) sub c (stmt_in f s q)) (expr_errors c (tree_at nodes_q x)) ys
          go true e = ([], record { is = rate_errors_lem (eqb-true k 2 e) x ex ∙ sym (append-nil _) })
          go false e = (_, equation_errors (an_equation h (eqb-false k 2 e)) x _ ex refl)

    -- an equation or a rate equation has the same errors whatever those of submodels are
    pub own_same : k < 3 → (sub rest : ℕ → List Error) (c : Scope) → stmt_errors (file_in f s) sub c (stmt_in f s q) ≡ stmt_errors (file_in f s) rest c (stmt_in f s q)
    own_same h sub rest c = go (eqb k 2) refl
      where
        go : (b : Bool) → eqb k 2 ≡ b → stmt_errors (file_in f s) sub c (stmt_in f s q) ≡ stmt_errors (file_in f s) rest c (stmt_in f s q)
        go true e = let a = eqb-true k 2 e in rate_errors_lem sub c a _ refl ∙ sym (rate_errors_lem rest c a _ refl)
        go false e = let a = an_equation h (eqb-false k 2 e) in (equation_errors sub c a _ _ refl refl).is ∙ sym (equation_errors rest c a _ _ refl refl).is

-- ---- a submodel statement, by the model that it calls

module _ {f : List ℕ} {s : Sections} (o : Open f s) (q : ℕ) (l : q < s.counts.stmts) where
  abbrev record_s : List ℕ
  record_s = get_or (contents_in f s).stmts q []

  -- the arguments of the call at node x of the file
  abbrev args_of : ℕ → Args
  args_of x = args_in (contents_in f s).nodes (run_of (contents_in f s).nodes x)

  module _ (k : ℕ) (ek : k ≡ word_of record_s 0) (h : k ≡ 3) where
    submodel_is : stmt_in f s q ≡ submodel (name_at (contents_in f s).nodes (right_top record_s)) (args_of (right_top record_s)) (span_at (contents_in f s).nodes (right_top record_s)) (span_of_stmt record_s)
    submodel_is = stmt_submodel (contents_in f s).nodes record_s (sym ek ∙ h)

    -- the model that it calls is found by the name of its call
    named_is : called_by (file_in f s) (stmt_in f s q) ≡ model_named (file_in f s) (name_at (contents_in f s).nodes (right_top record_s))
    unfolding called_by
    named_is = ap (called_by (file_in f s)) submodel_is

    -- it has the same errors whatever the scope is
    pub any_scope : (sub : ℕ → List Error) (c d : Scope) → stmt_errors (file_in f s) sub c (stmt_in f s q) ≡ stmt_errors (file_in f s) sub d (stmt_in f s q)
    unfolding stmt_errors
    any_scope sub c d = ap (stmt_errors (file_in f s) sub c) submodel_is ∙ sym (ap (stmt_errors (file_in f s) sub d) submodel_is)

    module _ (sub : ℕ → List Error) (c : Scope) where
      -- its errors are those of the model found by its name, and of its arguments
      errors_by_name : stmt_errors (file_in f s) sub c (stmt_in f s q)
          ≡ sub_errors (file_in f s) sub (name_at (contents_in f s).nodes (right_top record_s)) (args_of (right_top record_s)) (span_of_stmt record_s) (called_by (file_in f s) (stmt_in f s q))
      unfolding stmt_errors
      errors_by_name = rw named_is (ap (stmt_errors (file_in f s) sub c) submodel_is)

      -- its model is missing
      pub submodel_missing_lem : none ≡ called_by (file_in f s) (stmt_in f s q) → stmt_errors (file_in f s) sub c (stmt_in f s q) ≡ missing_at f s q ∷ []
      unfolding sub_errors
      submodel_missing_lem z = rw add-one (errors_by_name ∙ ap (sub_errors (file_in f s) sub _ _ _) (sym z))

      -- it is model m, and the run r are the arguments of its call, which is node x
      pub submodel_found : (m : ℕ) → some m ≡ called_by (file_in f s) (stmt_in f s q) → (x : ℕ) → x ≡ right_top record_s → (r : Run) → r ≡ run_of (nodes_in (nodes_of s) f) x
          → Joins (stmt_errors (file_in f s) sub c (stmt_in f s q)) (sub m) (order_errors (args_in (nodes_in (nodes_of s) f) r))
      unfolding sub_errors
      submodel_found m z x ex r er =
          record { is = rw (er, ex, nodes_from_lem f s o) (errors_by_name ∙ ap (sub_errors (file_in f s) sub _ _ _) (sym z)) }

-- ---- model m, to a depth of k models

module _ (f : File) where
  pub errors_none : (k m : ℕ) → k ≡ 0 → errors_of f k m ≡ []
  unfolding errors_of
  errors_none zero m e = refl
  errors_none (suc k) m e = absurd (omega arith)

  pub errors_more : (k m : ℕ) → (k ≡ 0 → ⊥)
      → Joins (errors_of f k m) (each (unknown_errors f.names) (model_at f m).unknowns) (each (stmt_errors f (λ j. errors_of f (k - 1) j) (scope_of f (model_at f m))) (model_at f m).stmts)
  unfolding errors_of
  errors_more zero m n = absurd (n refl)
  errors_more (suc k) m n = record { is = rw (sub-one (suc k)) refl }
