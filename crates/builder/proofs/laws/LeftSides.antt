-- Left sides by their nodes: the node of a call's argument, and what the answer for a node says of its tree.
use mathlib.Core.Path.{◌≡◌, refl, sym, ap, ◌∙◌}
use mathlib.Core.Bool.{Bool, true, false, cond}
use mathlib.Core.List.{List}
use mathlib.Core.Option.{Option, none, some, some-injective}
use Prim.Native.Nat.{ℕ, zero, suc, ◌+◌, ◌-◌, ◌≤◌, ◌<◌}
use native.Mathlib.Omega.{arith}
use native.Mathlib.Numerals.{sub-one}
use native.Mathlib.Decide.{ℕ_discrete}
use borrow.Author.Tests.{eqb-true, leb-true, leb-false, ltb-true, eq-eqb, ne_eqb, lt-leb, le-leb}
use lib.Dec.{eqb, leb}
use lib.ListN.{get_or}
use Rattle.functions.specs.Lists.{◌>>=◌}
use Rattle.functions.proofs.Lists.{clash}
use Rattle.ast.specs.Tree.{Span, Expr, Args, empty, snoc, call, count}
use Rattle.ast.specs.Nodes.{kind_at, name_at, op_at, size_at, span_at, bits_at, tree_at, args_before, is_expr, args_fit, nodes_fit}
use Rattle.ast.proofs.Fitting.{expr_kind, node_ok, last_arg}
use Rattle.ast.proofs.Trees.{by_kind, tree_name, tree_number, tree_binary, tree_unary, tree_call, args_more}
use Rattle.ast.proofs.Sizes.{count_before}
use Rattle.definitions.specs.Roles.{arg_at, number_in}
use Rattle.area.specs.declared.sections.Sizes.{Sizes}
use Rattle.std.specs.declared.option.Option as answer
use Rattle.std.specs.declared.option.Option.TheVariants.{None, Some}
use Rattle.builder.specs.declared.allocation.roles.Start.{Start}
use Rattle.builder.specs.declared.allocation.roles.Start.TheVariants.{Short, Number}
use Rattle.builder.specs.Allocating.{less_one, entry_by, Numbered, start_by, few_for, short_call_by, short_left_by, arg_node, found_start, at_arg, at_index, at_variable, start_at, is_short, StartFits, CallFits}

-- ---- the node of an argument, from the last argument back

module _ (ns : List (List ℕ)) where
  -- argument number k is the last of k + 1
  pub arg_last : (k end c : ℕ) → c ≡ k + 1 → arg_node ns k end c ≡ end - 1
  unfolding arg_node
  arg_last k end zero e = absurd (omega arith)
  arg_last k end (suc c) e = let q : k ≡ c = omega arith in rw (eq-eqb k c q) refl

  -- and stands before the last of more
  pub arg_before : (k end c : ℕ) → k + 1 < c → arg_node ns k end c ≡ arg_node ns k (end - size_at ns (end - 1)) (c - 1)
  unfolding arg_node
  arg_before k end zero h = absurd (omega arith)
  arg_before k end (suc c) h = let ne : (k ≡ c) → ⊥ = λ e. omega arith in rw (ne_eqb k c ne, sub-one (suc c)) refl

-- argument number k of a list is at node a
pub record ArgIn (ns : List (List ℕ)) (n : ℕ) (args : Args) (k a : ℕ) : Type 0 where
  pub low : 1 ≤ a
  pub below : a < n
  pub child : is_expr ns (a - 1) ≡ true
  pub is : arg_at k args ≡ some (tree_at ns (a - 1), span_at ns a)

-- there is no argument behind the last
pub arg_none : (k : ℕ) (a : Args) → count a ≤ k → arg_at k a ≡ none
unfolding arg_at count
arg_none k empty h = refl
arg_none k (snoc a w e s) h = let ne : (k ≡ count a) → ⊥ = λ q. omega arith in rw (ne_eqb k (count a) ne) (arg_none k a (omega arith))

-- the last argument, and one before it
arg_end : (k : ℕ) (a : Args) (w : ℕ) (e : Expr) (s : Span) → k ≡ count a → arg_at k (snoc a w e s) ≡ some (e, s)
unfolding arg_at
arg_end k a w e s h = rw (eq-eqb k (count a) h) refl

arg_earlier : (k : ℕ) (a : Args) (w : ℕ) (e : Expr) (s : Span) → (k ≡ count a → ⊥) → arg_at k (snoc a w e s) ≡ arg_at k a
unfolding arg_at
arg_earlier k a w e s h = rw (ne_eqb k (count a) h) refl

module _ (names : ℕ) (ns : List (List ℕ)) (n : ℕ) (ok : nodes_fit names ns n ≡ true) where
  module _ (c end total : ℕ) (l : end ≤ n) (x : args_fit ns end (suc c) total ≡ true) where
    some_left : (suc c ≡ 0) → ⊥
    some_left e = omega arith

    -- the arguments before the last fit, and are c
    rest_fits : args_fit ns (end - size_at ns (end - 1)) c (total - size_at ns (end - 1)) ≡ true
    rest_fits = rw (sub-one (suc c)) at (last_arg names ns n ok end (suc c) total l x some_left).rest

    rest_count : count (args_before ns (end - size_at ns (end - 1)) c (total - size_at ns (end - 1))) ≡ c
    rest_count = count_before names ns n ok c (end - size_at ns (end - 1)) (total - size_at ns (end - 1)) (omega arith) rest_fits

    split : args_before ns end (suc c) total
        ≡ snoc (args_before ns (end - size_at ns (end - 1)) c (total - size_at ns (end - 1))) (name_at ns (end - 1)) (tree_at ns (end - 1 - 1)) (span_at ns (end - 1))
    split = rw (sub-one (suc c)) at (args_more names ns n ok end (suc c) total l x some_left)

    -- argument number k, by whether it is the last
    node_last : (k : ℕ) → k ≡ c → ArgIn ns n (args_before ns end (suc c) total) k (arg_node ns k end (suc c))
    node_last k e =
        let a = last_arg names ns n ok end (suc c) total l x some_left in
        let g : arg_node ns k end (suc c) ≡ end - 1 = arg_last ns k end (suc c) (omega arith) in
        rw g record { low = omega (arith, a.two); below = omega (arith, a.two); child = a.child; is = ap (arg_at k) split ∙ arg_end k _ _ _ _ (e ∙ sym rest_count) }

    node_earlier : (k : ℕ) → k < c → ArgIn ns n (args_before ns (end - size_at ns (end - 1)) c (total - size_at ns (end - 1))) k (arg_node ns k (end - size_at ns (end - 1)) c) → ArgIn ns n (args_before ns end (suc c) total) k (arg_node ns k end (suc c))
    node_earlier k h r =
        let g : arg_node ns k end (suc c) ≡ arg_node ns k (end - size_at ns (end - 1)) c = rw (sub-one (suc c)) at (arg_before ns k end (suc c) (omega arith)) in
        rw g record { low = r.low; below = r.below; child = r.child; is = ap (arg_at k) split ∙ arg_earlier k _ _ _ _ (λ e. omega (arith, rest_count)) ∙ r.is }

  -- argument number k of arguments that fit is at its node
  pub arg_node_lem : (k c end total : ℕ) → end ≤ n → args_fit ns end c total ≡ true → k < c → ArgIn ns n (args_before ns end c total) k (arg_node ns k end c)
  arg_node_lem k zero end total l x h = absurd (omega arith)
  arg_node_lem k (suc c) end total l x h = go (ℕ_discrete k c) (λ g. arg_node_lem k c (end - size_at ns (end - 1)) (total - size_at ns (end - 1)) (omega arith) (rest_fits c end total l x) g)
    where
      go : Dec (k ≡ c) → (k < c → ArgIn ns n (args_before ns (end - size_at ns (end - 1)) c (total - size_at ns (end - 1))) k (arg_node ns k (end - size_at ns (end - 1)) c)) → ArgIn ns n (args_before ns end (suc c) total) k (arg_node ns k end (suc c))
      go (yes e) r = node_last c end total l x k e
      go (no e) r = let g : k < c = omega arith in node_earlier c end total l x k g (r g)

  -- ---- a number at a node

  number_at : (i : ℕ) → i < n → is_expr ns i ≡ true → number_in (tree_at ns i) ≡ cond (eqb (kind_at ns i) 2) (some (bits_at ns i)) none
  unfolding number_in
  number_at i l x =
      by_kind (kind_at ns i) (expr_kind ns i x) (λ e. rw (tree_name names ns n ok i l x e, e)) (λ e. rw (tree_number names ns n ok i l x e, e))
      (λ e. rw (tree_binary names ns n ok i l x e, e)) (λ e. rw (tree_unary names ns n ok i l x e, e)) (λ e. rw (tree_call names ns n ok i l x e, e))

-- ---- entries of a table, by the code's number

-- an entry of 0 stands for none
pub entry_none : (t : List ℕ) (n : ℕ) → (1 ≤ get_or t n 0 → ⊥) → entry_by t n ≡ none
unfolding entry_by less_one
entry_none t n ne = let e : get_or t n 0 ≡ 0 = omega arith in rw e refl

-- another entry stands for one less
pub entry_some : (t : List ℕ) (n v : ℕ) → (1 ≤ get_or t n 0) × (v ≡ get_or t n 0 - 1) → entry_by t n ≡ some v
unfolding entry_by less_one
entry_some t n v p = let e : get_or t n 0 ≡ suc v = omega arith in ap less_one e

-- the variable of a name's entry has a record
pub entry_below : {b : List ℕ} {z : Sizes} {numbers : List ℕ} → Numbered b z numbers → (f v : ℕ) → f < 256 → (1 ≤ get_or numbers f 0) × (v ≡ get_or numbers f 0 - 1) → v < z.vars
entry_below t f v h p = omega (arith, t.entries f h)

-- ---- a call at node i

-- its arguments
abbrev args_of : List (List ℕ) → ℕ → Args
args_of ns i = args_before ns i (op_at ns i) (size_at ns i - 1)

module _ (names : ℕ) (ns : List (List ℕ)) (n : ℕ) (ok : nodes_fit names ns n ≡ true) (i : ℕ) (l : i < n) (e : kind_at ns i ≡ 5) where
  -- there is its name
  pub call_name : names ≤ 256 → (f : ℕ) → f ≡ name_at ns i → f < 256
  call_name few f g = let h : name_at ns i < names = ltb-true _ _ ((node_ok names ns n ok i l).call_name e) in omega arith

  -- and its argument number k
  arg_in : (k : ℕ) → k < op_at ns i → ArgIn ns n (args_of ns i) k (arg_node ns k i (op_at ns i))
  arg_in k h = arg_node_lem names ns n ok k (op_at ns i) i (size_at ns i - 1) (omega arith) ((node_ok names ns n ok i l).call e) h

  -- the same at node a
  pub call_arg : (k a : ℕ) → k < op_at ns i → a ≡ arg_node ns k i (op_at ns i) → (1 ≤ a) × (a < n)
  call_arg k a h g = let x = arg_in k h in (omega (arith, x.low), omega (arith, x.below))

-- ---- the answer for node i, case by case

module _ (ns : List (List ℕ)) (numbers indexes : List ℕ) (i : ℕ) where
  -- no call
  pub start_other : eqb (kind_at ns i) 5 ≡ false → start_at ns numbers indexes i ≡ None
  unfolding start_at
  start_other ne = rw ne refl

  -- a call by name f
  module _ (e : kind_at ns i ≡ 5) (f : ℕ) (g : f ≡ name_at ns i) where
    -- that is no variable's
    pub start_unknown : (1 ≤ get_or numbers f 0 → ⊥) → start_at ns numbers indexes i ≡ None
    unfolding start_at at_variable
    start_unknown h = rw (e, ← g, entry_none _ _ h) refl

    -- that is variable v's, with entry w of the time indexes
    module _ (v : ℕ) (p : (1 ≤ get_or numbers f 0) × (v ≡ get_or numbers f 0 - 1)) (w : ℕ) (u : w ≡ get_or indexes v 0) where
      -- without a time index
      pub start_untimed : (1 ≤ w → ⊥) → start_at ns numbers indexes i ≡ None
      unfolding start_at at_variable at_index
      start_untimed h = let x = entry_some numbers f v p in rw (e, ← g, x, entry_none indexes v (rw u at h)) refl

      -- with time index k and n arguments
      module _ (k : ℕ) (q : (1 ≤ w) × (k ≡ w - 1)) (n : ℕ) (m : n ≡ op_at ns i) where
        by_index : start_at ns numbers indexes i ≡ at_index ns i v (some k)
        unfolding start_at at_variable
        by_index = let x = entry_some numbers f v p in rw (e, ← g, x, entry_some indexes v k (rw u at q)) refl

        -- too few
        pub start_short : n ≤ k → start_at ns numbers indexes i ≡ Some Short
        unfolding at_index
        start_short h = by_index ∙ rw (← m, le-leb _ _ h) refl

        -- enough: the argument in time's place, at node a
        module _ (h : k < n) (a : ℕ) (x : a ≡ arg_node ns k i (op_at ns i)) where
          start_arg : start_at ns numbers indexes i ≡ at_arg ns v a
          unfolding at_index
          start_arg = by_index ∙ rw (x, ← m, lt-leb _ _ h) refl

          -- a number
          pub start_number_lem : eqb (kind_at ns (a - 1)) 2 ≡ true → start_at ns numbers indexes i ≡ Some (Number v a)
          unfolding at_arg
          start_number_lem z = start_arg ∙ rw z refl

          -- no number
          pub start_no_number : eqb (kind_at ns (a - 1)) 2 ≡ false → start_at ns numbers indexes i ≡ None
          unfolding at_arg
          start_no_number z = start_arg ∙ rw z refl

-- ---- what the answer for node i says of its tree

-- an entry found is one more than the number it stands for
entry_is : (t : List ℕ) (n v : ℕ) → entry_by t n ≡ some v → get_or t n 0 ≡ suc v
unfolding entry_by less_one
entry_is t n v e = go (get_or t n 0) e
  where
    go : (x : ℕ) → less_one x ≡ some v → x ≡ suc v
    go zero e = clash (cc)
    go (suc x) e = ap suc (some-injective _ _ e)

module _ (names : ℕ) (ns : List (List ℕ)) (n : ℕ) (ok : nodes_fit names ns n ≡ true) (numbers indexes : List ℕ) where
  module _ (i : ℕ) (l : i < n) (e : kind_at ns i ≡ 5) where
    args_count : count (args_of ns i) ≡ op_at ns i
    args_count = count_before names ns n ok (op_at ns i) i (size_at ns i - 1) (omega arith) ((node_ok names ns n ok i l).call e)

    -- the start of a call by variable v with time index k
    module _ (v k : ℕ) (p : entry_by numbers (name_at ns i) ≡ some v) (q : entry_by indexes v ≡ some k) where
      found_few : leb (op_at ns i) k ≡ true → found_start ns (name_at ns i) (start_at ns numbers indexes i) ≡ start_by numbers indexes (call (name_at ns i) (args_of ns i) (span_at ns i))
      unfolding found_start start_at at_variable at_index start_by ◌>>=◌
      found_few h = rw (e, p, q, h, arg_none k (args_of ns i) (omega (arith, args_count, leb-true (op_at ns i) k h))) refl

      found_number : leb (op_at ns i) k ≡ false → (b : Bool) → eqb (kind_at ns (arg_node ns k i (op_at ns i) - 1)) 2 ≡ b
          → found_start ns (name_at ns i) (start_at ns numbers indexes i) ≡ start_by numbers indexes (call (name_at ns i) (args_of ns i) (span_at ns i))
      unfolding found_start start_at at_variable at_index at_arg start_by ◌>>=◌
      found_number h true g =
          let a = arg_in names ns n ok i l e k (leb-false (op_at ns i) k h) in
          let m = number_at names ns n ok (arg_node ns k i (op_at ns i) - 1) (omega (arith, a.low, a.below)) a.child in
          rw (e, p, q, h, a.is, m, g) refl
      found_number h false g =
          let a = arg_in names ns n ok i l e k (leb-false (op_at ns i) k h) in
          let m = number_at names ns n ok (arg_node ns k i (op_at ns i) - 1) (omega (arith, a.low, a.below)) a.child in
          rw (e, p, q, h, a.is, m, g) refl

    found_call : found_start ns (name_at ns i) (start_at ns numbers indexes i) ≡ start_by numbers indexes (call (name_at ns i) (args_of ns i) (span_at ns i))
    unfolding found_start start_at at_variable at_index start_by ◌>>=◌
    found_call = go (entry_by numbers (name_at ns i)) refl
      where
        more : (v : ℕ) → entry_by numbers (name_at ns i) ≡ some v → (o : Option ℕ) → entry_by indexes v ≡ o
            → found_start ns (name_at ns i) (start_at ns numbers indexes i) ≡ start_by numbers indexes (call (name_at ns i) (args_of ns i) (span_at ns i))
        more v p none q = rw (e, p, q) refl
        more v p (some k) q = last (leb (op_at ns i) k) refl
          where
            last : (b : Bool) → leb (op_at ns i) k ≡ b → found_start ns (name_at ns i) (start_at ns numbers indexes i) ≡ start_by numbers indexes (call (name_at ns i) (args_of ns i) (span_at ns i))
            last true h = found_few v k p q h
            last false h = found_number v k p q h _ refl

        go : (o : Option ℕ) → entry_by numbers (name_at ns i) ≡ o → found_start ns (name_at ns i) (start_at ns numbers indexes i) ≡ start_by numbers indexes (call (name_at ns i) (args_of ns i) (span_at ns i))
        go none p = rw (e, p) refl
        go (some v) p = more v p (entry_by indexes v) refl

    -- whether it is too short
    short_call_lem : is_short (start_at ns numbers indexes i) ≡ short_left_by numbers indexes (call (name_at ns i) (args_of ns i) (span_at ns i))
    unfolding is_short start_at at_variable at_index at_arg short_left_by short_call_by few_for
    short_call_lem = go (entry_by numbers (name_at ns i)) refl
      where
        more : (v : ℕ) → entry_by numbers (name_at ns i) ≡ some v → (o : Option ℕ) → entry_by indexes v ≡ o
            → is_short (start_at ns numbers indexes i) ≡ short_left_by numbers indexes (call (name_at ns i) (args_of ns i) (span_at ns i))
        more v p none q = rw (e, p, q) refl
        more v p (some k) q = last (leb (op_at ns i) k) (eqb (kind_at ns (arg_node ns k i (op_at ns i) - 1)) 2) refl refl
          where
            last : (b d : Bool) → leb (op_at ns i) k ≡ b → eqb (kind_at ns (arg_node ns k i (op_at ns i) - 1)) 2 ≡ d
                → is_short (start_at ns numbers indexes i) ≡ short_left_by numbers indexes (call (name_at ns i) (args_of ns i) (span_at ns i))
            last true d h g = rw (e, p, q, args_count, h) refl
            last false true h g = rw (e, p, q, args_count, h, g) refl
            last false false h g = rw (e, p, q, args_count, h, g) refl

        go : (o : Option ℕ) → entry_by numbers (name_at ns i) ≡ o → is_short (start_at ns numbers indexes i) ≡ short_left_by numbers indexes (call (name_at ns i) (args_of ns i) (span_at ns i))
        go none p = rw (e, p) refl
        go (some v) p = more v p (entry_by indexes v) refl

  module _ (i : ℕ) (l : i < n) (x : is_expr ns i ≡ true) where
    -- the start it has
    pub found_start_lem : found_start ns (name_at ns i) (start_at ns numbers indexes i) ≡ start_by numbers indexes (tree_at ns i)
    unfolding found_start start_at start_by
    found_start_lem =
        by_kind (kind_at ns i) (expr_kind ns i x) (λ e. rw (tree_name names ns n ok i l x e, e) refl) (λ e. rw (tree_number names ns n ok i l x e, e) refl)
        (λ e. rw (tree_binary names ns n ok i l x e, e) refl) (λ e. rw (tree_unary names ns n ok i l x e, e) refl) (λ e. rw (tree_call names ns n ok i l x e) (found_call i l e))

    -- whether it is too short
    pub short_start : is_short (start_at ns numbers indexes i) ≡ short_left_by numbers indexes (tree_at ns i)
    unfolding is_short start_at short_left_by
    short_start =
        by_kind (kind_at ns i) (expr_kind ns i x) (λ e. rw (tree_name names ns n ok i l x e, e) refl) (λ e. rw (tree_number names ns n ok i l x e, e) refl)
        (λ e. rw (tree_binary names ns n ok i l x e, e) refl) (λ e. rw (tree_unary names ns n ok i l x e, e) refl) (λ e. rw (tree_call names ns n ok i l x e) (short_call_lem i l e))

-- the answer's variable and nodes are there
module _ (names : ℕ) (ns : List (List ℕ)) (z : Sizes) (ok : nodes_fit names ns z.nodes ≡ true) (few : names ≤ 256) (numbers indexes : List ℕ) {b : List ℕ} (t : Numbered b z numbers) (i : ℕ) (l : i < z.nodes) where
  -- whatever the node is
  pub start_fits : StartFits z (start_at ns numbers indexes i)
  unfolding StartFits start_at at_variable at_index at_arg
  start_fits = go (eqb (kind_at ns i) 5) (entry_by numbers (name_at ns i)) refl refl
    where
      more : kind_at ns i ≡ 5 → (v : ℕ) → entry_by numbers (name_at ns i) ≡ some v → (o : Option ℕ) → entry_by indexes v ≡ o → StartFits z (start_at ns numbers indexes i)
      more e v p none q = rw (e, p, q) tt
      more e v p (some k) q = last (leb (op_at ns i) k) (eqb (kind_at ns (arg_node ns k i (op_at ns i) - 1)) 2) refl refl
        where
          last : (b d : Bool) → leb (op_at ns i) k ≡ b → eqb (kind_at ns (arg_node ns k i (op_at ns i) - 1)) 2 ≡ d → StartFits z (start_at ns numbers indexes i)
          last true d h g = rw (e, p, q, h) tt
          last false true h g =
              let a = arg_in names ns z.nodes ok i l e k (leb-false (op_at ns i) k h) in
              let u = t.entries (name_at ns i) (call_name names ns z.nodes ok i l e few (name_at ns i) refl) in
              rw (e, p, q, h, g) (omega (arith, u, entry_is numbers (name_at ns i) v p), a.low, a.below)
          last false false h g = rw (e, p, q, h, g) tt

      go : (b : Bool) (o : Option ℕ) → eqb (kind_at ns i) 5 ≡ b → entry_by numbers (name_at ns i) ≡ o → StartFits z (start_at ns numbers indexes i)
      go false o e p = rw e tt
      go true none e p = rw (e, p) tt
      go true (some v) e p = more (eqb-true _ _ e) v p (entry_by indexes v) refl

-- an answer with a number is of a call
module _ (names : ℕ) (ns : List (List ℕ)) (n : ℕ) (ok : nodes_fit names ns n ≡ true) (few : names ≤ 256) (numbers indexes : List ℕ) (i : ℕ) (l : i < n) where
  -- whatever the node is
  pub start_calls : CallFits ns i (start_at ns numbers indexes i)
  unfolding CallFits start_at
  start_calls = go (eqb (kind_at ns i) 5) refl
    where
      any_answer : name_at ns i < 256 → (s : answer.Option Start) → CallFits ns i s
      any_answer m None = tt
      any_answer m (Some Short) = tt
      any_answer m (Some (Number v a)) = m

      go : (b : Bool) → eqb (kind_at ns i) 5 ≡ b → CallFits ns i (start_at ns numbers indexes i)
      go false e = rw e tt
      go true e = any_answer (call_name names ns n ok i l (eqb-true _ _ e) few (name_at ns i) refl) (start_at ns numbers indexes i)
