-- The errors of a call and of a name, by what the tables of a scope hold.
use mathlib.Core.Path.{◌≡◌, refl, sym, ap, ◌∙◌}
use mathlib.Core.Bool.{Bool, true, false, cond, not, ◌&&◌}
use mathlib.Core.List.{List, [], ◌∷◌, ◌++◌}
use mathlib.Core.Option.{Option, none, some}
use Prim.Native.Nat.{ℕ, suc, ◌+◌, ◌≤◌, ◌<◌}
use native.Mathlib.Omega.{arith}
use native.Mathlib.Numerals.{add-one}
use borrow.Author.Tests.{ltb-true, eqb-true, eqb-false, eq-eqb, ne_eqb}
use lib.Dec.{eqb, leb, ltb}
use lib.ListN.{length, get_or, length-map}
use Rattle.functions.specs.Lists.{unless, is_some}
use Rattle.functions.specs.Rules.{allows, rule_of, takes}
use Rattle.functions.specs.declared.Rule.{Rule}
use Rattle.functions.specs.declared.Rule.TheVariants.{One}
use Rattle.ast.specs.Tree.{Span, Args, count}
use Rattle.ast.specs.Nodes.{kind_at, name_at, op_at, size_at, span_at, tree_at}
use Rattle.ast.specs.NodesIn.{nodes_in}
use Rattle.ast.specs.Records.{text_of_name}
use Rattle.ast.specs.File.{contents_of, file_of, names_at}
use Rattle.ast.specs.Opens.{contents_in}
use Rattle.ast.specs.declared.sections.Nodes.{Nodes}
use Rattle.ast.specs.declared.sections.Sections.{Sections}
use Rattle.ast.proofs.Fields.{length_section}
use Rattle.ast.proofs.Trees.{tree_name}
use Rattle.ast.proofs.Sizes.{count_before}
use Rattle.definitions.specs.Names.{text_of, is_built_in, allows_count}
use Rattle.definitions.specs.Variables.{error, at}
use Rattle.definitions.specs.Check.{Scope, lookup, count_fits, keyword_errors, dependent_errors, variable_errors, call_errors, expr_errors}
use Rattle.definitions.specs.Flatten.{scope_of}
use Rattle.builder.specs.declared.names.Class.{Class}
use Rattle.builder.specs.declared.names.Class.TheVariants.{Time}
use Rattle.builder.specs.Tables.{class_number, entry_of}
use Rattle.builder.specs.declared.errors.check.Run.{Run}
use Rattle.builder.specs.Checking.{scope_in, args_in, run_of, kept_names, dependents_at, variable_at, call_at, name_absent, ExprIn, CallIn, ArgsIn, Scoped, Against}
use Rattle.area.proofs.Listings.{Joins}
use Rattle.builder.proofs.laws.Classes.{entry_built_in}
use Rattle.builder.proofs.laws.Checks.{node_here}

-- ---- entries of tables

pub length_names : (f : List ℕ) (s : Sections) (m : ℕ) → length (scope_in f s m).names ≡ s.counts.names
unfolding scope_of file_of contents_of
length_names f s m = length-map (contents_in f s).names (text_of_name (contents_in f s).text) ∙ length_section 2 s.counts.names (names_at s.counts) f

-- the entry of a name
pub entry_is : {f : List ℕ} {s : Sections} {m : ℕ} {vs : List ℕ} → Scoped f s m vs → (x : ℕ) → x < s.counts.names → get_or vs x 0 ≡ entry_of (scope_in f s m) (lookup (scope_in f s m) x)
entry_is {f} {s} {m} g x h =
    let l = length_names f s m in
    g.vars.var x (omega arith)

module _ (c : Scope) where
  pub has_entry : (o : Option ℕ) → is_some o ≡ not (eqb (entry_of c o) 0)
  unfolding is_some entry_of
  has_entry none = refl
  has_entry (some v) = rw (ne_eqb (suc (length (at c.vars v).deps)) 0 (λ e. omega arith)) refl

  pub some_entry : (o : Option ℕ) → (entry_of c o ≡ 0 → ⊥) → is_some o ≡ true
  unfolding is_some entry_of
  some_entry none h = absurd (h refl)
  some_entry (some v) h = refl

  no_variable_lem : (n : ℕ) (a : Args) (p : Span) (o : Option ℕ) → entry_of c o ≡ 0 → variable_errors c n a p o ≡ error 11 p (n + 1) ∷ []
  unfolding variable_errors entry_of
  no_variable_lem n a p none h = rw add-one refl
  no_variable_lem n a p (some v) h = absurd (omega arith)

  eqb_suc : (a b : ℕ) → eqb (suc a) (b + 1) ≡ eqb a b
  eqb_suc a b = go (eqb a b) refl
    where
      go : (t : Bool) → eqb a b ≡ t → eqb (suc a) (b + 1) ≡ t
      go true e = eq-eqb (suc a) (b + 1) (omega (arith, eqb-true a b e))
      go false e = ne_eqb (suc a) (b + 1) (λ q. eqb-false a b e (omega arith))

  a_variable : (n : ℕ) (a : Args) (p : Span) (k : ℕ) (o : Option ℕ) → count a ≡ k → (entry_of c o ≡ 0 → ⊥)
      → variable_errors c n a p o ≡ unless (eqb (entry_of c o) (k + 1)) (error 8 p (n + 1)) ++ dependent_errors (kept_names c o) a
  unfolding variable_errors entry_of kept_names count_fits
  a_variable n a p k none e h = absurd (h refl)
  a_variable n a p k (some v) e h =
      let z : eqb (suc (length (at c.vars v).deps)) (k + 1) ≡ eqb (length (at c.vars v).deps) (count a) = eqb_suc _ k ∙ ap (eqb (length (at c.vars v).deps)) (sym e) in
      rw (z, add-one n) refl

-- ---- the call at node i: its name is number x, its arguments are the run r

module _ {names : ℕ} {b : List ℕ} {ns : Nodes} {i : ℕ} (q : CallIn names b ns i) where
  abbrev N : List (List ℕ)
  N = nodes_in ns b

  -- its name is one of the names
  pub call_name : name_at N i < names
  call_name = ltb-true _ _ ((node_here i q.formed q.within).call_name q.call)

  -- and a small number
  pub call_small : name_at N i < 256
  call_small = omega (arith, call_name, q.formed.named)

  -- it has a size
  pub call_sized : 1 ≤ size_at N i
  call_sized = (node_here i q.formed q.within).pos

  -- its arguments are a run
  pub call_args : (r : Run) → r ≡ run_of N i → ArgsIn names b ns r
  call_args r er = rw er (record { formed = q.formed; within = omega (arith, q.within); fits = (node_here i q.formed q.within).call q.call })

  -- the arguments have fewer nodes than the call
  pub call_less : (r : Run) → r ≡ run_of N i → r.total < size_at N i
  call_less r er = rw er (omega (arith, call_sized))

  -- as many as the node says
  call_count : count (args_in N (run_of N i)) ≡ op_at N i
  call_count =
      let a = call_args _ refl in
      count_before _ _ _ q.formed.pass _ i _ a.within a.fits

-- by the entry of its name in a table of the scope's variables
module _ {f : List ℕ} {s : Sections} {m : ℕ} {vs : List ℕ} (g : Scoped f s m vs) {b : List ℕ} {ns : Nodes} {i : ℕ} (q : CallIn s.counts.names b ns i) (x : ℕ) (ex : x ≡ name_at (nodes_in ns b) i) where
  abbrev nodes : List (List ℕ)
  nodes = nodes_in ns b

  abbrev scope : Scope
  scope = scope_in f s m

  -- what the table has of its name
  entry_here : get_or vs x 0 ≡ entry_of scope (lookup scope (name_at nodes i))
  entry_here = rw ex (entry_is g (name_at nodes i) (call_name q))

  -- its name is no variable
  pub call_missing : get_or vs x 0 ≡ 0 → variable_at scope nodes i ≡ unless false (error 11 (span_at nodes i) (x + 1))
  unfolding unless
  call_missing h =
      let e = sym entry_here ∙ h in
      rw ex (no_variable_lem scope _ _ _ _ e)

  module _ (h : get_or vs x 0 ≡ 0 → ⊥) where
    -- its name is a variable
    pub call_found : is_some (lookup scope x) ≡ true
    call_found =
        let e = entry_here in
        rw ex (some_entry scope _ (λ w. h (e ∙ w)))

    -- error 8, then those of its arguments
    pub call_variable : (t : Bool) (r : Run) → t ≡ eqb (get_or vs x 0) (r.args + 1) → r ≡ run_of nodes i
        → Joins (variable_at scope nodes i) (unless t (error 8 (span_at nodes i) (x + 1))) (dependents_at scope x (args_in nodes r))
    call_variable t r et er =
        let e = entry_here in
        record { is = rw (et, e, er, ex) (a_variable scope _ _ _ _ _ (call_count q) (λ w. h (e ∙ w))) }

-- by the class and the rule of its name
module _ {f : List ℕ} {s : Sections} {m : ℕ} {cs : List Class} {rs : List Rule} {vs : List ℕ} (g : Against f s m cs rs vs) {b : List ℕ} {ns : Nodes} {i : ℕ} (q : CallIn s.counts.names b ns i) (x : ℕ) (ex : x ≡ name_at (nodes_in ns b) i) where
  abbrev nodes' : List (List ℕ)
  nodes' = nodes_in ns b

  abbrev scope' : Scope
  scope' = scope_in f s m

  -- what the tables have of its name
  rule_here : get_or rs x One ≡ rule_of (text_of scope'.names (name_at nodes' i))
  rule_here =
      let l = length_names f s m in
      let h : name_at nodes' i < length scope'.names = omega (arith, call_name q) in
      rw ex (g.rules.rule _ One h)

  built_in_here : (leb 8 (class_number (get_or cs x Time)) && ltb (class_number (get_or cs x Time)) 18) ≡ is_built_in scope'.names (name_at nodes' i)
  built_in_here =
      let l = length_names f s m in
      let h : name_at nodes' i < length scope'.names = omega (arith, call_name q) in
      rw ex (entry_built_in g.classes _ h)

  module _ (t : Bool) (r : Run) (et : t ≡ allows (get_or rs x One) r.args) (er : r ≡ run_of nodes' i) where
    allowed : allows_count scope'.names (name_at nodes' i) (count (args_in nodes' (run_of nodes' i))) ≡ t
    unfolding allows_count takes
    allowed = rw (et, rule_here, er, call_count q) refl

    -- error 6, then by the class of its name
    call_first : Joins (call_at scope' nodes' i) (unless t (error 6 (span_at nodes' i) (x + 1)))
        (cond (is_built_in scope'.names (name_at nodes' i)) (keyword_errors (args_in nodes' (run_of nodes' i))) (variable_at scope' nodes' i))
    unfolding call_errors
    call_first = record { is = rw (allowed, ex, add-one) refl }

    module _ (y : Bool) (ey : y ≡ (leb 8 (class_number (get_or cs x Time)) && ltb (class_number (get_or cs x Time)) 18)) where
      built : is_built_in scope'.names (name_at nodes' i) ≡ y
      built = sym (ey ∙ built_in_here)

      -- a built-in
      pub call_built_in : y ≡ true → Joins (call_at scope' nodes' i) (unless t (error 6 (span_at nodes' i) (x + 1))) (keyword_errors (args_in nodes' r))
      call_built_in h =
          let w = built ∙ h in
          record { is = rw er (call_first.is ∙ rw w refl) }

      -- another
      pub call_other : y ≡ false → Joins (call_at scope' nodes' i) (unless t (error 6 (span_at nodes' i) (x + 1))) (variable_at scope' nodes' i)
      call_other h =
          let w = built ∙ h in
          record { is = call_first.is ∙ rw w refl }

-- ---- the name at node i

module _ {names : ℕ} {b : List ℕ} {ns : Nodes} {i : ℕ} (q : ExprIn names b ns i) (k : kind_at (nodes_in ns b) i ≡ 1) where
  -- its name is one of the names
  name_here : name_at (nodes_in ns b) i < names
  name_here = ltb-true _ _ ((node_here i q.formed q.within).name k)

  -- and a small number
  pub name_small : name_at (nodes_in ns b) i < 256
  name_small = omega (arith, name_here, q.formed.named)

-- error 5, by the entry of its name
pub name_error : {f : List ℕ} {s : Sections} {m : ℕ} {vs : List ℕ} → Scoped f s m vs → {b : List ℕ} {ns : Nodes} {i : ℕ} → ExprIn s.counts.names b ns i → kind_at (nodes_in ns b) i ≡ 1
    → expr_errors (scope_in f s m) (tree_at (nodes_in ns b) i) ≡ name_absent (nodes_in ns b) vs i
unfolding expr_errors name_absent
name_error {f} {s} {m} g {b} {ns} {i} q k =
    let c = scope_in f s m in
    let t = tree_name _ _ _ q.formed.pass i q.within q.expr k in
    let e = entry_is g (name_at (nodes_in ns b) i) (name_here q k) in
    ap (expr_errors c) t ∙ rw (e, has_entry c, add-one) refl
