-- Nodes that pass, and how the errors of a run of arguments go on, in the code's terms.
use mathlib.Core.Path.{◌≡◌, refl, sym, ap, ◌∙◌}
use mathlib.Core.Bool.{Bool, true, not}
use mathlib.Core.List.{List, ◌++◌, append-nil}
use Prim.Native.Nat.{ℕ, zero, suc, ◌-◌, ◌≤◌, ◌<◌}
use native.Mathlib.Omega.{arith}
use borrow.Author.Tests.{leb-true, ne_eqb}
use lib.Dec.{eqb}
use Rattle.functions.specs.Lists.{unless, member}
use Rattle.ast.specs.Tree.{Span, Expr, Args, empty, snoc}
use Rattle.ast.specs.Nodes.{name_at, span_at, tree_at}
use Rattle.ast.specs.NodesIn.{nodes_in}
use Rattle.ast.specs.Opens.{Open, nodes_of}
use Rattle.ast.specs.declared.sections.Nodes.{Nodes}
use Rattle.ast.specs.declared.sections.Sections.{Sections}
use Rattle.ast.proofs.Opened.{ranges}
use Rattle.ast.proofs.Fitting.{NodeOk, LastArg, node_ok, last_arg}
use Rattle.ast.proofs.Trees.{args_more, args_none}
use Rattle.definitions.specs.Variables.{Error, error}
use Rattle.definitions.specs.Check.{Scope, has_keyword, keyword_errors, dependent_errors, expr_errors, args_errors}
use Rattle.area.specs.declared.sections.Sizes.{Sizes}
use Rattle.area.proofs.Listings.{Joins}
use Rattle.builder.specs.Allocating.{Flattened}
use Rattle.builder.specs.declared.errors.check.Run.{Run}
use Rattle.builder.specs.Checking.{args_in, before_last, Formed, ExprIn, ArgsIn}
use Rattle.builder.proofs.laws.OpenRecords.{passes}
use Rattle.builder.proofs.laws.OpenStmts.{nodes_from_lem, names_few}

-- ---- one argument more, by its keyword

keyword_there : (a : Args) (k : ℕ) (e : Expr) (s : Span) → (k ≡ 0 → ⊥) → has_keyword (snoc a k e s) ≡ true
unfolding has_keyword
keyword_there a zero e s h = absurd (h refl)
keyword_there a (suc k) e s h = refl

keyword_earlier : (a : Args) (k : ℕ) (e : Expr) (s : Span) → k ≡ 0 → has_keyword (snoc a k e s) ≡ has_keyword a
unfolding has_keyword
keyword_earlier a zero e s h = refl
keyword_earlier a (suc k) e s h = absurd (omega arith)

built_in_snoc : (a : Args) (k : ℕ) (e : Expr) (s : Span) → keyword_errors (snoc a k e s) ≡ keyword_errors a ++ unless (eqb k 0) (error 7 s k)
unfolding keyword_errors unless
built_in_snoc a zero e s = sym (append-nil (keyword_errors a))
built_in_snoc a (suc k) e s = rw (ne_eqb (suc k) 0 (λ q. omega arith)) refl

positional_snoc : (ds : List ℕ) (a : Args) (k : ℕ) (e : Expr) (s : Span) → k ≡ 0 → dependent_errors ds (snoc a k e s) ≡ dependent_errors ds a ++ unless (not (has_keyword a)) (error 10 s 0)
unfolding dependent_errors
positional_snoc ds a zero e s h = refl
positional_snoc ds a (suc k) e s h = absurd (omega arith)

named_snoc : (ds : List ℕ) (a : Args) (k : ℕ) (e : Expr) (s : Span) → (k ≡ 0 → ⊥) → dependent_errors ds (snoc a k e s) ≡ dependent_errors ds a ++ unless (member (suc (k - 1)) ds) (error 9 s k)
unfolding dependent_errors
named_snoc ds a zero e s h = absurd (h refl)
named_snoc ds a (suc k) e s h =
    let z : suc k - 1 ≡ k = omega arith in
    rw z refl

by_zero : {C : Type 0} (k : ℕ) → (k ≡ 0 → C) → ((k ≡ 0 → ⊥) → C) → C
by_zero zero a b = a refl
by_zero (suc k) a b = b (λ e. omega arith)

-- ---- nodes that pass: those of an open file, and those of an area with a flattened model, behind its header

pub open_formed : {f : List ℕ} {s : Sections} → Open f s → Formed s.counts.names f (nodes_of s)
open_formed {f} {s} o =
    record { lie = (ranges f s o).nodes; named = names_few f s o; pass = rw (nodes_from_lem f s o) (passes f s o).nodes }

pub flattened_formed : {names : ℕ} {b : List ℕ} {z : Sizes} → Flattened names b z → Formed names b (record { at = 40; count = z.nodes })
flattened_formed g = record { lie = omega (arith, g.long); named = g.few; pass = g.nodes }

module _ {names : ℕ} {b : List ℕ} {ns : Nodes} where
  -- node i, as the layout has it
  pub node_here : (i : ℕ) → Formed names b ns → i < ns.count → NodeOk names (nodes_in ns b) i
  node_here i o l = node_ok _ _ _ o.pass i l

  -- ---- a run of arguments: the last of them is the node before the end

  module _ {r : Run} (a : ArgsIn names b ns r) where
    abbrev N : List (List ℕ)
    N = nodes_in ns b

    -- no arguments
    pub args_end : r.args ≡ 0 → args_in N r ≡ empty
    args_end e = args_none N r.end r.args r.total e

    module _ (ne : r.args ≡ 0 → ⊥) where
      -- what the layout says of it
      pub arg_last : LastArg N r.end r.args r.total
      arg_last = last_arg _ _ _ a.formed.pass r.end r.args r.total a.within a.fits ne

      -- it is one of the nodes
      pub arg_within : r.end - 1 < ns.count
      arg_within = omega (arith, arg_last.two, a.within)

      -- its keyword is a name plus 1 or 0
      pub arg_keyword : name_at N (r.end - 1) ≤ names
      arg_keyword = leb-true _ _ ((node_here (r.end - 1) a.formed arg_within).keyword arg_last.kind)

      -- its expression stands before it
      pub arg_child : ExprIn names b ns (r.end - 1 - 1)
      arg_child = record { formed = a.formed; within = omega (arith, arg_last.two, a.within); expr = arg_last.child }

      -- the run without it is z
      module _ (z : Run) (ez : z ≡ before_last N r) where
        -- it is a run too
        pub args_rest : ArgsIn names b ns z
        args_rest = rw ez (record { formed = a.formed; within = omega (arith, a.within); fits = arg_last.rest })

        -- fewer arguments, of fewer nodes
        pub args_fewer : z.args < r.args
        args_fewer = rw ez (omega (arith, ne))

        pub nodes_fewer : z.total < r.total
        nodes_fewer = rw ez (omega (arith, arg_last.le, arg_last.eq))

        -- the arguments, by the last and those before it
        pub args_are : args_in N r ≡ snoc (args_in N z) (name_at N (r.end - 1)) (tree_at N (r.end - 1 - 1)) (span_at N (r.end - 1))
        args_are = rw ez (args_more _ _ _ a.formed.pass r.end r.args r.total a.within a.fits ne)

        -- the errors of the last expression come last
        pub args_more_errors : (v : Scope) → Joins (args_errors v (args_in N r)) (args_errors v (args_in N z)) (expr_errors v (tree_at N (r.end - 1 - 1)))
        unfolding args_errors
        args_more_errors v = record { is = ap (args_errors v) args_are }

        -- whatever the last argument adds
        pub dependents_more : (ds : List ℕ) → (ys : List Error) × Joins (dependent_errors ds (args_in N r)) (dependent_errors ds (args_in N z)) ys
        dependents_more ds = by_zero (name_at N (r.end - 1))
            (λ h. (_, record { is = ap (dependent_errors ds) args_are ∙ positional_snoc ds _ _ _ _ h }))
            (λ h. (_, record { is = ap (dependent_errors ds) args_are ∙ named_snoc ds _ _ _ _ h }))

        -- its keyword is k
        module _ (k : ℕ) (ek : k ≡ name_at N (r.end - 1)) where
          -- where the last bears no keyword, those before it decide
          pub has_keyword_before : k ≡ 0 → has_keyword (args_in N r) ≡ has_keyword (args_in N z)
          has_keyword_before h = ap has_keyword args_are ∙ keyword_earlier _ _ _ _ (sym ek ∙ h)

          -- error 7 of the last
          pub built_in_more : Joins (keyword_errors (args_in N r)) (keyword_errors (args_in N z)) (unless (eqb k 0) (error 7 (span_at N (r.end - 1)) k))
          built_in_more = record { is = rw ek (ap keyword_errors args_are ∙ built_in_snoc _ _ _ _) }

          module _ (ds : List ℕ) (t : Bool) where
            -- error 10 of a positional one
            pub positional_more : k ≡ 0 → t ≡ has_keyword (args_in N z)
                → Joins (dependent_errors ds (args_in N r)) (dependent_errors ds (args_in N z)) (unless (not t) (error 10 (span_at N (r.end - 1)) 0))
            positional_more h e = record { is = rw e (ap (dependent_errors ds) args_are ∙ positional_snoc ds _ _ _ _ (sym ek ∙ h)) }

            -- error 9 of a named one
            pub named_more : (k ≡ 0 → ⊥) → t ≡ member (suc (k - 1)) ds
                → Joins (dependent_errors ds (args_in N r)) (dependent_errors ds (args_in N z)) (unless t (error 9 (span_at N (r.end - 1)) k))
            named_more h e = record { is = rw (e, ek) (ap (dependent_errors ds) args_are ∙ named_snoc ds _ _ _ _ (λ q. h (ek ∙ q))) }

      -- a keyword
      pub has_keyword_here : (k : ℕ) → k ≡ name_at N (r.end - 1) → (k ≡ 0 → ⊥) → has_keyword (args_in N r) ≡ true
      has_keyword_here k ek h = ap has_keyword (args_are (before_last N r) refl) ∙ keyword_there _ _ _ _ (λ e. h (ek ∙ e))
