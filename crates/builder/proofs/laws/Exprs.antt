-- How the errors of the expression at a node go on by the node's kind.
use mathlib.Core.Path.{◌≡◌, ap}
use mathlib.Core.List.{List, []}
use Prim.Native.Nat.{ℕ, ◌+◌, ◌-◌, ◌≤◌, ◌<◌}
use native.Mathlib.Omega.{arith}
use Rattle.ast.specs.Nodes.{kind_at, size_at, tree_at}
use Rattle.ast.specs.NodesIn.{nodes_in}
use Rattle.ast.specs.declared.sections.Nodes.{Nodes}
use Rattle.ast.proofs.Fitting.{expr_kind, two_below}
use Rattle.ast.proofs.Trees.{tree_number, tree_binary, tree_unary, tree_call}
use Rattle.definitions.specs.Check.{Scope, expr_errors, args_errors}
use Rattle.builder.specs.declared.errors.check.Run.{Run}
use Rattle.builder.specs.Checking.{args_in, run_of, call_at, ExprIn, CallIn}
use Rattle.area.proofs.Listings.{Joins}
use Rattle.builder.proofs.laws.Checks.{node_here}

-- the children of a binary node, the right one of z nodes
pub record TwoIn (names : ℕ) (b : List ℕ) (ns : Nodes) (i z : ℕ) : Type 0 where
  pub le : 1 + z ≤ i
  pub left_less : size_at (nodes_in ns b) (i - 1 - z) < size_at (nodes_in ns b) i
  pub right_less : size_at (nodes_in ns b) (i - 1) < size_at (nodes_in ns b) i
  pub left : ExprIn names b ns (i - 1 - z)
  pub right : ExprIn names b ns (i - 1)

-- the child of a unary node
pub record OneIn (names : ℕ) (b : List ℕ) (ns : Nodes) (i : ℕ) : Type 0 where
  pub le : 1 ≤ i
  pub less : size_at (nodes_in ns b) (i - 1) < size_at (nodes_in ns b) i
  pub child : ExprIn names b ns (i - 1)

module _ {names : ℕ} {b : List ℕ} {ns : Nodes} {i : ℕ} (q : ExprIn names b ns i) where
  abbrev N : List (List ℕ)
  N = nodes_in ns b

  -- a number
  pub number_errors : kind_at N i ≡ 2 → (v : Scope) → expr_errors v (tree_at N i) ≡ []
  unfolding expr_errors
  number_errors h v = ap (expr_errors v) (tree_number _ _ _ q.formed.pass i q.within q.expr h)

  -- a unary node
  pub one_in : kind_at N i ≡ 4 → OneIn names b ns i
  one_in h =
      let a = (node_here i q.formed q.within).unary h in
      record { le = a.0; less = omega (arith, a.1); child = record { formed = q.formed; within = omega (arith, q.within); expr = a.2 } }

  pub unary_errors : kind_at N i ≡ 4 → (v : Scope) → expr_errors v (tree_at N i) ≡ expr_errors v (tree_at N (i - 1))
  unfolding expr_errors
  unary_errors h v = ap (expr_errors v) (tree_unary _ _ _ q.formed.pass i q.within q.expr h)

  module _ (h : kind_at N i ≡ 3) where
    -- a binary node
    pub binary_pos : 1 ≤ i
    binary_pos = let a = two_below _ _ _ q.formed.pass i q.within h in omega (arith, a.le)

    module _ (z : ℕ) (ez : z ≡ size_at N (i - 1)) where
      pub two_in : TwoIn names b ns i z
      two_in =
          let a = two_below _ _ _ q.formed.pass i q.within h in
          rw ez (record {
            le = a.le;
            left_less = omega (arith, a.eq, a.pos₂);
            right_less = omega (arith, a.eq, a.pos₁);
            left = record { formed = q.formed; within = omega (arith, q.within, a.le); expr = a.left };
            right = record { formed = q.formed; within = omega (arith, q.within, a.le); expr = a.right };
          })

      -- the errors of its children, one behind the other
      pub binary_errors : (v : Scope) → Joins (expr_errors v (tree_at N i)) (expr_errors v (tree_at N (i - 1 - z))) (expr_errors v (tree_at N (i - 1)))
      unfolding expr_errors
      binary_errors v = record { is = rw ez (ap (expr_errors v) (tree_binary _ _ _ q.formed.pass i q.within q.expr h)) }

  -- what is of none of the other kinds is a call
  pub left_kind : (kind_at N i ≡ 1 → ⊥) → (kind_at N i ≡ 2 → ⊥) → (kind_at N i ≡ 3 → ⊥) → (kind_at N i ≡ 4 → ⊥) → kind_at N i ≡ 5
  left_kind n₁ n₂ n₃ n₄ =
      let b = expr_kind _ _ q.expr in
      omega (arith, b.0, b.1)

  module _ (h : kind_at N i ≡ 5) where
    -- a call
    pub is_call : CallIn names b ns i
    is_call = record { formed = q.formed; within = q.within; call = h }

    -- its own errors, then those of its arguments
    pub call_errors_lem : (v : Scope) (r : Run) → r ≡ run_of N i → Joins (expr_errors v (tree_at N i)) (call_at v N i) (args_errors v (args_in N r))
    unfolding expr_errors
    call_errors_lem v r er = record { is = rw er (ap (expr_errors v) (tree_call _ _ _ q.formed.pass i q.within q.expr h)) }
