use mathlib.Core.Path.{◌≡◌, sym, ◌∙◌}
use Prim.Native.Nat.{◌≤◌, ◌<◌}
use native.Mathlib.Omega.{arith}
use borrow.Author.Tests.{eqb-true}
use Rattle.ast.specs.Nodes.{kind_at}
use Rattle.builder.proofs.laws.LeftSides.{entry_below, call_name, call_arg, start_other, start_unknown, start_untimed, start_short, start_number_lem, start_no_number}
use Rattle.area.specs.Views.{nodes_seen}
use Rattle.builder.proofs.allocation.roles.start_of.Goals as goal

pub returns-then-not-is_node : goal.returns-then-not-is_node
returns-then-not-is_node c = sym (start_other _ _ _ _ (sym c.is_node.ensures ∙ c.if-not-is_node.true))

pub bounds-numbers-node : goal.bounds-numbers-node
bounds-numbers-node c =
    let p = c.requires in
    let is_call : kind_at (nodes_seen c.args.area.now) c.args.i ≡ 5 = eqb-true _ _ (sym c.is_node.ensures ∙ c.if-not-is_node.false) in
    let name_small : c.node.result < 256 = call_name _ _ _ p.0.1.nodes _ p.2 is_call p.0.1.few _ c.node.ensures.0 in
    omega (arith, name_small, c.requires.1.names)

pub returns-in_err-v : goal.returns-in_err-v
returns-in_err-v c =
    let is_call : kind_at (nodes_seen c.args.area.now) c.args.i ≡ 5 = eqb-true _ _ (sym c.is_node.ensures ∙ c.if-not-is_node.false) in
    c.from_residual.ensures ∙ sym (start_unknown _ _ _ _ is_call _ c.node.ensures.0 (c.in_err-v.ensures))

pub var-requires : goal.var-requires
var-requires c =
    let p = c.requires in
    let is_call : kind_at (nodes_seen c.args.area.now) c.args.i ≡ 5 = eqb-true _ _ (sym c.is_node.ensures ∙ c.if-not-is_node.false) in
    let name_small : c.node.result < 256 = call_name _ _ _ p.0.1.nodes _ p.2 is_call p.0.1.few _ c.node.ensures.0 in
    (p.0.1.small, p.1.vars, rw c.from.ensures (entry_below p.1 _ _ name_small c.in_ok-v.ensures), omega arith)

pub returns-in_err-index : goal.returns-in_err-index
returns-in_err-index c =
    let is_call : kind_at (nodes_seen c.args.area.now) c.args.i ≡ 5 = eqb-true _ _ (sym c.is_node.ensures ∙ c.if-not-is_node.false) in
    c.from_residual-in_err-index.ensures ∙ sym (start_untimed _ _ _ _ is_call _ c.node.ensures.0 _ c.in_ok-v.ensures _ (rw c.from.ensures at c.var.ensures) (c.in_err-index.ensures))

pub returns-then-node-index : goal.returns-then-node-index
returns-then-node-index c =
    let is_call : kind_at (nodes_seen c.args.area.now) c.args.i ≡ 5 = eqb-true _ _ (sym c.is_node.ensures ∙ c.if-not-is_node.false) in
    sym (start_short _ _ _ _ is_call _ c.node.ensures.0 _ c.in_ok-v.ensures _ (rw c.from.ensures at c.var.ensures) _ c.in_ok-index.ensures _ c.node-2.ensures.0 c.if-node-index.true)

pub arg_at-arg-requires : goal.arg_at-arg-requires
arg_at-arg-requires c =
    record { flattened = c.requires.0; within = c.requires.2; kind = eqb-true _ _ (sym c.is_node.ensures ∙ c.if-not-is_node.false); few = omega (arith, c.if-node-index.false, c.node-2.ensures.0) }

pub overflow_sub-arg : goal.overflow_sub-arg
overflow_sub-arg c =
    let p = c.requires in
    let is_call : kind_at (nodes_seen c.args.area.now) c.args.i ≡ 5 = eqb-true _ _ (sym c.is_node.ensures ∙ c.if-not-is_node.false) in
    (call_arg _ _ _ p.0.1.nodes _ p.2 is_call _ _ (omega (arith, c.if-node-index.false, c.node-2.ensures.0)) c.arg_at-arg.ensures).0

pub is_node-requires-2 : goal.is_node-requires-2
is_node-requires-2 c =
    let p = c.requires in
    let is_call : kind_at (nodes_seen c.args.area.now) c.args.i ≡ 5 = eqb-true _ _ (sym c.is_node.ensures ∙ c.if-not-is_node.false) in
    let arg-there : (1 ≤ c.arg_at-arg.result) × (c.arg_at-arg.result < c.args.area.now.sizes.nodes) = call_arg _ _ _ p.0.1.nodes _ p.2 is_call _ _ (omega (arith, c.if-node-index.false, c.node-2.ensures.0)) c.arg_at-arg.ensures in
    (omega (arith, p.0.1.long), omega (arith, arg-there))

pub returns-then-is_node : goal.returns-then-is_node
returns-then-is_node c =
    let is_call : kind_at (nodes_seen c.args.area.now) c.args.i ≡ 5 = eqb-true _ _ (sym c.is_node.ensures ∙ c.if-not-is_node.false) in
    sym (start_number_lem _ _ _ _ is_call _ c.node.ensures.0 _ c.in_ok-v.ensures _ (rw c.from.ensures at c.var.ensures) _ c.in_ok-index.ensures _ c.node-2.ensures.0 c.if-node-index.false _ c.arg_at-arg.ensures (sym c.is_node-2.ensures ∙ c.if-is_node.true))

pub returns : goal.returns
returns c =
    let is_call : kind_at (nodes_seen c.args.area.now) c.args.i ≡ 5 = eqb-true _ _ (sym c.is_node.ensures ∙ c.if-not-is_node.false) in
    sym (start_no_number _ _ _ _ is_call _ c.node.ensures.0 _ c.in_ok-v.ensures _ (rw c.from.ensures at c.var.ensures) _ c.in_ok-index.ensures _ c.node-2.ensures.0 c.if-node-index.false _ c.arg_at-arg.ensures (sym c.is_node-2.ensures ∙ c.if-is_node.false))
