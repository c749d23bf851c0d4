use mathlib.Core.Path.{sym, ◌∙◌}
use Prim.Native.Nat.{suc, ◌+◌}
use native.Mathlib.Omega.{arith}
use Rattle.ast.specs.Nodes.{name_at}
use Rattle.area.specs.Views.{nodes_seen}
use Rattle.area.specs.declared.errors.ErrorKind.TheVariants.{WrongStart}
use Rattle.builder.proofs.laws.RoleErrors.{found_spanned, found_none, found_error}
use Rattle.builder.proofs.allocation.roles.number_error.Goals as goal

pub returns-then-same_number : goal.returns-then-same_number
returns-then-same_number c = found_none _ _ (rw (← c.node_bits.ensures) (sym c.same_number.ensures ∙ c.if-same_number.true))

pub returns : goal.returns
returns c = found_error _ _ _ (rw (← c.node_bits.ensures) (sym c.same_number.ensures ∙ c.if-same_number.false)) (found_spanned _ _ WrongStart _ _ (1 + c.node_word-name.result) (suc (name_at (nodes_seen c.args.area.now) c.args.call)) c.node_word-from.ensures c.node_word-to.ensures (omega (arith, c.node_word-name.ensures)))
