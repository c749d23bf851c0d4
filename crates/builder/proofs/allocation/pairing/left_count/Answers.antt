use mathlib.Core.Path.{◌≡◌, ◌∙◌}
use Rattle.std.proofs.Common.{rules}
use Rattle.std.specs.List.{count_by}
use Rattle.builder.specs.declared.allocation.roles.Role.TheVariants.{Neither}
use Rattle.builder.specs.contracts.allocation.roles.RolePartialEq.TheImpl.{ghosts}
use Rattle.builder.proofs.laws.RoleLoops.{neither_count}
use Rattle.builder.proofs.allocation.pairing.left_count.Goals as goal

pub returns : goal.returns
returns c =
    let counted : c.count.result ≡ count_by (λ r. ghosts.eq r Neither) c.args.roles.now = search rules in
    counted ∙ neither_count c.args.roles.now
