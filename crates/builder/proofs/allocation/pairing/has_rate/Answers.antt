use mathlib.Core.Path.{◌≡◌}
use mathlib.Core.List.{map}
use lib.ListN.{take, length, length-map}
use Rattle.std.proofs.lemmas.List.{take_all}
use native.Mathlib.Omega.{arith}
use Rattle.builder.specs.Allocating.{role_as, is_role}
use Rattle.builder.proofs.allocation.pairing.has_rate.Goals as goal

pub returns : goal.returns
unfolding role_as is_role
returns c =
    let roles = c.args.roles.now in
    let all : take (length roles) (map role_as roles) ≡ map role_as roles = take_all _ _ (simp length-map (omega arith)) in
    rw all at c.has_role.ensures
