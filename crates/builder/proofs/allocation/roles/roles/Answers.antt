use mathlib.Core.Path.{◌≡◌, ◌∙◌}
use native.Mathlib.Omega.{arith}
use Rattle.std.proofs.lemmas.List.Elements.{All-push}
use Rattle.builder.specs.Allocating.{Narrow}
use Rattle.builder.proofs.laws.Flats.{one_more, long_by, map_by}
use Rattle.builder.proofs.allocation.roles.roles.Goals as goal

pub push-requires : goal.push-requires
push-requires c =
    let few = c.requires.0.1.small.stmts in
    let long = long_by _ _ c.loop-i.out.items c.loop-i.i c.loop-i.invariant.0 in
    (omega arith, omega (arith, few, long))

pub loop-i-preserved : goal.loop-i-preserved
loop-i-preserved c =
    rw c.push.ensures.items (one_more _ _ _ c.loop-i.i _ c.allocate_stmt.ensures.0 c.loop-i.invariant.0, All-push Narrow _ _ c.loop-i.invariant.1 c.allocate_stmt.ensures.1)

pub returns : goal.returns
returns c =
    let all : c.loop-i.i ≡ c.args.area.now.sizes.stmts = omega arith in
    (rw all at c.loop-i.invariant.0 ∙ map_by _ _ _, c.loop-i.invariant.1)
