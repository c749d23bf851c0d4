use mathlib.Core.Path.{refl, ◌∙◌}
use Rattle.std.proofs.lemmas.List.{drop-map, take-map}
use Rattle.area.proofs.SectionsKept.{drop_take}
use Rattle.builder.proofs.laws.RoleLoops.{any_role}
use Rattle.builder.proofs.allocation.pairing.has_role.Goals as goal

pub returns : goal.returns
returns c =
    let a = c.args in
    c.contains.ensures.value ∙ any_role a.role _ ∙ rw (take-map, drop-map, drop_take a.i a.n a.roles.now c.requires.0) refl
