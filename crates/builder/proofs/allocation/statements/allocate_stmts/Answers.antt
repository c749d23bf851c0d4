use mathlib.Core.Path.{◌≡◌, ap, ◌∙◌}
use mathlib.Core.List.{map}
use native.Mathlib.Omega.{arith}
use lib.ListN.{take, length-map}
use Rattle.std.proofs.lemmas.List.{take_all}
use Rattle.builder.specs.Allocating.{role_as}
use Rattle.builder.specs.Root.{queue_by}
use Rattle.builder.proofs.laws.Flats.{flats_each}
use Rattle.builder.proofs.laws.PairedStates.{flattened_long, left_by, states_by, all_paired, none_paired, fated_by_lem}
use Rattle.builder.proofs.allocation.statements.allocate_stmts.Goals as goal
use Rattle.builder.proofs.allocation.statements.allocate_stmts.Goals.{then-left, else-left}

pub write_fates_wide-requires : goal.write_fates_wide-requires
write_fates_wide-requires c =
    let F = c.requires.0.1 in
    let t = ap (map role_as) c.as_slice-roles.ensures.value ∙ c.roles-table.ensures.0 in
    (F.small, flattened_long _ _ _ F, omega (arith, flats_each _ _ role_as _ _ t))

pub returns : goal.returns
returns c =
    let a = c.args in
    let t = ap (map role_as) c.as_slice-roles.ensures.value ∙ c.roles-table.ensures.0 in
    let l = c.lacking_wide-states.ensures in
    let queue : c.if-left.paired.now ≡ queue_by a.area.now a.z a.numbers.now a.lower =
    elim c.if-left.branch [
      | then-left w ↦ rw w.paired-is (w.as_slice-paired.ensures.value ∙ all_paired _ _ _ _ _ t _ l _ _ c.left_count.ensures c.len.ensures.value w.if-left.true)
      | else-left w ↦ rw w.paired-is (none_paired _ _ _ _ _ t _ l _ _ c.left_count.ensures c.len.ensures.value w.if-left.false)
    ] in
    let roles = map role_as c.as_slice-roles.result.now in
    let all : take a.z.stmts roles ≡ roles = take_all _ _ (simp length-map (omega (arith, flats_each _ _ role_as _ _ t))) in
    (left_by _ _ _ _ _ t _ c.left_count.ensures, states_by _ _ _ _ _ t _ l _ c.len.ensures.value, fated_by_lem _ _ _ _ _ t _ _ queue (rw all at c.write_fates_wide.ensures))
