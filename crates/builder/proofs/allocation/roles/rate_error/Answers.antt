use mathlib.Core.Path.{sym, ◌∙◌}
use Prim.Native.Nat.{◌<◌}
use native.Mathlib.Omega.{arith}
use Rattle.area.proofs.Listings.{found_one}
use Rattle.builder.proofs.laws.LeftSides.{entry_below}
use Rattle.builder.proofs.laws.RoleErrors.{found_none, found_error, errors_unknown, errors_known}
use Rattle.builder.proofs.allocation.roles.rate_error.Goals as goal

pub bounds-numbers-name : goal.bounds-numbers-name
bounds-numbers-name c =
    omega (arith, c.stmt_word-name.ensures, c.requires.2, c.requires.3.names)

pub overflow_add-name : goal.overflow_add-name
overflow_add-name c =
    omega (arith, c.stmt_word-name.ensures, c.requires.2)

pub returns-in-None : goal.returns-in-None
returns-in-None c = found_one _ _ c.stmt_error.ensures ∙ errors_unknown _ _ _ _ _ c.stmt_word-name.ensures c.in-None.ensures

pub takes_rate-requires : goal.takes_rate-requires
takes_rate-requires c =
    let name_small : c.stmt_word-name.result < 256 = omega (arith, c.stmt_word-name.ensures, c.requires.2) in
    let p = c.requires in
    (p.0, p.3.vars, rw c.from.ensures (entry_below p.3 _ _ name_small c.in-Some.ensures))

pub returns-in-Some : goal.returns-in-Some
returns-in-Some c =
    found_none _ _ (sym (rw c.from.ensures at c.if-takes_rate.ensures)) ∙ errors_known _ _ _ _ _ c.stmt_word-name.ensures _ c.in-Some.ensures

pub overflow_add-name-in-Some-2 : goal.overflow_add-name-in-Some-2
overflow_add-name-in-Some-2 c =
    omega (arith, c.stmt_word-name.ensures, c.requires.2)

pub returns-in-Some-2 : goal.returns-in-Some-2
returns-in-Some-2 c =
    found_error _ _ _ (sym (rw c.from.ensures at c.if-takes_rate.ensures)) c.stmt_error-in-Some-2.ensures ∙ errors_known _ _ _ _ _ c.stmt_word-name.ensures _ c.in-Some.ensures
