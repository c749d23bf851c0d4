use mathlib.Core.Path.{◌≡◌, sym, ◌∙◌}
use mathlib.Core.Bool.{false}
use lib.Ieee.{is_nan}
use Rattle.builder.specs.Bounding.{NanDeclared}
use Rattle.builder.proofs.laws.BoundLaws.{nan_bits, number_bits}
use Rattle.builder.proofs.variables.bounds.bound_bits.Goals.{In_default, in_default-via-in-Some+else-is_nan, in_default-via-in_default}
use Rattle.builder.proofs.variables.bounds.bound_bits.Goals as goal

pub returns-in-Some : goal.returns-in-Some
returns-in-Some c = let a = c.args in
    rw c.in-Some.is (nan_bits a.file.now.bytes.now a.file.now.sections a.k a.x c.in-Some.i _ (sym c.is_nan.ensures.value ∙ c.if-is_nan.true) c.unknown_bits.ensures)

-- a number, since no unknown declares it, or since it was asked
number : (c : In_default) → is_nan c.args.x ≡ false
unfolding NanDeclared
number c = elim c.in_default.branch [
  | in_default-via-in-Some+else-is_nan w ↦ sym w.is_nan.ensures.value ∙ w.if-is_nan.false
  | in_default-via-in_default w ↦ rw w.in_default.is at c.requires.2
]

pub float_to_bits-result : goal.float_to_bits-result
float_to_bits-result c = rw (number (goal.at.float_to_bits-result c).In_default) tt

pub returns-in_default : goal.returns-in_default
returns-in_default c = let a = c.args in
    number_bits a.file.now.bytes.now a.file.now.sections a.k a.x a.u (number (goal.at.returns-in_default c).In_default)
