-- What stands in a record for a fate, and for a kind of statements, is its number.
use mathlib.Core.Path.{◌≡◌, refl}
use Prim.Native.Nat.{◌+◌}
use denote.Enum.Declared.{tag_of}
use Rattle.ast.specs.Kinds.{stmt_number}
use Rattle.ast.specs.declared.kinds.StmtKind.{StmtKind}
use Rattle.ast.specs.declared.kinds.StmtKind.TheVariants.{Equation, Rate, Submodel}
use Rattle.ast.specs.contracts.kinds.StmtKind as kind
use Rattle.area.specs.Fates.{fate_number}
use Rattle.area.specs.declared.layout.Fate.{Fate}
use Rattle.area.specs.declared.layout.Fate.TheVariants.{Initial, Held, Replaced, LeftOver}
use Rattle.area.specs.contracts.layout.Fate as fate

pub fate_word : (f : Fate) → tag_of fate.the_type f + 1 ≡ fate_number f
fate_word Initial = refl
fate_word Held = refl
fate_word Replaced = refl
fate_word LeftOver = refl

pub kind_word : (k : StmtKind) → tag_of kind.the_type k + 1 ≡ stmt_number k
kind_word Equation = refl
kind_word Rate = refl
kind_word Submodel = refl
