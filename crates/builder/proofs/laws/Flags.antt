-- A flag is the number that a `bool` converts to.
use mathlib.Core.Path.{◌≡◌, refl}
use mathlib.Core.Bool.{Bool, true, false}
use mir.Val.{bool_byte}
use Rattle.functions.specs.Lists.{flag}

pub flag_byte : (b : Bool) → bool_byte b ≡ flag b
unfolding flag
flag_byte true = refl
flag_byte false = refl
