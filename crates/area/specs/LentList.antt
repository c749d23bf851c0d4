-- A list of errors in lent bytes: what a function that lists more of them leaves behind.
use Rattle.std.specs.Prelude.{◌≡◌, List, ◌+◌, ◌^◌, ◌<◌, length}
use Rattle.definitions.specs.Variables as definitions
use Rattle.area.specs.Listing.{Lists}
use Rattle.area.specs.declared.errors.Errors.{Errors}

-- From the list e, the errors es lead to the list e', in the same lent bytes.
pub record Listed (e : Errors) (es : List definitions.Error) (e' : Errors) : Type 0 where
  pub lists : Lists e.bytes.now e.count es e'.count e'.bytes.now
  pub same : e'.bytes.ghost_name ≡ e.bytes.ghost_name

-- The errors es behind those of the list e can be counted.
abbrev pub RoomFor : Errors → List definitions.Error → Type 0
RoomFor e es = e.count + length es < 2 ^ 40
