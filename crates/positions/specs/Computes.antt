-- Every definition of this crate, to compute with.
use Rattle.positions.specs.Positions.{line_of, below, column_of, place_of, is_missing, shown_for}
use Rattle.positions.specs.Pieces.{placed}

unfoldable pub positions·computes : Unit {0}
unfolding line_of below column_of place_of is_missing shown_for placed
positions·computes = tt
