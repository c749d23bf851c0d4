-- Every definition of this crate, to compute with.
use Rattle.report.specs.Decimals.{digits_within, decimal}
use Rattle.report.specs.Lines.{field, line_for, nowhere, place_as, place_of_error, error_line, listed_errors, lines_of, lines}
use Rattle.report.specs.Tabled.{tabled_place, tabled_lines}

unfoldable pub report·computes : Unit {0}
unfolding digits_within decimal field line_for nowhere place_as place_of_error error_line listed_errors lines_of lines tabled_place tabled_lines
report·computes = tt
