use Rattle.std.proofs.Common.{arith}
use Rattle.definitions.specs.Layout.{most_kind}
use Rattle.keeping.proofs.Begun.{kept_header, kept_errors}
use Rattle.report.proofs.Tables.{printed}
use Rattle.lines.proofs.print.lines_of.Goals as goal

pub sections_in-s-requires : goal.sections_in-s-requires
sections_in-s-requires g c = kept_header most_kind _ c.requires.0

pub invariant_of-errors : goal.invariant_of-errors
invariant_of-errors g c = record { lie = (kept_errors most_kind _ _ c.requires.0 c.sections_in-s.ensures).0.lie }

pub note_starts-requires : goal.note_starts-requires
note_starts-requires g c =
    let e = kept_errors most_kind _ _ c.requires.0 c.sections_in-s.ensures in
    (e.0.wide, omega (arith, e.1))

pub put_lines-requires : goal.put_lines-requires
put_lines-requires g c =
    let e = kept_errors most_kind _ _ c.requires.0 c.sections_in-s.ensures in
    (record { lie = e.0; long = omega (arith, e.1) }, e.1, omega arith)

pub returns : goal.returns
returns g c = let put = c.put_lines.ensures in
    printed _ _ _ _ _ c.requires.0 c.sections_in-s.ensures c.note_starts.ensures.starts c.places.ensures _ _ _ put.0 put.1
