use Rattle.std.proofs.Common.{[], ap, ◌∙◌}
use Rattle.positions.specs.Pieces.{placed}
use Rattle.positions.proofs.Entries.{starts_of}
use Rattle.lines.proofs.text.places.Goals as goal

pub read_text-requires : goal.read_text-requires
read_text-requires g c = let b = c.begin.ensures in
    rw (starts_of _ _ _ b) b

pub returns-then-is_err : goal.returns-then-is_err
returns-then-is_err g c =
    record { text = []; placed = c.begin-then-is_err.ensures ∙ ap (placed []) (starts_of _ _ _ c.read_text.ensures.placed ∙ starts_of _ _ _ c.begin.ensures) }

pub returns-else-is_err : goal.returns-else-is_err
returns-else-is_err g c = let r = c.read_text.ensures in
    record { text = r.text; placed = r.placed ∙ ap (placed r.text) (starts_of _ _ _ c.begin.ensures) }
