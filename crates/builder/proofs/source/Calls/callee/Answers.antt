use mathlib.Core.Path.{◌∙◌}
use Rattle.ast.specs.Opens.{file_in}
use Rattle.builder.specs.Checking.{stmt_in}
use Rattle.builder.proofs.laws.Calling.{callee_called, entry_less}
use Rattle.builder.proofs.source.Calls.callee.Goals as goal

pub returns : goal.returns
returns c = let s = c.args.self.now in
    let q = c.args.q in
    entry_less _ _ _ (s.called.callee q c.requires ∙ callee_called (file_in s.file.bytes.now s.file.sections) (stmt_in s.file.bytes.now s.file.sections q)) (rw c.from.ensures at c.checked_sub.ensures)
