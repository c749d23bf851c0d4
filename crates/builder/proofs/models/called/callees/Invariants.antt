use Rattle.ast.specs.Opens.{file_in}
use Rattle.builder.specs.Checking.{stmt_in}
use Rattle.builder.specs.Tables.{callee_of}
use Rattle.builder.proofs.laws.Filled.{Filled}
use Rattle.builder.proofs.models.called.callees.Given as goal

abbrev pub invariant-loop-q : goal.invariant-loop-q
invariant-loop-q l = Filled 0 256 (λ q. callee_of (file_in l.file.bytes.now l.file.sections) (stmt_in l.file.bytes.now l.file.sections q)) l.q l.out
