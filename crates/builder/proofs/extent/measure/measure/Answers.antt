use Rattle.ast.specs.Opens.{file_in}
use Rattle.std.proofs.lemmas.Result.{err_from_is_err_and}
use Rattle.builder.proofs.laws.Measures.{measured_forbidden, measured_size}
use Rattle.builder.proofs.extent.measure.measure.Goals as goal

pub returns-in_err-forbidden : goal.returns-in_err-forbidden
returns-in_err-forbidden c = let a = c.args in
    let q = err_from_is_err_and c.from_residual.result c.from_residual.ensures.1 in
    rw (q.1, q.2) (measured_forbidden (file_in a.source.now.file.bytes.now a.source.now.file.sections) a.m _ c.in_err-forbidden.ensures, c.requires.1)

pub returns : goal.returns
returns c = let a = c.args in
    let size = c.size in
    (measured_size (file_in a.source.now.file.bytes.now a.source.now.file.sections) a.m _ _ c.in_ok-forbidden.ensures size.ensures.0, size.ensures.1)
