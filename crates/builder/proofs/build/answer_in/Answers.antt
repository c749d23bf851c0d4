use native.Mathlib.Omega.{arith}
use Rattle.builder.proofs.build.answer_in.Goals as goal

pub answer-requires : goal.answer-requires
answer-requires c = let p = c.requires in
    (p.0, p.1, omega (arith, c.if-file-le-FEW_MODELS.true), omega arith)

pub answer-requires-2 : goal.answer-requires-2
answer-requires-2 c = let p = c.requires in
    (p.0, p.1, omega (arith, c.args.file.now.opened.laid.within.models), omega arith)
