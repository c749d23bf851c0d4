use mathlib.Core.Path.{sym, ap, ◌∙◌}
use Rattle.std.proofs.lemmas.Result.{err_from_is_err_and}
use Rattle.builder.specs.Root.{bytes_in}
use Rattle.builder.proofs.laws.Answers.{measured_refused, measured_sized, given_refused, used_refused}
use Rattle.builder.proofs.build.answer_with.Goals as goal

pub measure-requires : goal.measure-requires
measure-requires c = (c.requires.model, c.requires.readable)

pub fill-requires : goal.fill-requires
fill-requires c = let z = measured_sized _ _ _ c.in_ok-extent.ensures.0 in
    let p = c.requires in
    (record { model = p.model; readable = c.measure.ensures.1; long = p.long }, record { instances = z.0; stmts = z.1; nodes = z.2; small = z.3 })

pub returns-in_err-extent : goal.returns-in_err-extent
returns-in_err-extent c = let q = err_from_is_err_and c.from_residual.result c.from_residual.ensures.1 in
    rw (q.1, q.2) (given_refused _ _ _ (measured_refused _ _ _ c.in_err-extent.ensures.0), used_refused _)

pub returns : goal.returns
returns c = let fill = c.fill in
    (fill.ensures.0 ∙ sym (ap bytes_in (measured_sized _ _ _ c.in_ok-extent.ensures.0).4), fill.ensures.1)
