use mathlib.Core.Path.{sym, ◌∙◌}
use native.Mathlib.Omega.{arith}
use Rattle.ast.specs.Opens.{file_in}
use Rattle.builder.specs.Starting.{place_as}
use Rattle.builder.proofs.laws.Calling.{called_below, call_is}
use Rattle.builder.proofs.laws.Open.{models_long}
use Rattle.builder.proofs.laws.Refusals.{call_beyond, too_none}
use Rattle.builder.proofs.models.reached.too_many.Goals as goal

pub returns-in_default : goal.returns-in_default
unfolding place_as
returns-in_default c = let s = c.args.calls.now.file in
    sym (too_none (file_in s.bytes.now s.sections) _ (sym c.in_default.ensures))

pub model-requires : goal.model-requires
unfolding place_as
model-requires c = let s = c.args.calls.now.file in
    (omega (arith, called_below (file_in s.bytes.now s.sections) _ _ (sym c.in-Some.ensures), models_long s.bytes.now s.sections), omega arith)

pub beyond-requires : goal.beyond-requires
unfolding place_as
beyond-requires c = let s = c.args.calls.now.file in
    let k = call_is s.bytes.now s.sections s.opened c.args.q c.requires _ (sym c.in-Some.ensures) in
    (omega (arith, k.below, c.stmt-call.ensures.0), rw c.stmt-call.ensures.0 k.call)

pub returns : goal.returns
unfolding place_as
returns c = let s = c.args.calls.now.file in
    c.beyond.ensures ∙ call_beyond s.bytes.now s.sections s.opened c.args.q c.requires _ (sym c.in-Some.ensures) _ _ c.model.ensures.0 c.stmt-call.ensures.0
