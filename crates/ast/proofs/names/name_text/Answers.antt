use mathlib.Core.List.{[]}
use native.Mathlib.Omega.{arith}
use lib.ListN.{get_or}
use Rattle.ast.specs.Words.{section}
use Rattle.ast.proofs.Texts.{name_in, part_name}
use Rattle.ast.proofs.names.name_text.Goals as goal

pub slice_bounds-result-end : goal.slice_bounds-result-end
slice_bounds-result-end c = let n = c.args.names.now in
    let s = n.section in
    let x = name_in n.size s.count s.at s.bytes.now n.lie.fit c.args.i c.requires in
    omega (arith, c.word-from.ensures.0, c.word.ensures.0, n.lie.text)

pub returns : goal.returns
returns c = let n = c.args.names.now in
    let s = n.section in
    let x = name_in n.size s.count s.at s.bytes.now n.lie.fit c.args.i c.requires in
    part_name s.bytes.now n.size n.lie.text (get_or (section 2 s.count s.at s.bytes.now) c.args.i []) _ _ c.word-from.ensures.0 c.word.ensures.0 x
