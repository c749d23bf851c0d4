use mathlib.Core.Path.{sym, ap, ◌∙◌}
use lib.ListN.{take}
use Rattle.std.proofs.lemmas.Grind.{common_steps}
use borrow.Author.Rules.{rules}
use native.Mathlib.Omega.{arith}
use Rattle.ast.specs.Hashes.{hash_of}
use Rattle.ast.specs.Records.{text_of_name}
use Rattle.ast.proofs.Notes.{name_new}
use Rattle.ast.proofs.names.repeats.Goals as goal

pub returns-else-again : goal.returns-else-again
returns-else-again c = let a = c.args in
    let s = a.names.now.section in
    let n = c.if-again.false in
    (n ∙ sym (name_new s.count s.at s.bytes.now (text_of_name (take a.names.now.size s.bytes.now)) a.noted.now a.i _ c.requires.2 (c.hash_of-hash.ensures.0 ∙ ap hash_of c.name_text.ensures) n), search rules, grind (arith, common_steps))
