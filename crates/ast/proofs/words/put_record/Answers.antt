use mathlib.Core.Path.{◌∙◌}
use native.Mathlib.Omega.{arith}
use Rattle.ast.proofs.Encodes.{no_words, word_more}
use Rattle.ast.proofs.words.put_record.Goals as goal

pub loop-k-init : goal.loop-k-init
loop-k-init t c = no_words c.args.out.now

pub loop-k-preserved : goal.loop-k-preserved
loop-k-preserved t c = let l = c.loop-k in
    c.put_word.ensures ∙ word_more c.args.out.now l.out c.args.words.now l.k (omega arith) (omega arith) l.invariant
