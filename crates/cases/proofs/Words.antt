-- Words taken from an input, one behind the other.
use Rattle.std.proofs.Common.{ℕ, Option, List, [], ◌∷◌, ◌++◌, ◌∙◌, ap, append_assoc}
use Rattle.std.proofs.KnownBytes.{Consumes-trans}
use Rattle.cases.specs.Words.{AreWords, TakesWords}

pub words_snoc : (bs ws cs : List ℕ) (w : ℕ) → AreWords bs ws → AreWords cs (w ∷ []) → AreWords (bs ++ cs) (ws ++ w ∷ [])
words_snoc bs [] cs w e h = rw e h
words_snoc bs (v ∷ vs) cs w e h = (e.0, e.1 ++ cs, ap (λ (l : List ℕ). l ++ cs) e.2 ∙ append_assoc e.0 e.1 cs, e.3, e.4, words_snoc e.1 vs cs w e.5 h)

pub takes_snoc : (a b c : Option (List ℕ)) (ws : List ℕ) (w : ℕ) → TakesWords a b ws → TakesWords b c (w ∷ []) → TakesWords a c (ws ++ w ∷ [])
takes_snoc a b c ws w s t = (s.0 ++ t.0, words_snoc s.0 ws t.0 w s.1 t.1, Consumes-trans a b c s.0 t.0 s.2 t.2)
