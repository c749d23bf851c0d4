use Rattle.std.proofs.Common.{Some, None, refl}
use Rattle.files.proofs.words_of.Goals as goal

pub returns-in-Some : goal.returns-in-Some
returns-in-Some c = let e = c.in-Some.ensures.cases in (Some (e.0, e.1), e.2, e.3)

pub returns-in-None : goal.returns-in-None
returns-in-None c = (None, c.in-None.ensures.cases, refl)
