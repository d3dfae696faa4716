use Rattle.c_syntax.proofs.Single as single
use Rattle.c_syntax.proofs.laws.one_place.Goals as goal

pub returns : goal.returns
returns c = λ bytes first second x y. single.one_place c.one_spelling.ensures bytes first second x y
