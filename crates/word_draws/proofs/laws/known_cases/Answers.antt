use Rattle.std.proofs.Common.{refl}
use Rattle.word_draws.specs.Draws.{drawn_bytes, after_draws, drawn_words}
use Rattle.word_draws.proofs.laws.known_cases.Goals as goal

pub returns : goal.returns
unfolding drawn_bytes after_draws drawn_words
returns c = record { first = refl; second = refl; wrapped = refl; bytes = refl; cut = refl; pairs = refl }
