use Rattle.std.proofs.Common.{refl}
use Rattle.word_draws.specs.Draws.{after_draws, drawn_bytes, drawn_words, after_words}
use Rattle.share_trial.specs.Trial.{drawn_sharings, after_sharings}
use Rattle.share_trial.proofs.laws.known_trials.Goals as goal

pub returns : goal.returns
unfolding drawn_sharings after_sharings drawn_words after_words drawn_bytes after_draws
returns c = record { one_share = refl; two_shares = refl }
