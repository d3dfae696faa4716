use Rattle.word_draws.proofs.draws.Draws.+bytes.Given as goal

abbrev pub decreases-bytes : goal.decreases-bytes
decreases-bytes l = l.count
