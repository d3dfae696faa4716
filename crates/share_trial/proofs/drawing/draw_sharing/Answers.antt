use Rattle.std.proofs.Common.{length, ap, ◌∙◌, arith, lit<}
use Rattle.share_trial.proofs.Sharings.{length_words}
use Rattle.share_trial.proofs.drawing.draw_sharing.Goals as goal

pub from_words-requires : goal.from_words-requires
from_words-requires g c =
    let count = ap length c.as_slice.ensures.value ∙ ap length c.in_ok-words.ensures.drawn ∙ length_words c.args.bits c.args.draws.now g.row.D in
    (lit< tt, (c.requires.some, (omega (arith, c.requires.few), count)))
