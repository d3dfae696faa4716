use Rattle.std.proofs.Common.{ap, ◌∙◌}
use Rattle.usuba0.specs.Term.{bits_of_width}
use Rattle.share_trial.proofs.Sharings.{inputs_are, words_are}
use Rattle.share_trial.proofs.drawing.draw.Goals as goal

pub returns-clause-inputs : goal.returns-clause-inputs
returns-clause-inputs g c =
    inputs_are g.row.D c.args.core.now c.args.seed c.word_bits-bits.result c.new-draws.result c.inputs.result c.in_ok-inputs.inputs
    (c.word_bits-bits.ensures ∙ ap bits_of_width c.width.ensures.value) c.new-draws.ensures c.inputs.ensures c.in_ok-inputs.ensures.drawn

pub returns-clause-words : goal.returns-clause-words
returns-clause-words g c =
    words_are g.row.D c.args.core.now c.args.seed c.word_bits-bits.result c.new-draws.result c.inputs.result c.draw_sharings.new.draws
    c.word_count.result c.in_ok-words.words.items (c.word_bits-bits.ensures ∙ ap bits_of_width c.width.ensures.value) c.new-draws.ensures
    c.inputs.ensures c.in_ok-inputs.ensures.state c.word_count.ensures c.in_ok-words.ensures.drawn
