use Rattle.std.proofs.Common.{ℕ, ap, ◌∙◌}
use Rattle.usuba0.specs.Term.{bits_of_width}
use Rattle.usuba_model.specs.Meaning.{word_shift}
use Rattle.word_store.proofs.Wording.{made, shift_lt}
use Rattle.word_store.proofs.operators.WordsElements.shift.Goals as goal

pub returns-clause-made : goal.returns-clause-made
returns-clause-made c =
    let B = bits_of_width c.args.self.now in
    made c.args.self.now c.shift_word.result (word_shift B c.args.kind c.args.amount c.args.a)
    (c.shift_word.ensures ∙ ap (λ (b : ℕ). word_shift b c.args.kind c.args.amount c.args.a) c.bits.ensures.bits)
    (shift_lt B c.args.kind c.args.amount c.args.a c.requires.held)
