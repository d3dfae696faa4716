use Rattle.word_store.proofs.Wording.{given}
use Rattle.word_store.proofs.operators.WordsElements.look_up.Goals as goal

pub returns-clause-made : goal.returns-clause-made
returns-clause-made c =
    given c.look_up_words.result (λ handles. handles.items) c.args.self.now c.args.outputs c.bits.result c.args.entries.now c.args.inputs.now
    c.bits.ensures.bits c.look_up_words.ensures.words
