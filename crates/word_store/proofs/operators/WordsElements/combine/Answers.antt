use Rattle.usuba0.specs.Term.{bits_of_width}
use Rattle.usuba_model.specs.Meaning.{word_operation}
use Rattle.word_store.proofs.Wording.{made, operation_lt}
use Rattle.word_store.proofs.operators.WordsElements.combine.Goals as goal

pub returns-clause-made : goal.returns-clause-made
returns-clause-made c =
    made c.args.self.now c.combine_words.result (word_operation c.args.op c.args.a c.args.b) c.combine_words.ensures
    (operation_lt (bits_of_width c.args.self.now) c.args.op c.args.a c.args.b c.requires.left c.requires.right)
