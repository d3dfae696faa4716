use Rattle.std.proofs.Common.{ap, ◌∙◌, bit_xor}
use Rattle.usuba0.specs.Term.{bits_of_width, ones}
use Rattle.word_store.proofs.Wording.{made, complement_lt}
use Rattle.word_store.proofs.operators.WordsElements.complement.Goals as goal

pub returns-clause-made : goal.returns-clause-made
returns-clause-made c =
    let B = bits_of_width c.args.self.now in
    made c.args.self.now (bit_xor c.args.a c.all_ones.result) (bit_xor c.args.a (ones B))
    (ap (bit_xor c.args.a) (c.all_ones.ensures ∙ ap ones c.bits.ensures.bits)) (complement_lt B c.args.a c.requires.held)
