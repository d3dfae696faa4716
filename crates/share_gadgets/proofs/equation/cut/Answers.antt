use Rattle.std.proofs.Common.{ℕ, ◌%◌, ◌^◌, bit_and, get_or, ap, ◌∙◌, arith}
use Rattle.share_gadgets.specs.Private.Cut.{cut_number}
use Rattle.share_gadgets.proofs.EquationLemmas.{map_step, cut_is}
use Rattle.share_gadgets.proofs.equation.cut.Goals as goal

pub loop-word-preserved : goal.loop-word-preserved
loop-word-preserved g c =
    let word = get_or c.args.words.now c.loop-word.word-index 0 in
    record {
      many = omega (arith, c.in_ok-push.ensures.len, c.loop-word.invariant.many);
      words = map_step g.R.Register.word (cut_number c.args.bits) c.args.words.now c.loop-word.word-index 0 c.loop-word.cut.items c.push.new.self.items c.of_word.result
          c.loop-word-test.true c.loop-word.invariant.words c.in_ok-push.ensures.items
          (ap g.R.Register.word c.of_word.ensures ∙ g.met.R.Register.word_of_word (bit_and word c.all_ones-ones.result)
          ∙ ap (λ (n : ℕ). bit_and word n % 2 ^ g.R.Register.bits) c.all_ones-ones.ensures
          ∙ cut_is word c.args.bits g.R.Register.bits c.requires.room);
    }
