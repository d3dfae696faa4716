use Rattle.std.proofs.Common.{ap, ◌∙◌, arith}
use Rattle.share_gadgets.proofs.EquationLemmas.{zeros_step}
use Rattle.share_gadgets.proofs.equation.zeros.Goals as goal

pub loop-k-preserved : goal.loop-k-preserved
loop-k-preserved g c =
    record {
      many = omega (arith, c.in_ok-push.ensures.len, c.loop-k.invariant.many);
      words = zeros_step g.R.Register.word _ c.loop-k.zeros.items c.push.new.self.items c.zero.result c.loop-k.invariant.words c.in_ok-push.ensures.items
          (ap g.R.Register.word c.zero.ensures ∙ g.met.R.Register.word_zero);
    }
