use Rattle.std.proofs.Common.{ℕ, subst}
use Rattle.data_text.specs.Ranges.{AreValues}
use Rattle.data_text.proofs.RangeLemmas.{values_fit}
use Rattle.data_text.proofs.read.read_values.Goals as goal

pub returns-in-None-clause-in_range : goal.returns-in-None-clause-in_range
returns-in-None-clause-in_range c =
    subst (λ (n : ℕ). AreValues n c.args.bits c.in_ok-values.values) c.from.ensures (values_fit c.from.result c.args.bits _ _ _ c.in_ok-values.values c.in_ok-values.ensures.said)
