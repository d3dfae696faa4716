use Rattle.std.proofs.Common.{◌*◌, ℕ, subst, ◌∙◌, ap}
use Rattle.data_text.specs.Ranges.{AreValues}
use Rattle.data_text.proofs.RangeLemmas.{inputs_fit, shares_fit, words_fit}
use Rattle.data_text.proofs.read.read_run.Goals as goal

pub returns-clause-in_range : goal.returns-clause-in_range
returns-clause-in_range c =
    let shares = shares_fit c.new-tokens.result.end c.new-tokens.result.tokens c.shares.new.tokens.tokens c.in_ok-shares.shares c.in_ok-shares.ensures.said in
    let inputs : AreValues (c.from.result * c.from-2.result) c.args.bits c.in_ok-inputs.inputs =
    inputs_fit (c.from.result * c.from-2.result) c.args.bits c.shares.new.tokens.end c.shares.new.tokens.tokens c.input_shares.new.tokens.tokens c.in_ok-inputs.inputs c.in_ok-inputs.ensures.said in
    record {
      some_shares = shares.0;
      few_shares = shares.1;
      shares =
          subst (λ (n : ℕ). AreValues n c.args.bits c.in_ok-inputs.inputs)
          (ap (λ (n : ℕ). n * c.from-2.result) c.from.ensures ∙ ap (λ (n : ℕ). c.args.inputs * n) c.from-2.ensures) inputs;
      words = words_fit c.input_shares.new.tokens.end c.input_shares.new.tokens.tokens c.random_words.new.tokens.tokens c.in_ok-words.words c.in_ok-words.ensures;
    }
