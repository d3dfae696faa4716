use Rattle.std.proofs.Common.{ℕ, ap, sym, ◌∙◌}
use Rattle.data_text.specs.Reading.{first_number, has_bits}
use Rattle.data_text.proofs.ReadLemmas.{one_of_many}
use Rattle.data_text.proofs.read.numbers.Goals as goal

pub loop-preserved : goal.loop-preserved
loop-preserved c =
    record {
      said =
          c.loop.invariant.said
          ∙ one_of_many (has_bits c.args.bits) c.args.count c.loop.counter c.args.tokens.now.end c.loop.tokens.tokens c.number.new.tokens.tokens c.loop.numbers c.push.new.self
          c.in_ok-number.field-0 c.loop-test.true
          (ap (λ (n : ℕ). first_number (has_bits c.args.bits) n c.loop.tokens.tokens) (sym c.loop.invariant.end) ∙ c.in_ok-number.ensures.said)
          c.in_ok-push.ensures.ok;
      end = c.number.ensures.end ∙ c.loop.invariant.end;
    }
