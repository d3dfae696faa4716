use Rattle.std.proofs.Common.{◌≡◌, ◌-◌}
use Rattle.data_text.specs.Parts.{after_numbers}
use Rattle.data_text.specs.Reading.{first_numbers, has_bits}
use Rattle.data_text.proofs.read.numbers.Given as goal

abbrev pub invariant-loop : goal.invariant-loop
invariant-loop l =
    record {
      said :
          first_numbers (has_bits l.bits) l.count l.fn.tokens.end l.fn.tokens.tokens
          ≡ after_numbers l.numbers (first_numbers (has_bits l.bits) (l.count - l.counter) l.fn.tokens.end l.tokens.tokens);
      end : l.tokens.end ≡ l.fn.tokens.end;
    }
