use Rattle.std.proofs.Common.{◌≡◌, length}
use Rattle.data_text.specs.Parts.{after_numbers}
use Rattle.data_text.specs.Reading.{first_numbers, has_bits}
use Rattle.data_text.proofs.read.remaining_numbers.Given as goal

abbrev pub invariant-loop-token : goal.invariant-loop-token
invariant-loop-token l =
    first_numbers (has_bits 64) (length l.fn.tokens.tokens) l.fn.tokens.end l.fn.tokens.tokens
    ≡ after_numbers l.numbers (first_numbers (has_bits 64) (length l.tokens.tokens) l.fn.tokens.end l.tokens.tokens)

abbrev pub decreases-loop-token : goal.decreases-loop-token
decreases-loop-token l = length l.tokens.tokens
