use Rattle.std.proofs.Common.{◌≡◌, ◌^◌, ◌<◌, take}
use Rattle.text_lines.specs.Numbers as numbers
use Rattle.text_lines.proofs.number.number_value.Given as goal

abbrev pub invariant-loop-digit : goal.invariant-loop-digit
invariant-loop-digit l = record { so_far : l.value ≡ numbers.value_of (take l.digit-index l.word); small : l.value < 2 ^ 64 }
