use Rattle.std.proofs.Common.{◌≡◌, ◌^◌, ◌<◌, ◌-◌, ◌++◌, drop, length, decimal}
use Rattle.core_text.proofs.scan.with_digits.Given as goal

abbrev pub invariant-loop-value : goal.invariant-loop-value
invariant-loop-value l =
    record {
      some : 0 < l.value;
      small : l.value < 2 ^ 28;
      within : l.end < length l.bytes;
      text : decimal l.fn.value ++ drop l.fn.at l.bytes ≡ decimal l.value ++ drop l.end l.bytes;
    }

abbrev pub decreases-loop-value : goal.decreases-loop-value
decreases-loop-value l = length l.bytes - l.end
