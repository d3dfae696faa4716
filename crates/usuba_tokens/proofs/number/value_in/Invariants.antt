use Rattle.std.proofs.Common.{◌≡◌, ◌<◌, ◌^◌, take}
use Rattle.usuba_tokens.specs.Numbers.{value_in}
use Rattle.usuba_tokens.proofs.number.value_in.Given as goal

abbrev pub invariant-loop-digit : goal.invariant-loop-digit
invariant-loop-digit l = record {
  so_far : l.value ≡ value_in l.base (take l.digit-index l.digits);
  fits : l.value < 2 ^ 64;
}
