use Rattle.std.proofs.Common.{◌≡◌, ◌<◌, ◌^◌, take}
use Rattle.usuba_tokens.specs.Numbers.{value_in}
use Rattle.c_tokens.proofs.number.number_value.Given as goal

abbrev pub invariant-loop-digit : goal.invariant-loop-digit
invariant-loop-digit l = record {
  so_far : l.value ≡ value_in 10 (take l.digit-index l.digits);
  fits : l.value < 2 ^ 64;
}
