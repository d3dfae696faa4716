use Rattle.std.proofs.Common.{refl}
use Rattle.share_gadgets.proofs.known.known_cases.Goals as goal

pub returns : goal.returns
returns c = record {
  no_pairs = refl;
  six_pairs = refl;
  pair_numbers = refl;
  value = refl;
  xor = refl;
  not = refl;
  mask = refl;
  constant = refl;
  product = refl;
  refresh = refl;
}
