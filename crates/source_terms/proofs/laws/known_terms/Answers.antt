use Rattle.std.proofs.Common.{refl}
use Rattle.source_terms.proofs.laws.known_terms.Goals as goal

pub returns : goal.returns
returns c = record {
  either = refl;
  either_constant = refl;
  masked = refl;
  sum = refl;
  constants = refl;
  turned_right = refl;
  turned_left = refl;
  shifted = refl;
  unshifted = refl;
  refreshed = refl;
}
