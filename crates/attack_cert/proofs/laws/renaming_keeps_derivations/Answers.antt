use Rattle.attack_cert.proofs.RenamingLemmas.{derivation_renamed}
use Rattle.attack_cert.proofs.laws.renaming_keeps_derivations.Goals as goal

pub returns : goal.returns
returns g c = derivation_renamed
