use Rattle.tornado_main.proofs.AttackTextLemmas.{attack_read}
use Rattle.tornado_main.proofs.laws.file_has_attack_or_fault.Goals as goal

pub returns : goal.returns
returns c = attack_read
