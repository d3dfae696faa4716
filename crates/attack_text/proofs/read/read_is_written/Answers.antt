use Rattle.attack_text.proofs.RoundLemmas.{first_version_back}
use Rattle.attack_text.proofs.SpelledLemmas.{only_written}
use Rattle.attack_text.proofs.read.read_is_written.Goals as goal

pub returns-clause-only_written : goal.returns-clause-only_written
returns-clause-only_written c = only_written

pub returns-clause-first_version : goal.returns-clause-first_version
returns-clause-first_version c = first_version_back
