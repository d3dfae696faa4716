use Rattle.tornado_main.proofs.AnsweringLemmas.{core_or_fault}
use Rattle.tornado_main.proofs.laws.file_has_core_or_fault.Goals as goal

pub returns : goal.returns
returns c =
    core_or_fault c.file_or_fault.ensures c.judged_or_faulty.ensures c.judged_takes_and_gives.ensures c.meanings_agree.ensures c.core_or_fault.ensures
    c.read_is_written.ensures
