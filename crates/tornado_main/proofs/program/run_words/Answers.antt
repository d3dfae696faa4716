use Rattle.std.proofs.Common.{refl}
use Rattle.tornado_main.proofs.RunLemmas.{run_answered, run_refused}
use Rattle.tornado_main.proofs.program.run_words.Goals as goal

pub returns-in-Ok : goal.returns-in-Ok
returns-in-Ok g c =
    run_refused c.in-Ok.order c.in-Err.refusal c.tell.result c.tell.ensures.status c.in-Ok.ensures.order c.in-Err.ensures c.tell.ensures.told

pub returns-in-Ok-carry_out : goal.returns-in-Ok-carry_out
returns-in-Ok-carry_out g c = run_answered c.in-Ok.order c.in-Ok-carry_out.status c.in-Ok.ensures.order refl c.in-Ok-carry_out.ensures
