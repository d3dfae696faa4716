use Rattle.term_store.proofs.PlanCores.{can_run}
use Rattle.term_store.proofs.running.terms_of_plan.Goals as goal

pub run-requires : goal.run-requires
run-requires c =
    rw c.as_slice.ensures.value
    (can_run c.args.terms.now.builder c.args.defs.now c.args.plans.now c.args.number c.args.inputs c.in_ok-registers.registers.items c.requires
    c.in_ok-registers.ensures)
