use Rattle.term_store.proofs.PlanCores.{inputs_go_on}
use Rattle.term_store.proofs.running.input_registers.Goals as goal

pub loop-k-preserved : goal.loop-k-preserved
loop-k-preserved c =
    inputs_go_on c.args.terms.now.builder c.loop-k.k c.loop-k.registers.items c.push.new.self.items c.input.result c.loop-k.invariant
    c.input.ensures c.in_ok-push.ensures.items
