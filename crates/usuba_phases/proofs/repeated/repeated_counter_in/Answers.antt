use Rattle.std.proofs.Common.{[], refl, arith}
use Rattle.usuba_model.specs.declared.fault.FaultKind.TheVariants.{DuplicateName}
use Rattle.usuba_phases.specs.State.Names.{names_in, counters_outermost}
use Rattle.usuba_phases.proofs.FirstSome.{loop-step}
use Rattle.usuba_phases.proofs.Firsts.{fault_in, loop-found}
use Rattle.usuba_phases.proofs.repeated.repeated_counter_in.Goals as goal

pub loop-item-preserved : goal.loop-item-preserved
loop-item-preserved c =
    loop-step (fault_in DuplicateName (counters_outermost (names_in c.args.declared.now))) c.args.items.now
    c.loop-item.item-index c.item-item.result c.loop-item.fault c.repeated_counter.result c.or-fault.result _
    (omega arith) c.item-item.is c.repeated_counter.ensures c.or-fault.ensures c.loop-item.invariant

pub returns : goal.returns
returns c =
    loop-found DuplicateName (counters_outermost (names_in c.args.declared.now)) c.args.items.now c.args.items.now _ []
    _ c.loop-item.fault c.loop-item.item-index
    refl (omega arith) refl refl c.loop-item.invariant
