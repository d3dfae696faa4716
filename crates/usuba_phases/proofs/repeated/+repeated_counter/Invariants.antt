use Rattle.std.proofs.Common.{◌≡◌, drop}
use Rattle.std.specs.Option.{option_or}
use Rattle.usuba_model.specs.declared.fault.FaultKind.TheVariants.{DuplicateName}
use Rattle.usuba_phases.specs.State.Names.{names_in}
use Rattle.usuba_phases.specs.State.Scopes.{counters_of}
use Rattle.usuba_phases.proofs.FirstSome.{first_some}
use Rattle.usuba_phases.proofs.Firsts.{fault_in}
use Rattle.usuba_phases.proofs.Trees.{counters_of_item}
use Rattle.usuba_phases.proofs.repeated.+repeated_counter.Given as goal

abbrev pub decreases-repeated_counter : goal.decreases-repeated_counter
decreases-repeated_counter l = goal.size-repeated_counter l

abbrev pub invariant-loop-inner : goal.invariant-loop-inner
invariant-loop-inner l =
    option_or l.fault
    (first_some (fault_in DuplicateName (counters_of_item (names_in l.declared) (counters_of l.inside)))
    (drop l.inner-index l.inner-items))
    ≡ option_or l.initial.fault (first_some
    (fault_in DuplicateName (counters_of_item (names_in l.declared) (counters_of l.inside))) l.inner-items)
