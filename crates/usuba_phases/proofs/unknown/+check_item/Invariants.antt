use Rattle.std.proofs.Common.{◌≡◌, drop}
use Rattle.std.specs.Option.{option_or}
use Rattle.usuba_model.specs.declared.fault.FaultKind.TheVariants.{UnknownName}
use Rattle.usuba_phases.specs.State.Names.{names_in}
use Rattle.usuba_phases.specs.State.Scopes.{counters_of}
use Rattle.usuba_phases.proofs.FirstSome.{first_some}
use Rattle.usuba_phases.proofs.Firsts.{fault_in}
use Rattle.usuba_phases.proofs.Trees.{item_of}
use Rattle.usuba_phases.proofs.unknown.+check_item.Given as goal

abbrev pub decreases-check_item : goal.decreases-check_item
decreases-check_item l = goal.size-check_item l

abbrev pub invariant-loop-inner : goal.invariant-loop-inner
invariant-loop-inner l =
    option_or l.fault
    (first_some (fault_in UnknownName (item_of (names_in l.defined) (names_in l.declared) (counters_of l.inside)))
    (drop l.inner-index l.inner-items))
    ≡ option_or l.initial.fault (first_some
    (fault_in UnknownName (item_of (names_in l.defined) (names_in l.declared) (counters_of l.inside))) l.inner-items)
