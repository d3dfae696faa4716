use Rattle.std.proofs.Common.{◌≡◌, drop}
use Rattle.std.specs.Option.{option_or}
use Rattle.usuba_model.specs.declared.fault.FaultKind.TheVariants.{UnknownName}
use Rattle.usuba_phases.specs.State.Names.{names_in}
use Rattle.usuba_phases.specs.State.Scopes.{counters_of}
use Rattle.usuba_phases.proofs.FirstSome.{first_some}
use Rattle.usuba_phases.proofs.Firsts.{fault_in}
use Rattle.usuba_phases.proofs.Trees.{part_of, operand_of}
use Rattle.usuba_phases.proofs.unknown.+check_expression.Given as goal

abbrev pub decreases-check_expression : goal.decreases-check_expression
decreases-check_expression l = goal.size-check_expression l

abbrev pub invariant-loop-part : goal.invariant-loop-part
invariant-loop-part l =
    option_or l.fault
    (first_some (fault_in UnknownName (part_of (names_in l.defined) (names_in l.declared) (counters_of l.scope)))
    (drop l.part-index l.part-items))
    ≡ option_or l.initial.fault (first_some
    (fault_in UnknownName (part_of (names_in l.defined) (names_in l.declared) (counters_of l.scope))) l.part-items)

abbrev pub invariant-loop-argument : goal.invariant-loop-argument
invariant-loop-argument l =
    option_or l.fault
    (first_some (fault_in UnknownName (part_of (names_in l.defined) (names_in l.declared) (counters_of l.scope)))
    (drop l.argument-index l.argument-items))
    ≡ option_or l.initial.fault (first_some
    (fault_in UnknownName (part_of (names_in l.defined) (names_in l.declared) (counters_of l.scope))) l.argument-items)

abbrev pub invariant-loop-link : goal.invariant-loop-link
invariant-loop-link l =
    option_or l.fault
    (first_some (fault_in UnknownName (operand_of (names_in l.defined) (names_in l.declared) (counters_of l.scope)))
    (drop l.link-index l.link-items))
    ≡ option_or l.initial.fault (first_some
    (fault_in UnknownName (operand_of (names_in l.defined) (names_in l.declared) (counters_of l.scope))) l.link-items)
