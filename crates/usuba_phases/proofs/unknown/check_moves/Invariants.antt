use Rattle.std.proofs.Common.{◌≡◌, drop}
use Rattle.std.specs.Option.{option_or}
use Rattle.usuba_model.specs.declared.fault.FaultKind.TheVariants.{UnknownName}
use Rattle.usuba_phases.specs.State.Names.{unknown_in_move}
use Rattle.usuba_phases.specs.State.Scopes.{counters_of}
use Rattle.usuba_phases.proofs.FirstSome.{first_some}
use Rattle.usuba_phases.proofs.Firsts.{fault_in}
use Rattle.usuba_phases.proofs.unknown.check_moves.Given as goal

abbrev pub invariant-loop-shift : goal.invariant-loop-shift
invariant-loop-shift l =
    option_or l.fault
    (first_some (fault_in UnknownName (unknown_in_move (counters_of l.scope))) (drop l.shift-index l.moves))
    ≡ option_or l.initial.fault (first_some (fault_in UnknownName (unknown_in_move (counters_of l.scope))) l.moves)
