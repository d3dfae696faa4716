use Rattle.std.proofs.Common.{sym, ap, ◌∙◌}
use Rattle.usuba_model.specs.declared.fault.FaultKind.TheVariants.{UnknownName}
use Rattle.usuba_model.specs.Names.{unknown_in_index, unknown_in_pick}
use Rattle.usuba_phases.specs.State.Scopes.{counters_of}
use Rattle.usuba_model.specs.Faults.{first_of}
use Rattle.usuba_phases.proofs.Firsts.{of-parts}
use Rattle.usuba_phases.proofs.unknown.check_pick.Goals as goal

pub returns-in-One : goal.returns-in-One
returns-in-One c =
    c.check_index.ensures
    ∙ ap (λ pick. first_of UnknownName (unknown_in_pick (counters_of c.args.scope.now) pick)) (sym c.in-One.is)

pub returns-in-Range : goal.returns-in-Range
returns-in-Range c =
    c.or.ensures
    ∙ of-parts UnknownName (unknown_in_pick (counters_of c.args.scope.now) c.args.pick.now)
    (unknown_in_index c.in-Range.first (counters_of c.args.scope.now))
    (unknown_in_index c.in-Range.last (counters_of c.args.scope.now))
    c.check_index-in-Range.result c.check_index-in-Range-2.result
    (ap (unknown_in_pick (counters_of c.args.scope.now)) c.in-Range.is)
    c.check_index-in-Range.ensures c.check_index-in-Range-2.ensures
