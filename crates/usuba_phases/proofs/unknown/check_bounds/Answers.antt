use Rattle.std.proofs.Common.{refl, ◌∙◌}
use Rattle.usuba_model.specs.declared.fault.FaultKind.TheVariants.{UnknownName}
use Rattle.usuba_model.specs.Names.{unknown_in_index}
use Rattle.usuba_phases.specs.State.Scopes.{counters_of}
use Rattle.usuba_phases.proofs.Firsts.{of-parts}
use Rattle.usuba_phases.proofs.unknown.check_bounds.Goals as goal

pub returns : goal.returns
returns c =
    c.or.ensures
    ∙ of-parts UnknownName _ (unknown_in_index c.args.low.now (counters_of c.args.scope.now))
    (unknown_in_index c.args.high.now (counters_of c.args.scope.now))
    c.check_index.result c.check_index-2.result refl c.check_index.ensures c.check_index-2.ensures
