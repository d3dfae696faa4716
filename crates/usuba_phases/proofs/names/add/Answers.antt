use Rattle.std.proofs.Common.{◌∙◌, ap}
use Rattle.std.specs.Prelude.{not}
use Rattle.usuba_phases.proofs.NameSets.{contains-among, added-same}
use Rattle.usuba_phases.proofs.names.add.Goals as goal

pub returns-in-Ok-clause-new : goal.returns-in-Ok-clause-new
returns-in-Ok-clause-new c = c.in-Ok.ensures.added ∙ ap not (contains-among c.args.names.now c.args.name.now)

pub returns-in-Ok-clause-added : goal.returns-in-Ok-clause-added
returns-in-Ok-clause-added c = added-same c.args.name.now c.args.names.now c.insert.new.self c.in-Ok.ensures.updates
