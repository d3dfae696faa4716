use Rattle.std.proofs.Common.{◌∙◌}
use Rattle.usuba_phases.proofs.NameSets.{contains-among}
use Rattle.usuba_phases.proofs.names.is_among.Goals as goal

pub returns : goal.returns
returns c = c.contains.ensures ∙ contains-among c.args.names.now c.args.name.now
