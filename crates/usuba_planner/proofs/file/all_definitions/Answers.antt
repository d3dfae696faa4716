use Rattle.std.proofs.Common.{arith}
use Rattle.usuba_planner.proofs.Sounding.{few_of}
use Rattle.usuba_planner.proofs.file.all_definitions.Goals as goal

pub add-requires : goal.add-requires
add-requires c =
    few_of c.args.defs.now c.loop-definition.definition-index c.definition-item.result (omega (arith, c.loop-definition-test.true))
    c.definition-item.is c.requires
