use Rattle.usuba_types.proofs.Fewness.{table_few}
use Rattle.usuba_types.proofs.passing.look_at.Goals as goal

pub keep-requires-clause-instances : goal.keep-requires-clause-instances
keep-requires-clause-instances c =
    table_few c.args.width c.args.pass.now.definitions c.args.definition.now c.in_ok-fault.field-0 c.in-Whole.count c.in-Whole.table c.in-Whole.is
    c.in_ok-fault.ensures
