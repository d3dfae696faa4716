use Rattle.std.proofs.Common.{List, sym, subst}
use Rattle.usuba_model.specs.Names.{declared_in}
use Rattle.usuba_model.specs.Shapes.{all_elements}
use Rattle.usuba_code.specs.Code.{Coded}
use Rattle.ready_order.specs.Numbered.{AreBelow}
use Rattle.usuba_types.proofs.Declaring.{definition-below}
use Rattle.usuba_types.proofs.passing.keep.Goals as goal

pub keep_first-requires-clause-cells : goal.keep_first-requires-clause-cells
keep_first-requires-clause-cells c =
    subst (λ (l : List Coded). AreBelow (all_elements (declared_in c.args.definition.now)) l) (sym c.requires.table)
    (definition-below c.args.pass.now.definitions c.args.definition.now)
