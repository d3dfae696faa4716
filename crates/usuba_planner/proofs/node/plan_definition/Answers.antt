use Rattle.std.proofs.Common.{◌≡◌, ◌≤◌, List, sym, subst, rules}
use Rattle.usuba_trees.specs.declared.Decl.{Decl}
use Rattle.usuba_trees.specs.declared.Def.{Def}
use Rattle.usuba_trees.specs.declared.Def.TheVariants as def
use Rattle.usuba_model.specs.Names.{declared_in}
use Rattle.usuba_model.specs.Shapes.{all_elements}
use Rattle.usuba_model.specs.Walk.{most_operations}
use Rattle.usuba_planner.proofs.Declaring.{second_few, definition_few}
use Rattle.usuba_planner.proofs.node.plan_definition.Goals as goal

pub count-requires : goal.count-requires
count-requires c =
    let grid = c.in-Table.grid in
    let is : c.args.definition.now ≡ def.Table grid = search rules in
    subst (λ (l : List Decl). all_elements l ≤ most_operations) (sym c.as_slice.ensures)
    (second_few grid.inputs grid.outputs
    (subst (λ (d : Def). all_elements (declared_in d) ≤ most_operations) is
    (definition_few c.args.width c.args.earlier.now c.args.definition.now c.requires.walks)))
