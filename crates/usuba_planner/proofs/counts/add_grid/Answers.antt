use Rattle.std.proofs.Common.{◌≤◌, List, sym, subst}
use Rattle.usuba_trees.specs.declared.Decl.{Decl}
use Rattle.usuba_model.specs.Shapes.{all_elements}
use Rattle.usuba_model.specs.Walk.{most_operations}
use Rattle.usuba_planner.proofs.Declaring.{first_few, second_few}
use Rattle.usuba_planner.proofs.counts.add_grid.Goals as goal

pub count-inputs-requires : goal.count-inputs-requires
count-inputs-requires c =
    subst (λ (l : List Decl). all_elements l ≤ most_operations) (sym c.as_slice.ensures)
    (first_few c.args.grid.now.inputs c.args.grid.now.outputs c.requires)

pub count-outputs-requires : goal.count-outputs-requires
count-outputs-requires c =
    subst (λ (l : List Decl). all_elements l ≤ most_operations) (sym c.as_slice-2.ensures)
    (second_few c.args.grid.now.inputs c.args.grid.now.outputs c.requires)
