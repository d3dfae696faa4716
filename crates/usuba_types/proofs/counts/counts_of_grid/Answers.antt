use Rattle.std.proofs.Common.{◌≤◌, List, sym, subst}
use Rattle.usuba_trees.specs.declared.Decl.{Decl}
use Rattle.usuba_model.specs.Shapes.{all_elements}
use Rattle.usuba_model.specs.Walk.{most_operations}
use Rattle.usuba_types.proofs.Declaring.{first-few, second-few}
use Rattle.usuba_types.proofs.counts.counts_of_grid.Goals as goal

pub count-requires : goal.count-requires
count-requires c =
    subst (λ (l : List Decl). all_elements l ≤ most_operations) (sym c.as_slice.ensures)
    (first-few c.args.grid.now.inputs c.args.grid.now.outputs c.requires)

pub count-requires-2 : goal.count-requires-2
count-requires-2 c =
    subst (λ (l : List Decl). all_elements l ≤ most_operations) (sym c.as_slice-2.ensures)
    (second-few c.args.grid.now.inputs c.args.grid.now.outputs c.requires)
