use Rattle.std.proofs.Common.{◌≤◌, ◌++◌, List, sym, subst}
use Rattle.usuba_trees.specs.declared.Decl.{Decl}
use Rattle.usuba_model.specs.Shapes.{all_elements}
use Rattle.usuba_model.specs.Walk.{most_operations}
use Rattle.usuba_types.proofs.Declaring.{first-few, second-few}
use Rattle.usuba_types.proofs.counts.counts_of_node.Goals as goal

pub count-requires : goal.count-requires
count-requires c =
    let node = c.args.node.now in
    subst (λ (l : List Decl). all_elements l ≤ most_operations) (sym c.as_slice.ensures)
    (first-few node.inputs node.outputs (first-few (node.inputs ++ node.outputs) node.locals c.requires))

pub count-requires-2 : goal.count-requires-2
count-requires-2 c =
    let node = c.args.node.now in
    subst (λ (l : List Decl). all_elements l ≤ most_operations) (sym c.as_slice-2.ensures)
    (second-few node.inputs node.outputs (first-few (node.inputs ++ node.outputs) node.locals c.requires))
