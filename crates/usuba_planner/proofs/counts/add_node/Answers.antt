use Rattle.std.proofs.Common.{◌≤◌, List, sym, subst, arith}
use Rattle.usuba_trees.specs.declared.Decl.{Decl}
use Rattle.usuba_model.specs.Shapes.{all_elements}
use Rattle.usuba_model.specs.Walk.{most_operations}
use Rattle.usuba_planner.proofs.Declaring.{node_elements}
use Rattle.usuba_planner.proofs.counts.add_node.Goals as goal

pub count-inputs-requires : goal.count-inputs-requires
count-inputs-requires c =
    subst (λ (l : List Decl). all_elements l ≤ most_operations) (sym c.as_slice.ensures) (omega (arith, node_elements c.args.node.now, c.requires))

pub count-outputs-requires : goal.count-outputs-requires
count-outputs-requires c =
    subst (λ (l : List Decl). all_elements l ≤ most_operations) (sym c.as_slice-2.ensures) (omega (arith, node_elements c.args.node.now, c.requires))
