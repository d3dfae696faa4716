-- The statement of the law that the findings over numbered cells are those over named cells.
use Rattle.std.specs.Prelude.{◌≡◌, ◌+◌, List, ◌++◌}
use Rattle.usuba_trees.specs.declared.Node.{Node}
use Rattle.usuba_model.specs.Assignments.{twice_in, unassigned_in, cyclic_in}
use Rattle.usuba_model.specs.Faults.{Finding}
use Rattle.usuba_model.specs.Numbers.{AreDistinct}
use Rattle.usuba_model.specs.Shapes.{all_elements}
use Rattle.usuba_model.specs.Unrolled.{declarations}
use Rattle.usuba_model.specs.Walk.{Signature}
use Rattle.usuba_code.specs.Code.{Coded, coded_node}
use Rattle.ready_order.specs.Numbered.{AreBelow, is_one_of, assigned_numbers, read_numbers, twice_numbered, outputs_numbered, locals_numbered, cyclic_numbered}

-- the outputs and locals of a node over numbered cells, in text order
abbrev pub unassigned_numbered : Node → List Coded → List Finding
unassigned_numbered node instances =
    let assigned = is_one_of (assigned_numbers instances) in
    outputs_numbered assigned (all_elements node.inputs) node.outputs
    ++ locals_numbered assigned (is_one_of (read_numbers instances))
    (all_elements node.inputs + all_elements node.outputs) node.locals

-- The findings over the numbered cells of a node whose declared names are distinct are those over its named cells. The
-- numbers are below the count of all elements, whether names are distinct or not.
pub record NumberedFindings : Type 0 where
  pub below : (signatures : List Signature) (node : Node)
      → AreBelow (all_elements (declarations node)) (coded_node signatures node)
  pub twice : (signatures : List Signature) (node : Node) → AreDistinct (declarations node)
      → twice_numbered (all_elements node.inputs) (coded_node signatures node) ≡ twice_in node
  pub unassigned : (signatures : List Signature) (node : Node) → AreDistinct (declarations node)
      → unassigned_numbered node (coded_node signatures node) ≡ unassigned_in node
  pub cyclic : (signatures : List Signature) (node : Node) → AreDistinct (declarations node)
      → cyclic_numbered (all_elements node.inputs) (coded_node signatures node) ≡ cyclic_in node
