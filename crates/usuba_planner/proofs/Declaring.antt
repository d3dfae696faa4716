-- The elements of a definition's declarations, part by part.
use Rattle.std.proofs.Common.{◌≡◌, ℕ, ◌+◌, ◌≤◌, Bool, true, false, List, ◌++◌, Option, Some, None, refl, sym, arith}
use Rattle.std.specs.Prelude.{nat_lt, if◌then◌else◌}
use Rattle.std.proofs.lemmas.Bool.{ltb-false}
use Rattle.std.proofs.lemmas.Option.{none-some}
use Rattle.usuba_trees.specs.declared.Decl.{Decl}
use Rattle.usuba_trees.specs.declared.Def.{Def}
use Rattle.usuba_trees.specs.declared.Def.TheVariants as def
use Rattle.usuba_trees.specs.declared.Node.{Node}
use Rattle.usuba_model.specs.declared.fault.Fault.{Fault}
use Rattle.usuba_model.specs.Names.{declared_in}
use Rattle.usuba_model.specs.Shapes.{all_elements}
use Rattle.usuba_model.specs.Unrolled.{declarations}
use Rattle.usuba_model.specs.Walk.{Signature, most_operations, definition_steps, walk_fault}
use Rattle.ready_order.proofs.Carrying.{all_elements-append}

-- the elements of a node are those of its inputs, outputs and locals
pub node_elements : (node : Node) → all_elements (declarations node)
    ≡ all_elements node.inputs + all_elements node.outputs + all_elements node.locals
node_elements node =
    omega (arith, all_elements-append (node.inputs ++ node.outputs) node.locals, all_elements-append node.inputs node.outputs)

-- the elements of two lists are no more than a number where they are so together
pub first_few : (a b : List Decl) → all_elements (a ++ b) ≤ most_operations → all_elements a ≤ most_operations
first_few a b few = omega (arith, all_elements-append a b, few)

pub second_few : (a b : List Decl) → all_elements (a ++ b) ≤ most_operations → all_elements b ≤ most_operations
second_few a b few = omega (arith, all_elements-append a b, few)

walked_few : (elements : ℕ) (fault : Fault) (later : Option Fault) → (if nat_lt most_operations (0 + elements) then Some fault else later) ≡ None
    → elements ≤ most_operations
walked_few elements fault later clean = at (nat_lt most_operations (0 + elements)) (ltb-false most_operations (0 + elements)) clean
  where
    at : (b : Bool) → (b ≡ false → 0 + elements ≤ most_operations) → (if b then Some fault else later) ≡ None → elements ≤ most_operations
    at true within none = absurd (none-some fault (sym none))
    at false within none = omega (arith, within refl)

-- a definition that is walked without a fault has no more elements than a source may have operations
pub definition_few : (w : ℕ) (signatures : List Signature) (d : Def) → walk_fault 0 (definition_steps w signatures d) ≡ None
    → all_elements (declared_in d) ≤ most_operations
definition_few w signatures (def.Node node) clean = walked_few (all_elements (declarations node)) _ _ clean
definition_few w signatures (def.Table grid) clean = walked_few (all_elements (grid.inputs ++ grid.outputs)) _ _ clean
definition_few w signatures (def.Perm grid) clean = walked_few (all_elements (grid.inputs ++ grid.outputs)) _ _ clean
