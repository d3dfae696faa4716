use Rattle.std.proofs.Common.{◌≡◌, ◌+◌, ◌≤◌, ℕ, List, length, sym, ap, ◌∙◌, subst, arith}
use Rattle.usuba_trees.specs.declared.Decl.{Decl}
use Rattle.usuba_trees.specs.declared.Def.{Def}
use Rattle.usuba_model.specs.Names.{declared_in}
use Rattle.usuba_model.specs.Shapes.{all_elements}
use Rattle.usuba_model.specs.Unrolled.{declarations}
use Rattle.usuba_model.specs.Walk.{most_operations}
use Rattle.usuba_code.specs.Code.{Coded, coded_node}
use Rattle.ready_order.specs.Numbered.{AreBelow}
use Rattle.ready_order.proofs.Carrying.{numbered_findings}
use Rattle.usuba_walk.specs.Walking.{coded_definition}
use Rattle.usuba_walk.proofs.Counting.{few_instances}
use Rattle.usuba_planner.proofs.Declaring.{node_elements, definition_few}
use Rattle.usuba_planner.proofs.node.plan_node.Goals as goal

pub count-inputs-requires : goal.count-inputs-requires
count-inputs-requires c =
    let node = c.args.node.now in
    let few : all_elements (declarations node) ≤ most_operations
    = subst (λ (d : Def). all_elements (declared_in d) ≤ most_operations) c.requires.node
    (definition_few c.args.width c.args.earlier.now c.args.definition.now c.requires.sound.walks) in
    subst (λ (l : List Decl). all_elements l ≤ most_operations) (sym c.as_slice.ensures) (omega (arith, node_elements node, few))

pub count-outputs-requires : goal.count-outputs-requires
count-outputs-requires c =
    let node = c.args.node.now in
    let few : all_elements (declarations node) ≤ most_operations
    = subst (λ (d : Def). all_elements (declared_in d) ≤ most_operations) c.requires.node
    (definition_few c.args.width c.args.earlier.now c.args.definition.now c.requires.sound.walks) in
    subst (λ (l : List Decl). all_elements l ≤ most_operations) (sym c.as_slice-2.ensures) (omega (arith, node_elements node, few))

pub count-requires : goal.count-requires
count-requires c =
    let node = c.args.node.now in
    let few : all_elements (declarations node) ≤ most_operations
    = subst (λ (d : Def). all_elements (declared_in d) ≤ most_operations) c.requires.node
    (definition_few c.args.width c.args.earlier.now c.args.definition.now c.requires.sound.walks) in
    subst (λ (l : List Decl). all_elements l ≤ most_operations) (sym c.as_slice-3.ensures) (omega (arith, node_elements node, few))

pub overflow_add-cells : goal.overflow_add-cells
overflow_add-cells c =
    let node = c.args.node.now in
    let few : all_elements (declarations node) ≤ most_operations
    = subst (λ (d : Def). all_elements (declared_in d) ≤ most_operations) c.requires.node
    (definition_few c.args.width c.args.earlier.now c.args.definition.now c.requires.sound.walks) in
    let inputs : c.count-inputs.result ≡ all_elements node.inputs = c.count-inputs.ensures ∙ ap all_elements c.as_slice.ensures in
    let outputs : c.count-outputs.result ≡ all_elements node.outputs = c.count-outputs.ensures ∙ ap all_elements c.as_slice-2.ensures in
    omega (arith, inputs, outputs, node_elements node, few)

pub overflow_add-cells-2 : goal.overflow_add-cells-2
overflow_add-cells-2 c =
    let node = c.args.node.now in
    let few : all_elements (declarations node) ≤ most_operations
    = subst (λ (d : Def). all_elements (declared_in d) ≤ most_operations) c.requires.node
    (definition_few c.args.width c.args.earlier.now c.args.definition.now c.requires.sound.walks) in
    let inputs : c.count-inputs.result ≡ all_elements node.inputs = c.count-inputs.ensures ∙ ap all_elements c.as_slice.ensures in
    let outputs : c.count-outputs.result ≡ all_elements node.outputs = c.count-outputs.ensures ∙ ap all_elements c.as_slice-2.ensures in
    let locals : c.count.result ≡ all_elements node.locals = c.count.ensures ∙ ap all_elements c.as_slice-3.ensures in
    omega (arith, inputs, outputs, locals, node_elements node, few)

pub ready-requires-clause-few : goal.ready-requires-clause-few
ready-requires-clause-few c =
    subst (λ (done : List Coded). length done ≤ most_operations) (sym c.in_ok-table.ensures)
    (few_instances c.args.width c.args.earlier.now c.args.definition.now c.requires.sound.walks)

pub ready-requires-clause-cells : goal.ready-requires-clause-cells
ready-requires-clause-cells c =
    let node = c.args.node.now in
    let inputs : c.count-inputs.result ≡ all_elements node.inputs = c.count-inputs.ensures ∙ ap all_elements c.as_slice.ensures in
    let outputs : c.count-outputs.result ≡ all_elements node.outputs = c.count-outputs.ensures ∙ ap all_elements c.as_slice-2.ensures in
    let locals : c.count.result ≡ all_elements node.locals = c.count.ensures ∙ ap all_elements c.as_slice-3.ensures in
    let all : all_elements (declarations node) ≡ c.count-inputs.result + c.count-outputs.result + c.count.result
    = omega (arith, inputs, outputs, locals, node_elements node) in
    let table : c.in_ok-table.table.done ≡ coded_node c.args.earlier.now node
    = c.in_ok-table.ensures ∙ ap (coded_definition c.args.earlier.now) c.requires.node in
    subst (λ (n : ℕ). AreBelow n c.in_ok-table.table.done) all
    (subst (λ (done : List Coded). AreBelow (all_elements (declarations node)) done) (sym table)
    (numbered_findings.below c.args.earlier.now node))

pub returns : goal.returns
returns c =
    let node = c.args.node.now in
    let inputs : c.count-inputs.result ≡ all_elements node.inputs = c.count-inputs.ensures ∙ ap all_elements c.as_slice.ensures in
    let outputs : c.count-outputs.result ≡ all_elements node.outputs = c.count-outputs.ensures ∙ ap all_elements c.as_slice-2.ensures in
    let locals : c.count.result ≡ all_elements node.locals = c.count.ensures ∙ ap all_elements c.as_slice-3.ensures in
    record {
      cells = omega (arith, inputs, outputs, locals, node_elements node);
      inputs = inputs;
      outputs = outputs;
      table = c.in_ok-table.ensures ∙ ap (coded_definition c.args.earlier.now) c.requires.node;
      order = c.in_ok-order.ensures;
    }
