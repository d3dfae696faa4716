use Rattle.std.proofs.Common.{◌≡◌, ◌+◌, ◌≤◌, ℕ, List, sym, ap, ◌∙◌, subst, arith}
use Rattle.usuba_trees.specs.declared.Decl.{Decl}
use Rattle.usuba_model.specs.Shapes.{all_elements}
use Rattle.usuba_model.specs.Unrolled.{declarations}
use Rattle.usuba_model.specs.Walk.{most_operations}
use Rattle.ready_order.specs.Numbered.{AreBelow}
use Rattle.usuba_types.proofs.Declaring.{node-elements}
use Rattle.usuba_types.proofs.faults.keep_of_node.Goals as goal

pub count-inputs-requires : goal.count-inputs-requires
count-inputs-requires c =
    let node = c.args.node.now in
    subst (λ (l : List Decl). all_elements l ≤ most_operations) (sym c.as_slice.ensures) (omega (arith, node-elements node, c.requires.few))

pub count-requires : goal.count-requires
count-requires c =
    let node = c.args.node.now in
    subst (λ (l : List Decl). all_elements l ≤ most_operations) (sym c.as_slice-2.ensures) (omega (arith, node-elements node, c.requires.few))

pub count-requires-2 : goal.count-requires-2
count-requires-2 c =
    let node = c.args.node.now in
    subst (λ (l : List Decl). all_elements l ≤ most_operations) (sym c.as_slice-3.ensures) (omega (arith, node-elements node, c.requires.few))

pub overflow_add-cells : goal.overflow_add-cells
overflow_add-cells c =
    let node = c.args.node.now in
    let inputs : c.count-inputs.result ≡ all_elements node.inputs = c.count-inputs.ensures ∙ ap all_elements c.as_slice.ensures in
    let outputs : c.count.result ≡ all_elements node.outputs = c.count.ensures ∙ ap all_elements c.as_slice-2.ensures in
    omega (arith, inputs, outputs, node-elements node, c.requires.few)

pub overflow_add-cells-2 : goal.overflow_add-cells-2
overflow_add-cells-2 c =
    let node = c.args.node.now in
    let inputs : c.count-inputs.result ≡ all_elements node.inputs = c.count-inputs.ensures ∙ ap all_elements c.as_slice.ensures in
    let outputs : c.count.result ≡ all_elements node.outputs = c.count.ensures ∙ ap all_elements c.as_slice-2.ensures in
    let locals : c.count-2.result ≡ all_elements node.locals = c.count-2.ensures ∙ ap all_elements c.as_slice-3.ensures in
    omega (arith, inputs, outputs, locals, node-elements node, c.requires.few)

pub keep_twice-requires-clause-cells : goal.keep_twice-requires-clause-cells
keep_twice-requires-clause-cells c =
    let node = c.args.node.now in
    let inputs : c.count-inputs.result ≡ all_elements node.inputs = c.count-inputs.ensures ∙ ap all_elements c.as_slice.ensures in
    let outputs : c.count.result ≡ all_elements node.outputs = c.count.ensures ∙ ap all_elements c.as_slice-2.ensures in
    let locals : c.count-2.result ≡ all_elements node.locals = c.count-2.ensures ∙ ap all_elements c.as_slice-3.ensures in
    let all : all_elements (declarations node) ≡ c.count-inputs.result + c.count.result + c.count-2.result =
    omega (arith, inputs, outputs, locals, node-elements node) in
    subst (λ (n : ℕ). AreBelow n c.args.table.now.done) all c.requires.cells

pub keep_cyclic-requires-clause-cells : goal.keep_cyclic-requires-clause-cells
keep_cyclic-requires-clause-cells c =
    let node = c.args.node.now in
    let inputs : c.count-inputs.result ≡ all_elements node.inputs = c.count-inputs.ensures ∙ ap all_elements c.as_slice.ensures in
    let outputs : c.count.result ≡ all_elements node.outputs = c.count.ensures ∙ ap all_elements c.as_slice-2.ensures in
    let locals : c.count-2.result ≡ all_elements node.locals = c.count-2.ensures ∙ ap all_elements c.as_slice-3.ensures in
    let all : all_elements (declarations node) ≡ c.count-inputs.result + c.count.result + c.count-2.result =
    omega (arith, inputs, outputs, locals, node-elements node) in
    subst (λ (n : ℕ). AreBelow n c.args.table.now.done) all c.requires.cells
