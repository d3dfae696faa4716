use Rattle.std.proofs.Common.{List, ℕ, subst}
use Rattle.linear_view.specs.Walk.{HoldsNeeded}
use Rattle.linear_view.proofs.ListLemmas.{if_ok}
use Rattle.linear_view.proofs.NarrowLemmas.{needed_core, told_core, narrow_few, narrow_is, narrow_value}
use Rattle.linear_view.proofs.core_view.narrow_view.Goals as goal

pub product_operands-requires-clause-few_columns : goal.product_operands-requires-clause-few_columns
product_operands-requires-clause-few_columns c =
    narrow_few c.args.core.now c.as_slice.result.now c.in_ok-needed.needed.keys
    (needed_core c.args.core.now c.width-width.result c.inputs-inputs.result c.equation_slice-gates.result.now c.as_slice.result.now
    c.in_ok-needed.needed.keys c.width-width.ensures.value c.inputs-inputs.ensures c.equation_slice-gates.ensures.gates
    c.in_ok-needed.ensures)
    c.requires.columns

pub new-requires : goal.new-requires
new-requires c =
    narrow_is c.args.core.now c.as_slice.result.now c.in_ok-needed.needed.keys c.in_ok-products.products.items
    c.width-width.ensures.core c.requires.columns
    (needed_core c.args.core.now c.width-width.result c.inputs-inputs.result c.equation_slice-gates.result.now c.as_slice.result.now
    c.in_ok-needed.needed.keys c.width-width.ensures.value c.inputs-inputs.ensures c.equation_slice-gates.ensures.gates
    c.in_ok-needed.ensures)
    c.in_ok-products.ensures

pub returns : goal.returns
returns c =
    let last = c.in_ok-last.last.items in
    let names = c.in_ok-needed.needed.keys in
    let gs = c.equation_slice-gates.result.now in
    if_ok c.new.result _ _ (λ view made.
    narrow_value c.args.core.now last names c.in_ok-products.products.items view c.width-width.ensures.core
    (told_core c.args.core.now c.inputs-inputs.result gs last c.inputs-inputs.ensures c.equation_slice-gates.ensures.gates
    c.in_ok-last.ensures.told)
    (needed_core c.args.core.now c.width-width.result c.inputs-inputs.result gs last names
    c.width-width.ensures.value c.inputs-inputs.ensures c.equation_slice-gates.ensures.gates
    (subst (λ (l : List ℕ). HoldsNeeded c.width-width.result c.inputs-inputs.result gs l names) c.as_slice.ensures.value
    c.in_ok-needed.ensures))
    c.in_ok-products.ensures made) c.new.ensures
