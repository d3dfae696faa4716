use Rattle.std.proofs.Common.{List, length, map, ap, ◌∙◌, arith}
use Rattle.linear_view.specs.declared.column.Column.{Column}
use Rattle.linear_view.specs.Rows.{core_products, operands_over}
use Rattle.linear_view.proofs.ViewLemmas.{view_is, names_of_core, length-core_columns}
use Rattle.linear_view.proofs.core_view.view_of.Goals as goal

pub product_operands-requires-clause-few_columns : goal.product_operands-requires-clause-few_columns
product_operands-requires-clause-few_columns c =
    let names = names_of_core c.args.core.now c.width.result c.inputs.result c.equation_slice-gates.result.now c.in_ok-columns.columns.keys c.in_ok-columns.ensures
    c.width.ensures.value c.inputs.ensures c.equation_slice-gates.ensures.gates in
    omega (arith, ap length names, length-core_columns c.args.core.now, c.requires.columns)

pub new-requires : goal.new-requires
new-requires c =
    let core = c.args.core.now in
    let names = names_of_core core c.width.result c.inputs.result c.equation_slice-gates.result.now c.in_ok-columns.columns.keys c.in_ok-columns.ensures
    c.width.ensures.value c.inputs.ensures c.equation_slice-gates.ensures.gates in
    view_is core c.in_ok-columns.columns.keys c.in_ok-products.products.items c.width.ensures.core c.requires.columns names
    (c.in_ok-products.ensures ∙ ap (λ (l : List Column). map (operands_over l) (core_products core)) names)
