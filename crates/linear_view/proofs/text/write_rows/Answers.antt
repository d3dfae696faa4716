use Rattle.std.proofs.Common.{List, ◌++◌, length, ap, ◌∙◌}
use Rattle.tor_edge.proofs.Writing.{Wrote-is, Wrote-then, Wrote-stops}
use Rattle.linear_view.specs.declared.column.Column.{Column}
use Rattle.linear_view.specs.View.{Operands}
use Rattle.linear_view.specs.RowsText.{head_text, texts_from, product_text}
use Rattle.linear_view.proofs.text.write_rows.Goals as goal

pub returns-in_err-put_head : goal.returns-in_err-put_head
returns-in_err-put_head g c =
    let view = c.args.view.now in
    Wrote-is
    (ap (λ (columns : List Column). head_text (length columns) ++ texts_from (product_text view.columns) 0 view.products) c.column_slice-columns.ensures.columns)
    (Wrote-stops (texts_from (product_text view.columns) 0 view.products) c.in_err-put_head.ensures c.from_residual.ensures.0)

pub returns : goal.returns
returns g c =
    let view = c.args.view.now in
    Wrote-is
    (ap (λ (columns : List Column). head_text (length columns) ++ texts_from (product_text columns) 0 c.product_slice.result.now) c.column_slice-columns.ensures.columns
    ∙ ap (λ (products : List Operands). head_text (length view.columns) ++ texts_from (product_text view.columns) 0 products) c.product_slice.ensures)
    (Wrote-then c.in_ok-put_head.ensures c.put_products.ensures)
