use Rattle.std.proofs.Common.{ℕ, Bool, List, ◌++◌, codes, ap, ◌∙◌}
use Rattle.tor_edge.proofs.Writing.{Wrote-is, Wrote-then, Wrote-stops}
use Rattle.linear_view.specs.RowsText.{operand_text}
use Rattle.linear_view.proofs.text.put_product.Goals as goal

pub returns-in_err-put_operand : goal.returns-in_err-put_operand
returns-in_err-put_operand g c =
    let text : List (List Bool) → List ℕ = operand_text c.args.columns.now c.args.product (codes "left") in
    Wrote-is
    (ap (λ (rows : List (List Bool)). text rows ++ operand_text c.args.columns.now c.args.product (codes "right") c.args.pair.now.right)
    (c.as_slice.ensures ∙ c.left.ensures))
    (Wrote-stops (operand_text c.args.columns.now c.args.product (codes "right") c.args.pair.now.right) c.in_err-put_operand.ensures c.from_residual.ensures.0)

pub returns : goal.returns
returns g c =
    let left : List (List Bool) → List ℕ = operand_text c.args.columns.now c.args.product (codes "left") in
    let right : List (List Bool) → List ℕ = operand_text c.args.columns.now c.args.product (codes "right") in
    Wrote-is
    (ap (λ (rows : List (List Bool)). left rows ++ right c.as_slice-2.result.now) (c.as_slice.ensures ∙ c.left.ensures)
    ∙ ap (λ (rows : List (List Bool)). left c.args.pair.now.left ++ right rows) (c.as_slice-2.ensures ∙ c.right.ensures))
    (Wrote-then c.in_ok-put_operand.ensures c.put_operand-2.ensures)
