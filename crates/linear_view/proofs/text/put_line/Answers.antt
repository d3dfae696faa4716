use Rattle.std.proofs.Common.{codes, decimal}
use Rattle.tor_edge.proofs.Writing.{Wrote-is, Wrote-then, Wrote-stops}
use Rattle.linear_view.specs.RowsText.{row_text}
use Rattle.linear_view.proofs.TextLemmas.{line_parts}
use Rattle.linear_view.proofs.text.put_line.Goals as goal

pub returns-in_err-put_pieces : goal.returns-in_err-put_pieces
returns-in_err-put_pieces g c =
    Wrote-is
    (line_parts (codes "p") (decimal c.args.product) (codes " ") c.args.side.now (codes " ") (decimal c.args.bit) (codes " =") (row_text c.args.columns.now c.args.row.now) (codes "\n"))
    (Wrote-stops _ c.in_err-put_pieces.ensures c.from_residual.ensures.0)

pub returns-in_err-put_row : goal.returns-in_err-put_row
returns-in_err-put_row g c =
    Wrote-is
    (line_parts (codes "p") (decimal c.args.product) (codes " ") c.args.side.now (codes " ") (decimal c.args.bit) (codes " =") (row_text c.args.columns.now c.args.row.now) (codes "\n"))
    (Wrote-then c.in_ok-put_pieces.ensures (Wrote-stops _ c.in_err-put_row.ensures c.from_residual-in_err-put_row.ensures.0))

pub returns : goal.returns
returns g c =
    Wrote-is
    (line_parts (codes "p") (decimal c.args.product) (codes " ") c.args.side.now (codes " ") (decimal c.args.bit) (codes " =") (row_text c.args.columns.now c.args.row.now) (codes "\n"))
    (Wrote-then c.in_ok-put_pieces.ensures (Wrote-then c.in_ok-put_row.ensures c.put_text.ensures.wrote))
