use Rattle.span_model.specs.Columns.{sets_of}
use Rattle.span_model.specs.Attack.{product_at}
use Rattle.linear_view.specs.View.{products_of}
use Rattle.tightprove.proofs.Leaving.{placed_at, kept_rows}
use Rattle.tightprove.proofs.gathered.placed.Goals as goal

pub returns-clause-place : goal.returns-clause-place
returns-clause-place c =
    placed_at c.place.new.list.items c.place-2.new.list.items c.in_ok-left.left c.in_ok-right.right (sets_of c.shared_operand-left_rows.result.now) (sets_of c.shared_operand-right_rows.result.now)
    (product_at (products_of c.args.view.now) c.args.k) (kept_rows c.place.new.list.items c.place-2.new.list.items c.in_ok-right.ensures.kept)
    c.in_ok-left.ensures.number c.in_ok-right.ensures.number c.shared_operand-left_rows.ensures.sets c.shared_operand-right_rows.ensures.sets
