use Rattle.std.proofs.Common.{ap, ◌∙◌, ◌≡◌}
use Rattle.span_model.specs.Columns.{set_of, empty, ◌△◌}
use Rattle.gf2_span.specs.Basis.{row_sets}
use Rattle.tightprove.proofs.Following.{given_leak}
use Rattle.tightprove.proofs.chains.is_given.Goals as goal

pub returns : goal.returns
returns c =
    given_leak c.is_zero.result (set_of c.args.row.now) (set_of c.args.leak.now) (set_of c.add.new.self) (row_sets c.args.span.now) (set_of c.reduce.new.row ≡ empty)
    c.is_zero.ensures c.reduce.ensures.zero (c.add.ensures.sum ∙ ap (λ row. set_of row △ set_of c.args.leak.now) c.in_ok-rest.ensures)
