use Rattle.std.proofs.Common.{◌≡◌, length, arith}
use Rattle.span_model.specs.Columns.{set_of}
use Rattle.gf2_span.specs.Basis.{row_sets}
use Rattle.attack_cert.proofs.Sums.{only_row_spans}
use Rattle.attack_cert.proofs.levels.spans_left.Goals as goal

pub returns-in-len1-clause-answer : goal.returns-in-len1-clause-answer
returns-in-len1-clause-answer c =
    let one : length c.args.rows.now ≡ 1 = omega arith in
    only_row_spans c.args.rows.now (row_sets c.args.span.now) c.row-item.result (set_of c.args.left.now) c.holds_sum.result one c.row-item.is c.requires.outside
    c.holds_sum.ensures.answer
