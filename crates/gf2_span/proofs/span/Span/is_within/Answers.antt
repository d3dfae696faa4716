use Rattle.std.proofs.Common.{length, ◌≡◌, ◌<◌, ◌≤◌, get_or, ap, ◌∙◌, arith}
use Rattle.gf2_span.specs.Basis.{Basis, row_sets}
use Rattle.gf2_span.proofs.Leads.{within_more, all_within}
use Rattle.gf2_span.proofs.span.Span.is_within.Goals as goal

pub loop-row-preserved : goal.loop-row-preserved
loop-row-preserved c =
    let items : c.deref-row-items.result.now ≡ c.args.self.now.rows = c.deref-row-items.ensures.value ∙ ap (λ (b : Basis). b.rows) c.self.view_is in
    let within : c.loop-row.row-index < length c.args.self.now.rows = rw (← items) c.loop-row-test.true in
    let is : c.row-item.result ≡ get_or c.args.self.now.rows c.loop-row.row-index c.row-item.result = rw (← items) c.row-item.is in
    record {
      columns = c.contains.ensures.scratch ∙ c.loop-row.invariant.columns;
      inside = within_more (row_sets c.args.other.now) c.args.self.now.rows c.loop-row.row-index c.row-item.result within is c.loop-row.invariant.inside c.if-not-contains.ensures.answer;
    }

pub returns-clause-answer : goal.returns-clause-answer
returns-clause-answer c =
    let items : c.deref-row-items.result.now ≡ c.args.self.now.rows = c.deref-row-items.ensures.value ∙ ap (λ (b : Basis). b.rows) c.self.view_is in
    let past : length c.args.self.now.rows ≤ c.loop-row.row-index = rw (← items) c.loop-row-test.false in
    all_within (row_sets c.args.other.now) c.args.self.now.rows (λ k h. c.loop-row.invariant.inside k (omega arith))
