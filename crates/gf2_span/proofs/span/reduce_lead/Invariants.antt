use Rattle.std.proofs.Common.{◌≡◌, length}
use Rattle.span_model.specs.Columns.{set_of, sets_of, ◌△◌}
use Rattle.span_model.specs.Span.{InSpan}
use Rattle.gf2_span.specs.Rows.{HoldsNoLead}
use Rattle.gf2_span.proofs.Reducing.{IsLowering}
use Rattle.gf2_span.proofs.span.reduce_lead.Given as goal

abbrev pub invariant-loop-c : goal.invariant-loop-c
invariant-loop-c l = record {
  long : length l.row ≡ length l.initial.row;
  same : InSpan (sets_of l.rows.items) (set_of l.initial.row △ set_of l.row);
  kept : HoldsNoLead (sets_of l.rows.items) (set_of l.initial.row) → l.row ≡ l.initial.row;
  lowering : IsLowering l.leads.items l.row l.most l.end;
}

abbrev pub decreases-loop-c : goal.decreases-loop-c
decreases-loop-c l = l.end
