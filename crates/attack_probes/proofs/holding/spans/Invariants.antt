use Rattle.std.proofs.Common.{◌≡◌, length, take}
use Rattle.span_model.specs.Span.{SameSpan}
use Rattle.gf2_span.specs.Basis.{row_sets}
use Rattle.linear_view.specs.View.{products_of}
use Rattle.attack_probes.specs.Operands.{rows_of}
use Rattle.attack_probes.proofs.holding.spans.Given as goal

abbrev pub invariant-loop-operand : goal.invariant-loop-operand
invariant-loop-operand l = record {
  columns : l.span.columns ≡ length l.view.columns;
  spanned : SameSpan (row_sets l.span) (rows_of (products_of l.view) (take l.operand-index l.operands));
}
