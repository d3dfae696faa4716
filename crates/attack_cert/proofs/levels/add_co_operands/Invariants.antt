use Rattle.std.proofs.Common.{◌≡◌, ◌++◌, take}
use Rattle.span_model.specs.Span.{SameSpan}
use Rattle.span_model.specs.Closure.{co_operands}
use Rattle.gf2_span.specs.Basis.{row_sets}
use Rattle.linear_view.specs.View.{products_of}
use Rattle.attack_cert.specs.Levelled.{operand_steps}
use Rattle.attack_cert.proofs.levels.add_co_operands.Given as goal

abbrev pub invariant-loop-operand : goal.invariant-loop-operand
invariant-loop-operand l = record {
  columns : l.span.columns ≡ l.initial.span.columns;
  spanned : SameSpan (row_sets l.span) (row_sets l.initial.span ++ co_operands (products_of l.view) (operand_steps (take l.operand-index l.level)));
}
