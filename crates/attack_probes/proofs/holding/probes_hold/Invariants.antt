use Rattle.std.proofs.Common.{ℕ, ◌<◌, [], get_or}
use Rattle.span_model.specs.Columns.{set_of}
use Rattle.span_model.specs.Span.{InSpan}
use Rattle.linear_view.specs.View.{products_of}
use Rattle.attack_probes.specs.Operands.{rows_of}
use Rattle.attack_probes.proofs.holding.probes_hold.Given as goal

abbrev pub invariant-loop-operands : goal.invariant-loop-operands
invariant-loop-operands l =
    (s : ℕ) → s < l.operands-index → InSpan (rows_of (products_of l.view) (get_or l.operands-items s [])) (set_of l.leak)
