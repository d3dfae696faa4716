use Rattle.std.proofs.Common.{◌≡◌, ◌∷◌, []}
use Rattle.span_model.specs.Columns.{set_of}
use Rattle.gf2_span.specs.Basis.{row_sets}
use Rattle.tightprove.specs.Growth.{IsGrown}
use Rattle.tightprove.proofs.chains.leak_by.Given as goal

abbrev pub invariant-loop-step : goal.invariant-loop-step
invariant-loop-step l = record {
  columns : l.span.columns ≡ l.classes.columns;
  grown : IsGrown l.classes.list.items (set_of l.leak ∷ []) (row_sets l.span);
}
