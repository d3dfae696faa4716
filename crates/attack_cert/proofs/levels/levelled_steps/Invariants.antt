use Rattle.std.proofs.Common.{◌≡◌, List, length}
use Rattle.span_model.specs.Columns.{set_of}
use Rattle.span_model.specs.Closure.{Step}
use Rattle.gf2_span.specs.Basis.{row_sets}
use Rattle.linear_view.specs.View.{products_of}
use Rattle.attack_cert.proofs.Levelling.{Levelling}
use Rattle.attack_cert.proofs.levels.levelled_steps.Given as goal

abbrev pub invariant-levels : goal.invariant-levels
invariant-levels l = record {
  columns : l.span.columns ≡ length l.view.columns;
  scratch : length l.scratch ≡ length l.view.columns;
  levelling : (levels : List (List Step)) × Levelling (products_of l.view) (set_of l.leak) levels l.steps.items l.pending.items (row_sets l.span);
}

abbrev pub decreases-levels : goal.decreases-levels
decreases-levels l = length l.pending.items
