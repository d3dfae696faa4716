use Rattle.std.proofs.Common.{◌≡◌, ◌<◌, ◌++◌, ℕ, [], length, get_or}
use Rattle.span_model.specs.Columns.{set_of}
use Rattle.gf2_span.specs.Basis.{row_sets}
use Rattle.tightprove.specs.Growth.{LeadsWithin}
use Rattle.tightprove.proofs.growth.first_outside.Given as goal

abbrev pub invariant-loop-row : goal.invariant-loop-row
invariant-loop-row l = record {
  columns : length l.scratch ≡ length l.initial.scratch;
  within : (k : ℕ) → k < l.row-index → LeadsWithin (row_sets l.span) (row_sets l.rest ++ row_sets l.span) (set_of (get_or l.rows k []));
}
