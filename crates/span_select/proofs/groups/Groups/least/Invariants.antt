use Rattle.std.proofs.Common.{◌≡◌, ◌*◌, length, map}
use Rattle.span_model.specs.Columns.{set_of, sets_of}
use Rattle.gf2_span.specs.Basis.{row_sets}
use Rattle.span_select.proofs.Reaching.{IsStage}
use Rattle.span_select.proofs.groups.Groups.least.Given as goal

abbrev pub invariant-loop-c : goal.invariant-loop-c
invariant-loop-c l = record {
  columns : l.span.columns ≡ 2 * l.self-inside.columns;
  wide : length l.rest ≡ 2 * l.self-inside.columns;
  stage : IsStage l.self-inside.columns (map sets_of (map (λ group. group.rows.items) l.self-inside.groups.items)) (row_sets l.self-inside.basis) (sets_of l.own) l.groups (set_of l.leak) l.below l.numbers.items (row_sets l.span) (set_of l.rest);
}

abbrev pub decreases-loop-c : goal.decreases-loop-c
decreases-loop-c l = l.below
