use Rattle.std.proofs.Common.{◌≡◌, ◌++◌, take}
use Rattle.span_model.specs.Columns.{sets_of}
use Rattle.span_model.specs.Span.{SameSpan}
use Rattle.gf2_span.specs.Basis.{row_sets}
use Rattle.gf2_span.proofs.span.Span.insert_all.Given as goal

abbrev pub invariant-loop-row : goal.invariant-loop-row
invariant-loop-row l =
    record {
      columns : l.self.columns ≡ l.initial.self.columns;
      spanned : SameSpan (row_sets l.self) (row_sets l.initial.self ++ sets_of (take l.row-index l.rows));
    }
