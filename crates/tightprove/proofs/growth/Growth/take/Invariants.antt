use Rattle.std.proofs.Common.{◌≡◌, ◌++◌, take}
use Rattle.span_model.specs.Span.{SameSpan}
use Rattle.gf2_span.specs.Basis.{row_sets}
use Rattle.tightprove.specs.Growth.{rows_of_all}
use Rattle.tightprove.proofs.growth.Growth.take.Given as goal

abbrev pub invariant-loop-j : goal.invariant-loop-j
invariant-loop-j l = record {
  columns : l.self.span.columns ≡ l.initial.self.span.columns;
  rest : l.self.rest ≡ l.initial.self.rest;
  taken : l.self.taken ≡ l.initial.self.taken;
  span : SameSpan (row_sets l.self.span) (row_sets l.initial.self.span ++ rows_of_all l.classes.list.items (take l.j-index l.j-items));
}
