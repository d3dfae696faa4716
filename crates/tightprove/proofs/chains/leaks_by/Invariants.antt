use Rattle.std.proofs.Common.{◌≡◌, ◌∷◌, [], ℕ, List}
use Rattle.span_model.specs.Attack.{Product}
use Rattle.span_model.specs.Columns.{set_of}
use Rattle.span_model.specs.Refresh.{left_out}
use Rattle.gf2_span.specs.Basis.{row_sets}
use Rattle.tightprove.specs.Growth.{ReachAll}
use Rattle.tightprove.specs.Private.Gathered.{marks_of, beyond, IsGatheredOf}
use Rattle.tightprove.proofs.chains.leaks_by.Given as goal

abbrev pub invariant-loop-k : goal.invariant-loop-k
invariant-loop-k l = record {
  columns : l.span.columns ≡ l.gathered.classes.columns;
  reached : (products : List (Product ℕ)) → IsGatheredOf products l.gathered
      → ReachAll (left_out (beyond (marks_of l.set) l.bound) products) (set_of l.leak ∷ []) (row_sets l.span);
}
