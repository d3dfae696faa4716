use Rattle.std.proofs.Common.{◌≡◌, length, take}
use Rattle.span_model.specs.Columns.{set_of}
use Rattle.gf2_span.specs.Basis.{row_sets}
use Rattle.linear_view.specs.View.{products_of}
use Rattle.attack_cert.specs.Levels.{AreThose}
use Rattle.attack_cert.specs.Levelled.{operand_steps, IsSpanned, AreTold}
use Rattle.attack_cert.proofs.levels.next_level.Given as goal

abbrev pub invariant-loop-operand : goal.invariant-loop-operand
invariant-loop-operand l = record {
  columns : length l.left ≡ l.span.columns;
  left : set_of l.left ≡ set_of l.initial.left;
  scratch : length l.scratch ≡ l.span.columns;
  told : AreTold (products_of l.view) (set_of l.left) (row_sets l.span) l.told.items;
  spanned : AreThose (IsSpanned (products_of l.view) (set_of l.leak) (row_sets l.span)) (operand_steps (take l.operand-index l.pending)) (operand_steps l.level.items);
  others : AreThose (λ step. ¬ IsSpanned (products_of l.view) (set_of l.leak) (row_sets l.span) step) (operand_steps (take l.operand-index l.pending)) (operand_steps l.rest.items);
}
