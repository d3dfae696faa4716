use Rattle.std.proofs.Common.{get_or, arith}
use Rattle.table_anf.proofs.Passes.{step_le, passes_by_test, passes_on_test}
use Rattle.table_anf.proofs.normal_form.pass.Goals as goal
use Rattle.table_anf.proofs.normal_form.pass.Goals.{then-index-bit-eq1, else-index-bit-eq1}

pub overflow_sub-words : goal.overflow_sub-words
overflow_sub-words c = step_le c.args.bit c.loop-index.index c.requires c.if-index-bit-eq1.true

pub loop-index-preserved : goal.loop-index-preserved
loop-index-preserved c = elim c.if-index-bit-eq1.branch [
  | then-index-bit-eq1 w ↦
      rw w.words-is
      (passes_on_test c.args.bit (λ k. get_or c.args.words.now k 0) c.loop-index.index c.loop-index.words c.requires (omega arith)
      w.if-index-bit-eq1.true c.loop-index.invariant)
  | else-index-bit-eq1 w ↦
      rw w.words-is
      (passes_by_test c.args.bit (λ k. get_or c.args.words.now k 0) c.loop-index.index c.loop-index.words w.if-index-bit-eq1.false c.loop-index.invariant)
]
