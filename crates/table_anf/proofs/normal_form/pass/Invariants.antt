use Rattle.std.proofs.Common.{get_or}
use Rattle.table_anf.proofs.Passes.{IsPassing}
use Rattle.table_anf.proofs.normal_form.pass.Given as goal

abbrev pub invariant-loop-index : goal.invariant-loop-index
invariant-loop-index l = IsPassing l.bit (λ k. get_or l.fn.words k 0) l.index l.words
