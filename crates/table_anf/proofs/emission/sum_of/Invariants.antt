use Rattle.table_anf.specs.TableTerms.{is_present}
use Rattle.table_anf.proofs.Sums.{IsSumming}
use Rattle.table_anf.proofs.emission.sum_of.Given as goal

abbrev pub invariant-loop-index : goal.invariant-loop-index
invariant-loop-index l =
    IsSumming l.fn.builder l.products (is_present l.anf.inputs l.anf.outputs l.anf.entries l.output) l.index l.builder l.sum
