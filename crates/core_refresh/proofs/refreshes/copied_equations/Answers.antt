use Rattle.std.proofs.Common.{arith}
use Rattle.core_refresh.specs.RefreshedCore.{marked}
use Rattle.core_refresh.proofs.Copies.{product_at, reads_at, copied_at}
use Rattle.core_refresh.proofs.refreshes.copied_equations.Goals as goal

pub copy-requires-clause-product : goal.copy-requires-clause-product
copy-requires-clause-product c =
    product_at c.args.core.now (marked c.args.set.now) c.loop-gate.gate-index c.loop-gate.copied _ _ c.equation_slice-gates.ensures.gates
    c.loop-gate.invariant.copied c.loop-gate-test.true c.requires.marks

pub copy-requires-clause-reads : goal.copy-requires-clause-reads
copy-requires-clause-reads c =
    reads_at c.args.core.now (marked c.args.set.now) c.loop-gate.gate-index c.loop-gate.copied _ c.equation_slice-gates.ensures.core
    c.equation_slice-gates.ensures.gates c.loop-gate.invariant.copied c.loop-gate-test.true

pub loop-gate-preserved : goal.loop-gate-preserved
loop-gate-preserved c =
    record {
      within = omega arith;
      copied = copied_at c.args.core.now (marked c.args.set.now) c.loop-gate.gate-index c.loop-gate.copied c.copy.new.self _
          c.equation_slice-gates.ensures.core c.equation_slice-gates.ensures.gates c.loop-gate.invariant.copied c.loop-gate-test.true c.in_ok-copy.ensures;
    }
