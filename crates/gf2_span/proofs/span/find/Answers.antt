use Rattle.std.proofs.Common.{◌+◌, ◌-◌, ◌/◌, arith}
use Rattle.gf2_span.proofs.Reducing.{before_all}
use Rattle.gf2_span.proofs.span.find.Goals as goal

pub loop-low-preserved-then-column-c-2 : goal.loop-low-preserved-then-column-c-2
loop-low-preserved-then-column-c-2 c = record {
  order = omega arith;
  fewer = c.loop-low.invariant.fewer;
  before = before_all c.args.leads.now.items c.args.c (c.loop-low.low + (c.loop-low.high - c.loop-low.low) / 2) c.index.result.now c.requires.ascending
      (omega (arith, c.loop-low.invariant.fewer, c.requires.within)) c.index.ensures c.if-column-c-2.true;
  past = c.loop-low.invariant.past;
}
