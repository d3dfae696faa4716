use Rattle.std.proofs.Common.{arith}
use Rattle.usuba0.proofs.HeadLemmas.{once-inputs}
use Rattle.usuba0.proofs.builder.CoreBuilder.new.Goals as goal

pub invariant_of-result : goal.invariant_of-result
invariant_of-result c =
    rw c.new.ensures.empty
    (record {
      some_width = c.requires.some_width;
      width_fits = c.requires.width_fits;
      some_input = c.requires.some_input;
      few = omega arith;
      earlier = tt;
      once = once-inputs c.args.inputs;
    })
