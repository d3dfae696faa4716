use Rattle.std.proofs.Common.{◌+◌, ◌≤◌, length, arith}
use Rattle.gf2_span.proofs.words.add_slice.Goals as goal
use Rattle.gf2_span.proofs.Kernels.{none_added, lanes_added, all_added}

pub loop-at-init : goal.loop-at-init
loop-at-init c = record { within = omega arith; added = none_added c.args.words.now c.args.other.now }

pub loop-at-preserved : goal.loop-at-preserved
loop-at-preserved c =
    let room : c.loop-at.at + 8 ≤ length c.args.other.now = omega (arith, c.requires.within) in
    rw c.add_lanes.ensures (record {
      within = omega arith;
      added = lanes_added c.args.words.now c.args.other.now c.loop-at.words c.loop-at.at c.requires.same room c.loop-at.invariant.added;
    })

pub returns : goal.returns
returns c =
    all_added c.args.words.now c.args.other.now c.loop-at-2.words c.loop-at-2.at c.requires.same c.type_inv.other
    (λ d h. c.requires.clear d (omega arith)) c.loop-at-2.invariant.added
