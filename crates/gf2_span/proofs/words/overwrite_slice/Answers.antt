use Rattle.std.proofs.Common.{◌+◌, ◌≡◌, ◌≤◌, length, get_or, sym, arith}
use Rattle.gf2_span.proofs.words.overwrite_slice.Goals as goal
use Rattle.gf2_span.proofs.Kernels.{none_copied, lanes_copied, word_copied, all_copied, zero_word}

pub loop-at-init : goal.loop-at-init
loop-at-init c = record {
  within = omega arith;
  copied = none_copied c.args.words.now c.args.other.now;
  rest = λ k h. zero_word c.args.words.now k (c.type_inv.words k).fits (λ d e. c.requires.old_clear d (omega arith));
}

pub loop-at-preserved : goal.loop-at-preserved
loop-at-preserved c =
    let room : c.loop-at.at + 8 ≤ length c.args.other.now = omega (arith, c.requires.within) in
    rw c.copy_lanes.ensures (record {
      within = omega arith;
      copied = lanes_copied c.args.words.now c.args.other.now c.loop-at.words c.loop-at.at c.requires.same room c.loop-at.invariant.copied;
      rest = c.loop-at.invariant.rest;
    })

pub loop-at-3-preserved : goal.loop-at-3-preserved
loop-at-3-preserved c =
    let zero : get_or c.args.other.now c.loop-at-3.at 0 ≡ 0 =
    zero_word c.args.other.now c.loop-at-3.at (c.type_inv.other c.loop-at-3.at).fits (λ d e. c.requires.clear d (omega (arith, c.loop-at-3.invariant.past))) in
    record {
      past = omega (arith, c.loop-at-3.invariant.past);
      copied = word_copied c.args.words.now c.args.other.now c.loop-at-3.words c.loop-at-3.at 0 c.requires.same (omega arith) (sym zero) c.loop-at-3.invariant.copied;
      rest = c.loop-at-3.invariant.rest;
    }

pub returns : goal.returns
returns c =
    all_copied c.args.words.now c.args.other.now c.loop-at-3.words c.loop-at-3.at c.args.end c.args.old_end c.requires.same c.loop-at-3.invariant.rest c.type_inv.other
    c.requires.clear c.loop-at-3.invariant.past (omega arith) c.loop-at-3.invariant.copied
