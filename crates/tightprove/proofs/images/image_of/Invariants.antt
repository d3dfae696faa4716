use Rattle.std.proofs.Common.{◌≡◌, ◌≤◌, ◌-◌, length}
use Rattle.span_model.specs.Columns.{set_of}
use Rattle.tightprove.specs.Private.Images.{image_below}
use Rattle.tightprove.proofs.images.image_of.Given as goal

abbrev pub invariant-loop-c : goal.invariant-loop-c
invariant-loop-c l = record { within : l.start ≤ length l.words; image : l.image ≡ image_below l.words (set_of l.row) l.start }

abbrev pub decreases-loop-c : goal.decreases-loop-c
decreases-loop-c l = length l.words - l.start
