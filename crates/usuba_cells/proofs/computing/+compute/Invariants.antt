use Rattle.std.proofs.Common.{◌≡◌, drop}
use Rattle.usuba_model.specs.Indexes.{applied_all, computed}
use Rattle.usuba_cells.specs.Counters.{around, computed_of}
use Rattle.usuba_cells.proofs.ChainParts.{parts_of}
use Rattle.usuba_cells.proofs.computing.+compute.Given as goal

abbrev pub decreases-compute : goal.decreases-compute
decreases-compute l = goal.size-compute l

abbrev pub invariant-loop-link : goal.invariant-loop-link
invariant-loop-link l =
    applied_all (around l.counters) (computed_of l.so_far) (parts_of (drop l.link-index l.link-items)) ≡ computed l.index (around l.counters)
