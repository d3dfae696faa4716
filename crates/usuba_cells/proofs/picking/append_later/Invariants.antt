use Rattle.std.proofs.Common.{◌+◌, ◌-◌}
use Rattle.usuba_cells.proofs.PartLemmas.{Copied}
use Rattle.usuba_cells.proofs.picking.append_later.Given as goal

abbrev pub invariant-loop-part : goal.invariant-loop-part
invariant-loop-part l = Copied l.fn.numbers.items l.stride l.start l.end l.parts.first l.parts.last l.part l.numbers.items

abbrev pub decreases-loop-part : goal.decreases-loop-part
decreases-loop-part l = (l.part - l.parts.last) + (l.parts.last - l.part)
