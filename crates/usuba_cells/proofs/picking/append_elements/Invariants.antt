use Rattle.usuba_cells.specs.State.Brackets.{brackets}
use Rattle.usuba_cells.proofs.Elements.{Reached}
use Rattle.usuba_cells.proofs.picking.append_elements.Given as goal

abbrev pub invariant-loop-level : goal.invariant-loop-level
invariant-loop-level l = Reached l.first l.sizes (brackets l.counters l.picks) l.fn.numbers.items l.level l.stride l.numbers.items

abbrev pub decreases-loop-level : goal.decreases-loop-level
decreases-loop-level l = l.level
