use Rattle.std.proofs.Common.{drop}
use Rattle.usuba_cells.specs.Counters.{around}
use Rattle.usuba_walk.proofs.Expressions.{PartsSoFar, LinksSoFar}
use Rattle.usuba_walk.proofs.expression.+expressions.Given as goal

abbrev pub invariant-walk_parts-loop-part : goal.invariant-walk_parts-loop-part
invariant-walk_parts-loop-part l =
    PartsSoFar l.scope.width l.scope.definitions.now l.scope.variables (around l.counters) l.fn.progress l.progress l.size l.parts (drop l.part-index l.parts)

abbrev pub invariant-walk_links-loop-link : goal.invariant-walk_links-loop-link
invariant-walk_links-loop-link l =
    LinksSoFar l.scope.width l.scope.definitions.now l.scope.variables (around l.counters) l.op l.fn.size l.fn.progress l.progress l.links (drop l.link-index l.links)
