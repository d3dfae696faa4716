use Rattle.std.proofs.Common.{take, reverse}
use Rattle.ll_reader.specs.Predictive.{weight_of}
use Rattle.ll_reader.proofs.Machine.{plain, Stands, Expands}
use Rattle.ll_reader.proofs.reader.read.Given as goal

abbrev pub invariant-loop-item : goal.invariant-loop-item
invariant-loop-item g l =
    Expands l.table l.frame g.facts l.class (take l.at l.classes) l.steps.items (reverse l.due.items)

abbrev pub decreases-loop-item : goal.decreases-loop-item
decreases-loop-item g l = weight_of g.facts (plain (reverse l.due.items))

abbrev pub invariant-loop-at : goal.invariant-loop-at
invariant-loop-at g l = Stands l.table l.frame g.facts (take l.at l.classes) l.steps.items (reverse l.due.items)
