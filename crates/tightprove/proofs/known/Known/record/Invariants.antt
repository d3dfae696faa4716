use Rattle.std.proofs.Common.{◌≡◌}
use Rattle.tightprove.proofs.known.Known.record.Given as goal

abbrev pub invariant-loop-lead : goal.invariant-loop-lead
invariant-loop-lead l = l.self.spans.items ≡ l.initial.self.spans.items
