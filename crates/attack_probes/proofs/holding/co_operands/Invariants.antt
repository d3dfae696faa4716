use Rattle.std.proofs.Common.{◌≡◌, take}
use Rattle.attack_probes.specs.Operands.{co_operands_of}
use Rattle.attack_probes.proofs.holding.co_operands.Given as goal

abbrev pub invariant-loop-k : goal.invariant-loop-k
invariant-loop-k l = l.operands.items ≡ co_operands_of l.steps (take l.k-index l.uses)
