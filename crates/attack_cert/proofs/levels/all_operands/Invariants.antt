use Rattle.std.proofs.Common.{◌≡◌}
use Rattle.attack_cert.specs.Levels.{steps_of}
use Rattle.attack_cert.specs.Levelled.{operand_steps}
use Rattle.attack_cert.proofs.levels.all_operands.Given as goal

abbrev pub invariant-loop-product : goal.invariant-loop-product
invariant-loop-product l = operand_steps l.operands.items ≡ steps_of l.product
