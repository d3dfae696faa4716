use Rattle.std.proofs.Common.{◌≡◌, ◌++◌, map, take}
use Rattle.linear_view.specs.declared.operand.Operand.{Operand}
use Rattle.attack_cert.specs.declared.levels.Levelled.{Levelled}
use Rattle.attack_cert.proofs.levels.list.Given as goal

abbrev pub invariant-loop-operand : goal.invariant-loop-operand
invariant-loop-operand l =
    l.steps.items ≡ l.initial.steps.items ++ map (λ (t : Operand). let s : Levelled = record { operand = t; lower = l.lower } in s) (take l.operand-index l.level)
