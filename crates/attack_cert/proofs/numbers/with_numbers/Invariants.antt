use Rattle.std.proofs.Common.{◌≡◌, map, take}
use Rattle.attack_cert.proofs.Numbering.{numbered_step}
use Rattle.attack_cert.proofs.numbers.with_numbers.Given as goal

abbrev pub invariant-loop-kept : goal.invariant-loop-kept
invariant-loop-kept l = l.steps ≡ map (numbered_step l.listed l.numbers.items) (take l.kept-index l.reached.kept.items)
