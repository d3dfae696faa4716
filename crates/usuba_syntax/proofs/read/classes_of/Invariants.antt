use Rattle.std.proofs.Common.{◌≡◌, take, map}
use Rattle.usuba_syntax.specs.Classes as classes
use Rattle.usuba_syntax.proofs.read.classes_of.Given as goal

abbrev pub invariant-loop-token : goal.invariant-loop-token
invariant-loop-token l = l.classes.items ≡ map classes.class_of (take l.token-index l.tokens)
