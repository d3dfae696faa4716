use Rattle.std.proofs.Common.{length}
use Rattle.tightprove.proofs.gathered.empty_out.Given as goal

abbrev pub decreases-pops : goal.decreases-pops
decreases-pops l = length l.numbers
