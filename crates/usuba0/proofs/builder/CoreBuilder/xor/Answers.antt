use Rattle.std.proofs.lemmas.Nat.{xor_lt}
use Rattle.usuba0.proofs.builder.CoreBuilder.xor.Goals as goal

pub keep-requires-clause-head : goal.keep-requires-clause-head
keep-requires-clause-head c =
    xor_lt c.args.self.now.width c.in-Some-Some.c c.in-Some-Some.d c.in-Some-Some.ensures.fits c.in-Some-Some.ensures'.fits
