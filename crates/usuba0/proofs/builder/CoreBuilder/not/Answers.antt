use Rattle.usuba0.proofs.KeepLemmas.{xor_ones_lt}
use Rattle.usuba0.proofs.builder.CoreBuilder.not.Goals as goal

pub keep-requires-clause-head : goal.keep-requires-clause-head
keep-requires-clause-head c =
    let fits = rw (← c.keep.view_is) at c.in-Some.ensures.fits in
    rw (← c.keep.view_is) (xor_ones_lt c.keep.inside.width c.in-Some.c c.all_ones.result fits c.all_ones.ensures)
