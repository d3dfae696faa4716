use Rattle.std.proofs.Common.{refl, ◌-◌}
use Rattle.usuba0.proofs.KeepLemmas.{rotated_lt, Grows-none}
use Rattle.usuba0.proofs.builder.CoreBuilder.shift.Goals as goal

pub returns-then-k-eq0-clause-grows : goal.returns-then-k-eq0-clause-grows
returns-then-k-eq0-clause-grows c = rw (← c.self.view_is) (Grows-none _ _ _ c.self.invariant.once refl)

pub keep-requires-in-RotLeft-Some-clause-head : goal.keep-requires-in-RotLeft-Some-clause-head
keep-requires-in-RotLeft-Some-clause-head c =
    let fits = rw (← c.self.view_is) at c.in-RotLeft-Some.ensures.fits in
    rw (← c.self.view_is) (rotated_lt c.self.inside.width c.args.k c.in-RotLeft-Some.c c.rotate_left.result fits c.rotate_left.ensures)

pub keep-requires-in-RotRight-Some-clause-head : goal.keep-requires-in-RotRight-Some-clause-head
keep-requires-in-RotRight-Some-clause-head c =
    let fits = rw (← c.self.view_is) at c.in-RotRight-Some.ensures.fits in
    rw (← c.self.view_is)
    (rotated_lt c.self.inside.width (c.self.inside.width - c.args.k) c.in-RotRight-Some.c c.rotate_left-in-RotRight-Some.result fits c.rotate_left-in-RotRight-Some.ensures)
