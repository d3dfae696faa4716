use Rattle.std.proofs.Common.{◌≡◌, length, ap, arith}
use Rattle.gf2_span.proofs.Bits.{as_long, rows_compared}
use Rattle.gf2_span.proofs.row.BitRow.equals.Goals as goal

pub returns-then-self-other : goal.returns-then-self-other
returns-then-self-other c =
    rw (← c.self.view_is, ← c.other.view_is) (λ e.
    let columns : c.self.inside.columns ≡ c.other.inside.columns =
    as_long c.self.inside.columns c.other.inside.columns c.self.inside.words.items c.other.inside.words.items (ap length e) in
    absurd (omega arith))

pub are_same-requires-clause-same : goal.are_same-requires-clause-same
are_same-requires-clause-same c =
    rw (c.deref.ensures.value, c.deref-2.ensures.value)
    (omega (arith, c.self.invariant.padded.long, c.other.invariant.padded.long))

pub are_same-requires-clause-within : goal.are_same-requires-clause-within
are_same-requires-clause-within c =
    let as_many : length c.self.inside.words.items ≡ length c.other.inside.words.items =
    omega (arith, c.self.invariant.padded.long, c.other.invariant.padded.long) in
    rw c.deref-2.ensures.value (omega (arith, c.max.ensures, c.self.invariant.within, c.other.invariant.within))

pub are_same-requires-clause-clear : goal.are_same-requires-clause-clear
are_same-requires-clause-clear c =
    rw c.deref.ensures.value (λ d h. c.self.invariant.rest d (omega (arith, c.max.ensures)))

pub are_same-requires-clause-other_clear : goal.are_same-requires-clause-other_clear
are_same-requires-clause-other_clear c =
    rw c.deref-2.ensures.value (λ d h. c.other.invariant.rest d (omega (arith, c.max.ensures)))

pub returns : goal.returns
returns c =
    rw (← c.self.view_is, ← c.other.view_is)
    (rows_compared c.self.inside.columns c.other.inside.columns c.self.inside.words.items c.other.inside.words.items
    c.are_same.result c.self.invariant.padded c.other.invariant.padded (omega arith)
    (rw (← c.deref.ensures.value, ← c.deref-2.ensures.value) c.are_same.ensures))
