use Rattle.std.proofs.Common.{ℕ, List, Some, None, ◌≡◌, ◌*◌, ◌+◌, ◌/◌, ◌≤◌, ◌<◌, length, arith, false}
use Rattle.gf2_span.specs.Words.{bits_of, is_set, IsLastBelow}
use Rattle.gf2_span.proofs.Kernels.{last_wider}
use Rattle.gf2_span.proofs.Bits.{length-bits, last_column, no_column_below}
use Rattle.gf2_span.proofs.row.BitRow.last_before.Goals as goal

in_words : (columns end : ℕ) (words : List ℕ) → end ≤ length (bits_of columns words) → length words ≡ (columns + 63) / 64 → end ≤ 64 * length words
in_words columns end words h long = omega (arith, length-bits columns words)

pub last_bit-requires-clause-within : goal.last_bit-requires-clause-within
last_bit-requires-clause-within c =
    let end : c.args.end ≤ length (bits_of c.self.inside.columns c.self.inside.words.items) = rw c.self.view_is c.requires in
    let all : c.args.end ≤ 64 * length c.self.inside.words.items = in_words c.self.inside.columns c.args.end c.self.inside.words.items end c.self.invariant.padded.long in
    rw c.deref.ensures.value (omega (arith, c.min.ensures))

pub returns-in-Some : goal.returns-in-Some
returns-in-Some c =
    let found : IsLastBelow (is_set c.self.inside.words.items) c.min.result c.in-Some.c = rw (← c.deref.ensures.value) c.in-Some.ensures in
    let last : IsLastBelow (is_set c.self.inside.words.items) c.args.end c.in-Some.c =
    last_wider c.self.inside.words.items c.min.result c.args.end (Some c.in-Some.c) (omega (arith, c.min.ensures))
    (λ d low high. c.self.invariant.rest d (omega (arith, c.min.ensures))) found in
    rw (← c.self.view_is) (last_column c.self.inside.columns c.self.inside.words.items c.args.end c.in-Some.c c.self.invariant.padded last)

pub returns-in-None : goal.returns-in-None
returns-in-None c =
    let found : (d : ℕ) → d < c.min.result → is_set c.self.inside.words.items d ≡ false = rw (← c.deref.ensures.value) c.in-None.ensures in
    let none : (d : ℕ) → d < c.args.end → is_set c.self.inside.words.items d ≡ false =
    last_wider c.self.inside.words.items c.min.result c.args.end None (omega (arith, c.min.ensures))
    (λ d low high. c.self.invariant.rest d (omega (arith, c.min.ensures))) found in
    rw (← c.self.view_is) (no_column_below c.self.inside.columns c.self.inside.words.items c.args.end c.self.invariant.padded none)
