use Rattle.std.proofs.Common.{ℕ, List, ◌≡◌, ◌/◌, ◌+◌, ◌∙◌, ◌<◌, length, get_or, arith}
use Rattle.std.proofs.lemmas.List.{get_or_default}
use Rattle.gf2_span.specs.Words.{bits_of}
use Rattle.gf2_span.proofs.Bits.{length-bits, row_flipped, bits-flip}
use Rattle.gf2_span.proofs.row.BitRow.flip.Goals as goal

in_columns : (columns c : ℕ) (words : List ℕ) → c < length (bits_of columns words) → c < columns
in_columns columns c words h = omega (arith, length-bits columns words)

in_words : (columns c : ℕ) (words : List ℕ) → c < columns → length words ≡ (columns + 63) / 64 → c / 64 < length words
in_words columns c words h long = omega arith

pub index_mut-requires : goal.index_mut-requires
index_mut-requires c =
    let within : c.args.c < length (bits_of c.self.inside.columns c.self.inside.words.items) = rw c.self.view_is c.requires in
    let word : c.args.c / 64 < length c.self.inside.words.items = in_words c.self.inside.columns c.args.c c.self.inside.words.items (in_columns c.self.inside.columns c.args.c c.self.inside.words.items within) c.self.invariant.padded.long in
    omega (arith, c.self.inside.words.ok)

pub invariant_of-self : goal.invariant_of-self
invariant_of-self c =
    let within : c.args.c < length (bits_of c.self.inside.columns c.self.inside.words.items) = rw c.self.view_is c.requires in
    let inside : c.args.c < c.self.inside.columns = in_columns c.self.inside.columns c.args.c c.self.inside.words.items within in
    let e : c.index_mut.result.now ≡ get_or c.self.inside.words.items (c.args.c / 64) 0 =
    c.index_mut.ensures.value ∙ get_or_default c.self.inside.words.items (c.args.c / 64) c.index_mut.result.now 0 (in_words c.self.inside.columns c.args.c c.self.inside.words.items inside c.self.invariant.padded.long) in
    let word : c.args.c / 64 < length c.self.inside.words.items = in_words c.self.inside.columns c.args.c c.self.inside.words.items inside c.self.invariant.padded.long in
    rw e (row_flipped c.self.inside.columns c.self.inside.words.items c.self.inside.end c.args.c c.max-self-inside.result c.self.invariant inside
    (omega (arith, c.max-self-inside.ensures)) (omega (arith, c.max-self-inside.ensures)) (omega (arith, c.max-self-inside.ensures, c.self.invariant.within)))

pub returns : goal.returns
returns c =
    let within : c.args.c < length (bits_of c.self.inside.columns c.self.inside.words.items) = rw c.self.view_is c.requires in
    let inside : c.args.c < c.self.inside.columns = in_columns c.self.inside.columns c.args.c c.self.inside.words.items within in
    let e : c.index_mut.result.now ≡ get_or c.self.inside.words.items (c.args.c / 64) 0 =
    c.index_mut.ensures.value ∙ get_or_default c.self.inside.words.items (c.args.c / 64) c.index_mut.result.now 0 (in_words c.self.inside.columns c.args.c c.self.inside.words.items inside c.self.invariant.padded.long) in
    rw (e, ← c.self.view_is) (bits-flip c.self.inside.columns c.self.inside.words.items c.args.c c.self.invariant.padded inside)
