use Rattle.std.proofs.Common.{◌≡◌, ◌≤◌, sym, ◌∙◌, length, arith}
use Rattle.gf2_span.specs.Words.{bits_of, IsRow}
use Rattle.gf2_span.proofs.Bits.{length-bits, as_long, other_row, row_sum, set_of-sum}
use Rattle.gf2_span.proofs.row.BitRow.add.Goals as goal

pub add_words-requires-clause-same : goal.add_words-requires-clause-same
add_words-requires-clause-same c =
    let same : length (bits_of c.self.inside.columns c.self.inside.words.items) ≡ length (bits_of c.other.inside.columns c.other.inside.words.items) = rw (c.self.view_is, c.other.view_is) c.requires in
    let columns : c.self.inside.columns ≡ c.other.inside.columns = as_long c.self.inside.columns c.other.inside.columns c.self.inside.words.items c.other.inside.words.items same in
    let as_many : length c.self.inside.words.items ≡ length c.other.inside.words.items = omega (arith, c.self.invariant.padded.long, c.other.invariant.padded.long) in
    omega (arith, c.self.inside.words.ok, c.other.inside.words.ok, c.deref.ensures.len)

pub add_words-requires-clause-within : goal.add_words-requires-clause-within
add_words-requires-clause-within c = rw c.deref.ensures.value c.other.invariant.within

pub add_words-requires-clause-clear : goal.add_words-requires-clause-clear
add_words-requires-clause-clear c = rw c.deref.ensures.value c.other.invariant.rest

pub invariant_of-self : goal.invariant_of-self
invariant_of-self c =
    let same : length (bits_of c.self.inside.columns c.self.inside.words.items) ≡ length (bits_of c.other.inside.columns c.other.inside.words.items) = rw (c.self.view_is, c.other.view_is) c.requires in
    let row : IsRow c.self.inside.columns c.other.inside.words.items c.other.inside.end = other_row c.self.inside.columns c.other.inside.columns c.self.inside.words.items c.other.inside.words.items c.other.inside.end same c.other.invariant in
    let fits : c.max-self-inside.result ≤ length c.self.inside.words.items =
    omega (arith, c.max-self-inside.ensures, c.self.invariant.within, row.within, row.padded.long, c.self.invariant.padded.long) in
    rw (c.add_words.ensures, c.deref.ensures.value) (row_sum c.self.inside.columns c.self.inside.words.items c.other.inside.words.items c.self.inside.end c.other.inside.end c.max-self-inside.result
    c.self.invariant row (omega (arith, c.max-self-inside.ensures)) (omega (arith, c.max-self-inside.ensures)) fits)

pub returns-clause-columns : goal.returns-clause-columns
returns-clause-columns c =
    rw (← c.self.view_is) (length-bits c.self.inside.columns c.add_words.new.words.items ∙ sym (length-bits c.self.inside.columns c.self.inside.words.items))

pub returns-clause-sum : goal.returns-clause-sum
returns-clause-sum c =
    let same : length (bits_of c.self.inside.columns c.self.inside.words.items) ≡ length (bits_of c.other.inside.columns c.other.inside.words.items) = rw (c.self.view_is, c.other.view_is) c.requires in
    let columns : c.self.inside.columns ≡ c.other.inside.columns = as_long c.self.inside.columns c.other.inside.columns c.self.inside.words.items c.other.inside.words.items same in
    let row : IsRow c.self.inside.columns c.other.inside.words.items c.other.inside.end = other_row c.self.inside.columns c.other.inside.columns c.self.inside.words.items c.other.inside.words.items c.other.inside.end same c.other.invariant in
    rw (c.add_words.ensures, c.deref.ensures.value, ← c.self.view_is, ← c.other.view_is, ← columns) (set_of-sum c.self.inside.columns c.self.inside.words.items c.other.inside.words.items c.self.invariant.padded row.padded)
