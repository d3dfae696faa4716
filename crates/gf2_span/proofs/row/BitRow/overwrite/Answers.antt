use Rattle.std.proofs.Common.{◌≡◌, length, arith}
use Rattle.gf2_span.specs.Words.{bits_of}
use Rattle.gf2_span.proofs.Bits.{as_long}
use Rattle.gf2_span.proofs.row.BitRow.overwrite.Goals as goal

pub overwrite_words-requires-clause-same : goal.overwrite_words-requires-clause-same
overwrite_words-requires-clause-same c =
    let same : length (bits_of c.self.inside.columns c.self.inside.words.items) ≡ length (bits_of c.other.inside.columns c.other.inside.words.items) = rw (c.self.view_is, c.other.view_is) c.requires in
    let columns : c.self.inside.columns ≡ c.other.inside.columns = as_long c.self.inside.columns c.other.inside.columns c.self.inside.words.items c.other.inside.words.items same in
    let as_many : length c.self.inside.words.items ≡ length c.other.inside.words.items = omega (arith, c.self.invariant.padded.long, c.other.invariant.padded.long) in
    omega (arith, c.self.inside.words.ok, c.other.inside.words.ok, c.deref.ensures.len)

pub overwrite_words-requires-clause-old_within : goal.overwrite_words-requires-clause-old_within
overwrite_words-requires-clause-old_within c =
    let same : length (bits_of c.self.inside.columns c.self.inside.words.items) ≡ length (bits_of c.other.inside.columns c.other.inside.words.items) = rw (c.self.view_is, c.other.view_is) c.requires in
    let columns : c.self.inside.columns ≡ c.other.inside.columns = as_long c.self.inside.columns c.other.inside.columns c.self.inside.words.items c.other.inside.words.items same in
    let as_many : length c.self.inside.words.items ≡ length c.other.inside.words.items = omega (arith, c.self.invariant.padded.long, c.other.invariant.padded.long) in
    rw (c.deref.ensures.value, ← as_many) c.self.invariant.within

pub overwrite_words-requires-clause-within : goal.overwrite_words-requires-clause-within
overwrite_words-requires-clause-within c = rw c.deref.ensures.value c.other.invariant.within

pub overwrite_words-requires-clause-clear : goal.overwrite_words-requires-clause-clear
overwrite_words-requires-clause-clear c = rw c.deref.ensures.value c.other.invariant.rest

pub invariant_of-self : goal.invariant_of-self
invariant_of-self c =
    let same : length (bits_of c.self.inside.columns c.self.inside.words.items) ≡ length (bits_of c.other.inside.columns c.other.inside.words.items) = rw (c.self.view_is, c.other.view_is) c.requires in
    let columns : c.self.inside.columns ≡ c.other.inside.columns = as_long c.self.inside.columns c.other.inside.columns c.self.inside.words.items c.other.inside.words.items same in
    rw (c.overwrite_words.ensures, c.deref.ensures.value, columns) c.other.invariant

pub returns : goal.returns
returns c =
    let same : length (bits_of c.self.inside.columns c.self.inside.words.items) ≡ length (bits_of c.other.inside.columns c.other.inside.words.items) = rw (c.self.view_is, c.other.view_is) c.requires in
    let columns : c.self.inside.columns ≡ c.other.inside.columns = as_long c.self.inside.columns c.other.inside.columns c.self.inside.words.items c.other.inside.words.items same in
    rw (c.overwrite_words.ensures, c.deref.ensures.value, columns) c.other.view_is
