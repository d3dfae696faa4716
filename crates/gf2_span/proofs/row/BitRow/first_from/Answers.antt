use Rattle.std.proofs.Common.{ℕ, ◌≡◌, ◌≤◌, false}
use Rattle.gf2_span.specs.Words.{is_set}
use Rattle.gf2_span.specs.Rows.{IsFirstFrom}
use Rattle.gf2_span.proofs.Bits.{first_column_from, no_column_from}
use Rattle.gf2_span.proofs.row.BitRow.first_from.Goals as goal

pub first_bit_from-requires-clause-within : goal.first_bit_from-requires-clause-within
first_bit_from-requires-clause-within c = rw c.deref.ensures.value c.self.invariant.within

pub first_bit_from-requires-clause-clear : goal.first_bit_from-requires-clause-clear
first_bit_from-requires-clause-clear c = rw c.deref.ensures.value c.self.invariant.rest

pub returns-in-Some : goal.returns-in-Some
returns-in-Some c =
    let first : IsFirstFrom (is_set c.self.inside.words.items) c.args.start c.in-Some.c = rw (← c.deref.ensures.value) c.in-Some.ensures in
    rw (← c.self.view_is) (first_column_from c.self.inside.columns c.self.inside.words.items c.args.start c.in-Some.c c.self.invariant.padded first)

pub returns-in-None : goal.returns-in-None
returns-in-None c =
    let none : (d : ℕ) → c.args.start ≤ d → is_set c.self.inside.words.items d ≡ false = rw (← c.deref.ensures.value) c.in-None.ensures in
    rw (← c.self.view_is) (no_column_from c.self.inside.columns c.self.inside.words.items c.args.start c.self.invariant.padded none)
