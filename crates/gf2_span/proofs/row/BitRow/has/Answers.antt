use Rattle.std.proofs.Common.{sym, ◌∙◌}
use Rattle.gf2_span.proofs.Bits.{bit-bits, bit_test, past_unset}
use Rattle.gf2_span.proofs.row.BitRow.has.Goals as goal

pub returns-in-Some : goal.returns-in-Some
returns-in-Some c =
    rw (← c.self.view_is) (bit_test c.self.inside.words.items c.args.c c.in-Some.word.now (rw (← c.deref.ensures.value) (c.in-Some.ensures.lookup.3.1 0)) ∙ sym (bit-bits c.self.inside.columns c.self.inside.words.items c.self.invariant.padded c.args.c))

pub returns-in-None : goal.returns-in-None
returns-in-None c =
    rw (← c.self.view_is) (sym (past_unset c.self.inside.words.items c.args.c (rw (← c.deref.ensures.value) c.in-None.ensures.lookup.3)) ∙ sym (bit-bits c.self.inside.columns c.self.inside.words.items c.self.invariant.padded c.args.c))
