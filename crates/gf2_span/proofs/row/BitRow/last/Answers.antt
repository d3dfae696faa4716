use Rattle.std.proofs.Common.{length, ◌≡◌, sym, arith}
use Rattle.gf2_span.proofs.Bits.{length-bits, last_of_all}
use Rattle.gf2_span.proofs.row.BitRow.last.Goals as goal

pub last_before-requires : goal.last_before-requires
last_before-requires c = rw (← c.self.view_is) (omega (arith, length-bits c.self.inside.columns c.self.inside.words.items))

pub returns : goal.returns
returns c =
    let columns : c.self.inside.columns ≡ length c.args.self.now = rw (← c.self.view_is) (sym (length-bits c.self.inside.columns c.self.inside.words.items)) in
    last_of_all c.args.self.now c.self.inside.columns c.last_before.result columns c.last_before.ensures
