use Rattle.std.proofs.Common.{sym}
use Rattle.gf2_span.proofs.Bits.{length-bits}
use Rattle.gf2_span.proofs.row.BitRow.columns.Goals as goal

pub returns : goal.returns
returns c = rw (← c.self.view_is) (sym (length-bits c.self.inside.columns c.self.inside.words.items))
