use Rattle.std.proofs.Common.{length}
use Rattle.span_model.specs.Columns.{set_of}
use Rattle.gf2_span.proofs.Bits.{no_first}
use Rattle.gf2_span.proofs.row.BitRow.is_zero.Goals as goal

pub returns : goal.returns
returns c = no_first (set_of c.args.self.now) c.first.result c.is_none.result (length c.args.self.now) c.is_none.ensures c.first.ensures
