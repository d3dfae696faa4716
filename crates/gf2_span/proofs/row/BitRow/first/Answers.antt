use Rattle.std.proofs.Common.{length}
use Rattle.span_model.specs.Columns.{set_of}
use Rattle.gf2_span.proofs.Bits.{first_of_all}
use Rattle.gf2_span.proofs.row.BitRow.first.Goals as goal

pub returns : goal.returns
returns c = first_of_all (set_of c.args.self.now) (length c.args.self.now) c.first_from.result c.first_from.ensures
