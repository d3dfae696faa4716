use Rattle.std.proofs.Common.{ap}
use Rattle.tor_edge.proofs.Writing.{Wrote-is}
use Rattle.c_text.specs.CText.{head_text}
use Rattle.c_text.proofs.file.put_head.Goals as goal

pub returns : goal.returns
returns g c = Wrote-is (ap head_text c.from.ensures) c.put_pieces.ensures
