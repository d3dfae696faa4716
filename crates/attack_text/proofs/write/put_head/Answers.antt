use Rattle.tor_edge.proofs.Writing.{Wrote-is}
use Rattle.attack_text.proofs.WriteLemmas.{head_is}
use Rattle.attack_text.proofs.write.put_head.Goals as goal

pub returns : goal.returns
returns g c = Wrote-is (head_is c.from.result c.from-2.result c.args.columns c.args.products c.from.ensures c.from-2.ensures) c.put_pieces.ensures
