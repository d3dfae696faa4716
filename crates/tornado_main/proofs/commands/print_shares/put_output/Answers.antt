use Rattle.std.proofs.Common.{◌++◌, flat_map, codes}
use Rattle.tor_edge.proofs.Writing.{Wrote-is, Wrote-then, Wrote-stops}
use Rattle.tornado_main.specs.commands.Run.{share_text}
use Rattle.tornado_main.proofs.RunTextLemmas.{line_parts}
use Rattle.tornado_main.proofs.commands.print_shares.put_output.Goals as goal

pub returns-in_err-put_head : goal.returns-in_err-put_head
returns-in_err-put_head g c =
    Wrote-is (line_parts c.args.number c.args.shares.now)
    (Wrote-stops (flat_map share_text c.args.shares.now ++ codes "\n") c.in_err-put_head.ensures c.from_residual.ensures.0)

pub returns-in_err-put_shares : goal.returns-in_err-put_shares
returns-in_err-put_shares g c =
    Wrote-is (line_parts c.args.number c.args.shares.now)
    (Wrote-then c.in_ok-put_head.ensures (Wrote-stops (codes "\n") c.in_err-put_shares.ensures c.from_residual-in_err-put_shares.ensures.0))

pub returns : goal.returns
returns g c =
    Wrote-is (line_parts c.args.number c.args.shares.now)
    (Wrote-then c.in_ok-put_head.ensures (Wrote-then c.in_ok-put_shares.ensures c.put_text.ensures.wrote))
