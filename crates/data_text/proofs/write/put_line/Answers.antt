use Rattle.std.proofs.Common.{sym, append_assoc, codes, decimal, flat_map}
use Rattle.tor_edge.proofs.Writing.{Wrote-is, Wrote-then, Wrote-stops}
use Rattle.data_text.specs.Writing.{value_after}
use Rattle.data_text.proofs.write.put_line.Goals as goal

pub returns-in_err-put_number : goal.returns-in_err-put_number
returns-in_err-put_number g c =
    Wrote-is (sym (append_assoc (decimal c.args.first) (flat_map value_after c.args.more.now) (codes "\n")))
    (Wrote-stops _ c.in_err-put_number.ensures c.from_residual.ensures.0)

pub returns-in_err-put_more : goal.returns-in_err-put_more
returns-in_err-put_more g c =
    Wrote-is (sym (append_assoc (decimal c.args.first) (flat_map value_after c.args.more.now) (codes "\n")))
    (Wrote-then c.in_ok-put_number.ensures (Wrote-stops _ c.in_err-put_more.ensures c.from_residual-in_err-put_more.ensures.0))

pub returns : goal.returns
returns g c =
    Wrote-is (sym (append_assoc (decimal c.args.first) (flat_map value_after c.args.more.now) (codes "\n")))
    (Wrote-then c.in_ok-put_number.ensures (Wrote-then c.in_ok-put_more.ensures c.put_text.ensures.wrote))
