use Rattle.std.proofs.Common.{◌++◌, codes}
use Rattle.tor_edge.proofs.Writing.{Wrote-is, Wrote-then, Wrote-stops}
use Rattle.linear_view.specs.RowsText.{row_text}
use Rattle.attack_text.proofs.WriteLemmas.{leak_is}
use Rattle.attack_text.proofs.write.put_leak.Goals as goal

pub returns-in_err-put_text : goal.returns-in_err-put_text
returns-in_err-put_text g c =
    Wrote-is (leak_is c.args.view.now.columns c.args.leak.now)
    (Wrote-stops (row_text c.args.view.now.columns c.args.leak.now ++ codes "\n") c.in_err-put_text.ensures.wrote c.from_residual.ensures.0)

pub returns-in_err-write_columns : goal.returns-in_err-write_columns
returns-in_err-write_columns g c =
    Wrote-is (leak_is c.args.view.now.columns c.args.leak.now)
    (Wrote-then c.in_ok-put_text.ensures.wrote
    (Wrote-stops (codes "\n") c.in_err-write_columns.ensures c.from_residual-in_err-write_columns.ensures.0))

pub returns : goal.returns
returns g c =
    Wrote-is (leak_is c.args.view.now.columns c.args.leak.now)
    (Wrote-then c.in_ok-put_text.ensures.wrote (Wrote-then c.in_ok-write_columns.ensures c.put_text-2.ensures.wrote))
