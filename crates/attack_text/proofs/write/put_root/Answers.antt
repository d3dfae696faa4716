use Rattle.std.proofs.Common.{◌++◌, codes, decimal, map}
use Rattle.tor_edge.proofs.Writing.{Wrote-then, Wrote-stops}
use Rattle.text_lines.specs.Words.{spaced}
use Rattle.attack_text.proofs.write.put_root.Goals as goal

pub returns-in_err-put_text : goal.returns-in_err-put_text
returns-in_err-put_text g c =
    Wrote-stops (spaced (map decimal c.args.uses.now) ++ codes "\n") c.in_err-put_text.ensures.wrote c.from_residual.ensures.0

pub returns-in_err-put_uses : goal.returns-in_err-put_uses
returns-in_err-put_uses g c =
    Wrote-then c.in_ok-put_text.ensures.wrote (Wrote-stops (codes "\n") c.in_err-put_uses.ensures c.from_residual-in_err-put_uses.ensures.0)

pub returns : goal.returns
returns g c = Wrote-then c.in_ok-put_text.ensures.wrote (Wrote-then c.in_ok-put_uses.ensures c.put_text-2.ensures.wrote)
