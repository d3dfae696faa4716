use Rattle.std.proofs.Common.{ℕ, ap, ◌∙◌, codes, decimal}
use Rattle.tor_edge.proofs.Writing.{Wrote-is}
use Rattle.c_text.specs.CText.{masked_text}
use Rattle.c_text.proofs.Joining.{five}
use Rattle.c_text.proofs.file.put_masked.Goals as goal

pub returns : goal.returns
returns g c =
    Wrote-is
    (five (codes "void masked(reg out[") (decimal c.from.result) (codes "][D], reg in[") (decimal c.from-2.result)
    (codes "][D]) {\n")
    ∙ ap (λ (outputs : ℕ). masked_text outputs c.from-2.result) c.from.ensures
    ∙ ap (masked_text c.args.outputs) c.from-2.ensures)
    c.put_pieces.ensures
