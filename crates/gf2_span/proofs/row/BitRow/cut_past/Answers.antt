use Rattle.std.proofs.Common.{ℕ, ◌<◌, ◌≡◌, false, arith}
use Rattle.span_model.specs.Columns.{set_of}
use Rattle.gf2_span.specs.Words.{bits_of}
use Rattle.gf2_span.proofs.Bits.{row_cut}
use Rattle.gf2_span.proofs.row.BitRow.cut_past.Goals as goal

pub invariant_of-self : goal.invariant_of-self
invariant_of-self c =
    let none : (d : ℕ) → c.args.lead < d → set_of (bits_of c.self.inside.columns c.self.inside.words.items) d ≡ false = rw c.self.view_is c.requires in
    row_cut c.self.inside.columns c.self.inside.words.items c.self.inside.end c.min-self-inside.result c.args.lead c.self.invariant none
    (omega (arith, c.min-self-inside.ensures)) (λ m low high. omega (arith, c.min-self-inside.ensures))
