use Rattle.std.proofs.Common.{◌-◌, refl, sym, ap, ◌∙◌, subst, arith}
use Rattle.share_gadgets.specs.Private.Shift.{shifted, IsWithin}
use Rattle.share_gadgets.proofs.EquationLemmas.{left_word, rotated_word}
use Rattle.share_gadgets.proofs.shifts.shift_word.Goals as goal

pub returns-in-Left : goal.returns-in-Left
returns-in-Left g c =
    ap g.R.Register.word (c.and.ensures ∙ ap (λ x. g.R.Register.and x c.args.full) c.shl.ensures)
    ∙ left_word g.R.Register.word g.R.Register.bits c.args.bits c.requires.room g.R.Register.and g.met.R.Register.word_and g.R.Register.shl g.met.R.Register.word_shl
    c.args.word c.args.full c.in-Left.k c.requires.full
    ∙ ap (λ by. shifted c.args.bits by (g.R.Register.word c.args.word)) (sym c.in-Left.is)

pub returns-in-Rotate : goal.returns-in-Rotate
returns-in-Rotate g c =
    let within = subst (IsWithin c.args.bits) c.in-Rotate.is c.requires.within in
    let below = within.below in
    ap g.R.Register.word (c.xor.ensures ∙ (λ k. g.R.Register.xor ((c.and-in-Rotate.ensures ∙ ap (λ x. g.R.Register.and x c.args.full) c.shl-in-Rotate.ensures) k) (c.shr-in-Rotate.ensures k)))
    ∙ rotated_word g.R.Register.word g.R.Register.bits c.args.bits c.requires.room g.R.Register.and g.met.R.Register.word_and g.R.Register.shl g.met.R.Register.word_shl
    g.R.Register.xor g.R.Register.shr g.met.R.Register.word_xor g.met.R.Register.word_shr
    c.args.word c.args.full c.in-Rotate.k (c.args.bits - c.in-Rotate.k) c.requires.full (omega (arith, below)) refl c.requires.word
    ∙ ap (λ by. shifted c.args.bits by (g.R.Register.word c.args.word)) (sym c.in-Rotate.is)
