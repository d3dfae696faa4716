use Rattle.std.proofs.Common.{ℕ, ◌*◌, drop, map, ap, ◌∙◌}
use Rattle.std.proofs.lemmas.List.{take_rest}
use Rattle.share_gadgets.specs.MaskedRun.{sharing_of_equation}
use Rattle.share_gadgets.specs.Private.Cut.{cut_word}
use Rattle.share_gadgets.proofs.EquationLemmas.{carry}
use Rattle.share_gadgets.proofs.RunSteps.{drawn_rest}
use Rattle.share_gadgets.proofs.run.next_sharing.Goals as goal

pub returns : goal.returns
returns g c =
    let words = c.args.words.now in
    let start = c.args.drawing * c.pair_count.result in
    let rest = take_rest words start ∙ ap (λ (n : ℕ). drop (c.args.drawing * n) words) c.pair_count.ensures in
    let random = ap (cut_word c.args.bits) rest ∙ drawn_rest c.args.bits g.row.D words c.args.drawing in
    carry g.R.Register.word c.sharing_of.result _ _ c.sharing_of.ensures
    (ap (λ (r : ℕ → ℕ). sharing_of_equation c.args.width c.args.bits g.row.D r (map (map g.R.Register.word) c.args.sharings.now) c.args.gate.now) random)
