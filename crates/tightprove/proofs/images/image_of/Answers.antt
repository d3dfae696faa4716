use Rattle.std.proofs.Common.{◌≡◌, ◌≤◌, ℕ, length, get_or, bit_xor, false, sym, ap, ◌∙◌, arith}
use Rattle.span_model.specs.Columns.{Columns, set_of}
use Rattle.tightprove.proofs.Calls.{of_none}
use Rattle.tightprove.proofs.Imaging.{below_same, below_more}
use Rattle.tightprove.proofs.images.image_of.Goals as goal

pub loop-c-preserved : goal.loop-c-preserved
loop-c-preserved c =
    let v : Columns ℕ = set_of c.args.row.now in
    let first = c.in-Some.ensures in
    record {
      within = omega (arith, first.0, c.requires.count);
      image = ap (λ x. bit_xor x (get_or c.args.words.now c.in-Some.c 0)) c.loop-c.invariant.image
          ∙ sym (below_more c.args.words.now v c.loop-c.start c.in-Some.c first.1.from first.1.there first.1.none_before);
    }

pub returns : goal.returns
returns c =
    let v : Columns ℕ = set_of c.args.row.now in
    let none : (d : ℕ) → c.loop-c.start ≤ d → set_of c.args.row.now d ≡ false = of_none c.first_from.result _ _ c.in_default.is c.first_from.ensures in
    c.loop-c.invariant.image
    ∙ sym (below_same c.args.words.now v c.loop-c.start (length c.args.words.now) c.loop-c.invariant.within (λ d h k. none d h))
