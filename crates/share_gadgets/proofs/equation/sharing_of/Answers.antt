use Rattle.std.proofs.Common.{◌^◌, ◌<◌, length, map, sym, ap, ◌∙◌, subst, arith, lit<}
use Rattle.usuba0.specs.Circuit.{IsEquation}
use Rattle.usuba0.specs.Term.{shifted_left, shifted_right, rotated_left}
use Rattle.share_gadgets.specs.Gadgets.{constant_shares, xor_shares, not_shares, mask_shares, product_shares, refreshed_shares}
use Rattle.share_gadgets.specs.MaskedRun.{sharing_of_equation}
use Rattle.share_gadgets.specs.Private.Cut.{cut_word}
use Rattle.share_gadgets.proofs.EquationLemmas.{constant_is, ones_is, row_read, row_words, carry}
use Rattle.share_gadgets.proofs.equation.sharing_of.Goals as goal

pub returns-in-Const : goal.returns-in-Const
returns-in-Const g c =
    let h : c.in-Const.c < 2 ^ c.args.width = subst (IsEquation c.args.width (length c.args.sharings.now)) c.in-Const.is c.requires.gate in
    let made = (ap (constant_shares g.row.D) (constant_is c.args.width c.args.bits g.R.Register.bits c.in-Const.c c.constant_word.result c.constant_word.ensures c.requires.within c.requires.room h)) ∙ ap (sharing_of_equation c.args.width c.args.bits g.row.D (cut_word c.args.bits c.args.words.now) (map (map g.R.Register.word) c.args.sharings.now)) (sym c.in-Const.is) in
    carry g.R.Register.word c.constant.result _ _ c.constant.ensures made

pub returns-in-Xor : goal.returns-in-Xor
returns-in-Xor g c =
    let h : (c.in-Xor.a.0 < length c.args.sharings.now) × (c.in-Xor.b.0 < length c.args.sharings.now) = subst (IsEquation c.args.width (length c.args.sharings.now)) c.in-Xor.is c.requires.gate in
    let made = (λ k. xor_shares g.row.D ((row_read g.R.Register.word c.args.sharings.now c.in-Xor.a.0 c.index-sharings-a.result h.0 c.index-sharings-a.is) k) ((row_read g.R.Register.word c.args.sharings.now c.in-Xor.b.0 c.index-sharings-b.result h.1 c.index-sharings-b.is) k)) ∙ ap (sharing_of_equation c.args.width c.args.bits g.row.D (cut_word c.args.bits c.args.words.now) (map (map g.R.Register.word) c.args.sharings.now)) (sym c.in-Xor.is) in
    carry g.R.Register.word c.xor.result _ _ c.xor.ensures made

pub returns-in-Not : goal.returns-in-Not
returns-in-Not g c =
    let h : c.in-Not.a.0 < length c.args.sharings.now = subst (IsEquation c.args.width (length c.args.sharings.now)) c.in-Not.is c.requires.gate in
    let made = (λ k. not_shares (ones_is c.args.bits g.R.Register.bits c.all_ones.result c.all_ones.ensures c.requires.room k) ((row_read g.R.Register.word c.args.sharings.now c.in-Not.a.0 c.index-sharings-a-in-Not.result h c.index-sharings-a-in-Not.is) k)) ∙ ap (sharing_of_equation c.args.width c.args.bits g.row.D (cut_word c.args.bits c.args.words.now) (map (map g.R.Register.word) c.args.sharings.now)) (sym c.in-Not.is) in
    carry g.R.Register.word c.not.result _ _ c.not.ensures made

pub returns-in-Mask : goal.returns-in-Mask
returns-in-Mask g c =
    let h : (c.in-Mask.c < 2 ^ c.args.width) × (c.in-Mask.a.0 < length c.args.sharings.now) = subst (IsEquation c.args.width (length c.args.sharings.now)) c.in-Mask.is c.requires.gate in
    let made = (λ k. mask_shares (constant_is c.args.width c.args.bits g.R.Register.bits c.in-Mask.c c.constant_word-in-Mask.result c.constant_word-in-Mask.ensures c.requires.within c.requires.room h.0 k) ((row_read g.R.Register.word c.args.sharings.now c.in-Mask.a.0 c.index-sharings-a-in-Mask.result h.1 c.index-sharings-a-in-Mask.is) k)) ∙ ap (sharing_of_equation c.args.width c.args.bits g.row.D (cut_word c.args.bits c.args.words.now) (map (map g.R.Register.word) c.args.sharings.now)) (sym c.in-Mask.is) in
    carry g.R.Register.word c.mask.result _ _ c.mask.ensures made

pub returns-in-And : goal.returns-in-And
returns-in-And g c =
    let h : (c.in-And.a.0 < length c.args.sharings.now) × (c.in-And.b.0 < length c.args.sharings.now) = subst (IsEquation c.args.width (length c.args.sharings.now)) c.in-And.is c.requires.gate in
    let made = (λ k. product_shares g.row.D ((row_read g.R.Register.word c.args.sharings.now c.in-And.a.0 c.index-sharings-a-in-And.result h.0 c.index-sharings-a-in-And.is) k) ((row_read g.R.Register.word c.args.sharings.now c.in-And.b.0 c.index-sharings-b-in-And.result h.1 c.index-sharings-b-in-And.is) k) (cut_word c.args.bits c.args.words.now)) ∙ ap (sharing_of_equation c.args.width c.args.bits g.row.D (cut_word c.args.bits c.args.words.now) (map (map g.R.Register.word) c.args.sharings.now)) (sym c.in-And.is) in
    carry g.R.Register.word c.product.result _ _ c.product.ensures made

pub returns-in-Shl : goal.returns-in-Shl
returns-in-Shl g c =
    let h : (0 < c.in-Shl.k) × (c.in-Shl.k < c.args.width) × (c.in-Shl.a.0 < length c.args.sharings.now) = subst (IsEquation c.args.width (length c.args.sharings.now)) c.in-Shl.is c.requires.gate in
    let made = (ap (map (shifted_left c.args.bits c.in-Shl.k)) (row_read g.R.Register.word c.args.sharings.now c.in-Shl.a.0 c.index-sharings-a-in-Shl.result h.2 c.index-sharings-a-in-Shl.is)) ∙ ap (sharing_of_equation c.args.width c.args.bits g.row.D (cut_word c.args.bits c.args.words.now) (map (map g.R.Register.word) c.args.sharings.now)) (sym c.in-Shl.is) in
    carry g.R.Register.word c.shift_each.result _ _ c.shift_each.ensures made

pub returns-in-Shr : goal.returns-in-Shr
returns-in-Shr g c =
    let h : (0 < c.in-Shr.k) × (c.in-Shr.k < c.args.width) × (c.in-Shr.a.0 < length c.args.sharings.now) = subst (IsEquation c.args.width (length c.args.sharings.now)) c.in-Shr.is c.requires.gate in
    let made = (ap (map (shifted_right c.in-Shr.k)) (row_read g.R.Register.word c.args.sharings.now c.in-Shr.a.0 c.index-sharings-a-in-Shr.result h.2 c.index-sharings-a-in-Shr.is)) ∙ ap (sharing_of_equation c.args.width c.args.bits g.row.D (cut_word c.args.bits c.args.words.now) (map (map g.R.Register.word) c.args.sharings.now)) (sym c.in-Shr.is) in
    carry g.R.Register.word c.shift_each-in-Shr.result _ _ c.shift_each-in-Shr.ensures made

pub returns-in-Rotl : goal.returns-in-Rotl
returns-in-Rotl g c =
    let h : (0 < c.in-Rotl.k) × (c.in-Rotl.k < c.args.width) × (c.in-Rotl.a.0 < length c.args.sharings.now) = subst (IsEquation c.args.width (length c.args.sharings.now)) c.in-Rotl.is c.requires.gate in
    let made = (ap (map (rotated_left c.args.bits c.in-Rotl.k)) (row_read g.R.Register.word c.args.sharings.now c.in-Rotl.a.0 c.index-sharings-a-in-Rotl.result h.2 c.index-sharings-a-in-Rotl.is)) ∙ ap (sharing_of_equation c.args.width c.args.bits g.row.D (cut_word c.args.bits c.args.words.now) (map (map g.R.Register.word) c.args.sharings.now)) (sym c.in-Rotl.is) in
    carry g.R.Register.word c.shift_each-in-Rotl.result _ _ c.shift_each-in-Rotl.ensures made

pub returns-in-Refresh : goal.returns-in-Refresh
returns-in-Refresh g c =
    let h : c.in-Refresh.a.0 < length c.args.sharings.now = subst (IsEquation c.args.width (length c.args.sharings.now)) c.in-Refresh.is c.requires.gate in
    let made = (λ k. refreshed_shares g.row.D ((row_read g.R.Register.word c.args.sharings.now c.in-Refresh.a.0 c.index-sharings-a-in-Refresh.result h c.index-sharings-a-in-Refresh.is) k) (cut_word c.args.bits c.args.words.now)) ∙ ap (sharing_of_equation c.args.width c.args.bits g.row.D (cut_word c.args.bits c.args.words.now) (map (map g.R.Register.word) c.args.sharings.now)) (sym c.in-Refresh.is) in
    carry g.R.Register.word c.refreshed.result _ _ c.refreshed.ensures made

pub shift_each-requires : goal.shift_each-requires
shift_each-requires g c =
    let h : (0 < c.in-Shl.k) × (c.in-Shl.k < c.args.width) × (c.in-Shl.a.0 < length c.args.sharings.now) =
    subst (IsEquation c.args.width (length c.args.sharings.now)) c.in-Shl.is c.requires.gate in (
      lit< tt,
      (
        record { some = h.0; below = omega (arith, h.1, c.requires.within); fits = c.requires.fits },
        (
          c.requires.room,
          row_words g.R.Register.word c.args.sharings.now c.in-Shl.a.0 c.index-sharings-a-in-Shl.result c.args.bits g.row.D h.2 c.index-sharings-a-in-Shl.is c.requires.shared,
        ),
      ),
    )

pub shift_each-requires-in-Shr : goal.shift_each-requires-in-Shr
shift_each-requires-in-Shr g c =
    let h : (0 < c.in-Shr.k) × (c.in-Shr.k < c.args.width) × (c.in-Shr.a.0 < length c.args.sharings.now) =
    subst (IsEquation c.args.width (length c.args.sharings.now)) c.in-Shr.is c.requires.gate in (
      lit< tt,
      (
        record { some = h.0; below = omega (arith, h.1, c.requires.within); fits = c.requires.fits },
        (
          c.requires.room,
          row_words g.R.Register.word c.args.sharings.now c.in-Shr.a.0 c.index-sharings-a-in-Shr.result c.args.bits g.row.D h.2 c.index-sharings-a-in-Shr.is c.requires.shared,
        ),
      ),
    )

pub shift_each-requires-in-Rotl : goal.shift_each-requires-in-Rotl
shift_each-requires-in-Rotl g c =
    let h : (0 < c.in-Rotl.k) × (c.in-Rotl.k < c.args.width) × (c.in-Rotl.a.0 < length c.args.sharings.now) =
    subst (IsEquation c.args.width (length c.args.sharings.now)) c.in-Rotl.is c.requires.gate in (
      lit< tt,
      (
        record { some = h.0; below = omega (arith, h.1, c.requires.within); fits = c.requires.fits },
        (
          c.requires.room,
          row_words g.R.Register.word c.args.sharings.now c.in-Rotl.a.0 c.index-sharings-a-in-Rotl.result c.args.bits g.row.D h.2 c.index-sharings-a-in-Rotl.is c.requires.shared,
        ),
      ),
    )
