use Rattle.std.proofs.Common.{◌≡◌, ◌<◌, ◌+◌, ◌∙◌, ℕ, List, length, get_or, ap, sym, subst, arith}
use Rattle.tightprove.specs.Classes.{class_rows}
use Rattle.tightprove.specs.declared.class.Class.{Class}
use Rattle.tightprove.specs.Private.Images.{AreImagesOf}
use Rattle.tightprove.proofs.Calls.{of_true}
use Rattle.tightprove.proofs.Taking.{rows_at}
use Rattle.tightprove.proofs.images.images_of.Goals as goal

pub loop-class-preserved : goal.loop-class-preserved
loop-class-preserved c =
    let classes : List Class = c.args.classes.now.list.items in
    let i : ℕ = c.loop-class.class-index in
    let lt : i < length c.args.classes.now.list.items = omega (arith, ap length c.deref-class-items.ensures.value) in
    let is : c.class-item.result ≡ get_or c.args.classes.now.list.items i c.class-item.result =
    c.class-item.is ∙ ap (λ (xs : List Class). get_or xs i c.class-item.result) c.deref-class-items.ensures.value in
    let words : c.as_slice.result.now ≡ c.in_ok-words.words.items = c.as_slice.ensures.value in
    subst (λ (ws : List ℕ). AreImagesOf ws (class_rows classes) (i + 1) c.add.new.self) words
    (of_true c.in_ok-add.field-0 _ c.if-not-branch.false c.in_ok-add.ensures (class_rows classes) i
    (sym (rows_at classes i c.class-item.result c.as_slice-in-loop-class.result.now lt is c.as_slice-in-loop-class.ensures))
    (subst (λ (ws : List ℕ). AreImagesOf ws (class_rows classes) i c.loop-class.images) (sym words) c.loop-class.invariant))
