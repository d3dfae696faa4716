use Rattle.std.proofs.Common.{◌≡◌, [], ◌∷◌, ◌∙◌, ℕ, length, Some, ap, sym, refl, subst, arith}
use Rattle.std.specs.Prelude.{nat_eq}
use Rattle.std.specs.HashMap.{Updates}
use Rattle.span_model.specs.Columns.{set_of, sets_of}
use Rattle.tightprove.specs.declared.images.Images.{Images}
use Rattle.tightprove.proofs.Calls.{empty_list, one_element, on_true, is_none_then}
use Rattle.tightprove.proofs.Imaging.{images_none, images_one}
use Rattle.tightprove.proofs.images.Images.add.Goals as goal

pub returns-in_ok-push-in-empty : goal.returns-in_ok-push-in-empty
returns-in_ok-push-in-empty c = λ all n is are.
    let none : c.args.rows.now ≡ [] = empty_list c.args.rows.now (omega arith) in
    let new : Images = record { by_class = c.push.new.self; class_of = c.args.self.now.class_of } in
    images_none c.args.words.now all n c.args.self.now new (is ∙ ap sets_of none) c.in_ok-push-in-empty.ensures.items refl are

pub returns-in_ok-insert-in-len1 : goal.returns-in_ok-insert-in-len1
returns-in_ok-insert-in-len1 c = on_true c.is_none.result _ (λ free all n is are.
    let one : c.args.rows.now ≡ c.row-item.result ∷ [] = one_element c.args.rows.now c.row-item.result (omega arith) c.row-item.is in
    let count : c.len-i.result ≡ length c.args.self.now.by_class.items = omega arith in
    let new : Images = record { by_class = c.push-in-len1.new.self; class_of = c.insert.new.self } in
    images_one c.args.words.now all n c.args.self.now new (set_of c.row-item.result) c.image_of-image.result (is ∙ ap sets_of one) c.image_of-image.ensures
    c.in_ok-push-in-len1.ensures.items
    (sym c.in_ok-insert-in-len1.ensures.old ∙ is_none_then c.in_ok-insert-in-len1.field-0 c.is_none.result c.is_none.ensures free)
    (subst (λ (k : ℕ). Updates nat_eq c.args.self.now.class_of c.insert.new.self c.image_of-image.result (Some k)) count c.in_ok-insert-in-len1.ensures.updates) are)
