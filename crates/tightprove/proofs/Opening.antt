-- Products that take nothing more into the coset of an image.
use Rattle.std.proofs.Common.{◌≡◌, inl, inr, ℕ, ◌<◌, ◌||◌, max, Bool, true, false, cond, List, [], length, get_or, refl, sym, ap, ◌∙◌, subst, arith}
use Rattle.std.specs.Prelude.{nat_le}
use Rattle.std.proofs.lemmas.Bool.{cases_lt, leb-false, true≢false}
use Rattle.span_model.specs.Columns.{Columns}
use Rattle.span_model.specs.Span.{SameSpan}
use Rattle.span_model.specs.Attack.{Product, product_at}
use Rattle.span_model.specs.AttackLaws.{LeaksAreClosed}
use Rattle.span_model.specs.Closure.{Step, Side, on_left, on_right, side_of, other_side, operand, co_operand}
use Rattle.span_model.specs.Refresh.{left_out}
use Rattle.span_model.proofs.Members.{in_none}
use Rattle.tightprove.specs.declared.gathered.Gathered.{Gathered}
use Rattle.tightprove.specs.declared.gathered.Place.{Place}
use Rattle.tightprove.specs.Private.Gathered.{beyond, place_at, rows_in, IsGatheredOf, HasNoLeak}
use Rattle.tightprove.specs.Private.Bounds.{class_count}
use Rattle.tightprove.specs.Private.Images.{image, first_row, image_at}
use Rattle.tightprove.specs.Private.Affine.{AreRests, IsClosedAt}
use Rattle.tightprove.proofs.Clearing.{same_rest, rest_of_zero, rest_at}
use Rattle.tightprove.proofs.Imaging.{image-empty}
use Rattle.tightprove.proofs.Leaving.{out_at, length-left_out}
use Rattle.tightprove.proofs.Reaching.{KeepsStep, members_of, not_closed, step_kept}

inside : (S : ℕ → Bool) (b k : ℕ) → beyond S b k ≡ false → (S k ≡ false) × (k < b)
inside S b k e = (let both = parts (S k) (nat_le b k) e in (both.0, leb-false b k both.1))
  where
    parts : (x y : Bool) → (x || y) ≡ false → (x ≡ false) × (y ≡ false)
    parts false false e = (refl, refl)
    parts false true e = absurd (true≢false e)
    parts true y e = absurd (true≢false e)

-- an operand without rows
none_kept : (words : List ℕ) (Member : ℕ → Type 0) → ¬ Member 0 → KeepsStep words Member [] []
none_kept words Member apart r in_r there p in_p m in_m = absurd (apart (subst Member (ap (λ u. image words u) (in_none r in_r) ∙ image-empty words) there))

-- the operands of a product, both ways
product_kept : (words : List ℕ) (Member : ℕ → Type 0) (product : Product ℕ) (side : Side) → KeepsStep words Member product.left product.right
    → KeepsStep words Member product.right product.left → KeepsStep words Member (side_of product side) (side_of product (other_side side))
product_kept words Member product on_left left right = left
product_kept words Member product on_right left right = right

-- the word has the same rest as another
abbrev HasRestOf : (f : ℕ → ℕ) → (first m : ℕ) → Type 0
HasRestOf f first m = f m ≡ f first

-- a class has no leak among the first products without those of a set, where its image has a rest and these are closed
pub closed_clean : LeaksAreClosed ℕ → (products : List (Product ℕ)) (S : ℕ → Bool) (gathered : Gathered) (i b : ℕ) (rests : List ℕ)
    → IsGatheredOf products gathered → AreRests gathered.classes.list.items rests → i < class_count gathered → 0 < get_or rests i 0
    → ((k : ℕ) → k < b → S k ≡ false → IsClosedAt rests i (place_at gathered.places.items k)) → HasNoLeak products (beyond S b) (rows_in gathered i)
closed_clean law products S gathered i b rests is (images, (words, own), mapped) lt some closed v in_v leak =
    let found = (law (left_out (beyond S b) products) v).0 leak in
    elim (members_of (rows_in gathered i) v (own.single i lt) in_v) [
      | inl none ↦ found.0 none
      | inr row ↦
          not_closed words (HasRestOf mapped.0 (image_at images i)) (left_out (beyond S b) products) v (ap mapped.0 (ap (λ u. image words u) row.1 ∙ sym (own.exact i lt))) kept apart found.1
    ]
  where
    at : (k : ℕ) → k < class_count gathered → get_or rests k 0 ≡ mapped.0 (image_at images k)
    at k h = rest_at gathered.classes.list.items images mapped.0 rests k (words, own) mapped.2 h

    apart : ¬ HasRestOf mapped.0 (image_at images i) 0
    apart none = (let zero_at : get_or rests i 0 ≡ 0 = at i lt ∙ sym none ∙ rest_of_zero mapped.0 mapped.1 in absurd (omega arith))

    -- an operand that has no other rest than the row lets the other, which has none, be taken
    one_way : (k l : ℕ) (operand co_operand : List (Columns ℕ)) → k < class_count gathered → l < class_count gathered
        → SameSpan (rows_in gathered k) operand → SameSpan (rows_in gathered l) co_operand
        → (get_or rests k 0 ≡ get_or rests i 0 → get_or rests l 0 ≡ 0) → KeepsStep words (HasRestOf mapped.0 (image_at images i)) operand co_operand
    one_way k l operand co_operand k_lt l_lt same also_same zero_at =
        step_kept words (HasRestOf mapped.0 (image_at images i)) (rows_in gathered k) (rows_in gathered l) operand co_operand apart (own.single k k_lt) (own.single l l_lt) same also_same
        (λ one there m in_m.
        let none : mapped.0 (image words (first_row (rows_in gathered l))) ≡ 0 =
        ap mapped.0 (sym (own.exact l l_lt)) ∙ sym (at l l_lt) ∙ zero_at (at k k_lt ∙ ap mapped.0 (own.exact k k_lt) ∙ there ∙ sym (at i lt)) in
        same_rest mapped.0 mapped.1 m (image words (first_row (rows_in gathered l))) none ∙ in_m)

    flagged : (k : ℕ) (side : Side) (out : Bool) → beyond S b k ≡ out → k < length products
        → KeepsStep words (HasRestOf mapped.0 (image_at images i)) (side_of (cond out (record { left = []; right = [] }) (product_at products k)) side)
        (side_of (cond out (record { left = []; right = [] }) (product_at products k)) (other_side side))
    flagged k side true e h = product_kept words (HasRestOf mapped.0 (image_at images i)) (record { left = []; right = [] }) side (none_kept words (HasRestOf mapped.0 (image_at images i)) apart) (none_kept words (HasRestOf mapped.0 (image_at images i)) apart)
    flagged k side false e h =
        let place : Place = place_at gathered.places.items k in
        let own_place = is.placed k h in
        let ends = closed k (inside S b k e).1 (inside S b k e).0 in
        product_kept words (HasRestOf mapped.0 (image_at images i)) (product_at products k) side
        (one_way place.left place.right (product_at products k).left (product_at products k).right own_place.left_number own_place.right_number own_place.left own_place.right ends.left)
        (one_way place.right place.left (product_at products k).right (product_at products k).left own_place.right_number own_place.left_number own_place.right own_place.left ends.right)

    kept : (step : Step) → step.product < length (left_out (beyond S b) products)
        → KeepsStep words (HasRestOf mapped.0 (image_at images i)) (operand (left_out (beyond S b) products) step) (co_operand (left_out (beyond S b) products) step)
    kept step within =
        subst (λ (p : Product ℕ). KeepsStep words (HasRestOf mapped.0 (image_at images i)) (side_of p step.side) (side_of p (other_side step.side))) (sym (out_at (beyond S b) products step.product))
        (flagged step.product step.side (beyond S b step.product) refl (omega (arith, length-left_out (beyond S b) products)))

-- what holds of two numbers holds of the greater
pub of_greater : (P : ℕ → Type 0) (a b : ℕ) → P a → P b → P (max a b)
of_greater P a b at_a at_b = elim (cases_lt a b) [
  | inl less ↦ (let e : b ≡ max a b = omega arith in subst P e at_b)
  | inr more ↦ (let e : a ≡ max a b = omega arith in subst P e at_a)
]
