-- Images of sets of columns are exclusive-ors of those of their parts.
use Rattle.std.proofs.Common.{◌≡◌, inl, inr, ℕ, ◌+◌, ◌<◌, ◌≤◌, zero, suc, Bool, true, false, not, cond, List, [], ◌∷◌, ◌++◌, length, get_or, bit_xor, refl, sym, ap, ◌∙◌, subst, arith, eqb, Some, None}
use Rattle.std.specs.Prelude.{nat_eq}
use Rattle.std.specs.Bool.{beq}
use Rattle.std.specs.HashMap.{get, Updates}
use Rattle.std.specs.Int.Bits.{xor_assoc, xor_self, xor_zero_l, xor_zero_r}
use Rattle.std.proofs.lemmas.Nat.{xor_comm}
use Rattle.std.proofs.lemmas.Bool.{cases_lt}
use Rattle.span_model.specs.Columns.{Columns, empty, ◌△◌}
use Rattle.std.proofs.lemmas.Bool.Decides.{Decides-eqb}
use Rattle.std.proofs.lemmas.List.{get_or_append_left, get_or_push, length_push}
use Rattle.tightprove.specs.Private.Images.{image_below, image, first_row, image_at, AreImagesOf}
use Rattle.tightprove.specs.declared.images.Images.{Images}

-- ---- exclusive-ors

-- four words in two orders
pub xor_shared : (a b c d : ℕ) → bit_xor (bit_xor a b) (bit_xor c d) ≡ bit_xor (bit_xor a c) (bit_xor b d)
xor_shared a b c d =
    xor_assoc a b (bit_xor c d)
    ∙ ap (λ x. bit_xor a x) (sym (xor_assoc b c d) ∙ ap (λ x. bit_xor x d) (xor_comm b c) ∙ xor_assoc c b d)
    ∙ sym (xor_assoc a c (bit_xor b d))

-- a word that comes twice goes away
pub xor_twice : (a b : ℕ) → bit_xor (bit_xor a b) b ≡ a
xor_twice a b = xor_assoc a b b ∙ ap (λ x. bit_xor a x) (xor_self b) ∙ xor_zero_r a

-- ---- images

picked : (x y : Bool) (w : ℕ) → cond (not (beq x y)) w 0 ≡ bit_xor (cond x w 0) (cond y w 0)
picked true true w = sym (xor_self w)
picked true false w = sym (xor_zero_r w)
picked false true w = sym (xor_zero_l w)
picked false false w = sym (xor_zero_l 0)

sum_below : (words : List ℕ) (a b : Columns ℕ) (n : ℕ) → image_below words (a △ b) n ≡ bit_xor (image_below words a n) (image_below words b n)
sum_below words a b zero = sym (xor_zero_l 0)
sum_below words a b (suc n) =
    ap (λ x. bit_xor x (cond (not (beq (a n) (b n))) (get_or words n 0) 0)) (sum_below words a b n)
    ∙ ap (λ x. bit_xor (bit_xor (image_below words a n) (image_below words b n)) x) (picked (a n) (b n) (get_or words n 0))
    ∙ xor_shared (image_below words a n) (image_below words b n) (cond (a n) (get_or words n 0) 0) (cond (b n) (get_or words n 0) 0)

-- the image of a symmetric difference
pub image-sum : (words : List ℕ) (a b : Columns ℕ) → image words (a △ b) ≡ bit_xor (image words a) (image words b)
image-sum words a b = sum_below words a b (length words)

none_below : (words : List ℕ) (n : ℕ) → image_below words empty n ≡ 0
none_below words zero = refl
none_below words (suc n) = ap (λ x. bit_xor x 0) (none_below words n) ∙ xor_zero_l 0

-- the image of the empty set
pub image-empty : (words : List ℕ) → image words empty ≡ 0
image-empty words = none_below words (length words)

-- ---- the loop over the columns of a row

-- columns that are not in the set leave the image as it is
pub below_same : (words : List ℕ) (v : Columns ℕ) (a n : ℕ) → a ≤ n → ((c : ℕ) → a ≤ c → c < n → v c ≡ false) → image_below words v n ≡ image_below words v a
below_same words v a zero past none = let e : 0 ≡ a = omega arith in ap (λ k. image_below words v k) e
below_same words v a (suc n) past none = elim (cases_lt a (suc n)) [
  | inl lt ↦
      ap (λ b. bit_xor (image_below words v n) (cond b (get_or words n 0) 0)) (none n (omega arith) (omega arith))
      ∙ xor_zero_r (image_below words v n)
      ∙ below_same words v a n (omega arith) (λ c h k. none c h (omega arith))
  | inr ge ↦ (let e : suc n ≡ a = omega arith in ap (λ k. image_below words v k) e)
]

-- one column more
pub below_more : (words : List ℕ) (v : Columns ℕ) (a c : ℕ) → a ≤ c → v c ≡ true → ((k : ℕ) → a ≤ k → k < c → v k ≡ false)
    → image_below words v (c + 1) ≡ bit_xor (image_below words v a) (get_or words c 0)
below_more words v a c past there none =
    let e : c + 1 ≡ suc c = omega arith in
    ap (λ k. image_below words v k) e
    ∙ ap (λ b. bit_xor (image_below words v c) (cond b (get_or words c 0) 0)) there
    ∙ ap (λ x. bit_xor x (get_or words c 0)) (below_same words v a c past none)

-- ---- the images of one class more

-- what the numbers say at one list of rows more, where they say it before
pub more_than : (P : ℕ → Type 0) (n : ℕ) → ((i : ℕ) → i < n → P i) → P n → (i : ℕ) → i < n + 1 → P i
more_than P n before here i lt = elim (cases_lt i n) [
  | inl old ↦ before i old
  | inr now ↦ (let e : n ≡ i = omega arith in subst P e here)
]

kept_at : (old new : Images) (x i n : ℕ) → new.by_class.items ≡ old.by_class.items ++ x ∷ [] → length old.by_class.items ≡ n → i < n
    → image_at old i ≡ image_at new i
kept_at old new x i n items count lt =
    sym (get_or_append_left old.by_class.items (x ∷ []) 0 i (omega arith)) ∙ ap (λ (xs : List ℕ). get_or xs i 0) (sym items)

new_at : (old new : Images) (x n : ℕ) → new.by_class.items ≡ old.by_class.items ++ x ∷ [] → length old.by_class.items ≡ n → image_at new n ≡ x
new_at old new x n items count =
    ap (λ (xs : List ℕ). get_or xs n 0) items ∙ get_or_push old.by_class.items x 0 n count

-- one class more that has no row
pub images_none : (words : List ℕ) (rows : ℕ → List (Columns ℕ)) (n : ℕ) (old new : Images) → rows n ≡ []
    → new.by_class.items ≡ old.by_class.items ++ 0 ∷ [] → new.class_of ≡ old.class_of → AreImagesOf words rows n old → AreImagesOf words rows (n + 1) new
images_none words rows n old new none items same are =
    let at : (i : ℕ) → i < n → image_at old i ≡ image_at new i = λ i lt. kept_at old new 0 i n items are.count lt in
    record {
      count = ap (λ (xs : List ℕ). length xs) items ∙ length_push old.by_class.items 0 ∙ ap (λ k. k + 1) are.count;
      single = more_than (λ i. length (rows i) ≤ 1) n are.single (subst (λ (r : List (Columns ℕ)). length r ≤ 1) (sym none) (omega arith));
      exact = more_than (λ i. image_at new i ≡ image words (first_row (rows i))) n (λ i lt. sym (at i lt) ∙ are.exact i lt)
          (new_at old new 0 n items are.count ∙ sym (ap (λ (r : List (Columns ℕ)). image words (first_row r)) none ∙ image-empty words));
      found = more_than (λ i. length (rows i) ≡ 1 → get nat_eq new.class_of (image_at new i) ≡ Some i) n
          (λ i lt one. ap (λ m. get nat_eq m (image_at new i)) same ∙ ap (λ x. get nat_eq old.class_of x) (sym (at i lt)) ∙ are.found i lt one)
          (λ one. absurd (let e : length (rows n) ≡ 0 = ap (λ (r : List (Columns ℕ)). length r) none in omega arith));
      numbers = λ m i is. (let lt : i < n = are.numbers m i (sym (ap (λ k. get nat_eq k m) same) ∙ is) in omega arith);
    }

-- one class more, whose row has an image that no other has
pub images_one : (words : List ℕ) (rows : ℕ → List (Columns ℕ)) (n : ℕ) (old new : Images) (row : Columns ℕ) (x : ℕ) → rows n ≡ row ∷ []
    → x ≡ image words row → new.by_class.items ≡ old.by_class.items ++ x ∷ [] → get nat_eq old.class_of x ≡ None
    → Updates nat_eq old.class_of new.class_of x (Some (length old.by_class.items)) → AreImagesOf words rows n old → AreImagesOf words rows (n + 1) new
images_one words rows n old new row x one is items free updates are =
    let at : (i : ℕ) → i < n → image_at old i ≡ image_at new i = λ i lt. kept_at old new x i n items are.count lt in
    record {
      count = ap (λ (xs : List ℕ). length xs) items ∙ length_push old.by_class.items x ∙ ap (λ k. k + 1) are.count;
      single = more_than (λ i. length (rows i) ≤ 1) n are.single (subst (λ (r : List (Columns ℕ)). length r ≤ 1) (sym one) (omega arith));
      exact = more_than (λ i. image_at new i ≡ image words (first_row (rows i))) n (λ i lt. sym (at i lt) ∙ are.exact i lt)
          (new_at old new x n items are.count ∙ is ∙ sym (ap (λ (r : List (Columns ℕ)). image words (first_row r)) one));
      found = more_than (λ i. length (rows i) ≡ 1 → get nat_eq new.class_of (image_at new i) ≡ Some i) n
          (λ i lt single. ap (λ y. get nat_eq new.class_of y) (sym (at i lt)) ∙ other (image_at old i) i (are.found i lt single) (eqb x (image_at old i)) refl)
          (λ single. ap (λ y. get nat_eq new.class_of y) (new_at old new x n items are.count) ∙ updates.1 ∙ ap (λ k. Some k) are.count);
      numbers = λ m i found. number m i (eqb x m) refl found;
    }
  where
    other : (y i : ℕ) → get nat_eq old.class_of y ≡ Some i → (b : Bool) → eqb x y ≡ b → get nat_eq new.class_of y ≡ Some i
    other y i there true same =
        absurd (let e : x ≡ y = (Decides-eqb x y).0 same in let f : get nat_eq old.class_of x ≡ Some i = ap (λ z. get nat_eq old.class_of z) e ∙ there in cc (f, free))
    other y i there false apart = updates.2 y apart ∙ there

    number : (m i : ℕ) (b : Bool) → eqb x m ≡ b → get nat_eq new.class_of m ≡ Some i → i < n + 1
    number m i true same there =
        let e : x ≡ m = (Decides-eqb x m).0 same in
        let f : Some (length old.by_class.items) ≡ Some i = sym updates.1 ∙ ap (λ z. get nat_eq new.class_of z) e ∙ there in
        let g : length old.by_class.items ≡ i = cc f in
        omega (arith, are.count)
    number m i false apart there = (let lt : i < n = are.numbers m i (sym (updates.2 m apart) ∙ there) in omega arith)

-- the images of no class
pub images_start : (words : List ℕ) (rows : ℕ → List (Columns ℕ)) (images : Images) → images.by_class.items ≡ [] → ((m : ℕ) → get nat_eq images.class_of m ≡ None)
    → AreImagesOf words rows 0 images
images_start words rows images none empty = record {
  count = ap (λ (xs : List ℕ). length xs) none;
  single = λ i lt. absurd (omega arith);
  exact = λ i lt. absurd (omega arith);
  found = λ i lt one. absurd (omega arith);
  numbers = λ m i is. absurd (let e : get nat_eq images.class_of m ≡ None = empty m in cc (e, is));
}
