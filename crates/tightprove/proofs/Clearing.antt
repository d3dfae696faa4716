-- What linear maps leave of images, and classes that they tell clean.
use Rattle.std.proofs.Common.{◌≡◌, ◌≢◌, inl, inr, ℕ, ◌+◌, ◌%◌, ◌<◌, ◌≤◌, zero, suc, cond, List, [], ◌∷◌, length, map, set, get_or, bit_xor, eqb, refl, sym, ap, ◌∙◌, subst, arith}
use Rattle.std.specs.Int.{bit_at, trailing_zeros, w64}
use Rattle.std.specs.Int.Bits.{xor_assoc, xor_self, xor_zero_r}
use Rattle.std.proofs.lemmas.Nat.{xor_comm}
use Rattle.std.proofs.lemmas.Nat.Bits.{bit_at_xor, bit_at-lt}
use Rattle.std.proofs.lemmas.Bool.{cases_eq}
use Rattle.std.proofs.lemmas.List.{map-id, length-map, get_or-map, get_or-set_same, get_or-set_other, ext_get_or}
use Rattle.tightprove.specs.Classes.{class_rows, IsPartner, IsClean}
use Rattle.tightprove.specs.Private.Images.{image_at, AreImages}
use Rattle.tightprove.specs.Private.Affine.{cleared_by, IsLinear, AreMapped, AreRests, HasEnded}
use Rattle.tightprove.specs.declared.class.Class.{Class}
use Rattle.tightprove.specs.declared.images.Images.{Images}
use Rattle.tightprove.proofs.Closures.{partner_of}
use Rattle.tightprove.proofs.Imaging.{xor_shared}
use Rattle.tightprove.proofs.Reaching.{apart_clean}

-- ---- a word that is cleared

-- two words that are moved where their bits are one, and their exclusive-or
both_moved : (s t a b p : ℕ) → s < 2 → t < 2
    → cond (eqb ((s + t) % 2) 1) (bit_xor (bit_xor a b) p) (bit_xor a b) ≡ bit_xor (cond (eqb s 1) (bit_xor a p) a) (cond (eqb t 1) (bit_xor b p) b)
both_moved zero zero a b p s_lt t_lt = refl
both_moved zero (suc zero) a b p s_lt t_lt = xor_assoc a b p
both_moved (suc zero) zero a b p s_lt t_lt = xor_assoc a b p ∙ ap (λ x. bit_xor a x) (xor_comm b p) ∙ sym (xor_assoc a p b)
both_moved (suc zero) (suc zero) a b p s_lt t_lt = sym (xor_shared a p b p ∙ ap (λ x. bit_xor (bit_xor a b) x) (xor_self p) ∙ xor_zero_r (bit_xor a b))
both_moved (suc (suc s)) t a b p s_lt t_lt = absurd (omega arith)
both_moved s (suc (suc t)) a b p s_lt t_lt = absurd (omega arith)

linear_cleared : (p : ℕ) → IsLinear (cleared_by p)
linear_cleared p a b =
    let l : ℕ = trailing_zeros w64 p in
    ap (λ x. cond (eqb x 1) (bit_xor (bit_xor a b) p) (bit_xor a b)) (bit_at_xor a b l)
    ∙ both_moved (bit_at a l) (bit_at b l) a b p (bit_at-lt a l) (bit_at-lt b l)

-- ---- words that are mapped

pub mapped_none : (words : List ℕ) → AreMapped words words
mapped_none words = (λ x. x, λ a b. refl, sym (map-id words))

pub mapped_cleared : (p : ℕ) (old new : List ℕ) → new ≡ map (cleared_by p) old → AreMapped old new
mapped_cleared p old new is = (cleared_by p, linear_cleared p, is)

map_twice : (f g : ℕ → ℕ) (xs : List ℕ) → map g (map f xs) ≡ map (λ x. g (f x)) xs
map_twice f g [] = refl
map_twice f g (x ∷ xs) = ap (λ (ys : List ℕ). g (f x) ∷ ys) (map_twice f g xs)

pub mapped_twice : (old mid new : List ℕ) → AreMapped old mid → AreMapped mid new → AreMapped old new
mapped_twice old mid new (f, linear, is) (g, also_linear, then) = (
  λ x. g (f x),
  λ a b. ap g (linear a b) ∙ also_linear (f a) (f b),
  then ∙ ap (λ (xs : List ℕ). map g xs) is ∙ map_twice f g old,
)

pub mapped_length : (old new : List ℕ) → AreMapped old new → length new ≡ length old
mapped_length old new (f, linear, is) = ap (λ (xs : List ℕ). length xs) is ∙ length-map old f

-- ---- the loop over words that are cleared

pub one_cleared : (f : ℕ → ℕ) (old now : List ℕ) (k x : ℕ) → k < length now → x ≡ f (get_or old k 0)
    → ((j : ℕ) → j < k → get_or now j 0 ≡ f (get_or old j 0)) → (j : ℕ) → j < k + 1 → get_or (set now k x) j 0 ≡ f (get_or old j 0)
one_cleared f old now k x lt is before j h = elim (cases_eq j k) [
  | inl same ↦ subst (λ n. get_or (set now k x) n 0 ≡ f (get_or old n 0)) (sym same) (get_or-set_same now k x 0 lt ∙ is)
  | inr other ↦ (let apart : j ≢ k = other in get_or-set_other now k j x 0 other ∙ before j (omega arith))
]

pub others_stay : (old now : List ℕ) (k x : ℕ) → ((j : ℕ) → k ≤ j → get_or now j 0 ≡ get_or old j 0) → (j : ℕ) → k + 1 ≤ j
    → get_or (set now k x) j 0 ≡ get_or old j 0
others_stay old now k x before j h = get_or-set_other now k j x 0 (λ same. absurd (omega arith)) ∙ before j (omega arith)

pub all_cleared : (f : ℕ → ℕ) (old new : List ℕ) (k : ℕ) → length new ≡ length old → length new ≤ k
    → ((j : ℕ) → j < k → get_or new j 0 ≡ f (get_or old j 0)) → new ≡ map f old
all_cleared f old new k count past done =
    ext_get_or 0 new (map f old) (count ∙ sym (length-map old f)) (λ j h. done j (omega arith) ∙ sym (get_or-map f old j 0 0 (omega arith)))

-- ---- rests of images

pub rests_start : (classes : List Class) (images : Images) (rests : List ℕ) → AreImages classes images → rests ≡ images.by_class.items
    → AreRests classes rests
rests_start classes images rests are is =
    (images, are, subst (λ (xs : List ℕ). AreMapped images.by_class.items xs) (sym is) (mapped_none images.by_class.items))

pub rests_mapped : (classes : List Class) (old new : List ℕ) → AreRests classes old → AreMapped old new → AreRests classes new
rests_mapped classes old new (images, are, first) then = (images, are, mapped_twice images.by_class.items old new first then)

pub rests_length : (classes : List Class) (rests : List ℕ) → AreRests classes rests → length rests ≡ length classes
rests_length classes rests (images, are, mapped) = mapped_length images.by_class.items rests mapped ∙ are.1.count

-- a word with the rest 0 changes the rest of no other
pub same_rest : (f : ℕ → ℕ) → IsLinear f → (m x : ℕ) → f x ≡ 0 → f (bit_xor m x) ≡ f m
same_rest f linear m x none = linear m x ∙ ap (λ y. bit_xor (f m) y) none ∙ xor_zero_r (f m)

pub rest_of_zero : (f : ℕ → ℕ) → IsLinear f → f 0 ≡ 0
rest_of_zero f linear = linear 0 0 ∙ xor_self (f 0)

pub rest_at : (classes : List Class) (images : Images) (f : ℕ → ℕ) (rests : List ℕ) (k : ℕ) → AreImages classes images
    → rests ≡ map f images.by_class.items → k < length classes → get_or rests k 0 ≡ f (image_at images k)
rest_at classes images f rests k are is lt =
    ap (λ (xs : List ℕ). get_or xs k 0) is ∙ get_or-map f images.by_class.items k 0 0 (omega (arith, are.1.count))

-- a class is clean where the image of its row has a rest, and the partners of classes with the same rest have none
pub rests_clean : (classes : List Class) (i : ℕ) (rests : List ℕ) → AreRests classes rests
    → ((a b : ℕ) → IsPartner classes a b → b < length classes) → i < length classes
    → ((k : ℕ) → k < length rests → HasEnded classes rests i k) → 0 < get_or rests i 0 → IsClean classes (class_rows classes i)
rests_clean classes i rests (images, are, mapped) partners lt ended some =
    let f = mapped.0 in
    apart_clean (λ m. mapped.0 m ≡ mapped.0 (image_at images i)) classes images i are partners lt refl takes (λ none.
    let zero_at : get_or rests i 0 ≡ 0 = at i lt ∙ sym none ∙ rest_of_zero f mapped.1 in
    absurd (omega arith))
  where
    at : (k : ℕ) → k < length classes → get_or rests k 0 ≡ mapped.0 (image_at images k)
    at k h = rest_at classes images mapped.0 rests k are mapped.2 h

    takes : (a b : ℕ) → length (class_rows classes a) ≡ 1 → mapped.0 (image_at images a) ≡ mapped.0 (image_at images i) → IsPartner classes a b
        → (m : ℕ) → mapped.0 m ≡ mapped.0 (image_at images i) → mapped.0 (bit_xor m (image_at images b)) ≡ mapped.0 (image_at images i)
    takes a b one there partner m in_m =
        let a_lt : a < length classes = partner_of classes a b partner in
        let within : a < length rests = omega (arith, rests_length classes rests (images, are, mapped)) in
        let none : mapped.0 (image_at images b) ≡ 0 = sym (at b (partners a b partner)) ∙ ended a within (at a a_lt ∙ there ∙ sym (at i lt)) b partner in
        same_rest mapped.0 mapped.1 m (image_at images b) none ∙ in_m
