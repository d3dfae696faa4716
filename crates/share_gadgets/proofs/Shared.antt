-- Each gadget makes a sharing of words of B bits, and shifts go through the value.
use Rattle.std.proofs.Common.{◌≡◌, ℕ, zero, suc, ◌+◌, ◌-◌, ◌*◌, ◌/◌, ◌%◌, ◌^◌, ◌<◌, ◌≤◌, ◌&&◌, eqb, ltb as nat_lt, List, [], ◌∷◌, length, get_or, map, replicate, All, bit_or, bit_xor, refl, sym, ap, ◌∙◌, ⊎_elim, arith, subst, mod-lt, zero-mul}
use Rattle.std.proofs.Math.Nat.{zero-div, zero-mod}
use Rattle.std.proofs.lemmas.Bool.{cases_lt, cond_both}
use Rattle.std.proofs.lemmas.List.{length-map, length-replicate, get_or-map, get_or_past, get_or-replicate}
use Rattle.std.proofs.lemmas.List.FromFn.{length-map-range_with_len, get_or-map-range_with_len}
use Rattle.std.proofs.lemmas.Nat.{xor_lt, or_lt, and_le_r, pow_pos, pow_below, shr_below, shr_le, mod-pow-add, mod_low, shl-shr, or_shifted, xor_mod, xor_shr, xor_block}
use Rattle.std.specs.List.{range_with_len}
use lib.Bits.{xor_shifted}
use Rattle.usuba0.specs.Term.{ones, word_of_constant, shifted_left, shifted_right, rotated_left}
use Rattle.share_gadgets.specs.Sharing.{sharing_value, IsSharing}
use Rattle.share_gadgets.specs.Gadgets.{xor_share, xor_shares, not_shares, constant_shares, pair, xor_without, product_of, cross, product_share, product_shares, pair_word, refreshed_share, refreshed_shares}
use Rattle.share_gadgets.proofs.ValueLemmas.{value_cons}

-- ---- words below 2 ^ B
pub ones_below : (B : ℕ) → ones B < 2 ^ B
ones_below B = let h = pow_pos B in omega arith

pub pow_le : (w B : ℕ) → w ≤ B → 2 ^ w ≤ 2 ^ B
pow_le w B h =
    ⊎_elim (λ (l : w < B). let k = pow_below w B l in omega arith)
    (λ (l : B ≤ w). let e : w ≡ B = omega arith in subst (λ (n : ℕ). 2 ^ w ≤ 2 ^ n) e (omega arith)) (cases_lt w B)

pub constant_below : (w B c : ℕ) → w ≤ B → c < 2 ^ w → word_of_constant w B c < 2 ^ B
constant_below w B c h l =
    let k = pow_le w B h in
    cond_both (eqb w 1 && eqb c 1) (ones B) c (λ (x : ℕ). x < 2 ^ B) (λ e. ones_below B) (λ e. omega arith)

-- each share of a sharing, and 0 past its end
pub share_below : (B : ℕ) (xs : List ℕ) → All (λ x. x < 2 ^ B) xs → (k : ℕ) → get_or xs k 0 < 2 ^ B
share_below B xs h k =
    ⊎_elim (λ (l : k < length xs). h k 0 l)
    (λ (l : length xs ≤ k). subst (λ (x : ℕ). x < 2 ^ B) (sym (get_or_past xs k 0 l)) (pow_pos B)) (cases_lt k (length xs))

pub map_below : (B : ℕ) (f : ℕ → ℕ) (xs : List ℕ) → ((x : ℕ) → x < 2 ^ B → f x < 2 ^ B) → All (λ x. x < 2 ^ B) xs → All (λ x. x < 2 ^ B) (map f xs)
map_below B f xs h a k e l =
    let m : k < length xs = omega (arith, length-map xs f) in
    subst (λ (x : ℕ). x < 2 ^ B) (sym (get_or-map f xs k e e m)) (h (get_or xs k e) (a k e m))

range_below : (B d : ℕ) (f : ℕ → ℕ) → ((k : ℕ) → f k < 2 ^ B) → All (λ x. x < 2 ^ B) (map f (range_with_len 0 d))
range_below B d f h k e l =
    let m : k < d = omega (arith, length-map-range_with_len f 0 d) in
    subst (λ (x : ℕ). x < 2 ^ B) (sym (get_or-map-range_with_len f 0 d k k e m (omega arith))) (h k)

pub without_below : (B k first : ℕ) (terms : ℕ → ℕ) (n : ℕ) → first < 2 ^ B → ((j : ℕ) → terms j < 2 ^ B) → xor_without k first terms n < 2 ^ B
without_below B k first terms zero h t = h
without_below B k first terms (suc n) h t =
    let ih = without_below B k first terms n h t in
    cond_both (eqb n k) (xor_without k first terms n) (bit_xor (xor_without k first terms n) (terms n)) (λ (x : ℕ). x < 2 ^ B)
    (λ e. ih) (λ e. xor_lt B (xor_without k first terms n) (terms n) ih (t n))

-- ---- maps that go through the exclusive-or
pub map_value : (f : ℕ → ℕ) (xs : List ℕ) → f 0 ≡ 0 → ((x y : ℕ) → f (bit_xor x y) ≡ bit_xor (f x) (f y)) → sharing_value (map f xs) ≡ f (sharing_value xs)
map_value f [] z a = sym z
map_value f (x ∷ xs) z a =
    value_cons (f x) (map f xs) ∙ ap (bit_xor (f x)) (map_value f xs z a) ∙ sym (a x (sharing_value xs)) ∙ ap f (sym (value_cons x xs))

tail_below : (B x : ℕ) (xs : List ℕ) → All (λ y. y < 2 ^ B) (x ∷ xs) → All (λ y. y < 2 ^ B) xs
tail_below B x xs h k e l = h (suc k) e (omega arith)

pub value_below : (B : ℕ) (xs : List ℕ) → All (λ x. x < 2 ^ B) xs → sharing_value xs < 2 ^ B
value_below B [] h = pow_pos B
value_below B (x ∷ xs) h =
    subst (λ (n : ℕ). n < 2 ^ B) (sym (value_cons x xs))
    (xor_lt B x (sharing_value xs) (h 0 0 (omega arith)) (value_below B xs (tail_below B x xs h)))

pub map_value_below : (B : ℕ) (f : ℕ → ℕ) (xs : List ℕ) → f 0 ≡ 0 → ((x y : ℕ) → x < 2 ^ B → y < 2 ^ B → f (bit_xor x y) ≡ bit_xor (f x) (f y))
    → All (λ x. x < 2 ^ B) xs → sharing_value (map f xs) ≡ f (sharing_value xs)
map_value_below B f [] z a h = sym z
map_value_below B f (x ∷ xs) z a h =
    let rest = tail_below B x xs h in
    value_cons (f x) (map f xs) ∙ ap (bit_xor (f x)) (map_value_below B f xs z a rest)
    ∙ sym (a x (sharing_value xs) (h 0 0 (omega arith)) (value_below B xs rest)) ∙ ap f (sym (value_cons x xs))

pub shl_zero : (B k : ℕ) → shifted_left B k 0 ≡ 0
shl_zero B k = ap (λ (n : ℕ). n % 2 ^ B) (zero-mul (2 ^ k)) ∙ zero-mod (2 ^ B)

pub shr_zero : (k : ℕ) → shifted_right k 0 ≡ 0
shr_zero k = zero-div (2 ^ k)

-- what is above the low bits has k bits
high_below : (B k x : ℕ) → k ≤ B → x < 2 ^ B → x / 2 ^ (B - k) < 2 ^ k
high_below B k x h l = shr_below x k (B - k) (let e : B ≡ k + (B - k) = omega arith in subst (λ (n : ℕ). x < 2 ^ n) e l)

-- the low bits of a shift to the left are clear
low_shift : (B k x : ℕ) → k ≤ B → shifted_left B k x ≡ (x % 2 ^ (B - k)) * 2 ^ k
low_shift B k x h =
    let e : B ≡ (B - k) + k = omega arith in
    let clear : x * 2 ^ k % 2 ^ k ≡ 0 = ap (λ (n : ℕ). n % 2 ^ k) (let p : x * 2 ^ k ≡ x * 2 ^ k + 0 = omega arith in p) ∙ mod_low x k 0 (pow_pos k) in
    ap (λ (n : ℕ). x * 2 ^ k % 2 ^ n) e ∙ mod-pow-add (x * 2 ^ k) (B - k) k
    ∙ (λ i. (shl-shr x k i % 2 ^ (B - k)) * 2 ^ k + clear i) ∙ omega arith

-- a rotation sets the low k bits beside the shifted ones
rotl_parts : (B k x : ℕ) → k ≤ B → x < 2 ^ B → rotated_left B k x ≡ (x % 2 ^ (B - k)) * 2 ^ k + x / 2 ^ (B - k)
rotl_parts B k x h l =
    ap (λ (n : ℕ). bit_or n (x / 2 ^ (B - k))) (low_shift B k x h)
    ∙ or_shifted (x % 2 ^ (B - k)) k (x / 2 ^ (B - k)) (high_below B k x h l)

-- and is the exclusive-or of two shifts
pub rotl_by_xor : (B k x : ℕ) → k ≤ B → x < 2 ^ B → rotated_left B k x ≡ bit_xor (shifted_left B k x) (shifted_right (B - k) x)
rotl_by_xor B k x h l =
    rotl_parts B k x h l
    ∙ sym (xor_shifted (x % 2 ^ (B - k)) k (x / 2 ^ (B - k)) (high_below B k x h l))
    ∙ ap (λ (n : ℕ). bit_xor n (x / 2 ^ (B - k))) (sym (low_shift B k x h))

pub rotl_xor : (B k x y : ℕ) → k ≤ B → x < 2 ^ B → y < 2 ^ B → rotated_left B k (bit_xor x y) ≡ bit_xor (rotated_left B k x) (rotated_left B k y)
rotl_xor B k x y h l m =
    rotl_parts B k (bit_xor x y) h (xor_lt B x y l m)
    ∙ (λ i. xor_mod x y (B - k) i * 2 ^ k + xor_shr x y (B - k) i)
    ∙ sym (xor_block k (x % 2 ^ (B - k)) (y % 2 ^ (B - k)) (x / 2 ^ (B - k)) (y / 2 ^ (B - k)) (high_below B k x h l) (high_below B k y h m))
    ∙ sym (λ i. bit_xor (rotl_parts B k x h l i) (rotl_parts B k y h m i))

pub rotl_zero : (B k : ℕ) → k ≤ B → rotated_left B k 0 ≡ 0
rotl_zero B k h = (λ i. bit_or (shl_zero B k i) (shr_zero (B - k) i)) ∙ refl

pub rotl_below : (B k x : ℕ) → x < 2 ^ B → rotated_left B k x < 2 ^ B
rotl_below B k x l = or_lt B (shifted_left B k x) (x / 2 ^ (B - k)) (mod-lt _ (pow_pos B)) (omega (arith, shr_le x (B - k)))

-- ---- each gadget makes a sharing
pub constant_shared : (B d c : ℕ) → 0 < d → c < 2 ^ B → IsSharing B d (constant_shares d c)
constant_shared B d c h l = record {
  count = omega (arith, length-replicate {A = ℕ} (d - 1) 0);
  words = below;
}
  where
    below : All (λ x. x < 2 ^ B) (c ∷ replicate (d - 1) 0)
    below zero e m = l
    below (suc k) e m =
        let n : k < d - 1 = omega (arith, length-replicate {A = ℕ} (d - 1) 0) in
        subst (λ (x : ℕ). x < 2 ^ B) (sym (get_or-replicate (d - 1) k 0 e n)) (pow_pos B)

pub not_shared : (B d m : ℕ) (a : List ℕ) → m < 2 ^ B → IsSharing B d a → IsSharing B d (not_shares m a)
not_shared B d m [] l s = s
not_shared B d m (x ∷ xs) l s = record {
  count = s.count;
  words = below;
}
  where
    below : All (λ y. y < 2 ^ B) (bit_xor x m ∷ xs)
    below zero e h = xor_lt B x m (s.words 0 e h) l
    below (suc k) e h = s.words (suc k) e h

pub map_shared : (B d : ℕ) (f : ℕ → ℕ) (a : List ℕ) → ((x : ℕ) → x < 2 ^ B → f x < 2 ^ B) → IsSharing B d a → IsSharing B d (map f a)
map_shared B d f a h s = record {
  count = length-map a f ∙ s.count;
  words = map_below B f a h s.words;
}

pub xor_shared : (B d : ℕ) (a b : List ℕ) → IsSharing B d a → IsSharing B d b → IsSharing B d (xor_shares d a b)
xor_shared B d a b s t = record {
  count = length-map-range_with_len (xor_share a b) 0 d;
  words = range_below B d (xor_share a b)
      (λ k. xor_lt B (get_or a k 0) (get_or b k 0) (share_below B a s.words k) (share_below B b t.words k));
}

product_below : (B d : ℕ) (a b : List ℕ) (i j : ℕ) → IsSharing B d b → product_of a b i j < 2 ^ B
product_below B d a b i j t =
    let h = share_below B b t.words j in
    omega (arith, and_le_r (get_or a i 0) (get_or b j 0))

pub product_shared : (B d : ℕ) (a b : List ℕ) (random : ℕ → ℕ) → ((n : ℕ) → random n < 2 ^ B) → IsSharing B d a → IsSharing B d b → IsSharing B d (product_shares d a b random)
product_shared B d a b random r s t = record {
  count = length-map-range_with_len (product_share d a b random) 0 d;
  words = range_below B d (product_share d a b random)
      (λ k. without_below B k (product_of a b k k) (cross d a b random k) d (product_below B d a b k k t) (cross_below k));
}
  where
    cross_below : (i j : ℕ) → cross d a b random i j < 2 ^ B
    cross_below i j =
        cond_both (nat_lt i j) (random (pair d i j)) (bit_xor (bit_xor (random (pair d j i)) (product_of a b j i)) (product_of a b i j)) (λ (x : ℕ). x < 2 ^ B)
        (λ e. r (pair d i j))
        (λ e. xor_lt B (bit_xor (random (pair d j i)) (product_of a b j i)) (product_of a b i j)
        (xor_lt B (random (pair d j i)) (product_of a b j i) (r (pair d j i)) (product_below B d a b j i t)) (product_below B d a b i j t))

pub refreshed_shared : (B d : ℕ) (a : List ℕ) (random : ℕ → ℕ) → ((n : ℕ) → random n < 2 ^ B) → IsSharing B d a → IsSharing B d (refreshed_shares d a random)
refreshed_shared B d a random r s = record {
  count = length-map-range_with_len (refreshed_share d a random) 0 d;
  words = range_below B d (refreshed_share d a random)
      (λ k. without_below B k (get_or a k 0) (pair_word d random k) d (share_below B a s.words k) (word_below k));
}
  where
    word_below : (i j : ℕ) → pair_word d random i j < 2 ^ B
    word_below i j =
        cond_both (nat_lt i j) (random (pair d i j)) (random (pair d j i)) (λ (x : ℕ). x < 2 ^ B) (λ e. r (pair d i j)) (λ e. r (pair d j i))
