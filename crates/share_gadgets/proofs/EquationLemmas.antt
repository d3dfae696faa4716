-- Words of B bits within words of more bits.
use Rattle.std.proofs.Common.{◌≡◌, ℕ, zero, suc, ◌+◌, ◌-◌, ◌*◌, ◌/◌, ◌%◌, ◌^◌, ◌<◌, ◌≤◌, List, [], ◌∷◌, ◌++◌, length, get_or, take, set, map, replicate, All, Result, IfOk, length-take, bit_and, bit_xor, sym, ap, ◌∙◌, arith, subst, mod-lt, mod-eq_of_lt}
use Rattle.std.proofs.lemmas.Nat.{mod-pow-add, mod_low, and_mask, pow_pos}
use Rattle.std.proofs.lemmas.List.{map_push, map_more, replicate_more, get_or-map, get_or-take, map-set, length-map}
use Rattle.share_gadgets.specs.Sharing.{IsSharing}
use Rattle.share_gadgets.specs.Gadgets.{constant_shares}
use Rattle.share_gadgets.specs.Private.Cut.{cut_number, cut_word}
use Rattle.usuba0.specs.Term.{ones, word_of_constant, shifted_left, rotated_left}
use Rattle.share_gadgets.proofs.Shared.{rotl_by_xor, pow_le, ones_below, constant_below}

-- a cut to b bits and then to B of them
pub cut_again : (n B b : ℕ) → B ≤ b → n % 2 ^ b % 2 ^ B ≡ n % 2 ^ B
cut_again n B b h =
    let e : b ≡ (b - B) + B = omega arith in
    ap (λ (c : ℕ). n % 2 ^ c % 2 ^ B) e ∙ ap (λ (m : ℕ). m % 2 ^ B) (mod-pow-add n (b - B) B)
    ∙ mod_low (n / 2 ^ B % 2 ^ (b - B)) B (n % 2 ^ B) (mod-lt n (pow_pos B))

module _ {X : Type 0} (word : X → ℕ) (bits B : ℕ) (room : B ≤ bits) where
  module _ (and : X → X → X) (word_and : (x y : X) → word (and x y) ≡ bit_and (word x) (word y))
      (shl : X → ℕ → X) (word_shl : (x : X) (k : ℕ) → word (shl x k) ≡ (word x * 2 ^ k) % 2 ^ bits) where
    -- a shift to the left, cut to B bits
    pub left_word : (x m : X) (k : ℕ) → word m ≡ ones B → word (and (shl x k) m) ≡ shifted_left B k (word x)
    left_word x m k e =
        word_and (shl x k) m ∙ (λ i. bit_and (word_shl x k i) (e i)) ∙ and_mask ((word x * 2 ^ k) % 2 ^ bits) B
        ∙ cut_again (word x * 2 ^ k) B bits room

    -- a rotation to the left
    pub rotated_word : (xor : X → X → X) (shr : X → ℕ → X) → ((x y : X) → word (xor x y) ≡ bit_xor (word x) (word y))
        → ((x : X) (k : ℕ) → word (shr x k) ≡ word x / 2 ^ k) → (x m : X) (k j : ℕ) → word m ≡ ones B → k ≤ B → j ≡ B - k → word x < 2 ^ B
        → word (xor (and (shl x k) m) (shr x j)) ≡ rotated_left B k (word x)
    rotated_word xor shr word_xor word_shr x m k j e h f l =
        word_xor (and (shl x k) m) (shr x j)
        ∙ (λ i. bit_xor (left_word x m k e i) ((word_shr x j ∙ ap (λ (n : ℕ). word x / 2 ^ n) f) i))
        ∙ sym (rotl_by_xor B k (word x) h l)

-- a random word, cut to B bits
pub cut_is : (w B bits : ℕ) → B ≤ bits → bit_and w (2 ^ B - 1) % 2 ^ bits ≡ w % 2 ^ B
cut_is w B bits h =
    let low : w % 2 ^ B < 2 ^ B = mod-lt w (pow_pos B) in
    let more = pow_le B bits h in
    let below : w % 2 ^ B < 2 ^ bits = omega arith in
    ap (λ (n : ℕ). n % 2 ^ bits) (and_mask w B) ∙ mod-eq_of_lt below

-- a word of B bits is none that a cut changes
pub small_is : (w B bits : ℕ) → B ≤ bits → w < 2 ^ B → w % 2 ^ bits ≡ w
small_is w B bits h l =
    let more = pow_le B bits h in
    let below : w < 2 ^ bits = omega arith in
    mod-eq_of_lt below

-- one more number that a function gives
pub map_step : {X : Type 0} (word : X → ℕ) (f : ℕ → ℕ) (ns : List ℕ) (i d : ℕ) (xs ys : List X) (y : X) → i < length ns
    → map word xs ≡ map f (take i ns) → ys ≡ xs ++ y ∷ [] → word y ≡ f (get_or ns i d)
    → map word ys ≡ map f (take (i + 1) ns)
map_step word f ns i d xs ys y h e p w =
    ap (map word) p ∙ map_push word xs y ∙ (λ k. e k ++ w k ∷ []) ∙ sym (map_more f ns i d h)

-- one more number of a list of words
pub map_words_step : {X : Type 0} (word : X → ℕ) (f : ℕ → ℕ) (zs : List X) (i : ℕ) (z : X) (xs ys : List X) (y : X) → i < length zs → z ≡ get_or zs i z
    → map word xs ≡ map f (map word (take i zs)) → ys ≡ xs ++ y ∷ [] → word y ≡ f (word z)
    → map word ys ≡ map f (map word (take (i + 1) zs))
map_words_step word f zs i z xs ys y h r e p w =
    ap (map word) p ∙ map_push word xs y ∙ (λ k. e k ++ w k ∷ [])
    ∙ sym (ap (map f) (map_more word zs i z h ∙ ap (λ (v : _). map word (take i zs) ++ word v ∷ []) (sym r)) ∙ map_push f (map word (take i zs)) (word z))

-- one more zero
pub zeros_step : {X : Type 0} (word : X → ℕ) (k : ℕ) (xs ys : List X) (y : X) → map word xs ≡ replicate k 0 → ys ≡ xs ++ y ∷ [] → word y ≡ 0
    → map word ys ≡ replicate (k + 1) 0
zeros_step word k xs ys y e p w =
    ap (map word) p ∙ map_push word xs y ∙ (λ i. e i ++ w i ∷ []) ∙ replicate_more k 0

zeros_set : (d m : ℕ) → 0 < d → set (replicate d 0) 0 m ≡ constant_shares d m
zeros_set zero m h = absurd (omega arith)
zeros_set (suc n) m h = let e : n ≡ suc n - 1 = omega arith in ap (λ (k : ℕ). m ∷ replicate k 0) e

-- zeros with a word in share 0
pub constant_made : {X : Type 0} (word : X → ℕ) (d m : ℕ) (xs : List X) (y : X) → 0 < d → map word xs ≡ replicate d 0 → word y ≡ m
    → map word (set xs 0 y) ≡ constant_shares d m
constant_made word d m xs y h e w = map-set word xs 0 y ∙ (λ i. set (e i) 0 (w i)) ∙ zeros_set d m h

-- a constant and a mask of ones are words of B bits
pub constant_is : (w B bits c n : ℕ) → n ≡ word_of_constant w B c → w ≤ B → B ≤ bits → c < 2 ^ w → n % 2 ^ bits ≡ word_of_constant w B c
constant_is w B bits c n e h room l = ap (λ (m : ℕ). m % 2 ^ bits) e ∙ small_is (word_of_constant w B c) B bits room (constant_below w B c h l)

pub ones_is : (B bits n : ℕ) → n ≡ ones B → B ≤ bits → n % 2 ^ bits ≡ ones B
ones_is B bits n e room = ap (λ (m : ℕ). m % 2 ^ bits) e ∙ small_is (ones B) B bits room (ones_below B)

-- the sharing of a register, as numbers
pub row_read : {X : Type 0} (word : X → ℕ) (xss : List (List X)) (k : ℕ) (x : List X) → k < length xss → x ≡ get_or xss k x
    → map word x ≡ get_or (map (map word) xss) k []
row_read word xss k x h e = ap (map word) e ∙ sym (get_or-map (map word) xss k x [] h)

pub row_words : {X : Type 0} (word : X → ℕ) (xss : List (List X)) (k : ℕ) (x : List X) (B d : ℕ) → k < length xss → x ≡ get_or xss k x
    → All (IsSharing B d) (map (map word) xss) → All (λ n. n < 2 ^ B) (map word x)
row_words word xss k x B d h e all =
    let within : k < length (map (map word) xss) = omega (arith, length-map xss (map word)) in
    let P : List ℕ → Type 0 = λ (ns : List ℕ). All (λ n. n < 2 ^ B) ns in
    subst P (sym (row_read word xss k x h e)) (all k [] within).words

-- what a call makes, where it is what an equation makes
pub carry : {X E : Type 0} (word : X → ℕ) (result : Result (List X) E) (p q : List ℕ) → IfOk result (λ s. map word s ≡ p) → p ≡ q → IfOk result (λ s. map word s ≡ q)
carry word result p q h e =
    let P : List ℕ → Type 0 = λ (to : List ℕ). IfOk result (λ s. map word s ≡ to) in
    subst P e h

-- the words that were cut are those that are left
pub cut_read : {X : Type 0} (word : X → ℕ) (B n : ℕ) (xs : List X) (given words : List ℕ) → map word xs ≡ map (cut_number B) given → given ≡ take n words → n ≤ length words
    → (k : ℕ) → k < n → get_or (map word xs) k 0 ≡ cut_word B words k
cut_read word B n xs given words e g h k l =
    let many : k < length (take n words) = omega (arith, length-take n words) in
    ap (λ (ys : List ℕ). get_or ys k 0) (e ∙ ap (map (cut_number B)) g)
    ∙ get_or-map (cut_number B) (take n words) k 0 0 many
    ∙ ap (cut_number B) (get_or-take n words k 0 l)
