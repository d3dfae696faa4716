-- The value of a sharing, as an exclusive-or over the numbers of its shares.
use Rattle.std.proofs.Common.{◌≡◌, ℕ, zero, suc, ◌+◌, ◌<◌, List, [], ◌∷◌, length, get_or, map, replicate, fold, bit_and, bit_xor, refl, sym, ap, ◌∙◌, arith}
use Rattle.std.proofs.lemmas.List.FromFn.{fill_by_all, map-range_with_len_more}
use Rattle.std.proofs.lemmas.List.Sums.{fold_push}
use Rattle.std.specs.List.{range_with_len}
use lib.Bits.{and_zero_l, and_zero_r}
use Rattle.share_gadgets.specs.Sharing.{sharing_value}
use Rattle.share_gadgets.specs.Private.WordLaws.{xor_assoc, xor_comm, xor_zero_l, xor_zero_r, and_xor, xor_and}

-- the exclusive-or of f k for each k below n
abbrev pub total : ℕ → (ℕ → ℕ) → ℕ
total zero f = 0
total (suc n) f = bit_xor (total n f) (f n)

swap_middle : (a b c d : ℕ) → bit_xor (bit_xor a b) (bit_xor c d) ≡ bit_xor (bit_xor a c) (bit_xor b d)
swap_middle a b c d =
    xor_assoc a b (bit_xor c d)
    ∙ ap (bit_xor a) (sym (xor_assoc b c d) ∙ ap (λ (x : ℕ). bit_xor x d) (xor_comm b c) ∙ xor_assoc c b d)
    ∙ sym (xor_assoc a c (bit_xor b d))

pub total_same : (n : ℕ) (f g : ℕ → ℕ) → ((k : ℕ) → k < n → f k ≡ g k) → total n f ≡ total n g
total_same zero f g h = refl
total_same (suc n) f g h =
    let ih = total_same n f g (λ k l. h k (omega arith)) in
    λ i. bit_xor (ih i) (h n (omega arith) i)

pub total_xor : (n : ℕ) (f g : ℕ → ℕ) → total n (λ k. bit_xor (f k) (g k)) ≡ bit_xor (total n f) (total n g)
total_xor zero f g = sym (xor_zero_l 0)
total_xor (suc n) f g =
    ap (λ (x : ℕ). bit_xor x (bit_xor (f n) (g n))) (total_xor n f g) ∙ swap_middle (total n f) (total n g) (f n) (g n)

pub total_and_left : (n x : ℕ) (f : ℕ → ℕ) → total n (λ k. bit_and x (f k)) ≡ bit_and x (total n f)
total_and_left zero x f = sym (and_zero_r x)
total_and_left (suc n) x f =
    ap (λ (y : ℕ). bit_xor y (bit_and x (f n))) (total_and_left n x f) ∙ sym (and_xor x (total n f) (f n))

pub total_and_right : (n x : ℕ) (f : ℕ → ℕ) → total n (λ k. bit_and (f k) x) ≡ bit_and (total n f) x
total_and_right zero x f = sym (and_zero_l x)
total_and_right (suc n) x f =
    ap (λ (y : ℕ). bit_xor y (bit_and (f n) x)) (total_and_right n x f) ∙ sym (xor_and (total n f) (f n) x)

-- the value of shares that a function gives
pub value_from_function : (n : ℕ) (f : ℕ → ℕ) → sharing_value (map f (range_with_len 0 n)) ≡ total n f
value_from_function zero f = refl
value_from_function (suc n) f =
    let e : suc n ≡ n + 1 = omega arith in
    ap (λ (m : ℕ). sharing_value (map f (range_with_len 0 m))) e
    ∙ ap (λ (xs : List ℕ). sharing_value xs) (map-range_with_len_more f 0 n n (omega arith))
    ∙ fold_push bit_xor 0 (map f (range_with_len 0 n)) (f n)
    ∙ ap (λ (x : ℕ). bit_xor x (f n)) (value_from_function n f)

-- the value of a list of shares
pub value_from_list : (n : ℕ) (xs : List ℕ) → length xs ≡ n → sharing_value xs ≡ total n (λ k. get_or xs k 0)
value_from_list n xs e =
    ap (λ (ys : List ℕ). sharing_value ys) (fill_by_all (λ k. get_or xs k 0) xs n 0 e (λ k h. refl))
    ∙ value_from_function n (λ k. get_or xs k 0)

-- an exclusive-or that begins with a word
pub fold_from : (x : ℕ) (xs : List ℕ) → fold bit_xor x xs ≡ bit_xor x (sharing_value xs)
fold_from x [] = sym (xor_zero_r x)
fold_from x (y ∷ ys) =
    fold_from (bit_xor x y) ys ∙ xor_assoc x y (sharing_value ys)
    ∙ ap (bit_xor x) (sym (fold_from y ys) ∙ ap (λ (z : ℕ). fold bit_xor z ys) (sym (xor_zero_l y)))

-- the value of a share and others
pub value_cons : (x : ℕ) (xs : List ℕ) → sharing_value (x ∷ xs) ≡ bit_xor x (sharing_value xs)
value_cons x xs = ap (λ (z : ℕ). fold bit_xor z xs) (xor_zero_l x) ∙ fold_from x xs

-- zeros have the value 0
pub value_zeros : (n : ℕ) → sharing_value (replicate n 0) ≡ 0
value_zeros zero = refl
value_zeros (suc n) = value_cons 0 (replicate n 0) ∙ xor_zero_l (sharing_value (replicate n 0)) ∙ value_zeros n
