-- The value of a product is the and of the values, and the value of a refresh is that of its argument.
use Rattle.std.proofs.Common.{◌≡◌, ℕ, zero, suc, ◌+◌, ◌%◌, ◌<◌, ◌≤◌, ltb, List, length, get_or, bit_and, bit_xor, refl, sym, ap, ◌∙◌, arith}
use Rattle.std.proofs.lemmas.Bool.{cond-true, cond-false, lt-ltb, le-ltb}
use Rattle.std.proofs.lemmas.Nat.Bits.{bit_at_xor, same_from_bits}
use Rattle.std.specs.Int.{bit_at}
use lib.Bits.{and_zero_l}
use Rattle.share_gadgets.specs.Sharing.{sharing_value}
use Rattle.share_gadgets.specs.Gadgets.{xor_without, product_of, cross, product_share, product_shares, pair_word, refreshed_share, refreshed_shares, xor_share, xor_shares}
use Rattle.share_gadgets.specs.Private.WordLaws.{xor_assoc, xor_zero_l, xor_zero_r, and_xor, xor_and, xor_self, xor_comm}
use Rattle.share_gadgets.proofs.ValueLemmas.{total, total_same, total_xor, total_and_left, total_and_right, value_from_function, value_from_list}
use Rattle.share_gadgets.proofs.PairLoopLemmas.{without_own, without_more}

-- a sum that has not reached its own share has no gap
pub without_total : (k first : ℕ) (terms : ℕ → ℕ) (n : ℕ) → n ≤ k → xor_without k first terms n ≡ bit_xor first (total n terms)
without_total k first terms zero h = sym (xor_zero_r first)
without_total k first terms (suc n) h =
    without_more k first terms n (λ e. absurd (omega arith))
    ∙ ap (λ (x : ℕ). bit_xor x (terms n)) (without_total k first terms n (omega arith))
    ∙ xor_assoc first (total n terms) (terms n)

-- the sums of n + 1 shares, from those of n
more_shares : (first : ℕ → ℕ) (terms : ℕ → ℕ → ℕ) (n : ℕ)
    → total (suc n) (λ k. xor_without k (first k) (terms k) (suc n))
    ≡ bit_xor (bit_xor (total n (λ k. xor_without k (first k) (terms k) n)) (total n (λ k. terms k n))) (bit_xor (first n) (total n (terms n)))
more_shares first terms n =
    let others : total n (λ k. xor_without k (first k) (terms k) (suc n))
    ≡ bit_xor (total n (λ k. xor_without k (first k) (terms k) n)) (total n (λ k. terms k n)) =
    total_same n (λ k. xor_without k (first k) (terms k) (suc n)) (λ k. bit_xor (xor_without k (first k) (terms k) n) (terms k n))
    (λ k h. without_more k (first k) (terms k) n (λ e. absurd (omega arith)))
    ∙ total_xor n (λ k. xor_without k (first k) (terms k) n) (λ k. terms k n) in
    let own : xor_without n (first n) (terms n) (suc n) ≡ bit_xor (first n) (total n (terms n)) =
    without_own n (first n) (terms n) n refl ∙ without_total n (first n) (terms n) n (omega arith) in
    λ i. bit_xor (others i) (own i)

parity : (p z s q r : ℕ) → ((p + z) % 2 + (s + ((z + q) % 2 + r) % 2) % 2) % 2 ≡ ((p + q) % 2 + (r + s) % 2) % 2
parity p z s q r = omega arith

-- the terms of pairs fall out, and the cross terms stay
cancel : (p z s q r : ℕ) → bit_xor (bit_xor p z) (bit_xor s (bit_xor (bit_xor z q) r)) ≡ bit_xor (bit_xor p q) (bit_xor r s)
cancel p z s q r =
    same_from_bits (bit_xor (bit_xor p z) (bit_xor s (bit_xor (bit_xor z q) r))) (bit_xor (bit_xor p q) (bit_xor r s))
    (λ i. bit_at_xor (bit_xor p z) (bit_xor s (bit_xor (bit_xor z q) r)) i
    ∙ (λ j. (bit_at_xor p z i j + (bit_at_xor s (bit_xor (bit_xor z q) r) i
    ∙ ap (λ (x : ℕ). (bit_at s i + x) % 2) (bit_at_xor (bit_xor z q) r i ∙ ap (λ (x : ℕ). (x + bit_at r i) % 2) (bit_at_xor z q i))) j) % 2)
    ∙ parity (bit_at p i) (bit_at z i) (bit_at s i) (bit_at q i) (bit_at r i)
    ∙ sym ((bit_at_xor (bit_xor p q) (bit_xor r s) i) ∙ (λ j. (bit_at_xor p q i j + bit_at_xor r s i j) % 2)))

module _ (a b : ℕ → ℕ) (z : ℕ → ℕ → ℕ)
    (crossed : (i j : ℕ) → i < j → z j i ≡ bit_xor (bit_xor (z i j) (bit_and (a i) (b j))) (bit_and (a j) (b i))) where
  -- the terms of the last share
  last_terms : (n : ℕ) → total n (z n) ≡ bit_xor (bit_xor (total n (λ k. z k n)) (bit_and (total n a) (b n))) (bit_and (a n) (total n b))
  last_terms n =
      total_same n (z n) (λ k. bit_xor (bit_xor (z k n) (bit_and (a k) (b n))) (bit_and (a n) (b k))) (λ k h. crossed k n h)
      ∙ total_xor n (λ k. bit_xor (z k n) (bit_and (a k) (b n))) (λ k. bit_and (a n) (b k))
      ∙ (λ i. bit_xor ((total_xor n (λ k. z k n) (λ k. bit_and (a k) (b n))
      ∙ ap (bit_xor (total n (λ k. z k n))) (total_and_right n (b n) a)) i) (total_and_left n (a n) b i))

  pub product_total : (n : ℕ) → total n (λ k. xor_without k (bit_and (a k) (b k)) (z k) n) ≡ bit_and (total n a) (total n b)
  product_total zero = sym (and_zero_l 0)
  product_total (suc n) =
      more_shares (λ k. bit_and (a k) (b k)) z n
      ∙ (λ i. bit_xor (bit_xor (product_total n i) (total n (λ k. z k n))) (bit_xor (bit_and (a n) (b n)) (last_terms n i)))
      ∙ cancel (bit_and (total n a) (total n b)) (total n (λ k. z k n)) (bit_and (a n) (b n)) (bit_and (total n a) (b n)) (bit_and (a n) (total n b))
      ∙ (λ i. bit_xor (sym (and_xor (total n a) (total n b) (b n)) i) (sym (and_xor (a n) (total n b) (b n)) i))
      ∙ sym (xor_and (total n a) (a n) (bit_xor (total n b) (b n)))

pairs_fall : (f z s : ℕ) → bit_xor (bit_xor f z) (bit_xor s z) ≡ bit_xor f s
pairs_fall f z s =
    ap (bit_xor (bit_xor f z)) (xor_comm s z)
    ∙ xor_assoc f z (bit_xor z s)
    ∙ ap (bit_xor f) (sym (xor_assoc z z s) ∙ ap (λ (x : ℕ). bit_xor x s) (xor_self z) ∙ xor_zero_l s)

module _ (a : ℕ → ℕ) (z : ℕ → ℕ → ℕ) (even : (i j : ℕ) → i < j → z j i ≡ z i j) where
  pub refreshed_total : (n : ℕ) → total n (λ k. xor_without k (a k) (z k) n) ≡ total n a
  refreshed_total zero = refl
  refreshed_total (suc n) =
      more_shares a z n
      ∙ (λ i. bit_xor (bit_xor (refreshed_total n i) (total n (λ k. z k n))) (bit_xor (a n) (total_same n (z n) (λ k. z k n) (λ k h. even k n h) i)))
      ∙ pairs_fall (total n a) (total n (λ k. z k n)) (a n)

cross_above : (d : ℕ) (a b : List ℕ) (random : ℕ → ℕ) (i j : ℕ) → i < j
    → cross d a b random j i ≡ bit_xor (bit_xor (cross d a b random i j) (product_of a b i j)) (product_of a b j i)
cross_above d a b random i j h =
    cond-false (ltb j i) _ _ (le-ltb j i (omega arith))
    ∙ ap (λ (x : ℕ). bit_xor (bit_xor x (product_of a b i j)) (product_of a b j i)) (sym (cond-true (ltb i j) _ _ (lt-ltb i j h)))

pair_word_even : (d : ℕ) (random : ℕ → ℕ) (i j : ℕ) → i < j → pair_word d random j i ≡ pair_word d random i j
pair_word_even d random i j h =
    cond-false (ltb j i) _ _ (le-ltb j i (omega arith)) ∙ sym (cond-true (ltb i j) _ _ (lt-ltb i j h))

-- the value of a product is the and of the values
pub product_value : (d : ℕ) (a b : List ℕ) (random : ℕ → ℕ) → length a ≡ d → length b ≡ d
    → sharing_value (product_shares d a b random) ≡ bit_and (sharing_value a) (sharing_value b)
product_value d a b random p q =
    value_from_function d (product_share d a b random)
    ∙ product_total (λ k. get_or a k 0) (λ k. get_or b k 0) (cross d a b random) (cross_above d a b random) d
    ∙ sym (λ i. bit_and (value_from_list d a p i) (value_from_list d b q i))

-- the value of a refresh is that of its argument
pub refreshed_value : (d : ℕ) (a : List ℕ) (random : ℕ → ℕ) → length a ≡ d → sharing_value (refreshed_shares d a random) ≡ sharing_value a
refreshed_value d a random p =
    value_from_function d (refreshed_share d a random)
    ∙ refreshed_total (λ k. get_or a k 0) (pair_word d random) (pair_word_even d random) d
    ∙ sym (value_from_list d a p)

-- the value of an exclusive-or is that of the values
pub xor_value : (d : ℕ) (a b : List ℕ) → length a ≡ d → length b ≡ d → sharing_value (xor_shares d a b) ≡ bit_xor (sharing_value a) (sharing_value b)
xor_value d a b p q =
    value_from_function d (xor_share a b)
    ∙ total_xor d (λ k. get_or a k 0) (λ k. get_or b k 0)
    ∙ sym (λ i. bit_xor (value_from_list d a p i) (value_from_list d b q i))
