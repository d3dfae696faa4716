-- A product and a refresh read the random words of pairs alone.
use Rattle.std.proofs.Common.{◌≡◌, ◌≢◌, ℕ, zero, suc, ◌<◌, ◌≤◌, ltb, List, get_or, bit_xor, refl, sym, ap, ◌∙◌, ⊎_elim, arith}
use Rattle.std.proofs.lemmas.Bool.{cond-true, cond-false, lt-ltb, le-ltb, cases_eq, cases_lt}
use Rattle.share_gadgets.specs.Gadgets.{pairs, pair, xor_without, product_of, cross, product_share, product_shares, pair_word, refreshed_share, refreshed_shares}
use Rattle.share_gadgets.proofs.PairNumbers.{pair_below}
use Rattle.share_gadgets.proofs.PairLoopLemmas.{same_shares, without_own, without_more}

without_same : (k first : ℕ) (s t : ℕ → ℕ) (n : ℕ) → ((j : ℕ) → j < n → j ≢ k → s j ≡ t j) → xor_without k first s n ≡ xor_without k first t n
without_same k first s t zero h = refl
without_same k first s t (suc n) h =
    let ih = without_same k first s t n (λ j l a. h j (omega arith) a) in
    ⊎_elim (λ (e : n ≡ k). without_own k first s n e ∙ ih ∙ sym (without_own k first t n e))
    (λ (a : n ≡ k → ⊥). without_more k first s n a ∙ (λ i. bit_xor (ih i) (h n (omega arith) a i)) ∙ sym (without_more k first t n a))
    (cases_eq n k)

below_other : (i j : ℕ) → j ≢ i → j ≤ i → j < i
below_other i j a h = omega arith

module _ (d : ℕ) (s t : ℕ → ℕ) (same : (n : ℕ) → n < pairs d → s n ≡ t n) where
  cross_same : (a b : List ℕ) (i j : ℕ) → i < d → j < d → j ≢ i → cross d a b s i j ≡ cross d a b t i j
  cross_same a b i j h l apart =
      ⊎_elim
      (λ (m : i < j). cond-true (ltb i j) _ _ (lt-ltb i j m) ∙ same (pair d i j) (pair_below d i j m l) ∙ sym (cond-true (ltb i j) _ _ (lt-ltb i j m)))
      (λ (m : j ≤ i). cond-false (ltb i j) _ _ (le-ltb i j m)
      ∙ ap (λ (x : ℕ). bit_xor (bit_xor x (product_of a b j i)) (product_of a b i j)) (same (pair d j i) (pair_below d j i (below_other i j apart m) h))
      ∙ sym (cond-false (ltb i j) _ _ (le-ltb i j m)))
      (cases_lt i j)

  pair_word_same : (i j : ℕ) → i < d → j < d → j ≢ i → pair_word d s i j ≡ pair_word d t i j
  pair_word_same i j h l apart =
      ⊎_elim
      (λ (m : i < j). cond-true (ltb i j) _ _ (lt-ltb i j m) ∙ same (pair d i j) (pair_below d i j m l) ∙ sym (cond-true (ltb i j) _ _ (lt-ltb i j m)))
      (λ (m : j ≤ i). cond-false (ltb i j) _ _ (le-ltb i j m)
      ∙ same (pair d j i) (pair_below d j i (below_other i j apart m) h)
      ∙ sym (cond-false (ltb i j) _ _ (le-ltb i j m)))
      (cases_lt i j)

  pub product_random : (a b : List ℕ) → product_shares d a b s ≡ product_shares d a b t
  product_random a b =
      same_shares d (product_share d a b s) (product_share d a b t)
      (λ k h. without_same k (product_of a b k k) (cross d a b s k) (cross d a b t k) d (λ j l apart. cross_same a b k j h l apart))

  pub refreshed_random : (a : List ℕ) → refreshed_shares d a s ≡ refreshed_shares d a t
  refreshed_random a =
      same_shares d (refreshed_share d a s) (refreshed_share d a t)
      (λ k h. without_same k (get_or a k 0) (pair_word d s k) (pair_word d t k) d (λ j l apart. pair_word_same k j h l apart))
