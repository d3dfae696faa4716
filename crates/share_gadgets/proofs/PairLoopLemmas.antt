-- The loop over the pairs i < j adds to each share its terms in rising order of the other share.
use Rattle.std.proofs.Common.{◌≡◌, ◌≢◌, ℕ, suc, ◌<◌, ◌≤◌, eqb, ltb, List, length, get_or, set, map, bit_xor, refl, sym, ap, ◌∙◌, ⊎_elim, arith, subst, length-set, get_or-set_same, get_or-set_other}
use Rattle.std.proofs.lemmas.Bool.{cond-true, cond-false, lt-ltb, le-ltb, eq-eqb, ne_eqb, cases_eq, cases_order, cases_lt}
use Rattle.std.proofs.lemmas.List.FromFn.{length-map-range_with_len, get_or-map-range_with_len}
use Rattle.std.proofs.lemmas.Grind.{same_number_lists}
use Rattle.std.specs.List.{range_with_len}
use Rattle.share_gadgets.specs.Gadgets.{xor_without}
use Rattle.share_gadgets.specs.Private.PairLoop.{reached, share_before, shares_before}

-- a sum passes its own share without a term
pub without_own : (k first : ℕ) (terms : ℕ → ℕ) (n : ℕ) → n ≡ k → xor_without k first terms (suc n) ≡ xor_without k first terms n
without_own k first terms n e = cond-true (eqb n k) _ _ (eq-eqb n k e)

pub without_more : (k first : ℕ) (terms : ℕ → ℕ) (n : ℕ) → n ≢ k
    → xor_without k first terms (suc n) ≡ bit_xor (xor_without k first terms n) (terms n)
without_more k first terms n e = cond-false (eqb n k) _ _ (ne_eqb n k e)

reached_before : (d i j k : ℕ) → k < i → reached d i j k ≡ d
reached_before d i j k h = cond-true (ltb k i) _ _ (lt-ltb k i h)

reached_row : (d i j k : ℕ) → k ≡ i → reached d i j k ≡ j
reached_row d i j k h = cond-false (ltb k i) _ _ (le-ltb k i (omega arith)) ∙ cond-true (eqb k i) _ _ (eq-eqb k i h)

reached_passed : (d i j k : ℕ) → i < k → k < j → reached d i j k ≡ suc i
reached_passed d i j k h l =
    cond-false (ltb k i) _ _ (le-ltb k i (omega arith)) ∙ cond-false (eqb k i) _ _ (ne_eqb k i (λ e. absurd (omega arith)))
    ∙ cond-true (ltb k j) _ _ (lt-ltb k j l)

reached_due : (d i j k : ℕ) → i < k → j ≤ k → reached d i j k ≡ i
reached_due d i j k h l =
    cond-false (ltb k i) _ _ (le-ltb k i (omega arith)) ∙ cond-false (eqb k i) _ _ (ne_eqb k i (λ e. absurd (omega arith)))
    ∙ cond-false (ltb k j) _ _ (le-ltb k j l)

apart_le : (i k : ℕ) → k ≢ i → i ≤ k → i < k
apart_le i k a h = omega arith

-- lists of shares that agree at each share
pub same_shares : (d : ℕ) (f g : ℕ → ℕ) → ((k : ℕ) → k < d → f k ≡ g k) → map f (range_with_len 0 d) ≡ map g (range_with_len 0 d)
same_shares d f g h =
    same_number_lists _ _ (length-map-range_with_len f 0 d ∙ sym (length-map-range_with_len g 0 d))
    (λ k l. let below : k < d = omega (arith, length-map-range_with_len f 0 d) in
    get_or-map-range_with_len f 0 d k k 0 below (omega arith) ∙ h k below
    ∙ sym (get_or-map-range_with_len g 0 d k k 0 below (omega arith)))

module _ (d : ℕ) (first : ℕ → ℕ) (terms : ℕ → ℕ → ℕ) where
  -- a share as the loop stands at the pair (i, j)
  share_at : (i j k : ℕ) → k < d → get_or (shares_before d first terms i j) k 0 ≡ share_before d first terms i j k
  share_at i j k h = get_or-map-range_with_len (share_before d first terms i j) 0 d k k 0 h (omega arith)

  by_reach : (i j k n : ℕ) → reached d i j k ≡ n → share_before d first terms i j k ≡ xor_without k (first k) (terms k) n
  by_reach i j k n e = ap (λ (m : ℕ). xor_without k (first k) (terms k) m) e

  -- share i takes the term of j
  left_takes : (i j : ℕ) → i < j → share_before d first terms i (suc j) i ≡ bit_xor (share_before d first terms i j i) (terms i j)
  left_takes i j h =
      by_reach i (suc j) i (suc j) (reached_row d i (suc j) i refl)
      ∙ without_more i (first i) (terms i) j (λ e. absurd (omega arith))
      ∙ ap (λ (x : ℕ). bit_xor x (terms i j)) (sym (by_reach i j i j (reached_row d i j i refl)))

  -- share j takes the term of i
  right_takes : (i j : ℕ) → i < j → share_before d first terms i (suc j) j ≡ bit_xor (share_before d first terms i j j) (terms j i)
  right_takes i j h =
      by_reach i (suc j) j (suc i) (reached_passed d i (suc j) j h (omega arith))
      ∙ without_more j (first j) (terms j) i (λ e. absurd (omega arith))
      ∙ ap (λ (x : ℕ). bit_xor x (terms j i)) (sym (by_reach i j j i (reached_due d i j j h (omega arith))))

  -- each other share stays
  others_stay : (i j k : ℕ) → i < j → k ≢ i → k ≢ j → reached d i (suc j) k ≡ reached d i j k
  others_stay i j k h a b =
      ⊎_elim (λ (l : k < i). reached_before d i (suc j) k l ∙ sym (reached_before d i j k l))
      (λ (l : i ≤ k). ⊎_elim
      (λ (m : k < j). reached_passed d i (suc j) k (apart_le i k a l) (omega arith) ∙ sym (reached_passed d i j k (apart_le i k a l) m))
      (λ (m : j ≤ k). reached_due d i (suc j) k (apart_le i k a l) (apart_le j k b m) ∙ sym (reached_due d i j k (apart_le i k a l) m))
      (cases_lt k j))
      (cases_lt k i)

  -- one pair: share i takes the term of j, then share j that of i
  pub pair_step : (i j : ℕ) (xs ys zs : List ℕ) → i < j → j < d → xs ≡ shares_before d first terms i j
      → ys ≡ set xs i (bit_xor (get_or xs i 0) (terms i j)) → zs ≡ set ys j (bit_xor (get_or ys j 0) (terms j i))
      → zs ≡ shares_before d first terms i (suc j)
  pair_step i j xs ys zs h l ex ey ez =
      let many : length xs ≡ d = ap (λ (s : List ℕ). length s) ex ∙ length-map-range_with_len (share_before d first terms i j) 0 d in
      let many_y : length ys ≡ d = ap (λ (s : List ℕ). length s) ey ∙ length-set xs i _ ∙ many in
      let many_z : length zs ≡ d = ap (λ (s : List ℕ). length s) ez ∙ length-set ys j _ ∙ many_y in
      let x_at : (k : ℕ) → k < d → get_or xs k 0 ≡ share_before d first terms i j k =
      λ k m. ap (λ (s : List ℕ). get_or s k 0) ex ∙ share_at i j k m in
      let y_own : get_or ys i 0 ≡ bit_xor (get_or xs i 0) (terms i j) =
      ap (λ (s : List ℕ). get_or s i 0) ey ∙ get_or-set_same xs i _ 0 (omega arith) in
      let y_other : (k : ℕ) → k ≢ i → get_or ys k 0 ≡ get_or xs k 0 =
      λ k a. ap (λ (s : List ℕ). get_or s k 0) ey ∙ get_or-set_other xs i k _ 0 a in
      let z_own : get_or zs j 0 ≡ bit_xor (get_or ys j 0) (terms j i) =
      ap (λ (s : List ℕ). get_or s j 0) ez ∙ get_or-set_same ys j _ 0 (omega arith) in
      let z_other : (k : ℕ) → k ≢ j → get_or zs k 0 ≡ get_or ys k 0 =
      λ k a. ap (λ (s : List ℕ). get_or s k 0) ez ∙ get_or-set_other ys j k _ 0 a in
      let apart : j ≢ i = λ e. absurd (omega arith) in
      let apart' : i ≢ j = λ e. absurd (omega arith) in
      let left : get_or zs i 0 ≡ share_before d first terms i (suc j) i =
      z_other i apart' ∙ y_own ∙ ap (λ (x : ℕ). bit_xor x (terms i j)) (x_at i (omega arith)) ∙ sym (left_takes i j h) in
      let right : get_or zs j 0 ≡ share_before d first terms i (suc j) j =
      z_own ∙ ap (λ (x : ℕ). bit_xor x (terms j i)) (y_other j apart ∙ x_at j l) ∙ sym (right_takes i j h) in
      let stays : (k : ℕ) → k < d → k ≢ i → k ≢ j → get_or zs k 0 ≡ share_before d first terms i (suc j) k =
      λ k m a b. z_other k b ∙ y_other k a ∙ x_at k m ∙ ap (λ (n : ℕ). xor_without k (first k) (terms k) n) (sym (others_stay i j k h a b)) in
      let each : (k : ℕ) → k < d → get_or zs k 0 ≡ share_before d first terms i (suc j) k =
      λ k m. ⊎_elim (λ (e : k ≡ i). subst (λ (n : ℕ). get_or zs n 0 ≡ share_before d first terms i (suc j) n) (sym e) left)
      (λ (a : k ≡ i → ⊥). ⊎_elim (λ (e : k ≡ j). subst (λ (n : ℕ). get_or zs n 0 ≡ share_before d first terms i (suc j) n) (sym e) right)
      (λ (b : k ≡ j → ⊥). stays k m a b) (cases_eq k j)) (cases_eq k i) in
      same_number_lists zs (shares_before d first terms i (suc j)) (many_z ∙ sym (length-map-range_with_len (share_before d first terms i (suc j)) 0 d))
      (λ k m. let below : k < d = omega arith in each k below ∙ sym (share_at i (suc j) k below))

  -- the end of a row is the start of the next
  pub row_end : (i : ℕ) → i < d → shares_before d first terms i d ≡ shares_before d first terms (suc i) (suc (suc i))
  row_end i h =
      same_shares d (share_before d first terms i d) (share_before d first terms (suc i) (suc (suc i)))
      (λ k l. ⊎_elim
      (λ (e : k ≡ i). by_reach i d k d (reached_row d i d k e) ∙ sym (by_reach (suc i) (suc (suc i)) k d (reached_before d (suc i) (suc (suc i)) k (omega arith))))
      (⊎_elim
      (λ (m : k < i). by_reach i d k d (reached_before d i d k m) ∙ sym (by_reach (suc i) (suc (suc i)) k d (reached_before d (suc i) (suc (suc i)) k (omega arith))))
      (λ (m : i < k). by_reach i d k (suc i) (reached_passed d i d k m l) ∙ sym (next_row i k m)))
      (cases_order k i))
    where
      next_row : (i k : ℕ) → i < k → share_before d first terms (suc i) (suc (suc i)) k ≡ xor_without k (first k) (terms k) (suc i)
      next_row i k m =
          ⊎_elim
          (λ (e : k ≡ suc i). by_reach (suc i) (suc (suc i)) k (suc (suc i)) (reached_row d (suc i) (suc (suc i)) k e) ∙ without_own k (first k) (terms k) (suc i) (sym e))
          (λ (a : k ≡ suc i → ⊥). by_reach (suc i) (suc (suc i)) k (suc i)
          (reached_due d (suc i) (suc (suc i)) k (apart_le (suc i) k a m) (apart_le (suc i) k a m)))
          (cases_eq k (suc i))

  -- before the first pair each share is its first term
  pub loop_start : (given : ℕ → ℕ) → ((k : ℕ) → k < d → given k ≡ first k) → map given (range_with_len 0 d) ≡ shares_before d first terms 0 1
  loop_start given same =
      same_shares d given (share_before d first terms 0 1)
      (λ k h. same k h ∙ ⊎_elim
      (λ (e : k ≡ 0). sym (by_reach 0 1 k 1 (reached_row d 0 1 k e) ∙ without_own k (first k) (terms k) 0 (sym e)))
      (λ (a : k ≡ 0 → ⊥). sym (by_reach 0 1 k 0 (reached_due d 0 1 k (apart_le 0 k a (omega arith)) (apart_le 0 k a (omega arith)))))
      (cases_eq k 0))

  -- past the last row each share has passed all numbers
  pub loop_end : (total : ℕ → ℕ) → ((k : ℕ) → total k ≡ xor_without k (first k) (terms k) d)
      → shares_before d first terms d (suc d) ≡ map total (range_with_len 0 d)
  loop_end total same =
      same_shares d (share_before d first terms d (suc d)) total
      (λ k h. by_reach d (suc d) k d (reached_before d d (suc d) k h) ∙ sym (same k))
