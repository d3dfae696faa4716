-- The steps of the loops over the pairs i < j, for products and for refreshes.
use Rattle.std.proofs.Common.{◌≡◌, ℕ, suc, ◌+◌, ◌-◌, ◌<◌, ltb, List, length, get_or, set, map, bit_xor, refl, sym, ap, ◌∙◌, arith}
use Rattle.std.proofs.lemmas.Bool.{cond-true, cond-false, lt-ltb, le-ltb}
use Rattle.std.proofs.lemmas.List.FromFn.{fill_by_all}
use Rattle.std.specs.List.{range_with_len}
use Rattle.share_gadgets.specs.Gadgets.{pair, product_of, cross, product_share, product_shares, pair_word, refreshed_share, refreshed_shares}
use Rattle.share_gadgets.specs.Private.PairLoop.{row_start, own_product, product_before, refreshed_before}
use Rattle.share_gadgets.proofs.PairLoopLemmas.{pair_step, row_end, loop_start, loop_end}
use Rattle.share_gadgets.proofs.PairNumbers.{row_step}

module _ (d : ℕ) (a b : List ℕ) (random : ℕ → ℕ) where
  left_term : (i j : ℕ) → i < j → cross d a b random i j ≡ random (pair d i j)
  left_term i j h = cond-true (ltb i j) _ _ (lt-ltb i j h)

  right_term : (i j : ℕ) → i < j → cross d a b random j i ≡ bit_xor (bit_xor (random (pair d i j)) (product_of a b i j)) (product_of a b j i)
  right_term i j h = cond-false (ltb j i) _ _ (le-ltb j i (omega arith))

  -- one pair of a product
  pub product_step : (i j : ℕ) (xs ys zs : List ℕ) (u v : ℕ) → i < j → j < d → xs ≡ product_before d a b random i j
      → ys ≡ set xs i (bit_xor (get_or xs i 0) u) → zs ≡ set ys j (bit_xor (get_or ys j 0) v)
      → u ≡ random (pair d i j) → v ≡ bit_xor (bit_xor u (product_of a b i j)) (product_of a b j i)
      → zs ≡ product_before d a b random i (j + 1)
  product_step i j xs ys zs u v h l ex ey ez eu ev =
      let left : u ≡ cross d a b random i j = eu ∙ sym (left_term i j h) in
      let right : v ≡ cross d a b random j i =
      ev ∙ ap (λ (x : ℕ). bit_xor (bit_xor x (product_of a b i j)) (product_of a b j i)) eu ∙ sym (right_term i j h) in
      let e : suc j ≡ j + 1 = omega arith in
      pair_step d (own_product a b) (cross d a b random) i j xs ys zs h l ex
      (ey ∙ ap (λ (x : ℕ). set xs i (bit_xor (get_or xs i 0) x)) left)
      (ez ∙ ap (λ (x : ℕ). set ys j (bit_xor (get_or ys j 0) x)) right)
      ∙ ap (λ (n : ℕ). product_before d a b random i n) e

  -- the end of a row of a product
  pub product_row_end : (i : ℕ) → i < d → product_before d a b random i d ≡ product_before d a b random (i + 1) (i + 2)
  product_row_end i h =
      let e : suc i ≡ i + 1 = omega arith in
      let f : suc (suc i) ≡ i + 2 = omega arith in
      row_end d (own_product a b) (cross d a b random) i h ∙ (λ k. product_before d a b random (e k) (f k))

  pub product_start : map (own_product a b) (range_with_len 0 d) ≡ product_before d a b random 0 1
  product_start = loop_start d (own_product a b) (cross d a b random) (own_product a b) (λ k h. refl)

  pub product_end : product_before d a b random d (d + 1) ≡ product_shares d a b random
  product_end =
      let e : d + 1 ≡ suc d = omega arith in
      ap (λ (n : ℕ). product_before d a b random d n) e
      ∙ loop_end d (own_product a b) (cross d a b random) (product_share d a b random) (λ k. refl)

module _ (d : ℕ) (a : List ℕ) (random : ℕ → ℕ) where
  left_word : (i j : ℕ) → i < j → pair_word d random i j ≡ random (pair d i j)
  left_word i j h = cond-true (ltb i j) _ _ (lt-ltb i j h)

  right_word : (i j : ℕ) → i < j → pair_word d random j i ≡ random (pair d i j)
  right_word i j h = cond-false (ltb j i) _ _ (le-ltb j i (omega arith))

  -- one pair of a refresh
  pub refreshed_step : (i j : ℕ) (xs ys zs : List ℕ) (u : ℕ) → i < j → j < d → xs ≡ refreshed_before d a random i j
      → ys ≡ set xs i (bit_xor (get_or xs i 0) u) → zs ≡ set ys j (bit_xor (get_or ys j 0) u)
      → u ≡ random (pair d i j) → zs ≡ refreshed_before d a random i (j + 1)
  refreshed_step i j xs ys zs u h l ex ey ez eu =
      let left : u ≡ pair_word d random i j = eu ∙ sym (left_word i j h) in
      let right : u ≡ pair_word d random j i = eu ∙ sym (right_word i j h) in
      let e : suc j ≡ j + 1 = omega arith in
      pair_step d (λ k. get_or a k 0) (pair_word d random) i j xs ys zs h l ex
      (ey ∙ ap (λ (x : ℕ). set xs i (bit_xor (get_or xs i 0) x)) left)
      (ez ∙ ap (λ (x : ℕ). set ys j (bit_xor (get_or ys j 0) x)) right)
      ∙ ap (λ (n : ℕ). refreshed_before d a random i n) e

  -- the end of a row of a refresh
  pub refreshed_row_end : (i : ℕ) → i < d → refreshed_before d a random i d ≡ refreshed_before d a random (i + 1) (i + 2)
  refreshed_row_end i h =
      let e : suc i ≡ i + 1 = omega arith in
      let f : suc (suc i) ≡ i + 2 = omega arith in
      row_end d (λ k. get_or a k 0) (pair_word d random) i h ∙ (λ k. refreshed_before d a random (e k) (f k))

  pub refreshed_start : length a ≡ d → a ≡ refreshed_before d a random 0 1
  refreshed_start h =
      fill_by_all (λ k. get_or a k 0) a d 0 h (λ k l. refl)
      ∙ loop_start d (λ k. get_or a k 0) (pair_word d random) (λ k. get_or a k 0) (λ k l. refl)

  pub refreshed_end : refreshed_before d a random d (d + 1) ≡ refreshed_shares d a random
  refreshed_end =
      let e : d + 1 ≡ suc d = omega arith in
      ap (λ (n : ℕ). refreshed_before d a random d n) e
      ∙ loop_end d (λ k. get_or a k 0) (pair_word d random) (refreshed_share d a random) (λ k. refl)

next : (s r t u d i : ℕ) → s ≡ r → t ≡ r + (d - suc i) → u ≡ t → i < d → s + (d - i - 1) ≡ u
next s r t u d i e f g h = omega arith

-- where the next row starts
pub next_start : (d i start : ℕ) → i < d → start ≡ row_start d i → start + (d - i - 1) ≡ row_start d (i + 1)
next_start d i start h e =
    let f : suc i ≡ i + 1 = omega arith in
    let s = row_step d i h in
    let r : row_start d (i + 1) ≡ row_start d (suc i) = ap (λ (n : ℕ). row_start d n) (sym f) in
    next start (row_start d i) (row_start d (suc i)) (row_start d (i + 1)) d i e s r h
