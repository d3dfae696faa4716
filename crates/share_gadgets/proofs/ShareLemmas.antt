-- Lists of words as lists of numbers: what the loops over shares leave.
use Rattle.std.proofs.Common.{◌≡◌, ℕ, ◌+◌, ◌<◌, List, [], ◌∷◌, ◌++◌, length, get_or, take, set, map, bit_and, bit_xor, sym, ap, ◌∙◌, arith}
use Rattle.std.proofs.lemmas.List.{map-set, get_or-map, map_push, map_more}
use Rattle.std.proofs.lemmas.List.FromFn.{map-range_with_len_more}
use Rattle.std.proofs.lemmas.List.Sums.{fold_push}
use Rattle.std.specs.List.{range_with_len}
use Rattle.share_gadgets.specs.Sharing.{sharing_value}
use Rattle.share_gadgets.specs.Gadgets.{product_of, xor_share, not_shares, mask_shares}

module _ {X : Type 0} (word : X → ℕ) where
  -- a read of a word, as a number
  pub read_word : (xs : List X) (k : ℕ) (x : X) → k < length xs → x ≡ get_or xs k x → word x ≡ get_or (map word xs) k 0
  read_word xs k x h e = ap word e ∙ sym (get_or-map word xs k x 0 h)

  -- one more share, as a function gives it
  pub push_step : (f : ℕ → ℕ) (xs ys : List X) (k : ℕ) (x : X) → map word xs ≡ map f (range_with_len 0 k) → ys ≡ xs ++ x ∷ [] → word x ≡ f k
      → map word ys ≡ map f (range_with_len 0 (k + 1))
  push_step f xs ys k x e p h =
      ap (map word) p ∙ map_push word xs x ∙ (λ i. e i ++ h i ∷ []) ∙ sym (map-range_with_len_more f 0 k k (omega arith))

  -- one more share under a mask
  pub mask_step : (m : ℕ) (xs : List X) (i : ℕ) (x : X) (ys zs : List X) (y : X) → i < length xs → x ≡ get_or xs i x
      → map word ys ≡ mask_shares m (map word (take i xs)) → zs ≡ ys ++ y ∷ [] → word y ≡ bit_and m (word x)
      → map word zs ≡ mask_shares m (map word (take (i + 1) xs))
  mask_step m xs i x ys zs y h e a p w =
      ap (map word) p ∙ map_push word ys y ∙ (λ k. a k ++ w k ∷ [])
      ∙ sym (ap (mask_shares m) (map_more word xs i x h ∙ ap (λ (z : X). map word (take i xs) ++ word z ∷ []) (sym e)) ∙ map_push (bit_and m) (map word (take i xs)) (word x))

  module _ (xor : X → X → X) (word_xor : (x y : X) → word (xor x y) ≡ bit_xor (word x) (word y)) where
    -- a term that is exclusive-ored into a share
    pub take_words : (xs ys : List X) (k : ℕ) (x term : X) → k < length xs → x ≡ get_or xs k x → ys ≡ set xs k (xor x term)
        → map word ys ≡ set (map word xs) k (bit_xor (get_or (map word xs) k 0) (word term))
    take_words xs ys k x term h e p =
        ap (map word) p ∙ map-set word xs k (xor x term)
        ∙ ap (λ (n : ℕ). set (map word xs) k n) (word_xor x term ∙ ap (λ (n : ℕ). bit_xor n (word term)) (read_word xs k x h e))

    -- a word that is exclusive-ored into share 0
    pub not_words : (xs : List X) (x term y : X) (m : ℕ) → 0 < length xs → x ≡ get_or xs 0 x → y ≡ xor x term → word term ≡ m
        → map word (set xs 0 y) ≡ not_shares m (map word xs)
    not_words [] x term y m h e f g = absurd (omega arith)
    not_words (z ∷ zs) x term y m h e f g =
        (λ i. (ap word f ∙ word_xor x term ∙ (λ j. bit_xor (word (e j)) (g j))) i ∷ map word zs)

    -- a share of an exclusive-or
    pub xor_read : (xs ys : List X) (k : ℕ) (x y : X) → k < length xs → k < length ys → x ≡ get_or xs k x → y ≡ get_or ys k y
        → word (xor x y) ≡ xor_share (map word xs) (map word ys) k
    xor_read xs ys k x y h l e f = word_xor x y ∙ (λ i. bit_xor (read_word xs k x h e i) (read_word ys k y l f i))

    -- one more share in the sum
    pub sum_step : (sum : X) (xs : List X) (k : ℕ) (d : X) → k < length xs
        → word sum ≡ sharing_value (map word (take k xs)) → word (xor sum (get_or xs k d)) ≡ sharing_value (map word (take (k + 1) xs))
    sum_step sum xs k d h e =
        word_xor sum (get_or xs k d) ∙ ap (λ (n : ℕ). bit_xor n (word (get_or xs k d))) e
        ∙ sym (ap (λ (ns : List ℕ). sharing_value ns) (map_more word xs k d h) ∙ fold_push bit_xor 0 (map word (take k xs)) (word (get_or xs k d)))

    module _ (and : X → X → X) (word_and : (x y : X) → word (and x y) ≡ bit_and (word x) (word y)) where
      -- a product of two shares
      pub product_read : (xs ys : List X) (i j : ℕ) (x y : X) → i < length xs → j < length ys → x ≡ get_or xs i x → y ≡ get_or ys j y
          → word (and x y) ≡ product_of (map word xs) (map word ys) i j
      product_read xs ys i j x y h l e f = word_and x y ∙ (λ k. bit_and (read_word xs i x h e k) (read_word ys j y l f k))

      -- the cross term of a pair
      pub crossed_word : (xs ys : List X) (z x y u v : X) (i j : ℕ) → i < length xs → j < length xs → length ys ≡ length xs
          → x ≡ get_or xs i x → y ≡ get_or ys j y → u ≡ get_or xs j u → v ≡ get_or ys i v
          → word (xor (xor z (and x y)) (and u v))
          ≡ bit_xor (bit_xor (word z) (product_of (map word xs) (map word ys) i j)) (product_of (map word xs) (map word ys) j i)
      crossed_word xs ys z x y u v i j h l same ex ey eu ev =
          word_xor (xor z (and x y)) (and u v)
          ∙ (λ k. bit_xor ((word_xor z (and x y) ∙ ap (bit_xor (word z)) (product_read xs ys i j x y h (omega arith) ex ey)) k)
          (product_read xs ys j i u v l (omega arith) eu ev k))
