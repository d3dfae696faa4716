-- How far the loop over the pairs i < j has come. Not part of the meaning: it states the loop's own contracts.
use Rattle.std.specs.Prelude.{ℕ, suc, ◌+◌, ◌-◌, ◌*◌, ◌/◌, ◌==◌, nat_lt, List, map, slice_index, if◌then◌else◌}
use Rattle.std.specs.List.{range_with_len}
use Rattle.share_gadgets.specs.Gadgets.{xor_without, product_of, cross, pair_word}

-- the number of the first pair of row i
abbrev pub row_start : ℕ → ℕ → ℕ
row_start d i = i * d - i * (i + 1) / 2

-- before the pair (i, j), how many numbers the sum of share k has passed
abbrev pub reached : ℕ → ℕ → ℕ → ℕ → ℕ
reached d i j k = if nat_lt k i then d else (if k == i then j else (if nat_lt k j then suc i else i))

-- share k before the pair (i, j)
abbrev pub share_before : ℕ → (ℕ → ℕ) → (ℕ → ℕ → ℕ) → ℕ → ℕ → ℕ → ℕ
share_before d first terms i j k = xor_without k (first k) (terms k) (reached d i j k)

-- all shares before the pair (i, j)
abbrev pub shares_before : ℕ → (ℕ → ℕ) → (ℕ → ℕ → ℕ) → ℕ → ℕ → List ℕ
shares_before d first terms i j = map (share_before d first terms i j) (range_with_len 0 d)

-- the product of share k of a and share k of b
abbrev pub own_product : List ℕ → List ℕ → ℕ → ℕ
own_product a b k = product_of a b k k

-- the shares of a product before the pair (i, j)
abbrev pub product_before : ℕ → List ℕ → List ℕ → (ℕ → ℕ) → ℕ → ℕ → List ℕ
product_before d a b random i j = shares_before d (own_product a b) (cross d a b random) i j

-- the shares of a refresh before the pair (i, j)
abbrev pub refreshed_before : ℕ → List ℕ → (ℕ → ℕ) → ℕ → ℕ → List ℕ
refreshed_before d a random i j = shares_before d (slice_index a) (pair_word d random) i j
