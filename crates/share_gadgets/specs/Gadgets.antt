-- The gadgets on sharings: what each share of the answer is, as one closed sum over the shares of the arguments.
use Rattle.std.specs.Prelude.{ℕ, zero, suc, ◌+◌, ◌-◌, ◌*◌, ◌/◌, ◌==◌, nat_lt, List, [], ◌∷◌, map, replicate, slice_index, bit_and, bit_xor, if◌then◌else◌}
use Rattle.std.specs.List.{range_with_len}

-- share k of an exclusive-or
abbrev pub xor_share : List ℕ → List ℕ → ℕ → ℕ
xor_share a b k = bit_xor (slice_index a k) (slice_index b k)

-- the exclusive-or, share by share
abbrev pub xor_shares : ℕ → List ℕ → List ℕ → List ℕ
xor_shares d a b = map (xor_share a b) (range_with_len 0 d)

-- a word is exclusive-ored into share 0, and the other shares stay
abbrev pub not_shares : ℕ → List ℕ → List ℕ
not_shares word [] = []
not_shares word (a ∷ others) = bit_xor a word ∷ others

-- the and of a word with each share
abbrev pub mask_shares : ℕ → List ℕ → List ℕ
mask_shares word a = map (bit_and word) a

-- a constant has its word in share 0, and 0 elsewhere
abbrev pub constant_shares : ℕ → ℕ → List ℕ
constant_shares d word = word ∷ replicate (d - 1) 0

-- how many pairs i < j there are among d shares
abbrev pub pairs : ℕ → ℕ
pairs d = d * (d - 1) / 2

-- the number of the pair i < j, in lexicographic order
abbrev pub pair : ℕ → ℕ → ℕ → ℕ
pair d i j = (i * d - i * (i + 1) / 2) + (j - i - 1)

-- `first`, exclusive-or the terms of all numbers below n other than k
abbrev pub xor_without : ℕ → ℕ → (ℕ → ℕ) → ℕ → ℕ
xor_without k first terms zero = first
xor_without k first terms (suc n) =
    if n == k then xor_without k first terms n else bit_xor (xor_without k first terms n) (terms n)

-- the product of share i of a and share j of b
abbrev pub product_of : List ℕ → List ℕ → ℕ → ℕ → ℕ
product_of a b i j = bit_and (slice_index a i) (slice_index b j)

-- what the product of a and b adds to share i for another share j: for i < j it is z_ij, the random word of their pair,
-- and z_ji is (z_ij ^ (a_i & b_j)) ^ (a_j & b_i)
abbrev pub cross : ℕ → List ℕ → List ℕ → (ℕ → ℕ) → ℕ → ℕ → ℕ
cross d a b random i j =
    if nat_lt i j then random (pair d i j)
    else bit_xor (bit_xor (random (pair d j i)) (product_of a b j i)) (product_of a b i j)

-- share i of the product of a and b: (a_i & b_i) ^ the exclusive-or of all z_ij with j other than i
abbrev pub product_share : ℕ → List ℕ → List ℕ → (ℕ → ℕ) → ℕ → ℕ
product_share d a b random i = xor_without i (product_of a b i i) (cross d a b random i) d

-- the product of a and b, given the random word of each pair by the pair's number
abbrev pub product_shares : ℕ → List ℕ → List ℕ → (ℕ → ℕ) → List ℕ
product_shares d a b random = map (product_share d a b random) (range_with_len 0 d)

-- the random word of the pair that holds i and j
abbrev pub pair_word : ℕ → (ℕ → ℕ) → ℕ → ℕ → ℕ
pair_word d random i j = if nat_lt i j then random (pair d i j) else random (pair d j i)

-- share i of the refresh of a: a_i ^ the words of all pairs that hold i
abbrev pub refreshed_share : ℕ → List ℕ → (ℕ → ℕ) → ℕ → ℕ
refreshed_share d a random i = xor_without i (slice_index a i) (pair_word d random i) d

-- the refresh of a, given the random word of each pair by the pair's number
abbrev pub refreshed_shares : ℕ → List ℕ → (ℕ → ℕ) → List ℕ
refreshed_shares d a random = map (refreshed_share d a random) (range_with_len 0 d)
