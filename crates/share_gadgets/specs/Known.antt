-- Small cases of the gadgets, worked by hand.
use Rattle.std.specs.Prelude.{◌≡◌, [], ◌∷◌, slice_index}
use Rattle.share_gadgets.specs.Sharing.{sharing_value}
use Rattle.share_gadgets.specs.Gadgets.{pairs, pair, xor_shares, not_shares, mask_shares, constant_shares, product_shares, refreshed_shares}

-- the six pairs of four shares, and sharings on two and three shares
pub record KnownCases : Type 0 where
  pub no_pairs : pairs 1 ≡ 0
  pub six_pairs : pairs 4 ≡ 6
  pub pair_numbers : pair 4 0 1 ∷ pair 4 0 2 ∷ pair 4 0 3 ∷ pair 4 1 2 ∷ pair 4 1 3 ∷ pair 4 2 3 ∷ [] ≡ 0 ∷ 1 ∷ 2 ∷ 3 ∷ 4 ∷ 5 ∷ []
  pub value : sharing_value (5 ∷ 3 ∷ 9 ∷ []) ≡ 15
  pub xor : xor_shares 2 (5 ∷ 3 ∷ []) (6 ∷ 10 ∷ []) ≡ 3 ∷ 9 ∷ []
  pub not : not_shares 15 (5 ∷ 3 ∷ []) ≡ 10 ∷ 3 ∷ []
  pub mask : mask_shares 6 (5 ∷ 3 ∷ []) ≡ 4 ∷ 2 ∷ []
  pub constant : constant_shares 3 7 ≡ 7 ∷ 0 ∷ 0 ∷ []
  -- 5 & 6 = 4, 3 & 10 = 2, 5 & 10 = 0 and 3 & 6 = 2; the pair's word is 9
  pub product : product_shares 2 (5 ∷ 3 ∷ []) (6 ∷ 10 ∷ []) (slice_index (9 ∷ [])) ≡ 13 ∷ 9 ∷ []
  -- the words of the pairs (0, 1), (0, 2) and (1, 2) are 1, 2 and 4
  pub refresh : refreshed_shares 3 (16 ∷ 32 ∷ 64 ∷ []) (slice_index (1 ∷ 2 ∷ 4 ∷ [])) ≡ 19 ∷ 37 ∷ 70 ∷ []
