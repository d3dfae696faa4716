-- Draws that are known by hand.
use Rattle.std.specs.Prelude.{◌≡◌, [], ◌∷◌}
use Rattle.word_draws.specs.Draws.{start, next, drawn_words}

-- what is known of them
pub record KnownDraws : Type 0 where
  -- the first draws from the seed 1, and from a seed that is 1 modulo 65,537
  pub first : next (start 1) ≡ 149
  pub second : next (next (start 1)) ≡ 11249
  pub wrapped : next (start 65538) ≡ 149
  -- words of 8 bits are the draws modulo 256, and 3 bits are cut from a byte
  pub bytes : drawn_words 8 (start 1) 5 ≡ 149 ∷ 241 ∷ 217 ∷ 156 ∷ 211 ∷ []
  pub cut : drawn_words 3 (start 1) 2 ≡ 5 ∷ 1 ∷ []
  -- the first byte of a word of 16 bits is its least significant one: 149 + 256 * 241
  pub pairs : drawn_words 16 (start 1) 1 ≡ 61845 ∷ []
