-- A sharing is a list of words, and its value is the exclusive-or of them.
use Rattle.std.specs.Prelude.{◌≡◌, ℕ, ◌<◌, ◌^◌, List, length, All, fold, bit_xor}

-- the value of a sharing: the exclusive-or of its shares
abbrev pub sharing_value : List ℕ → ℕ
sharing_value shares = fold bit_xor 0 shares

-- a sharing on d shares: d words of B bits
pub record IsSharing (B d : ℕ) (shares : List ℕ) : Type 0 where
  pub count : length shares ≡ d
  pub words : All (λ x. x < 2 ^ B) shares
