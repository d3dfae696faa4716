-- What the masked run of a core is for: the values of its outputs are the plain run of the values of its inputs.
use Rattle.std.specs.Prelude.{◌≡◌, ℕ, ◌<◌, ◌⊎◌, List, length, map, All}
use Rattle.usuba0.specs.Circuit.{Circuit, IsCore}
use Rattle.usuba0.specs.PlainRun.{plain_run}
use Rattle.usuba0.specs.Term.{bits_of_width}
use Rattle.share_gadgets.specs.Sharing.{sharing_value, IsSharing}
use Rattle.share_gadgets.specs.MaskedRun.{masked_run}

-- the word bits of a width, or at width 1 one of 8, 16, 32 and 64
abbrev pub AreWordBits : ℕ → ℕ → Type 0
AreWordBits w B = (B ≡ bits_of_width w) ⊎ ((w ≡ 1) × ((B ≡ 8) ⊎ (B ≡ 16) ⊎ (B ≡ 32) ⊎ (B ≡ 64)))

-- what a masked run takes: sharings of the core's inputs on d shares, d above 0, of B bits
pub record IsMaskedInput (B d : ℕ) (core : Circuit) (inputs : List (List ℕ)) : Type 0 where
  pub is_core : IsCore core
  pub bits : AreWordBits core.width B
  pub some : 0 < d
  pub count : length inputs ≡ core.inputs
  pub shared : All (IsSharing B d) inputs

-- for every core, every d above 0 and every list of random words: the values of the masked run's outputs are the plain run
-- of the values of its inputs
abbrev pub ValuesOfMaskedRun : Type 0
ValuesOfMaskedRun = (B d : ℕ) (core : Circuit) (inputs : List (List ℕ)) (words : List ℕ) → IsMaskedInput B d core inputs
    → map sharing_value (masked_run B d core inputs words) ≡ plain_run B core (map sharing_value inputs)

-- and each output is a sharing on d shares of B bits
abbrev pub OutputsAreSharings : Type 0
OutputsAreSharings = (B d : ℕ) (core : Circuit) (inputs : List (List ℕ)) (words : List ℕ) → IsMaskedInput B d core inputs
    → All (IsSharing B d) (masked_run B d core inputs words)
