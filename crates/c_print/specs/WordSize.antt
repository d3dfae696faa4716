-- How many bits the words of masked code have.
use Rattle.std.specs.Prelude.{◌≡◌, ◌⊎◌, ℕ, Option, Some, None}
use Rattle.usuba0.specs.Circuit.{Circuit}
use Rattle.usuba0.specs.Term.{bits_of_width}

-- 8, 16, 32 or 64
abbrev pub IsSize : ℕ → Type 0
IsSize bits = (bits ≡ 8) ⊎ ((bits ≡ 16) ⊎ ((bits ≡ 32) ⊎ (bits ≡ 64)))

-- a size of words may be asked for at width 1
abbrev pub FitsWidth : Option ℕ → ℕ → Type 0
FitsWidth None width = Unit {0}
FitsWidth (Some word) width = (width ≡ 1) × IsSize word

-- the same for a core
abbrev pub FitsWord : Option ℕ → Circuit → Type 0
FitsWord word core = FitsWidth word core.width

-- the bits of words: what is asked for, and else the word bits of the width
abbrev pub bits_of_c : Option ℕ → ℕ → ℕ
bits_of_c None width = bits_of_width width
bits_of_c (Some word) width = word
