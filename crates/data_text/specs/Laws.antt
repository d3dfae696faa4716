-- What holds of texts of data.
use Rattle.std.specs.Prelude.{◌≡◌, ℕ, List, [], ◌∷◌, codes, Ok, Err}
use Rattle.data_text.specs.declared.fault.ValueFault.TheVariants as fault
use Rattle.data_text.specs.Reading.{values_of, run_of, IsSaidOrFault}

-- a text says values or has a fault
abbrev pub ValuesOrFault : Type 0
ValuesOrFault = (count bits : ℕ) (bytes : List ℕ) → IsSaidOrFault (values_of count bits bytes)

-- a text says the data of a run or has a fault
abbrev pub RunOrFault : Type 0
RunOrFault = (inputs bits : ℕ) (bytes : List ℕ) → IsSaidOrFault (run_of inputs bits bytes)

-- blanks stand at both ends and between numbers, and zeros before them
abbrev pub Blanks : Type 0
Blanks = values_of 3 8 (codes " \r\n12\t0x0fF  007\n") ≡ Ok (12 ∷ 255 ∷ 7 ∷ [])

-- a text without a number is a fault on the line of its end
abbrev pub NoNumber : Type 0
NoNumber = values_of 1 8 (codes "\n\n") ≡ Err (fault.Syntax 3)

-- of two faults the first is told
abbrev pub FirstFault : Type 0
FirstFault = values_of 2 8 (codes "256\n0x\n") ≡ Err (fault.OutOfRange 1)

-- `0x` without a digit is no number
abbrev pub NoDigit : Type 0
NoDigit = values_of 2 8 (codes "255\n0x\n") ≡ Err (fault.Syntax 2)

-- a number that is left over is a fault, whatever its size
abbrev pub LeftOver : Type 0
LeftOver = values_of 1 8 (codes "1 18446744073709551616") ≡ Err (fault.Syntax 1)

-- two inputs of two shares, and one random word
abbrev pub SmallRun : Type 0
SmallRun = run_of 2 8 (codes "shares 2 inputs 149 241 217 156 random 211") ≡ Ok (record {
  shares = 2;
  inputs = 149 ∷ 241 ∷ 217 ∷ 156 ∷ [];
  words = 211 ∷ [];
})

-- 65 shares are too many
abbrev pub ManyShares : Type 0
ManyShares = run_of 2 8 (codes "shares 65 inputs") ≡ Err (fault.OutOfRange 1)

-- a word of an input is missing
abbrev pub FewShares : Type 0
FewShares = run_of 1 8 (codes "shares 2\ninputs 1\nrandom") ≡ Err (fault.Syntax 3)
