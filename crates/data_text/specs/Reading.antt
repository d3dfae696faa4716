-- What a text of data says, token by token, or the first of its faults.
use Rattle.std.specs.Prelude.{◌≡◌, ℕ, zero, suc, ◌*◌, ◌^◌, Bool, ◌&&◌, nat_lt, nat_le, if◌then◌else◌}
use Rattle.std.specs.Prelude.{List, [], ◌∷◌, length, codes, Option, None, Some, Result, Ok, Err}
use Rattle.std.specs.Str.{bytes_eq}
use Rattle.data_text.specs.declared.fault.ValueFault.{ValueFault}
use Rattle.data_text.specs.declared.fault.ValueFault.TheVariants as fault
use Rattle.data_text.specs.declared.read.RunValues.{RunValues}
use Rattle.data_text.specs.Numbers.{number_of}
use Rattle.data_text.specs.Tokens.{Token, TokensLeft, tokens_of}

-- what is said first, and what is said after it; the first fault is that of the whole
infixl 10 ◌>>=◌
abbrev pub ◌>>=◌ : {X Y : Type 0} → Result X ValueFault → (X → Result Y ValueFault) → Result Y ValueFault
Ok said >>= next = next said
Err wrong >>= next = Err wrong

-- a number of this many bits
abbrev pub has_bits : ℕ → ℕ → Bool
has_bits bits number = nat_lt number (2 ^ bits)

-- a count of shares is 1 to 64
abbrev pub is_share_count : ℕ → Bool
is_share_count number = nat_lt 0 number && nat_le number 64

-- the number that a token on this line says, which has to be in its range
abbrev pub in_range : (ℕ → Bool) → ℕ → Option ℕ → Result ℕ ValueFault
in_range is_in_range line None = Err (fault.Syntax line)
in_range is_in_range line (Some number) = if is_in_range number then Ok number else Err (fault.OutOfRange line)

-- the token that is due next, and what is left after it; the end in its place is a fault
abbrev pub next_token : ℕ → List Token → Result (Token × List Token) ValueFault
next_token end [] = Err (fault.Syntax end)
next_token end (token ∷ tokens) = Ok (token, tokens)

-- a number that is due, and what is left after it
abbrev pub first_number : (ℕ → Bool) → ℕ → List Token → Result (ℕ × List Token) ValueFault
first_number is_in_range end tokens = do
  next ← next_token end tokens
  number ← in_range is_in_range next.0.line (number_of next.0.word)
  Ok (number, next.1)

-- so many numbers, and what is left after them
abbrev pub first_numbers : (ℕ → Bool) → ℕ → ℕ → List Token → Result (List ℕ × List Token) ValueFault
first_numbers is_in_range zero end tokens = Ok ([], tokens)
first_numbers is_in_range (suc count) end tokens = do
  first ← first_number is_in_range end tokens
  more ← first_numbers is_in_range count end first.1
  Ok (first.0 ∷ more.0, more.1)

-- what is left after a word that is due
abbrev pub after_word : List ℕ → ℕ → List Token → Result (List Token) ValueFault
after_word word end tokens = do
  next ← next_token end tokens
  if bytes_eq next.0.word word then Ok next.1 else Err (fault.Syntax next.0.line)

-- a token that is left over is a fault
abbrev pub with_nothing_left : List ℕ → List Token → Result (List ℕ) ValueFault
with_nothing_left numbers [] = Ok numbers
with_nothing_left numbers (token ∷ tokens) = Err (fault.Syntax token.line)

-- the values of a text: so many numbers of so many bits
abbrev pub values_in : ℕ → ℕ → TokensLeft → Result (List ℕ) ValueFault
values_in count bits text = do
  taken ← first_numbers (has_bits bits) count text.end text.tokens
  with_nothing_left taken.0 taken.1

-- the values that a text says
abbrev pub values_of : ℕ → ℕ → List ℕ → Result (List ℕ) ValueFault
values_of count bits bytes = values_in count bits (tokens_of bytes)

-- `shares` and a count of shares
abbrev pub shares_first : ℕ → List Token → Result (ℕ × List Token) ValueFault
shares_first end tokens = do
  named ← after_word (codes "shares") end tokens
  first_number is_share_count end named

-- `inputs` and so many shares of so many bits
abbrev pub inputs_first : ℕ → ℕ → ℕ → List Token → Result (List ℕ × List Token) ValueFault
inputs_first count bits end tokens = do
  named ← after_word (codes "inputs") end tokens
  first_numbers (has_bits bits) count end named

-- `random` and words of 64 bits, as many as there are numbers left
abbrev pub words_first : ℕ → List Token → Result (List ℕ × List Token) ValueFault
words_first end tokens = do
  named ← after_word (codes "random") end tokens
  first_numbers (has_bits 64) (length named) end named

-- the data of a run: a count of shares, the shares of each input in order, and random words
abbrev pub run_in : ℕ → ℕ → TokensLeft → Result RunValues ValueFault
run_in inputs bits text = do
  counted ← shares_first text.end text.tokens
  given ← inputs_first (inputs * counted.0) bits text.end counted.1
  drawn ← words_first text.end given.1
  Ok (record { shares = counted.0; inputs = given.0; words = drawn.0 })

-- the data of a run that a text says
abbrev pub run_of : ℕ → ℕ → List ℕ → Result RunValues ValueFault
run_of inputs bits bytes = run_in inputs bits (tokens_of bytes)

-- the answer is the one that is wanted, or memory was wanting
abbrev pub IsOrMemory : {X : Type 0} → Result X ValueFault → Result X ValueFault → Type 0
IsOrMemory (Err (fault.Memory error)) wanted = Unit {0}
IsOrMemory answer wanted = answer ≡ wanted

-- a fault of the text
abbrev pub IsFault : ValueFault → Type 0
IsFault (fault.Memory error) = ⊥
IsFault wrong = Unit {0}

-- values, or a fault of the text
abbrev pub IsSaidOrFault : {X : Type 0} → Result X ValueFault → Type 0
IsSaidOrFault (Ok said) = Unit {0}
IsSaidOrFault (Err wrong) = IsFault wrong
