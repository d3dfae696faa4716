-- What the functions answer of which each reads a part of a text.
use Rattle.std.specs.Prelude.{◌≡◌, ℕ, Bool, true, not, List, [], ◌∷◌, ◌++◌, Result, Ok, Err}
use Rattle.std.specs.List.{list_all}
use Rattle.data_text.specs.declared.fault.ValueFault.{ValueFault}
use Rattle.data_text.specs.declared.fault.ValueFault.TheVariants as fault
use Rattle.data_text.specs.Tokens.{Token, is_blank}

-- the byte is no blank
abbrev pub is_plain : ℕ → Bool
is_plain byte = not (is_blank byte)

-- no blank stands first
abbrev pub begins_plain : List ℕ → Bool
begins_plain [] = true
begins_plain (byte ∷ bytes) = is_plain byte

-- a blank stands first, or nothing does
abbrev pub begins_blank : List ℕ → Bool
begins_blank [] = true
begins_blank (byte ∷ bytes) = is_blank byte

-- the word is what stands before the first blank, and the rest begins there
abbrev pub IsFirstWord : List ℕ → List ℕ → List ℕ → Type 0
IsFirstWord bytes word rest = (bytes ≡ word ++ rest) × (list_all is_plain word ≡ true) × (begins_blank rest ≡ true)

-- numbers, and those that are said after them
abbrev pub after_numbers : List ℕ → Result (List ℕ × List Token) ValueFault → Result (List ℕ × List Token) ValueFault
after_numbers numbers (Ok more) = Ok (numbers ++ more.0, more.1)
after_numbers numbers (Err wrong) = Err wrong

-- the answer, with the tokens that are left after it, is what is wanted; or memory was wanting
abbrev pub IsPart : {X : Type 0} → Result X ValueFault → List Token → Result (X × List Token) ValueFault → Type 0
IsPart (Ok said) left wanted = wanted ≡ Ok (said, left)
IsPart (Err (fault.Memory error)) left wanted = Unit {0}
IsPart (Err wrong) left wanted = wanted ≡ Err wrong
