-- The six lines, or what there is of them, lie within the bytes.
use Rattle.std.proofs.Common.{◌≡◌, ℕ, ◌+◌, ◌≤◌, List, [], ◌∷◌, length, eqb, subst, arith}
use Rattle.usuba_tokens.proofs.Choices.{either}
use Rattle.c_tokens.specs.Openings.{alike, lines_of, opening_with, further, opening_of}
use Rattle.c_tokens.specs.declared.opening.Opening.{Opening}
use Rattle.c_tokens.specs.declared.opening.Opening.TheVariants.{Lines, Wrong}

alike_within : (bytes text : List ℕ) → alike bytes text ≤ length bytes
alike_within [] text = omega arith
alike_within (b ∷ bytes) [] = omega arith
alike_within (b ∷ bytes) (c ∷ text) =
    let rest = alike_within bytes text in
    either (λ n. n ≤ length (b ∷ bytes)) (eqb b c) (1 + alike bytes text) 0 (omega (arith, rest)) (omega arith)

-- so far do these lines go
abbrev Ends : ℕ → Opening → Type 0
Ends most (Lines bits n) = n ≤ most
Ends most (Wrong n) = n ≤ most

with_within : (bytes : List ℕ) (bits : ℕ) → Ends (length bytes) (opening_with bytes bits)
with_within bytes bits =
    let within = alike_within bytes (lines_of bits) in
    either (Ends (length bytes)) (eqb (alike bytes (lines_of bits)) (length (lines_of bits))) _ _ within within

further_within : (most : ℕ) (a b : Opening) → Ends most a → Ends most b → Ends most (further a b)
further_within most (Lines bits n) b x y = x
further_within most (Wrong n) (Lines bits m) x y = y
further_within most (Wrong n) (Wrong m) x y = omega (arith, x, y)

opening_within : (bytes : List ℕ) → Ends (length bytes) (opening_of bytes)
opening_within bytes =
    further_within (length bytes) (further (opening_with bytes 8) (opening_with bytes 16))
    (further (opening_with bytes 32) (opening_with bytes 64))
    (further_within (length bytes) (opening_with bytes 8) (opening_with bytes 16) (with_within bytes 8) (with_within bytes 16))
    (further_within (length bytes) (opening_with bytes 32) (opening_with bytes 64) (with_within bytes 32) (with_within bytes 64))

-- the six lines lie within the bytes
pub lines_within : (bytes : List ℕ) (bits n : ℕ) → opening_of bytes ≡ Lines bits n → n ≤ length bytes
lines_within bytes bits n is = subst (Ends (length bytes)) is (opening_within bytes)

-- and so does what there is of them
pub wrong_within : (bytes : List ℕ) (n : ℕ) → opening_of bytes ≡ Wrong n → n ≤ length bytes
wrong_within bytes n is = subst (Ends (length bytes)) is (opening_within bytes)
