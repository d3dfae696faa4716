-- The first six lines of a C file, with one of four types.
use Rattle.std.specs.Prelude.{◌≡◌, ◌⊎◌, ℕ, ◌+◌, max, ◌==◌, if◌then◌else◌, List, [], ◌∷◌, ◌++◌, length, codes}
use Rattle.c_tokens.specs.declared.opening.Opening.{Opening}
use Rattle.c_tokens.specs.declared.opening.Opening.TheVariants.{Lines, Wrong}

-- the bits of a type that `reg` may be
abbrev pub IsRegBits : ℕ → Type 0
IsRegBits bits = (bits ≡ 8) ⊎ ((bits ≡ 16) ⊎ ((bits ≡ 32) ⊎ (bits ≡ 64)))

-- the type of so many bits
abbrev pub type_of : ℕ → List ℕ
type_of bits =
    if bits == 8 then codes "uint8_t"
    else (if bits == 16 then codes "uint16_t"
    else (if bits == 32 then codes "uint32_t"
    else codes "uint64_t"))

-- the six lines with a type of so many bits
abbrev pub lines_of : ℕ → List ℕ
lines_of bits =
    codes "#include <stdint.h>\n#ifndef D\n#define D 2\n#endif\ntypedef " ++ type_of bits
    ++ codes " reg;\nuint64_t tornado_random(void);\n"

-- how many bytes of one text are those of another
abbrev pub alike : List ℕ → List ℕ → ℕ
alike [] text = 0
alike (b ∷ bytes) [] = 0
alike (b ∷ bytes) (c ∷ text) = if b == c then 1 + alike bytes text else 0

-- the six lines with a type of so many bits, or how much bytes have of them
abbrev pub opening_with : List ℕ → ℕ → Opening
opening_with bytes bits =
    if alike bytes (lines_of bits) == length (lines_of bits) then Lines bits (alike bytes (lines_of bits))
    else Wrong (alike bytes (lines_of bits))

-- the one of two that goes further
abbrev pub further : Opening → Opening → Opening
further (Lines bits n) other = Lines bits n
further (Wrong n) (Lines bits m) = Lines bits m
further (Wrong n) (Wrong m) = Wrong (max n m)

-- the six lines with the type that they have, or how much bytes have of the lines that they follow the furthest
abbrev pub opening_of : List ℕ → Opening
opening_of bytes =
    further (further (opening_with bytes 8) (opening_with bytes 16))
    (further (opening_with bytes 32) (opening_with bytes 64))
