-- Numbers that bytes begin with.
use Rattle.std.proofs.Common.{◌≡◌, ℕ, ◌+◌, ◌-◌, ◌*◌, ◌/◌, ◌%◌, ◌^◌, ◌<◌, ◌≤◌, true, leb, List, [], ◌∷◌, ◌++◌, length, get_or, take, drop, sym, ap, ◌∙◌, arith, append_assoc, decimal}
use Rattle.std.specs.Char.{is_ascii_digit}
use Rattle.core_text.specs.Parts.{EndsLine}
use Rattle.std.proofs.lemmas.Bool.{and_parts, leb-true}
use Rattle.std.proofs.lemmas.Fmt.{decimal_digit, decimal_step}
use Rattle.std.proofs.lemmas.List.{take_all}

digit_bounds : (digit : ℕ) → is_ascii_digit digit ≡ true → (48 ≤ digit) × (digit ≤ 57)
digit_bounds digit h =
    let w = and_parts (leb 48 digit) (leb digit 57) h in
    (leb-true 48 digit w.0, leb-true digit 57 w.1)

-- a digit is the text of its value
pub one_digit : (digit value : ℕ) (rest : List ℕ) → is_ascii_digit digit ≡ true → value ≡ digit - 48 → digit ∷ rest ≡ decimal value ++ rest
one_digit digit value rest h e =
    let bounds = digit_bounds digit h in
    let same : 48 + value ≡ digit = omega (arith, bounds.0, e) in
    sym (ap (λ (ds : List ℕ). ds ++ rest) (decimal_digit value (omega (arith, bounds.1, e))) ∙ ap (λ (d : ℕ). d ∷ rest) same)

-- a digit after the text of a number gives that of the number with one more digit
pub more_digits : (value digit more : ℕ) (rest : List ℕ) → 0 < value → value < 2 ^ 28 → is_ascii_digit digit ≡ true → more ≡ value * 10 + (digit - 48)
    → decimal value ++ digit ∷ rest ≡ decimal more ++ rest
more_digits value digit more rest some small h e =
    let bounds = digit_bounds digit h in
    let front : more / 10 ≡ value = omega (arith, bounds.0, bounds.1, e) in
    let last : 48 + more % 10 ≡ digit = omega (arith, bounds.0, bounds.1, e) in
    let text : decimal more ≡ decimal value ++ digit ∷ [] =
    decimal_step more (omega (arith, e, some)) (omega (arith, e, small, bounds.1))
    ∙ ap (λ (n : ℕ). decimal n ++ (48 + more % 10) ∷ []) front
    ∙ ap (λ (d : ℕ). decimal value ++ d ∷ []) last in
    sym (ap (λ (ds : List ℕ). ds ++ rest) text ∙ append_assoc (decimal value) (digit ∷ []) rest)

-- after a digit the bytes go on, where they end with LF
pub digit_inside : (bytes : List ℕ) (at : ℕ) → EndsLine bytes → at < length bytes → is_ascii_digit (get_or bytes at 0) ≡ true → at + 1 < length bytes
digit_inside bytes at ends within h =
    let bounds = digit_bounds (get_or bytes at 0) h in
    grind (arith, bounds)
