-- Numbers by their digits.
use Rattle.std.proofs.Common.{◌≡◌, ℕ, ◌+◌, ◌*◌, ◌^◌, ◌<◌, ◌≤◌, List, length, get_or, take, ap, sym, ◌∙◌, arith}
use Rattle.std.specs.Char.{digit_value}
use Rattle.std.specs.Str.Parse.{digits_value}
use Rattle.std.proofs.lemmas.List.{take_all}
use Rattle.std.proofs.lemmas.Int.Digits.{digits_value_more}
use Rattle.std.proofs.lemmas.Str.Parse.{digits_value-take-le}

-- the number with one more digit
pub value_step : (base : ℕ) (digits : List ℕ) (i value more : ℕ) → i < length digits → value ≡ digits_value base (take i digits) → more ≡ value * base + digit_value (get_or digits i 0)
    → more ≡ digits_value base (take (i + 1) digits)
value_step base digits i value more h e m =
    m ∙ ap (λ (v : ℕ). v * base + digit_value (get_or digits i 0)) e ∙ sym (digits_value_more base digits i h)

-- a number that is too big with one more digit is too big with all of them
pub too_big_after : (base : ℕ) (digits : List ℕ) (i value : ℕ) → 0 < base → i < length digits → value ≡ digits_value base (take i digits)
    → (value * base + digit_value (get_or digits i 0) < 2 ^ 64 → ⊥) → digits_value base digits < 2 ^ 64 → ⊥
too_big_after base digits i value some h e fits small =
    let next : value * base + digit_value (get_or digits i 0) ≡ digits_value base (take (i + 1) digits) =
    ap (λ (v : ℕ). v * base + digit_value (get_or digits i 0)) e ∙ sym (digits_value_more base digits i h) in
    let grows : digits_value base (take (i + 1) digits) ≤ digits_value base digits = digits_value-take-le base digits (i + 1) some in
    fits (omega arith)

-- with all digits it is the number
pub value_at_end : (base : ℕ) (digits : List ℕ) (i value : ℕ) → length digits ≤ i → value ≡ digits_value base (take i digits) → value ≡ digits_value base digits
value_at_end base digits i value h e = e ∙ ap (digits_value base) (take_all i digits h)
