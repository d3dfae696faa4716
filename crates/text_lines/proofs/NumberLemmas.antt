-- Numbers by their digits.
use Rattle.std.proofs.Common.{◌≡◌, ℕ, ◌+◌, ◌*◌, ◌^◌, ◌<◌, ◌≤◌, List, length, get_or, take, ap, ◌∙◌, arith}
use Rattle.std.specs.Char.{digit_value}
use Rattle.std.proofs.lemmas.List.{take_all}
use Rattle.std.proofs.lemmas.Int.Digits.{digits_value_more}
use Rattle.std.proofs.lemmas.Str.Parse.{digits_value-take-le}
use Rattle.text_lines.specs.Numbers.{value_of}

-- the number with one more digit
pub value_step : (word : List ℕ) (i value more : ℕ) → i < length word → value ≡ value_of (take i word) → more ≡ value * 10 + digit_value (get_or word i 0)
    → more ≡ value_of (take (i + 1) word)
value_step word i value more h e m =
    let next : value_of (take (i + 1) word) ≡ value_of (take i word) * 10 + digit_value (get_or word i 0) = digits_value_more 10 word i h in
    omega arith

-- a number that is too big with one more digit is too big with all of them
pub too_big_after : (word : List ℕ) (i value : ℕ) → i < length word → value ≡ value_of (take i word) → (value * 10 + digit_value (get_or word i 0) < 2 ^ 64 → ⊥)
    → value_of word < 2 ^ 64 → ⊥
too_big_after word i value h e fits small =
    let next : value_of (take (i + 1) word) ≡ value_of (take i word) * 10 + digit_value (get_or word i 0) = digits_value_more 10 word i h in
    let grows : value_of (take (i + 1) word) ≤ value_of word = digits_value-take-le 10 word (i + 1) (omega arith) in
    fits (omega arith)

-- with all digits it is the number
pub value_at_end : (word : List ℕ) (i value : ℕ) → length word ≤ i → value ≡ value_of (take i word) → value ≡ value_of word
value_at_end word i value h e = e ∙ ap value_of (take_all i word h)
