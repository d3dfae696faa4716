-- A shift by 0 of a word is the word.
use Rattle.std.proofs.Common.{◌≡◌, ℕ, ◌+◌, ◌-◌, ◌*◌, ◌/◌, ◌%◌, ◌^◌, ◌<◌, sym, ap, ap₂, ◌∙◌, subst, arith, bit_or, mod-eq_of_lt, pow_pos}
use Rattle.std.proofs.lemmas.Nat.{mod_low, shr_below}
use lib.Bits.{or_zero_l, or_zero_r}
use Rattle.usuba_trees.specs.declared.ShiftKind.{ShiftKind}
use Rattle.usuba_trees.specs.declared.ShiftKind.TheVariants as kind
use Rattle.usuba0.specs.Term.{shifted_left, shifted_right, rotated_left}
use Rattle.usuba_model.specs.Meaning.{word_shift}

left_none : (B y : ℕ) → y < 2 ^ B → shifted_left B 0 y ≡ y
left_none B y h = ap (λ (n : ℕ). n % 2 ^ B) (let e : y * 2 ^ 0 ≡ y = omega arith in e) ∙ mod-eq_of_lt h

left_all : (B y : ℕ) → shifted_left B B y ≡ 0
left_all B y = ap (λ (n : ℕ). n % 2 ^ B) (let e : y * 2 ^ B ≡ y * 2 ^ B + 0 = omega arith in e) ∙ mod_low y B 0 (pow_pos B)

right_none : (y : ℕ) → shifted_right 0 y ≡ y
right_none y = omega arith

right_all : (B y : ℕ) → y < 2 ^ B → shifted_right B y ≡ 0
right_all B y h =
    let P : ℕ → Type 0 = λ n. y < 2 ^ n in
    let e : B ≡ 0 + B = omega arith in
    let l : y / 2 ^ B < 2 ^ 0 = shr_below y 0 B (subst P e h) in
    omega (arith, l)

rotate_none : (B y : ℕ) → y < 2 ^ B → rotated_left B 0 y ≡ y
rotate_none B y h =
    let e : B - 0 ≡ B = omega arith in
    ap₂ bit_or (left_none B y h) (ap (λ (n : ℕ). shifted_right n y) e ∙ right_all B y h) ∙ or_zero_r y

rotate_all : (B y : ℕ) → rotated_left B (B - 0) y ≡ y
rotate_all B y =
    let e : B - 0 ≡ B = omega arith in
    let z : B - B ≡ 0 = omega arith in
    ap (λ (n : ℕ). rotated_left B n y) e
    ∙ ap₂ bit_or (left_all B y) (ap (λ (n : ℕ). shifted_right n y) z ∙ right_none y)
    ∙ or_zero_l y

shift_by_none : (B : ℕ) (way : ShiftKind) (y : ℕ) → y < 2 ^ B → word_shift B way 0 y ≡ y
shift_by_none B kind.Left y h = left_none B y h
shift_by_none B kind.Right y h = right_none y
shift_by_none B kind.RotLeft y h = rotate_none B y h
shift_by_none B kind.RotRight y h = rotate_all B y

-- a word is its shift by an amount that is 0
pub unshifted : (B k : ℕ) (way : ShiftKind) (y : ℕ) → y < 2 ^ B → k ≡ 0 → y ≡ word_shift B way k y
unshifted B k way y h e = sym (ap (λ (n : ℕ). word_shift B way n y) e ∙ shift_by_none B way y h)
