-- The lines of a core are those of its words, and its words are of the forms.
use Rattle.std.proofs.Common.{◌≡◌, ℕ, ◌^◌, ◌<◌, ◌≤◌, true, false, eqb, leb, List, [], ◌∷◌, ◌++◌, Some, refl, sym, ap, ◌∙◌, arith, append_assoc, append-nil, codes, decimal}
use Rattle.std.specs.Char.{is_ascii_digit}
use Rattle.std.specs.List.{list_all}
use Rattle.std.proofs.lemmas.Bool.{and_parts, leb-true, ne_eqb}
use Rattle.core_text.specs.Forms.{is_register, register_of, gate_form}
use Rattle.core_text.proofs.FormLemmas.{gate_words, equation_words, register_words}
use Rattle.text_lines.specs.Words.{spaced, line_text, is_plain_word}
use Rattle.text_lines.proofs.WrittenLemmas.{decimal_digits, value_of_decimal, is_number_decimal, is_plain_decimal}
use Rattle.usuba0.specs.declared.circuit.Gate.{Gate}
use Rattle.usuba0.specs.declared.circuit.Gate.TheVariants as gate
use Rattle.usuba0.specs.declared.circuit.Reg.{Reg}
use Rattle.usuba0.specs.Circuit.{IsEquation}
use Rattle.usuba0.specs.CoreText.{register_text, equation_text, output_text, outputs_text}

-- the lines

one_line : (r name a : List ℕ) → line_text (r ∷ codes "=" ∷ name ∷ a ∷ []) ≡ r ++ codes " = " ++ (name ++ codes " " ++ a) ++ codes "\n"
one_line r name a =
    let nl : List ℕ = codes "\n" in
    let end : (name ++ codes " ") ++ a ≡ name ++ (codes " " ++ a) = append_assoc name (codes " ") a in
    ap (λ (x : List ℕ). (r ++ (codes " = " ++ (name ++ (codes " " ++ x)))) ++ nl) (append-nil a)
    ∙ ap (λ (x : List ℕ). (r ++ (codes " = " ++ x)) ++ nl) (sym end)
    ∙ ap (λ (x : List ℕ). x ++ nl) (sym (append_assoc r (codes " = ") (name ++ codes " " ++ a)))

two_line : (r name a b : List ℕ) → line_text (r ∷ codes "=" ∷ name ∷ a ∷ b ∷ []) ≡ r ++ codes " = " ++ (name ++ codes " " ++ a ++ codes " " ++ b) ++ codes "\n"
two_line r name a b =
    let nl : List ℕ = codes "\n" in
    let end : ((name ++ codes " ") ++ a) ++ codes " " ++ b ≡ name ++ (codes " " ++ (a ++ (codes " " ++ b))) =
    append_assoc ((name ++ codes " ") ++ a) (codes " ") b
    ∙ append_assoc (name ++ codes " ") a (codes " " ++ b)
    ∙ append_assoc name (codes " ") (a ++ (codes " " ++ b)) in
    ap (λ (x : List ℕ). (r ++ (codes " = " ++ (name ++ (codes " " ++ (a ++ (codes " " ++ x)))))) ++ nl) (append-nil b)
    ∙ ap (λ (x : List ℕ). (r ++ (codes " = " ++ x)) ++ nl) (sym end)
    ∙ ap (λ (x : List ℕ). x ++ nl) (sym (append_assoc r (codes " = ") (name ++ codes " " ++ a ++ codes " " ++ b)))

-- the line of an equation
pub equation_line_is : (n : ℕ) (g : Gate) → line_text (equation_words n g) ≡ equation_text n g
equation_line_is n (gate.Const c) = one_line (register_text n) (codes "const") (decimal c)
equation_line_is n (gate.Xor a b) = two_line (register_text n) (codes "xor") (register_text a.0) (register_text b.0)
equation_line_is n (gate.Not a) = one_line (register_text n) (codes "not") (register_text a.0)
equation_line_is n (gate.Mask c a) = two_line (register_text n) (codes "mask") (decimal c) (register_text a.0)
equation_line_is n (gate.And a b) = two_line (register_text n) (codes "and") (register_text a.0) (register_text b.0)
equation_line_is n (gate.Shl k a) = two_line (register_text n) (codes "shl") (decimal k) (register_text a.0)
equation_line_is n (gate.Shr k a) = two_line (register_text n) (codes "shr") (decimal k) (register_text a.0)
equation_line_is n (gate.Rotl k a) = two_line (register_text n) (codes "rotl") (decimal k) (register_text a.0)
equation_line_is n (gate.Refresh a) = one_line (register_text n) (codes "refresh") (register_text a.0)

spaced_registers : (rs : List Reg) → spaced (register_words rs) ≡ outputs_text rs
spaced_registers [] = refl
spaced_registers (r ∷ rs) = ap (λ (x : List ℕ). output_text r ++ x) (spaced_registers rs)

-- the line of the outputs
pub outputs_line_is : (rs : List Reg) → line_text (codes "outputs" ∷ register_words rs) ≡ codes "outputs" ++ (outputs_text rs ++ codes "\n")
outputs_line_is rs =
    append_assoc (codes "outputs") (spaced (register_words rs)) (codes "\n") ∙ ap (λ (x : List ℕ). codes "outputs" ++ (x ++ codes "\n")) (spaced_registers rs)

-- the line of a keyword and a number
pub number_line_is : (keyword number : List ℕ) → line_text (keyword ∷ number ∷ []) ≡ keyword ++ codes " " ++ number ++ codes "\n"
number_line_is keyword number =
    ap (λ (x : List ℕ). (keyword ++ (codes " " ++ x)) ++ codes "\n") (append-nil number)
    ∙ ap (λ (x : List ℕ). x ++ codes "\n") (sym (append_assoc keyword (codes " ") number))

-- the forms

letter_no_digit : (x : ℕ) → is_ascii_digit x ≡ true → eqb x 114 ≡ false
letter_no_digit x h =
    let w = and_parts (leb 48 x) (leb x 57) h in
    let high : x ≤ 57 = leb-true x 57 w.1 in
    ne_eqb x 114 (λ (e : x ≡ 114). omega arith)

digits_no_register : (word : List ℕ) → list_all is_ascii_digit word ≡ true → is_register word ≡ false
digits_no_register [] h = refl
digits_no_register (x ∷ xs) h =
    let w = and_parts (is_ascii_digit x) (list_all is_ascii_digit xs) h in
    rw (letter_no_digit x w.0) refl

number_no_register : (n : ℕ) → n < 2 ^ 64 → is_register (decimal n) ≡ false
number_no_register n h = digits_no_register (decimal n) (decimal_digits n h)

pub register_written : (n : ℕ) → n < 2 ^ 64 → is_register (register_text n) ≡ true
register_written n h = rw (is_number_decimal n h) refl

pub register_back : (a : Reg) → a.0 < 2 ^ 64 → register_of (register_text a.0) ≡ a
register_back a h = ap (λ (n : ℕ). record { 0 = n }) (value_of_decimal a.0 h)

pub register_plain : (n : ℕ) → n < 2 ^ 64 → is_plain_word (register_text n) ≡ true
register_plain n h = rw (is_plain_decimal n h) refl

-- a right side that is written is read
pub gate_back : (w n : ℕ) (g : Gate) → w ≤ 64 → 2 ^ w ≤ 2 ^ 64 → n ≤ 2 ^ 64 → IsEquation w n g → gate_form (gate_words g) ≡ Some g
gate_back w n (gate.Const c) width bits small h =
    rw (number_no_register c (omega (arith, h)), is_number_decimal c (omega (arith, h)), value_of_decimal c (omega (arith, h))) refl
gate_back w n (gate.Xor a b) width bits small h =
    rw (is_number_decimal a.0 (omega (arith, h.0)), is_number_decimal b.0 (omega (arith, h.1)), value_of_decimal a.0 (omega (arith, h.0)), value_of_decimal b.0 (omega (arith, h.1))) refl
gate_back w n (gate.Not a) width bits small h = rw (is_number_decimal a.0 (omega (arith, h)), value_of_decimal a.0 (omega (arith, h))) refl
gate_back w n (gate.Mask c a) width bits small h =
    rw (number_no_register c (omega (arith, h.0)), is_number_decimal c (omega (arith, h.0)), is_number_decimal a.0 (omega (arith, h.1)), value_of_decimal c (omega (arith, h.0)), value_of_decimal a.0 (omega (arith, h.1))) refl
gate_back w n (gate.And a b) width bits small h =
    rw (is_number_decimal a.0 (omega (arith, h.0)), is_number_decimal b.0 (omega (arith, h.1)), value_of_decimal a.0 (omega (arith, h.0)), value_of_decimal b.0 (omega (arith, h.1))) refl
gate_back w n (gate.Shl k a) width bits small h =
    rw (number_no_register k (omega (arith, h.1)), is_number_decimal k (omega (arith, h.1)), is_number_decimal a.0 (omega (arith, h.2)), value_of_decimal k (omega (arith, h.1)), value_of_decimal a.0 (omega (arith, h.2))) refl
gate_back w n (gate.Shr k a) width bits small h =
    rw (number_no_register k (omega (arith, h.1)), is_number_decimal k (omega (arith, h.1)), is_number_decimal a.0 (omega (arith, h.2)), value_of_decimal k (omega (arith, h.1)), value_of_decimal a.0 (omega (arith, h.2))) refl
gate_back w n (gate.Rotl k a) width bits small h =
    rw (number_no_register k (omega (arith, h.1)), is_number_decimal k (omega (arith, h.1)), is_number_decimal a.0 (omega (arith, h.2)), value_of_decimal k (omega (arith, h.1)), value_of_decimal a.0 (omega (arith, h.2))) refl
gate_back w n (gate.Refresh a) width bits small h = rw (is_number_decimal a.0 (omega (arith, h)), value_of_decimal a.0 (omega (arith, h))) refl
