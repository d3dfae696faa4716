-- What is written of a core within the limits is read as the same core.
use Rattle.std.proofs.Common.{◌≡◌, ℕ, suc, ◌+◌, ◌*◌, ◌^◌, ◌<◌, ◌≤◌, Bool, true, eqb, ltb, leb, ◌&&◌, List, [], ◌∷◌, ◌++◌, length, map, Option, None, Some, Result, Ok, Err, refl, sym, ap, ◌∙◌, arith, append_assoc, append-nil, codes, decimal}
use Rattle.std.specs.List.{All, list_all}
use Rattle.std.specs.Str.{bytes_eq}
use Rattle.std.proofs.Math.Nat.{le-mul_of_pos_right}
use Rattle.std.proofs.Math.Pow.{pow_mono}
use Rattle.std.proofs.lemmas.Bool.{and_from, cond-true, lt-ltb, le-leb, eq-eqb}
use Rattle.core_text.specs.declared.fault.CoreFault.{CoreFault}
use Rattle.core_text.specs.declared.fault.CoreFault.TheVariants as fault
use Rattle.core_text.specs.Forms.{is_register, register_of, width_form, inputs_form, gate_form, Equation, with_gate, equation_form, outputs_form}
use Rattle.core_text.specs.Ranges.{is_width, is_inputs, is_earlier, is_amount, is_constant, is_gate, is_next, are_outputs, is_within}
use Rattle.core_text.specs.Reading.{said_in_range, width_line, inputs_line, gate_of, equation_line, outputs_line, Body, with_equation, with_outputs, body_from, circuit_with, with_number, from_inputs, from_width, circuit_of, within_limits, core_of}
use Rattle.core_text.proofs.BodyLemmas.{equation_at}
use Rattle.core_text.proofs.FormLemmas.{gate_words, equation_words, register_words}
use Rattle.core_text.proofs.LawLemmas.{head_parts}
use Rattle.core_text.proofs.WordLemmas.{equation_line_is, outputs_line_is, number_line_is, register_written, register_back, register_plain, gate_back}
use Rattle.text_lines.specs.Lines.{lines_of}
use Rattle.text_lines.specs.Words.{line_text, is_plain_word, are_plain_words}
use Rattle.text_lines.proofs.WrittenLemmas.{lines_of_line, value_of_decimal, is_number_decimal, is_plain_decimal}
use Rattle.usuba0.specs.declared.circuit.Gate.{Gate}
use Rattle.usuba0.specs.declared.circuit.Gate.TheVariants as gate
use Rattle.usuba0.specs.declared.circuit.Reg.{Reg}
use Rattle.usuba0.specs.declared.limit.TheConstants.{MAX_WEIGHT, MAX_COLUMNS}
use Rattle.usuba0.specs.Circuit.{Circuit, IsCore, IsEquation, AreEquations, IsSmall, HasFewColumns, weight, columns, products_of, refreshes_of}
use Rattle.usuba0.specs.CoreText.{register_text, equation_text, equations_text, outputs_text, core_text}
use Rattle.usuba0.proofs.TextLemmas.{core_text_parts}

said_back : {X : Type 0} (k : ℕ) (said : Option X) (test : X → Bool) (x : X) → said ≡ Some x → test x ≡ true → said_in_range k said test ≡ Ok x
said_back {X} k said test x e t =
    ap (λ (o : Option X). said_in_range k o test) e ∙ cond-true (test x) (Ok x) (Err (fault.OutOfRange k)) t

amount_passes : (w n k : ℕ) (a : Reg) → (0 < k) × (k < w) × (a.0 < n) → is_amount w k && is_earlier n a ≡ true
amount_passes w n k a h = and_from (is_amount w k) (is_earlier n a) (and_from (ltb 0 k) (ltb k w) (lt-ltb 0 k h.0) (lt-ltb k w h.1)) (lt-ltb a.0 n h.2)

gate_passes : (w n : ℕ) (g : Gate) → IsEquation w n g → is_gate w n g ≡ true
gate_passes w n (gate.Const c) h = lt-ltb c (2 ^ w) h
gate_passes w n (gate.Xor a b) h = and_from (is_earlier n a) (is_earlier n b) (lt-ltb a.0 n h.0) (lt-ltb b.0 n h.1)
gate_passes w n (gate.Not a) h = lt-ltb a.0 n h
gate_passes w n (gate.Mask c a) h = and_from (is_constant w c) (is_earlier n a) (lt-ltb c (2 ^ w) h.0) (lt-ltb a.0 n h.1)
gate_passes w n (gate.And a b) h = and_from (is_earlier n a) (is_earlier n b) (lt-ltb a.0 n h.0) (lt-ltb b.0 n h.1)
gate_passes w n (gate.Shl k a) h = amount_passes w n k a h
gate_passes w n (gate.Shr k a) h = amount_passes w n k a h
gate_passes w n (gate.Rotl k a) h = amount_passes w n k a h
gate_passes w n (gate.Refresh a) h = lt-ltb a.0 n h

-- words that are written have no blanks and no LFs

pub equation_plain : (w n : ℕ) (g : Gate) → w ≤ 64 → 2 ^ w ≤ 2 ^ 64 → n < 2 ^ 64 → IsEquation w n g → are_plain_words (equation_words n g) ≡ true
equation_plain w n (gate.Const c) width bits small h = rw (is_plain_decimal n small, is_plain_decimal c (omega (arith, h))) refl
equation_plain w n (gate.Xor a b) width bits small h = rw (is_plain_decimal n small, is_plain_decimal a.0 (omega (arith, h.0)), is_plain_decimal b.0 (omega (arith, h.1))) refl
equation_plain w n (gate.Not a) width bits small h = rw (is_plain_decimal n small, is_plain_decimal a.0 (omega (arith, h))) refl
equation_plain w n (gate.Mask c a) width bits small h = rw (is_plain_decimal n small, is_plain_decimal c (omega (arith, h.0)), is_plain_decimal a.0 (omega (arith, h.1))) refl
equation_plain w n (gate.And a b) width bits small h = rw (is_plain_decimal n small, is_plain_decimal a.0 (omega (arith, h.0)), is_plain_decimal b.0 (omega (arith, h.1))) refl
equation_plain w n (gate.Shl k a) width bits small h = rw (is_plain_decimal n small, is_plain_decimal k (omega (arith, h.1)), is_plain_decimal a.0 (omega (arith, h.2))) refl
equation_plain w n (gate.Shr k a) width bits small h = rw (is_plain_decimal n small, is_plain_decimal k (omega (arith, h.1)), is_plain_decimal a.0 (omega (arith, h.2))) refl
equation_plain w n (gate.Rotl k a) width bits small h = rw (is_plain_decimal n small, is_plain_decimal k (omega (arith, h.1)), is_plain_decimal a.0 (omega (arith, h.2))) refl
equation_plain w n (gate.Refresh a) width bits small h = rw (is_plain_decimal n small, is_plain_decimal a.0 (omega (arith, h))) refl

equation_form_back : (w n : ℕ) (g : Gate) → w ≤ 64 → 2 ^ w ≤ 2 ^ 64 → n < 2 ^ 64 → IsEquation w n g → equation_form (equation_words n g) ≡ Some (record { register = record { 0 = n }; gate = g })
equation_form_back w n g width bits small h =
    cond-true (is_register (register_text n) && bytes_eq (codes "=") (codes "=")) (with_gate (register_of (register_text n)) (gate_form (gate_words g))) None
    (and_from (is_register (register_text n)) (bytes_eq (codes "=") (codes "=")) (register_written n small) refl)
    ∙ ap (λ (r : Reg). with_gate r (gate_form (gate_words g))) (register_back (record { 0 = n }) small)
    ∙ ap (λ (o : Option Gate). with_gate (record { 0 = n }) o) (gate_back w n g width bits (omega (arith, small)) h)

pub equation_back : (w n k : ℕ) (g : Gate) → w ≤ 64 → n < 2 ^ 64 → IsEquation w n g → equation_line w n k (equation_words n g) ≡ Ok g
equation_back w n k g width small h =
    let q : Equation = record { register = record { 0 = n }; gate = g } in
    ap gate_of
    (said_back k (equation_form (equation_words n g)) (is_next w n) q (equation_form_back w n g width (pow_mono width) small h)
    (and_from (eqb n n) (is_gate w n g) (eq-eqb n n refl) (gate_passes w n g h)))

registers_plain : (n : ℕ) (rs : List Reg) → n ≤ 2 ^ 64 → All (λ r. r.0 < n) rs → are_plain_words (register_words rs) ≡ true
registers_plain n [] small h = refl
registers_plain n (r ∷ rs) small h =
    let below : r.0 < n = h 0 r (omega arith) in
    and_from (is_plain_word (register_text r.0)) (are_plain_words (register_words rs)) (register_plain r.0 (omega (arith, below, small)))
    (registers_plain n rs small (λ k d within. h (suc k) d (omega arith)))

registers_written : (n : ℕ) (rs : List Reg) → n ≤ 2 ^ 64 → All (λ r. r.0 < n) rs → list_all is_register (register_words rs) ≡ true
registers_written n [] small h = refl
registers_written n (r ∷ rs) small h =
    let below : r.0 < n = h 0 r (omega arith) in
    and_from (is_register (register_text r.0)) (list_all is_register (register_words rs)) (register_written r.0 (omega (arith, below, small)))
    (registers_written n rs small (λ k d within. h (suc k) d (omega arith)))

registers_back : (n : ℕ) (rs : List Reg) → n ≤ 2 ^ 64 → All (λ r. r.0 < n) rs → map register_of (register_words rs) ≡ rs
registers_back n [] small h = refl
registers_back n (r ∷ rs) small h =
    let below : r.0 < n = h 0 r (omega arith) in
    ap (λ (x : Reg). x ∷ map register_of (register_words rs)) (register_back r (omega (arith, below, small)))
    ∙ ap (λ (xs : List Reg). r ∷ xs) (registers_back n rs small (λ k d within. h (suc k) d (omega arith)))

registers_pass : (n : ℕ) (rs : List Reg) → All (λ r. r.0 < n) rs → are_outputs n rs ≡ true
registers_pass n [] h = refl
registers_pass n (r ∷ rs) h =
    and_from (is_earlier n r) (are_outputs n rs) (lt-ltb r.0 n (h 0 r (omega arith))) (registers_pass n rs (λ k d within. h (suc k) d (omega arith)))

outputs_form_back : (n : ℕ) (rs : List Reg) → n ≤ 2 ^ 64 → 0 < length rs → All (λ r. r.0 < n) rs → outputs_form (codes "outputs" ∷ register_words rs) ≡ Some rs
outputs_form_back n [] small some h = absurd (omega (arith, some))
outputs_form_back n (r ∷ rs) small some h =
    let words : List (List ℕ) = register_words (r ∷ rs) in
    cond-true (bytes_eq (codes "outputs") (codes "outputs") && list_all is_register words) (Some (map register_of words)) None
    (and_from (bytes_eq (codes "outputs") (codes "outputs")) (list_all is_register words) refl (registers_written n (r ∷ rs) small h))
    ∙ ap (λ (l : List Reg). Some l) (registers_back n (r ∷ rs) small h)

-- the outputs
last_back : (w n k : ℕ) (rs : List Reg) → n < 2 ^ 64 → 0 < length rs → All (λ r. r.0 < n) rs
    → body_from w n k (lines_of (codes "outputs" ++ (outputs_text rs ++ codes "\n"))) ≡ Ok (record { equations = []; outputs = rs })
last_back w n k rs small some h =
    let words : List (List ℕ) = codes "outputs" ∷ register_words rs in
    let line : codes "outputs" ++ (outputs_text rs ++ codes "\n") ≡ line_text words ++ [] = sym (append-nil (line_text words) ∙ outputs_line_is rs) in
    let plain : are_plain_words words ≡ true = and_from (is_plain_word (codes "outputs")) (are_plain_words (register_words rs)) refl (registers_plain n rs (omega (arith, small)) h) in
    let said : outputs_line n k words ≡ Ok rs =
    said_back k (outputs_form words) (are_outputs n) rs (outputs_form_back n rs (omega (arith, small)) some h) (registers_pass n rs h) in
    ap (λ (t : List ℕ). body_from w n k (lines_of t)) line
    ∙ ap (body_from w n k) (lines_of_line (codes "outputs") (register_words rs) [] plain)
    ∙ ap (λ (r : Result (List Reg) CoreFault). with_outputs r (k + 1) []) said

-- the equations and the outputs
body_back : (w n k : ℕ) (gs : List Gate) (rs : List Reg) → w ≤ 64 → n + length gs < 2 ^ 64 → AreEquations w n gs → 0 < length rs → All (λ r. r.0 < n + length gs) rs
    → body_from w n k (lines_of (equations_text n gs ++ (codes "outputs" ++ (outputs_text rs ++ codes "\n")))) ≡ Ok (record { equations = gs; outputs = rs })
body_back w n k [] rs width small h some outs = last_back w n k rs (omega (arith, small)) some (λ j d within. omega (arith, outs j d within))
body_back w n k (g ∷ gs) rs width small h some outs =
    let end : List ℕ = codes "outputs" ++ (outputs_text rs ++ codes "\n") in
    let rest : List ℕ = equations_text (suc n) gs ++ end in
    let words : List (List ℕ) = equation_words n g in
    let later : body_from w (suc n) (k + 1) (lines_of rest) ≡ Ok (record { equations = gs; outputs = rs }) =
    body_back w (suc n) (k + 1) gs rs width (omega (arith, small)) h.1 some (λ j d within. omega (arith, outs j d within)) in
    ap (λ (t : List ℕ). body_from w n k (lines_of t))
    (append_assoc (equation_text n g) (equations_text (suc n) gs) end ∙ ap (λ (x : List ℕ). x ++ rest) (sym (equation_line_is n g)))
    ∙ ap (body_from w n k)
    (lines_of_line (register_text n) (codes "=" ∷ gate_words g) rest (equation_plain w n g width (pow_mono width) (omega (arith, small)) h.0))
    ∙ equation_at w n k words (lines_of rest) refl
    ∙ ap (λ (r : Result Gate CoreFault). with_equation r (body_from w (suc n) (k + 1) (lines_of rest))) (equation_back w n k g width (omega (arith, small)) h.0)
    ∙ ap (λ (r : Result Body CoreFault). with_equation (Ok g) r) later

-- a keyword and a number
width_back : (w : ℕ) → 0 < w → w ≤ 64 → width_line 1 (codes "width" ∷ decimal w ∷ []) ≡ Ok w
width_back w some width =
    said_back 1 (width_form (codes "width" ∷ decimal w ∷ [])) is_width w (rw (is_number_decimal w (omega (arith, width)), value_of_decimal w (omega (arith, width))) refl)
    (and_from (ltb 0 w) (leb w 64) (lt-ltb 0 w some) (le-leb w 64 width))

inputs_back : (n : ℕ) → 0 < n → n < 2 ^ 32 → inputs_line 2 (codes "inputs" ∷ decimal n ∷ []) ≡ Ok n
inputs_back n some few =
    said_back 2 (inputs_form (codes "inputs" ∷ decimal n ∷ [])) is_inputs n (rw (is_number_decimal n (omega (arith, few)), value_of_decimal n (omega (arith, few))) refl)
    (and_from (ltb 0 n) (ltb n (2 ^ 32)) (lt-ltb 0 n some) (lt-ltb n (2 ^ 32) few))

-- the lines of the text of a circuit
circuit_back : (core : Circuit) → IsCore core → core.inputs < 2 ^ 32 → length core.equations ≤ 2 ^ 40 → circuit_of (core_text core) ≡ Ok core
circuit_back core is few small =
    let w : ℕ = core.width in
    let n : ℕ = core.inputs in
    let end : List ℕ = equations_text n core.equations ++ (codes "outputs" ++ (outputs_text core.outputs ++ codes "\n")) in
    let first : List (List ℕ) = codes "width" ∷ decimal w ∷ [] in
    let second : List (List ℕ) = codes "inputs" ∷ decimal n ∷ [] in
    let text : core_text core ≡ line_text first ++ (line_text second ++ end) =
    sym
    (ap (λ (x : List ℕ). x ++ (line_text second ++ end)) (number_line_is (codes "width") (decimal w))
    ∙ ap (λ (x : List ℕ). (codes "width" ++ codes " " ++ decimal w ++ codes "\n") ++ (x ++ end)) (number_line_is (codes "inputs") (decimal n))
    ∙ head_parts (codes "width" ++ codes " " ++ decimal w ++ codes "\n") (codes "inputs" ++ codes " " ++ decimal n) (codes "\n") end
    ∙ core_text_parts core w n n core.equations core.outputs refl refl refl refl refl) in
    let width : w ≤ 64 = is.width_fits in
    let plain_first : are_plain_words first ≡ true = rw (is_plain_decimal w (omega (arith, width))) refl in
    let plain_second : are_plain_words second ≡ true = rw (is_plain_decimal n (omega (arith, few))) refl in
    ap circuit_of text
    ∙ ap from_width (lines_of_line (codes "width") (decimal w ∷ []) (line_text second ++ end) plain_first)
    ∙ ap (λ (r : Result ℕ CoreFault). with_number r (λ v. from_inputs v (lines_of (line_text second ++ end)))) (width_back w is.some_width width)
    ∙ ap (from_inputs w) (lines_of_line (codes "inputs") (decimal n ∷ []) end plain_second)
    ∙ ap (λ (r : Result ℕ CoreFault). with_number r (λ m. circuit_with w m (body_from w m 3 (lines_of end)))) (inputs_back n is.some_input few)
    ∙ ap (circuit_with w n) (body_back w n 3 core.equations core.outputs width (omega (arith, few, small)) is.equations is.some_output is.outputs)

-- the text of a core within the limits
pub text_back : (core : Circuit) → IsCore core → IsSmall core → HasFewColumns core → core_of (core_text core) ≡ Ok core
text_back core is small few =
    let all : ℕ = core.inputs + 2 * products_of core.equations + refreshes_of core.equations in
    let shown : all ≤ all * core.width = le-mul_of_pos_right all is.some_width in
    let sum : ℕ = length core.equations + products_of core.equations in
    let weighed : sum ≤ sum * core.width = le-mul_of_pos_right sum is.some_width in
    ap within_limits (circuit_back core is (omega (arith, shown, few)) (omega (arith, weighed, small)))
    ∙ cond-true (is_within core) (Ok core) (Err fault.Limit)
    (and_from (leb (weight core) MAX_WEIGHT) (leb (columns core) MAX_COLUMNS) (le-leb (weight core) MAX_WEIGHT small) (le-leb (columns core) MAX_COLUMNS few))
