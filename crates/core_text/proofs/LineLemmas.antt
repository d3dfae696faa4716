-- What a line says, from what its parts say.
use Rattle.std.proofs.Common.{◌≡◌, ℕ, true, false, eqb, if◌then◌else◌, List, Option, None, Some, Result, Ok, Err, refl, sym, ap, ◌∙◌, inl, inr}
use Rattle.std.specs.Result.{IsErrAnd}
use Rattle.std.proofs.lemmas.Bool.{cases_Bool, cond-true, eq-eqb, ne_eqb, eqb-true, eqb-false}
use Rattle.core_text.specs.declared.fault.CoreFault.{CoreFault}
use Rattle.core_text.specs.declared.fault.CoreFault.TheVariants as fault
use Rattle.core_text.specs.Forms.{is_register, register_of, single_gate, constant_gate, pair_gate, numbered_gate, one_form, two_form, gate_form, with_gate, equation_form}
use Rattle.core_text.specs.Parts.{kept_gate, answer_kept}
use Rattle.core_text.specs.Ranges.{is_gate, is_next}
use Rattle.core_text.specs.Reading.{said_in_range, gate_of, equation_line}
use Rattle.core_text.proofs.BodyLemmas.{failed, no_ok}
use Rattle.text_lines.specs.Numbers.{is_number, value_of}
use Rattle.usuba0.specs.declared.circuit.Gate.{Gate}
use Rattle.usuba0.specs.declared.circuit.Reg.{Reg}

-- one operand that is a register
pub one_register : (w n k : ℕ) (name a : List ℕ) (said : Result Gate CoreFault) → is_register a ≡ true
    → said ≡ answer_kept kept_gate (said_in_range k (single_gate name (register_of a)) (is_gate w n))
    → said ≡ answer_kept kept_gate (said_in_range k (one_form name a) (is_gate w n))
one_register w n k name a said h e =
    e
    ∙ sym
    (ap (λ (o : Option Gate). answer_kept kept_gate (said_in_range k o (is_gate w n)))
    (cond-true (is_register a) (single_gate name (register_of a)) (if is_number a then constant_gate name (value_of a) else None) h))

-- two operands that are registers
pub two_registers : (w n k : ℕ) (name a b : List ℕ) (said : Result Gate CoreFault) → is_register b ≡ true → is_register a ≡ true
    → said ≡ answer_kept kept_gate (said_in_range k (pair_gate name (register_of a) (register_of b)) (is_gate w n))
    → said ≡ answer_kept kept_gate (said_in_range k (two_form name a b) (is_gate w n))
two_registers w n k name a b said hb ha e =
    let pair : Option Gate = pair_gate name (register_of a) (register_of b) in
    let other : Option Gate = if is_number a then numbered_gate name (value_of a) (register_of b) else None in
    e
    ∙ sym
    (ap (λ (o : Option Gate). answer_kept kept_gate (said_in_range k o (is_gate w n)))
    (cond-true (is_register b) (if is_register a then pair else other) None hb ∙ cond-true (is_register a) pair other ha))

-- a right side with a fault
wrong_side : (w n k : ℕ) (r : Reg) (o : Option Gate) (wrong : CoreFault) → Err wrong ≡ answer_kept kept_gate (said_in_range k o (is_gate w n))
    → Err wrong ≡ answer_kept kept_gate (gate_of (said_in_range k (with_gate r o) (is_next w n)))
wrong_side w n k r None wrong e = e
wrong_side w n k r (Some g) wrong e =
    elim (cases_Bool (is_gate w n g)) [
      | inl right ↦
          (let f : Err wrong ≡ Ok (kept_gate g) = e ∙ rw right refl in
          absurd (no_ok (kept_gate g) wrong (sym f)))
      | inr out ↦
          (let f : Err wrong ≡ Err (fault.OutOfRange k) = e ∙ rw out refl in
          elim (cases_Bool (eqb r.0 n)) [
            | inl at ↦ f ∙ sym (rw (at, out) refl)
            | inr off ↦ f ∙ sym (rw off refl)
          ])
    ]

-- a left side that is not the next register
other_side : (w n k : ℕ) (r : Reg) (o : Option Gate) (g : Gate) → (r.0 ≡ n → ⊥) → Ok g ≡ answer_kept kept_gate (said_in_range k o (is_gate w n))
    → Err (fault.OutOfRange k) ≡ answer_kept kept_gate (gate_of (said_in_range k (with_gate r o) (is_next w n)))
other_side w n k r None g off e = absurd (no_ok g (fault.Syntax k) e)
other_side w n k r (Some said) g off e = sym (rw (ne_eqb r.0 n off) refl)

-- a right line
right_side : (w n k : ℕ) (r : Reg) (o : Option Gate) (g : Gate) → r.0 ≡ n → Ok g ≡ answer_kept kept_gate (said_in_range k o (is_gate w n))
    → Ok g ≡ answer_kept kept_gate (gate_of (said_in_range k (with_gate r o) (is_next w n)))
right_side w n k r None g at e = absurd (no_ok g (fault.Syntax k) e)
right_side w n k r (Some said) g at e =
    elim (cases_Bool (is_gate w n said)) [
      | inl right ↦
          (let f : Ok g ≡ Ok (kept_gate said) = e ∙ rw right refl in
          f ∙ sym (rw (eq-eqb r.0 n at, right) refl))
      | inr out ↦
          (let f : Ok g ≡ Err (fault.OutOfRange k) = e ∙ rw out refl in
          absurd (no_ok g (fault.OutOfRange k) f))
    ]

-- the same of the words of a line
pub wrong_line : (w n k : ℕ) (words : List (List ℕ)) (left : List ℕ) (right : List (List ℕ)) (wrong : CoreFault) → equation_form words ≡ with_gate (register_of left) (gate_form right)
    → Err wrong ≡ answer_kept kept_gate (said_in_range k (gate_form right) (is_gate w n)) → Err wrong ≡ answer_kept kept_gate (equation_line w n k words)
wrong_line w n k words left right wrong form e =
    wrong_side w n k (register_of left) (gate_form right) wrong e ∙ ap (λ o. answer_kept kept_gate (gate_of (said_in_range k o (is_next w n)))) (sym form)

pub other_line : (w n k : ℕ) (words : List (List ℕ)) (left : List ℕ) (right : List (List ℕ)) (g : Gate) → equation_form words ≡ with_gate (register_of left) (gate_form right)
    → eqb (register_of left).0 n ≡ false → Ok g ≡ answer_kept kept_gate (said_in_range k (gate_form right) (is_gate w n))
    → Err (fault.OutOfRange k) ≡ answer_kept kept_gate (equation_line w n k words)
other_line w n k words left right g form off e =
    other_side w n k (register_of left) (gate_form right) g (eqb-false (register_of left).0 n off) e ∙ ap (λ o. answer_kept kept_gate (gate_of (said_in_range k o (is_next w n)))) (sym form)

pub right_line : (w n k : ℕ) (words : List (List ℕ)) (left : List ℕ) (right : List (List ℕ)) (g : Gate) → equation_form words ≡ with_gate (register_of left) (gate_form right)
    → eqb (register_of left).0 n ≡ true → Ok g ≡ answer_kept kept_gate (said_in_range k (gate_form right) (is_gate w n))
    → Ok g ≡ answer_kept kept_gate (equation_line w n k words)
right_line w n k words left right g form at e =
    right_side w n k (register_of left) (gate_form right) g (eqb-true (register_of left).0 n at) e ∙ ap (λ o. answer_kept kept_gate (gate_of (said_in_range k o (is_next w n)))) (sym form)

-- the fault that an answer hands on
pub handed_on : {X : Type 0} (said : Result X CoreFault) (wrong : CoreFault) → IsErrAnd said (λ x. x ≡ wrong) → said ≡ Err wrong
handed_on (Ok x) wrong is = absurd is
handed_on {X} (Err x) wrong is = ap (λ (f : CoreFault). failed X f) is
