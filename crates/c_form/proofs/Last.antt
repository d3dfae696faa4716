-- What follows where each equation has its least slot.
use Rattle.std.proofs.Common.{◌≡◌, ◌≢◌, ℕ, zero, suc, ◌+◌, ◌-◌, ◌<◌, ◌≤◌, true, List, [], ◌∷◌, length, get_or}
use Rattle.std.proofs.Common.{slice_get, Some, All, refl, sym, ◌∙◌, subst, inl, inr, arith}
use Rattle.std.specs.Prelude.{nat_eq, IsTrue}
use Rattle.std.specs.List.{list_any}
use Rattle.std.proofs.lemmas.Bool.{or_left, eq-eqb, cases_order}
use Rattle.std.proofs.lemmas.List.Elements.{All-nil, All-cons, All-map, All-from_get_or, All-get_or}
use Rattle.std.proofs.lemmas.List.Folds.{list_any_at}
use Rattle.std.proofs.lemmas.Option.{slice_get_within, get_or_from_slice_get}
use Rattle.usuba0.specs.declared.circuit.Gate.{Gate}
use Rattle.usuba0.specs.declared.circuit.Gate.TheVariants as gate
use Rattle.usuba0.specs.declared.circuit.Reg.{Reg}
use Rattle.usuba0.specs.Circuit.{Circuit, IsCore, IsEquation}
use Rattle.usuba0.proofs.CircuitLemmas.{equation_at}
use Rattle.c_form.specs.Slots.{operands, copied, is_read, is_live, IsLeastFree, AreLeastSlots}
use Rattle.c_form.specs.Slots.{IsLastWriter, slot_count}
use Rattle.c_form.specs.MaskedForm.{AreLastWritten, AreElsewhere}
use Rattle.c_form.proofs.Reading.{is_read-earlier, is_live-parts, is_live-from, is_live-earlier, is_read-here}
use Rattle.c_form.proofs.Reading.{is_read-copied}

-- an equation reads registers that were made before it
pub operands-below : (w n : ℕ) (g : Gate) → IsEquation w n g → All (λ r. r < n) (operands g)
operands-below w n (gate.Const c) is = All-nil (λ r. r < n)
operands-below w n (gate.Xor a b) is =
    All-cons (λ r. r < n) a.0 (b.0 ∷ []) is.0 (All-cons (λ r. r < n) b.0 [] is.1 (All-nil (λ r. r < n)))
operands-below w n (gate.Not a) is = All-cons (λ r. r < n) a.0 [] is (All-nil (λ r. r < n))
operands-below w n (gate.Mask c a) is = All-cons (λ r. r < n) a.0 [] is.1 (All-nil (λ r. r < n))
operands-below w n (gate.And a b) is =
    All-cons (λ r. r < n) a.0 (b.0 ∷ []) is.0 (All-cons (λ r. r < n) b.0 [] is.1 (All-nil (λ r. r < n)))
operands-below w n (gate.Shl k a) is = All-cons (λ r. r < n) a.0 [] is.2 (All-nil (λ r. r < n))
operands-below w n (gate.Shr k a) is = All-cons (λ r. r < n) a.0 [] is.2 (All-nil (λ r. r < n))
operands-below w n (gate.Rotl k a) is = All-cons (λ r. r < n) a.0 [] is.2 (All-nil (λ r. r < n))
operands-below w n (gate.Refresh a) is = All-cons (λ r. r < n) a.0 [] is (All-nil (λ r. r < n))

-- so do the equations of a core
pub core_operands-below : (core : Circuit) (k : ℕ) (g : Gate) → IsCore core → slice_get core.equations k ≡ Some g
    → All (λ r. r < core.inputs + k) (operands g)
core_operands-below core k g is here =
    let within : k < length core.equations = slice_get_within core.equations k g here in
    operands-below core.width (core.inputs + k) g
    (subst (λ (h : Gate). IsEquation core.width (core.inputs + k) h) (get_or_from_slice_get core.equations k g g here)
    (equation_at core.width core.inputs core.equations k g is.equations within))

-- and the registers that are copied are a core's
pub copied-below : (core : Circuit) → IsCore core → All (λ r. r < core.inputs + length core.equations) (copied core)
copied-below core is = All-map (λ r. r < core.inputs + length core.equations) (λ (o : Reg). o.0) core.outputs is.outputs

-- an operand of an equation is read there
pub operand_is_read : (core : Circuit) (k : ℕ) (g : Gate) (i : ℕ) → slice_get core.equations k ≡ Some g
    → i < length (operands g) → core.inputs ≤ get_or (operands g) i 0
    → is_read core k (get_or (operands g) i 0 - core.inputs) ≡ true
operand_is_read core k g i here within past =
    let r = get_or (operands g) i 0 in
    let same : core.inputs + (r - core.inputs) ≡ r = omega arith in
    is_read-here core k g (r - core.inputs) here
    ∙ or_left (list_any (nat_eq (core.inputs + (r - core.inputs))) (operands g)) (is_read core (k + 1)
    (r - core.inputs))
    (list_any_at (nat_eq (core.inputs + (r - core.inputs))) (operands g) i 0 within
    (eq-eqb (core.inputs + (r - core.inputs)) r same))

-- a register that is copied is read behind the last equation
pub copied_is_read : (core : Circuit) (i : ℕ) → i < length (copied core) → core.inputs ≤ get_or (copied core) i 0
    → is_read core (length core.equations) (get_or (copied core) i 0 - core.inputs) ≡ true
copied_is_read core i within past =
    let r = get_or (copied core) i 0 in
    let same : core.inputs + (r - core.inputs) ≡ r = omega arith in
    is_read-copied core (r - core.inputs)
    ∙ list_any_at (nat_eq (core.inputs + (r - core.inputs))) (copied core) i 0 within
    (eq-eqb (core.inputs + (r - core.inputs)) r same)

module _ (core : Circuit) (slots : List ℕ) where
  -- a register that is live holds another slot than each that was made after it
  pub slots-apart : (m k i j : ℕ) → ((n : ℕ) → n < m → IsLeastFree core slots n (get_or slots n 0)) → i < j → j < m
      → j ≤ k → IsTrue (is_live core k i) → get_or slots i 0 ≢ get_or slots j 0
  slots-apart m k i j least before within earlier live =
      (least j within).free i (is_live-earlier core j k i earlier before live)

  -- two registers that are live at once hold two slots
  pub slots-distinct : (m k i j : ℕ) → ((n : ℕ) → n < m → IsLeastFree core slots n (get_or slots n 0)) → k ≤ m
      → IsTrue (is_live core k i) → IsTrue (is_live core k j) → get_or slots i 0 ≡ get_or slots j 0 → i ≡ j
  slots-distinct m k i j least within first second same =
      let made_i = (is_live-parts core k i first).0 in
      let made_j = (is_live-parts core k j second).0 in
      elim (cases_order i j) as (λ v. i ≡ j) [
        | inl equal ↦ equal
        | inr apart ↦ elim apart as (λ v. i ≡ j) [
          | inl before ↦ absurd (slots-apart m k i j least before (omega arith) (omega arith) first same)
          | inr after ↦ absurd (slots-apart m k j i least after (omega arith) (omega arith) second (sym same))
        ]
      ]

  -- a register that is read at a call or later was the last to write its slot before it
  pub last_writer : (k j : ℕ) → AreLeastSlots core slots → j < k → k ≤ length core.equations
      → is_read core k j ≡ true → IsLastWriter slots k (get_or slots j 0) j
  last_writer k j are made within read = record {
    earlier = made;
    wrote = refl;
    last = λ i after before same.
        (are.least i (omega arith)).free j
        (is_live-from core i j after (is_read-earlier core i k j (omega arith) read)) (sym same);
  }

  -- the operands of an equation wrote their slots last
  pub operands_written : (k : ℕ) (g : Gate) → IsCore core → AreLeastSlots core slots
      → slice_get core.equations k ≡ Some g → AreLastWritten core.inputs slots k (operands g)
  operands_written k g is are here =
      let within : k < length core.equations = slice_get_within core.equations k g here in
      All-from_get_or (λ r. core.inputs ≤ r → IsLastWriter slots k (get_or slots (r - core.inputs) 0) (r - core.inputs))
      (operands g) 0
      (λ i there past.
      let below : get_or (operands g) i 0 < core.inputs + k
      = All-get_or (λ r. r < core.inputs + k) (operands g) i 0 there (core_operands-below core k g is here) in
      last_writer k (get_or (operands g) i 0 - core.inputs) are (omega arith) (omega arith)
      (operand_is_read core k g i here there past))

  -- and so did the registers that are copied
  pub copied_written : IsCore core → AreLeastSlots core slots
      → AreLastWritten core.inputs slots (length core.equations) (copied core)
  copied_written is are =
      let n = length core.equations in
      All-from_get_or (λ r. core.inputs ≤ r → IsLastWriter slots n (get_or slots (r - core.inputs) 0) (r - core.inputs))
      (copied core) 0
      (λ i there past.
      let below : get_or (copied core) i 0 < core.inputs + n
      = All-get_or (λ r. r < core.inputs + n) (copied core) i 0 there (copied-below core is) in
      last_writer n (get_or (copied core) i 0 - core.inputs) are (omega arith) (omega arith)
      (copied_is_read core i there past))

  -- no operand of an equation has the slot that it writes
  pub operands_elsewhere : (k : ℕ) (g : Gate) → IsCore core → AreLeastSlots core slots
      → slice_get core.equations k ≡ Some g → AreElsewhere core.inputs slots (get_or slots k 0) (operands g)
  operands_elsewhere k g is are here =
      let within : k < length core.equations = slice_get_within core.equations k g here in
      All-from_get_or (λ r. core.inputs ≤ r → get_or slots (r - core.inputs) 0 ≢ get_or slots k 0) (operands g) 0
      (λ i there past.
      let below : get_or (operands g) i 0 < core.inputs + k
      = All-get_or (λ r. r < core.inputs + k) (operands g) i 0 there (core_operands-below core k g is here) in
      (are.least k within).free (get_or (operands g) i 0 - core.inputs)
      (is_live-from core k (get_or (operands g) i 0 - core.inputs) (omega arith)
      (operand_is_read core k g i here there past)))

-- each slot is below their number
pub below-slot_count : (slots : List ℕ) (k : ℕ) → k < length slots → get_or slots k 0 < slot_count slots
below-slot_count [] k within = absurd (omega arith)
below-slot_count (slot ∷ slots) zero within = omega arith
below-slot_count (slot ∷ slots) (suc k) within =
    let rest = below-slot_count slots k (omega arith) in
    omega arith
