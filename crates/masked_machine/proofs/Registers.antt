-- Where the registers of a core are in the memory of its masked form.
use Rattle.std.proofs.Common.{◌≡◌, ◌≢◌, inl, inr, ℕ, ◌+◌, ◌-◌, ◌<◌, ◌≤◌, ltb, List, [], ◌∷◌, ◌++◌, set, get_or, length, All, Some, refl, sym, ap, ◌∙◌, ⊎_elim, arith, subst, length-set, get_or-set_same, get_or-set_other}
use Rattle.std.specs.Prelude.{slice_index}
use Rattle.std.proofs.lemmas.Bool.{cond-true, cond-false, lt-ltb, le-ltb, cases_lt, cases_eq}
use Rattle.std.proofs.lemmas.List.{get_or_append_left, get_or_push, length-append}
use Rattle.c_tree.specs.declared.CFile.{CFile}
use Rattle.c_machine.specs.Scope.{row}
use Rattle.c_machine.specs.Run.{argument_meaning}
use Rattle.c_form.specs.Slots.{operands, IsLastWriter}
use Rattle.c_form.specs.MaskedForm.{row_of}
use Rattle.usuba0.specs.declared.circuit.Gate.{Gate}
use Rattle.usuba0.specs.declared.circuit.Gate.TheVariants as gate
use Rattle.usuba0.specs.declared.circuit.Reg.{Reg}
use Rattle.usuba0.specs.Circuit.{IsEquation}
use Rattle.share_gadgets.specs.MaskedRun.{sharing_at}
use Rattle.share_gadgets.specs.Sharing.{IsSharing}
use Rattle.share_gadgets.proofs.RunLemmas.{all_push}
use Rattle.masked_machine.proofs.Operands.{IsOperand}
use Rattle.masked_machine.proofs.Calls.{IsRead}

-- what holds of each operand of an equation holds of each register that it reads
pub of_read : (P : ℕ → Type 0) (g : Gate) (r : Reg) → IsRead g r → All P (operands g) → P r.0
of_read P (gate.Const c) r read all = absurd read
of_read P (gate.Xor a b) r (inl is) all = subst (λ (x : Reg). P x.0) is (all 0 0 (omega arith))
of_read P (gate.Xor a b) r (inr is) all = subst (λ (x : Reg). P x.0) is (all 1 0 (omega arith))
of_read P (gate.Not a) r is all = subst (λ (x : Reg). P x.0) is (all 0 0 (omega arith))
of_read P (gate.Mask c a) r is all = subst (λ (x : Reg). P x.0) is (all 0 0 (omega arith))
of_read P (gate.And a b) r (inl is) all = subst (λ (x : Reg). P x.0) is (all 0 0 (omega arith))
of_read P (gate.And a b) r (inr is) all = subst (λ (x : Reg). P x.0) is (all 1 0 (omega arith))
of_read P (gate.Shl k a) r is all = subst (λ (x : Reg). P x.0) is (all 0 0 (omega arith))
of_read P (gate.Shr k a) r is all = subst (λ (x : Reg). P x.0) is (all 0 0 (omega arith))
of_read P (gate.Rotl k a) r is all = subst (λ (x : Reg). P x.0) is (all 0 0 (omega arith))
of_read P (gate.Refresh a) r is all = subst (λ (x : Reg). P x.0) is (all 0 0 (omega arith))

-- an equation reads earlier registers
pub read_earlier : (w n : ℕ) (g : Gate) (r : Reg) → IsEquation w n g → IsRead g r → r.0 < n
read_earlier w n (gate.Const c) r right read = absurd read
read_earlier w n (gate.Xor a b) r right (inl is) = subst (λ (x : Reg). x.0 < n) is right.0
read_earlier w n (gate.Xor a b) r right (inr is) = subst (λ (x : Reg). x.0 < n) is right.1
read_earlier w n (gate.Not a) r right is = subst (λ (x : Reg). x.0 < n) is right
read_earlier w n (gate.Mask c a) r right is = subst (λ (x : Reg). x.0 < n) is right.1
read_earlier w n (gate.And a b) r right (inl is) = subst (λ (x : Reg). x.0 < n) is right.0
read_earlier w n (gate.And a b) r right (inr is) = subst (λ (x : Reg). x.0 < n) is right.1
read_earlier w n (gate.Shl k a) r right is = subst (λ (x : Reg). x.0 < n) is right.2
read_earlier w n (gate.Shr k a) r right is = subst (λ (x : Reg). x.0 < n) is right.2
read_earlier w n (gate.Rotl k a) r right is = subst (λ (x : Reg). x.0 < n) is right.2
read_earlier w n (gate.Refresh a) r right is = subst (λ (x : Reg). x.0 < n) is right

-- the memory before call k holds the sharings of the registers, as far as they are in it
pub record Holds (B d inputs : ℕ) (file : CFile) (slots : List ℕ) (k : ℕ) (rows memory : List (List ℕ)) : Type 0 where
  pub count : length memory ≡ file.outputs + file.inputs + file.slots
  pub long : (r : ℕ) → r < length memory → length (get_or memory r []) ≡ d
  pub inputs_held : (r : ℕ) → r < inputs → get_or memory (file.outputs + r) [] ≡ get_or rows r []
  pub written : (j : ℕ) → IsLastWriter slots k (slice_index slots j) j
      → get_or memory (file.outputs + file.inputs + slice_index slots j) [] ≡ get_or rows (inputs + j) []
  pub many : length rows ≡ inputs + k
  pub shared : All (IsSharing B d) rows

module _ (B d inputs : ℕ) (file : CFile) (same : file.inputs ≡ inputs) (slots : List ℕ) (k : ℕ) (rows memory : List (List ℕ))
    (holds : Holds B d inputs file slots k rows memory) where
  -- a register is read where it is, from a memory whose target row is another one
  pub register_read : (c : ℕ) (r : Reg) → r.0 < inputs + k
      → (inputs ≤ r.0 → IsLastWriter slots k (slice_index slots (r.0 - inputs)) (r.0 - inputs))
      → (inputs ≤ r.0 → slice_index slots (r.0 - inputs) < file.slots)
      → (r.0 < inputs → file.outputs + r.0 ≢ c)
      → (inputs ≤ r.0 → file.outputs + file.inputs + slice_index slots (r.0 - inputs) ≢ c)
      → (place : ℕ) × (argument_meaning file (row_of inputs slots r) ≡ Some (row place)) × IsOperand B d memory c place (sharing_at rows r)
  register_read c r below last few apart_input apart_slot =
      ⊎_elim
      (λ (h : r.0 < inputs). (
        file.outputs + r.0,
        ap (argument_meaning file) (cond-true (ltb r.0 inputs) _ _ (lt-ltb r.0 inputs h))
            ∙ cond-true (ltb r.0 file.inputs) _ _ (lt-ltb r.0 file.inputs (omega (arith, h, same))),
        record {
          apart = apart_input h;
          held = holds.inputs_held r.0 h;
          shared = holds.shared r.0 [] (omega (arith, holds.many, below));
        },
      ))
      (λ (h : inputs ≤ r.0).
      let j = r.0 - inputs in
      let number : inputs + j ≡ r.0 = omega (arith, h) in (
        file.outputs + file.inputs + slice_index slots j,
        ap (argument_meaning file) (cond-false (ltb r.0 inputs) _ _ (le-ltb r.0 inputs h))
            ∙ cond-true (ltb (slice_index slots j) file.slots) _ _ (lt-ltb (slice_index slots j) file.slots (few h)),
        record {
          apart = apart_slot h;
          held = holds.written j (last h) ∙ ap (λ n. get_or rows n []) number;
          shared = holds.shared r.0 [] (omega (arith, holds.many, below));
        },
      ))
      (cases_lt r.0 inputs)

  -- the memory after equation k
  pub holds_next : (w : ℕ) → w ≤ B → 0 < d → (slot : ℕ) (made : List ℕ) → slot ≡ slice_index slots k → slot < file.slots → IsSharing B d made
      → Holds B d inputs file slots (k + 1) (rows ++ made ∷ []) (set memory (file.outputs + file.inputs + slot) made)
  holds_next w fits some slot made is few shared =
      let c = file.outputs + file.inputs + slot in
      let within : c < length memory = omega (arith, holds.count, few) in
      record {
        count = length-set memory c made ∙ holds.count;
        long = λ r h. ⊎_elim
            (λ (e : r ≡ c). ap length (ap (λ n. get_or (set memory c made) n []) e ∙ get_or-set_same memory c made [] within) ∙ shared.count)
            (λ (a : r ≡ c → ⊥). ap length (get_or-set_other memory c r made [] a) ∙ holds.long r (omega (arith, h, length-set memory c made)))
            (cases_eq r c);
        inputs_held = λ r h.
            get_or-set_other memory c (file.outputs + r) made [] (λ e. absurd (omega (arith, h, same, e)))
            ∙ holds.inputs_held r h ∙ sym (get_or_append_left rows (made ∷ []) [] r (omega (arith, h, holds.many)));
        written = λ j last. ⊎_elim
            (λ (e : j ≡ k).
            let here : slice_index slots j ≡ slot = ap (slice_index slots) e ∙ sym is in
            ap (λ n. get_or (set memory c made) (file.outputs + file.inputs + n) []) here
            ∙ get_or-set_same memory c made [] within
            ∙ sym (ap (λ n. get_or (rows ++ made ∷ []) (inputs + n) []) e ∙ get_or_push rows made [] (inputs + k) holds.many))
            (λ (a : j ≡ k → ⊥).
            let earlier : j < k = omega (arith, last.earlier, a) in
            let other : slice_index slots k ≢ slice_index slots j = last.last k earlier (omega arith) in
            get_or-set_other memory c (file.outputs + file.inputs + slice_index slots j) made [] (λ e. other (sym is ∙ omega (arith, e)))
            ∙ holds.written j (record { earlier = earlier; wrote = refl; last = λ i h l. last.last i h (omega (arith, l)) })
            ∙ sym (get_or_append_left rows (made ∷ []) [] (inputs + j) (omega (arith, earlier, holds.many))))
            (cases_eq j k);
        many = length-append rows (made ∷ []) ∙ omega (arith, holds.many);
        shared = all_push w B d fits some rows made holds.shared shared;
      }
