-- The core that is made of what was read.
use Rattle.std.proofs.Common.{◌≡◌, ℕ, suc, ◌+◌, ◌*◌, ◌^◌, ◌<◌, ◌≤◌, true, eqb, ltb, leb, List, [], ◌∷◌, ◌++◌, length, map, Option, None, Some, Result, Ok, Err, refl, sym, ap, ◌∙◌, subst, inl, inr, arith, codes, decimal, length-append}
use Rattle.std.specs.List.{All, slice_split}
use Rattle.std.proofs.Math.Nat.{le-mul_of_pos_right}
use Rattle.std.proofs.lemmas.Bool.{cases_Bool, and_parts, ltb-true, leb-true, lt-ltb, leb-false, cond-false}
use Rattle.std.proofs.lemmas.List.{length-map}
use Rattle.std.proofs.lemmas.List.Splits.{length-slice_split}
use Rattle.std.proofs.lemmas.List.Sums.{count_by-le-length}
use Rattle.core_text.specs.declared.fault.CoreFault.{CoreFault}
use Rattle.core_text.specs.declared.fault.CoreFault.TheVariants as fault
use Rattle.core_text.specs.Forms.{width_form, is_outputs}
use Rattle.core_text.specs.Parts.{kept, kept_gate, kept_body, answer_kept, rest_of}
use Rattle.core_text.specs.Ranges.{is_width, is_within}
use Rattle.core_text.specs.Reading.{Body, width_line, inputs_line, from_inputs, equation_line, outputs_line, body_from, circuit_with, from_width, circuit_of, core_of, within_limits, IsOrMemory}
use Rattle.core_text.proofs.BodyLemmas.{no_ok, ok_is, equation_at, outputs_at}
use Rattle.core_text.proofs.LawLemmas.{CircuitTold, circuit_told, pick_ok, said_parts, equation_parts, outputs_parts, number_parts, circuit_parts}
use Rattle.text_lines.specs.Lines.{LinesLeft, lines_of, lines_of_parts}
use Rattle.usuba0.specs.declared.circuit.Gate.{Gate}
use Rattle.usuba0.specs.declared.circuit.Gate.TheVariants as gate
use Rattle.usuba0.specs.declared.circuit.Reg.{Reg}
use Rattle.usuba0.specs.declared.limit.TheConstants.{MAX_WEIGHT, MAX_COLUMNS}
use Rattle.usuba0.specs.Circuit.{Circuit, IsCore, IsEquation, AreEquations, IsSmall, HasFewColumns, weight, columns, products_of, refreshes_of}
use Rattle.usuba0.specs.CoreText.{outputs_text, equations_text, head_text, core_text}

-- registers below 2^32 are kept as they are
kept_same : (a : Reg) (n : ℕ) → a.0 < n → n ≤ 2 ^ 32 → kept a ≡ a
kept_same a n below small = rw (lt-ltb a.0 (2 ^ 32) (omega arith)) refl

pub gate_same : (w n : ℕ) (g : Gate) → n ≤ 2 ^ 32 → IsEquation w n g → kept_gate g ≡ g
gate_same w n (gate.Const c) small h = refl
gate_same w n (gate.Xor a b) small h =
    ap (λ (x : Reg). gate.Xor x (kept b)) (kept_same a n h.0 small) ∙ ap (λ (x : Reg). gate.Xor a x) (kept_same b n h.1 small)
gate_same w n (gate.Not a) small h = ap (λ (x : Reg). gate.Not x) (kept_same a n h small)
gate_same w n (gate.Mask c a) small h = ap (λ (x : Reg). gate.Mask c x) (kept_same a n h.1 small)
gate_same w n (gate.And a b) small h =
    ap (λ (x : Reg). gate.And x (kept b)) (kept_same a n h.0 small) ∙ ap (λ (x : Reg). gate.And a x) (kept_same b n h.1 small)
gate_same w n (gate.Shl k a) small h = ap (λ (x : Reg). gate.Shl k x) (kept_same a n h.2 small)
gate_same w n (gate.Shr k a) small h = ap (λ (x : Reg). gate.Shr k x) (kept_same a n h.2 small)
gate_same w n (gate.Rotl k a) small h = ap (λ (x : Reg). gate.Rotl k x) (kept_same a n h.2 small)
gate_same w n (gate.Refresh a) small h = ap (λ (x : Reg). gate.Refresh x) (kept_same a n h small)

gates_same : (w n : ℕ) (gs : List Gate) → n + length gs ≤ 2 ^ 32 → AreEquations w n gs → map kept_gate gs ≡ gs
gates_same w n [] small h = refl
gates_same w n (g ∷ gs) small h =
    ap (λ (x : Gate). x ∷ map kept_gate gs) (gate_same w n g (omega arith) h.0) ∙ ap (λ (xs : List Gate). g ∷ xs) (gates_same w (suc n) gs (omega arith) h.1)

registers_same : (n : ℕ) (rs : List Reg) → n ≤ 2 ^ 32 → All (λ r. r.0 < n) rs → map kept rs ≡ rs
registers_same n [] small h = refl
registers_same n (r ∷ rs) small h =
    ap (λ (x : Reg). x ∷ map kept rs) (kept_same r n (h 0 r (omega arith)) small)
    ∙ ap (λ (xs : List Reg). r ∷ xs) (registers_same n rs small (λ k d within. h (suc k) d (omega arith)))

-- a circuit with more inputs than columns is past a limit
too_wide : (core : Circuit) → 0 < core.width → MAX_COLUMNS < core.inputs → within_limits (Ok core) ≡ Err fault.Limit
too_wide core some many =
    elim (cases_Bool (is_within core)) [
      | inl fits ↦
          (let p = and_parts (leb (weight core) MAX_WEIGHT) (leb (columns core) MAX_COLUMNS) fits in
          let low : columns core ≤ MAX_COLUMNS = leb-true (columns core) MAX_COLUMNS p.1 in
          let all : ℕ = core.inputs + 2 * products_of core.equations + refreshes_of core.equations in
          let high : all ≤ all * core.width = le-mul_of_pos_right all some in
          absurd (omega (arith, low, high, many)))
      | inr past ↦ cond-false (is_within core) (Ok core) (Err fault.Limit) past
    ]

kept_parts : (said : Result Body CoreFault) (b : Body) → answer_kept kept_body said ≡ Ok b → (body : Body) × (said ≡ Ok body) × (kept_body body ≡ b)
kept_parts (Err wrong) b e = absurd (no_ok b wrong (sym e))
kept_parts (Ok body) b e = (body, refl, ok_is (kept_body body) b e)

-- each output takes a byte or more
outputs_size : (rs : List Reg) → length rs ≤ length (outputs_text rs)
outputs_size [] = omega arith
outputs_size (r ∷ rs) =
    let others = outputs_size rs in
    omega (arith, others, length-append (codes "r" ++ decimal r.0) (outputs_text rs), length-append (codes " " ++ (codes "r" ++ decimal r.0)) (outputs_text rs))

text_size : (core : Circuit) → length core.outputs ≤ length (core_text core)
text_size core =
    let front : List ℕ = head_text core.width core.inputs ++ equations_text core.inputs core.equations ++ codes "outputs" in
    let outputs = outputs_size core.outputs in
    omega (arith, outputs, length-append (front ++ outputs_text core.outputs) (codes "\n"), length-append front (outputs_text core.outputs))

-- what `core_within` asks for, and that its answer is the one that is wanted
pub record Made (bytes : List ℕ) (core : Circuit) : Type 0 where
  pub few_equations : length core.equations < 2 ^ 32
  pub few_outputs : length core.outputs < 2 ^ 32
  pub is_core : core.inputs ≤ MAX_COLUMNS → IsCore core
  pub same : within_limits (Ok core) ≡ core_of bytes

small_made : (bytes : List ℕ) (core found : Circuit) → 0 < core.width → circuit_of bytes ≡ Ok core → CircuitTold bytes core → length bytes ≤ 2 ^ 31 → length core.equations ≤ 2 ^ 31 + 1
    → found.width ≡ core.width → found.inputs ≡ core.inputs → map kept_gate core.equations ≡ found.equations → map kept core.outputs ≡ found.outputs → Made bytes found
small_made bytes core found some e told few_bytes few w n gs rs =
    let size : length found.equations ≡ length core.equations = ap length (sym gs) ∙ length-map core.equations kept_gate in
    let outs : length found.outputs ≡ length core.outputs = ap length (sym rs) ∙ length-map core.outputs kept in
    let fits = text_size core in
    let bytes_size : length bytes ≡ length (core_text core) = ap length told.text in
    let within : within_limits (Ok core) ≡ core_of bytes = ap within_limits (sym e) in
    let is : found.inputs ≤ MAX_COLUMNS → core ≡ found = λ low.
    (let regs : core.inputs + length core.equations ≤ 2 ^ 32 = omega (arith, low, n, few) in
    let gates : core.equations ≡ found.equations = sym (gates_same core.width core.inputs core.equations regs told.is_core.equations) ∙ gs in
    let outputs : core.outputs ≡ found.outputs = sym (registers_same (core.inputs + length core.equations) core.outputs regs told.is_core.outputs) ∙ rs in
    ap (λ (x : ℕ). record { width = x; inputs = core.inputs; equations = core.equations; outputs = core.outputs }) (sym w)
    ∙ ap (λ (x : ℕ). record { width = found.width; inputs = x; equations = core.equations; outputs = core.outputs }) (sym n)
    ∙ ap (λ (x : List Gate). record { width = found.width; inputs = found.inputs; equations = x; outputs = core.outputs }) gates
    ∙ ap (λ (x : List Reg). record { width = found.width; inputs = found.inputs; equations = found.equations; outputs = x }) outputs) in
    record {
      few_equations = omega (arith, size, few);
      few_outputs = omega (arith, outs, fits, bytes_size, few_bytes);
      is_core = λ low. subst IsCore (is low) told.is_core;
      same =
          elim (cases_Bool (leb found.inputs MAX_COLUMNS)) [
            | inl low ↦
                (let f : core ≡ found = is (leb-true found.inputs MAX_COLUMNS low) in
                ap (λ (c : Circuit). within_limits (Ok c)) (sym f) ∙ within)
            | inr high ↦
                (let many : MAX_COLUMNS < found.inputs = leb-false found.inputs MAX_COLUMNS high in
                too_wide found (omega (arith, w, some)) many ∙ sym (too_wide core some (omega (arith, n, many))) ∙ within)
          ];
    }

-- each equation is a line
body_size : (w n k : ℕ) (lines : List (Option (List (List ℕ)))) (body : Body) → body_from w n k lines ≡ Ok body → length body.equations ≤ length lines
body_size w n k [] body e = absurd (no_ok body (fault.Syntax k) (sym e))
body_size w n k (None ∷ lines) body e = absurd (no_ok body (fault.Syntax k) (sym e))
body_size w n k (Some words ∷ lines) body e =
    elim (cases_Bool (is_outputs words)) [
      | inl last ↦
          (let p = outputs_parts (outputs_line n k words) (k + 1) lines body (sym (outputs_at w n k words lines last) ∙ e) in
          let size : 0 ≡ length body.equations = ap (λ (b : Body). length b.equations) p.3 in
          omega (arith, size))
      | inr other ↦
          (let p = equation_parts (equation_line w n k words) (body_from w (suc n) (k + 1) lines) body (sym (equation_at w n k words lines other) ∙ e) in
          let size : suc (length p.1.equations) ≡ length body.equations = ap (λ (b : Body). length b.equations) p.4 in
          let later = body_size w (suc n) (k + 1) lines p.1 p.3 in
          omega (arith, size, later))
    ]

-- there are few lines in a short text
parts_few : (parts : List (List ℕ)) → length (lines_of_parts parts) ≤ length parts
parts_few [] = omega arith
parts_few ([] ∷ []) = omega arith
parts_few ((byte ∷ bytes) ∷ []) = omega arith
parts_few (part ∷ next ∷ parts) = let later = parts_few (next ∷ parts) in omega (arith, later)

pub lines_few : (bytes : List ℕ) → length (lines_of bytes) ≤ length bytes + 1
lines_few bytes =
    let cut = length-slice_split (λ byte. eqb byte 10) bytes in
    let most = count_by-le-length (λ byte. eqb byte 10) bytes in
    let parts = parts_few (slice_split (λ byte. eqb byte 10) bytes) in
    omega (arith, cut, most, parts)

-- the core of what was read
pub made : (bytes : List ℕ) (start left : LinesLeft) (w n : ℕ) (eqs : List Gate) (outs : List Reg) → length bytes ≤ 2 ^ 31 → start ≡ record { lines = lines_of bytes; number = 1 } → 0 < w
    → length left.lines ≤ length start.lines → from_width start.lines ≡ circuit_with w n (rest_of w n left)
    → answer_kept kept_body (rest_of w n left) ≡ Ok (record { equations = eqs; outputs = outs })
    → Made bytes (record { width = w; inputs = n; equations = eqs; outputs = outs })
made bytes start left w n eqs outs short begun some fewer head e =
    let b : Body = record { equations = eqs; outputs = outs } in
    let p = kept_parts (rest_of w n left) b e in
    let body : Body = p.0 in
    let core : Circuit = record { width = w; inputs = n; equations = body.equations; outputs = body.outputs } in
    let found : circuit_of bytes ≡ Ok core = ap (λ (s : LinesLeft). from_width s.lines) (sym begun) ∙ head ∙ ap (circuit_with w n) p.1 in
    let size = body_size w n left.number left.lines body p.1 in
    let same : length start.lines ≡ length (lines_of bytes) = ap (λ (s : LinesLeft). length s.lines) begun in
    let few : length body.equations ≤ 2 ^ 31 + 1 = omega (arith, size, fewer, same, lines_few bytes, short) in
    small_made bytes core (record { width = w; inputs = n; equations = eqs; outputs = outs }) some found (circuit_told bytes core (omega (arith, few)) found) short few refl refl
    (ap (λ (x : Body). x.equations) p.2) (ap (λ (x : Body). x.outputs) p.2)

-- an answer that is the one that is wanted
pub or_memory : {X : Type 0} (said wanted : Result X CoreFault) → said ≡ wanted → IsOrMemory said wanted
or_memory (Ok x) wanted e = e
or_memory (Err (fault.Memory error)) wanted e = tt
or_memory (Err (fault.Syntax k)) wanted e = e
or_memory (Err (fault.OutOfRange k)) wanted e = e
or_memory (Err fault.Limit) wanted e = e

limit_parts : (said : Result Circuit CoreFault) (core : Circuit) → within_limits said ≡ Ok core → (said ≡ Ok core) × (is_within core ≡ true)
limit_parts (Err wrong) core e = absurd (no_ok core wrong (sym e))
limit_parts (Ok found) core e =
    let p = pick_ok (is_within found) found core fault.Limit e in
    (ap (λ (c : Circuit). Ok c) p.1, ap is_within (sym p.1) ∙ p.0)

inputs_width : (w : ℕ) (lines : List (Option (List (List ℕ)))) (core : Circuit) → from_inputs w lines ≡ Ok core → w ≡ core.width
inputs_width w [] core e = absurd (no_ok core (fault.Syntax 2) (sym e))
inputs_width w (None ∷ lines) core e = absurd (no_ok core (fault.Syntax 2) (sym e))
inputs_width w (Some words ∷ lines) core e =
    let p = number_parts (inputs_line 2 words) (λ n. circuit_with w n (body_from w n 3 lines)) core e in
    let c = circuit_parts w p.0 (body_from w p.0 3 lines) core p.2 in
    ap (λ (x : Circuit). x.width) c.2

some_width : (lines : List (Option (List (List ℕ)))) (core : Circuit) → from_width lines ≡ Ok core → 0 < core.width
some_width [] core e = absurd (no_ok core (fault.Syntax 1) (sym e))
some_width (None ∷ lines) core e = absurd (no_ok core (fault.Syntax 1) (sym e))
some_width (Some words ∷ lines) core e =
    let p = number_parts (width_line 1 words) (λ w. from_inputs w lines) core e in
    let q = said_parts 1 (width_form words) is_width p.0 p.1 in
    let v = and_parts (ltb 0 p.0) (leb p.0 64) q.1 in
    let low : 0 < p.0 = ltb-true 0 p.0 v.0 in
    subst (λ (x : ℕ). 0 < x) (inputs_width p.0 lines core p.2) low

-- bytes that are read as a core are its text
pub only_written : (bytes : List ℕ) (core : Circuit) → core_of bytes ≡ Ok core → IsCore core × IsSmall core × HasFewColumns core × (bytes ≡ core_text core)
only_written bytes core e =
    let p = limit_parts (circuit_of bytes) core e in
    let v = and_parts (leb (weight core) MAX_WEIGHT) (leb (columns core) MAX_COLUMNS) p.1 in
    let small : weight core ≤ MAX_WEIGHT = leb-true (weight core) MAX_WEIGHT v.0 in
    let few : columns core ≤ MAX_COLUMNS = leb-true (columns core) MAX_COLUMNS v.1 in
    let all : ℕ = length core.equations + products_of core.equations in
    let high : all ≤ all * core.width = le-mul_of_pos_right all (some_width (lines_of bytes) core p.0) in
    let told = circuit_told bytes core (omega (arith, high, small)) p.0 in
    (told.is_core, small, few, told.text)
