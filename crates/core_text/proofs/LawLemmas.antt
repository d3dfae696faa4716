-- Bytes that are read as a circuit are its text.
use Rattle.std.proofs.Common.{◌≡◌, ℕ, suc, ◌+◌, ◌^◌, ◌<◌, ◌≤◌, Bool, true, false, ltb, leb, if◌then◌else◌, List, [], ◌∷◌, ◌++◌, length, Option, None, Some, Result, Ok, Err, refl, sym, ap, ◌∙◌, subst, inl, inr, arith, append_assoc, append-nil, codes, decimal}
use Rattle.std.specs.List.{All}
use Rattle.std.proofs.Math.Pow.{pow_mono}
use Rattle.std.proofs.lemmas.Bool.{cases_Bool, and_parts, ltb-true, leb-true}
use Rattle.core_text.specs.declared.fault.CoreFault.{CoreFault}
use Rattle.core_text.specs.declared.fault.CoreFault.TheVariants as fault
use Rattle.core_text.specs.Forms.{Equation, width_form, inputs_form, equation_form, is_outputs, outputs_form}
use Rattle.core_text.specs.Ranges.{is_width, is_inputs, is_next, are_outputs}
use Rattle.core_text.specs.Reading.{said_in_range, width_line, inputs_line, gate_of, equation_line, outputs_line, Body, with_equation, with_outputs, body_from, circuit_with, with_number, from_inputs, from_width, circuit_of}
use Rattle.core_text.proofs.BodyLemmas.{no_ok, ok_is, equation_at, outputs_at}
use Rattle.core_text.proofs.FormLemmas.{equation_words, number_told, equation_told, outputs_told}
use Rattle.core_text.proofs.WordLemmas.{equation_line_is, outputs_line_is, number_line_is}
use Rattle.text_lines.specs.Lines.{lines_of}
use Rattle.text_lines.specs.Words.{line_text}
use Rattle.text_lines.proofs.LineLemmas.{lines_of_empty}
use Rattle.text_lines.proofs.SpelledLemmas.{text_back_of}
use Rattle.usuba0.specs.declared.circuit.Gate.{Gate}
use Rattle.usuba0.specs.declared.circuit.Reg.{Reg}
use Rattle.usuba0.specs.Circuit.{Circuit, IsCore, AreEquations, IsEquation}
use Rattle.usuba0.specs.CoreText.{equation_text, equations_text, outputs_text, head_text, core_text}
use Rattle.usuba0.proofs.TextLemmas.{core_text_parts}

pub pick_ok : {X : Type 0} (b : Bool) (said x : X) (wrong : CoreFault) → (if b then Ok said else Err wrong) ≡ Ok x → (b ≡ true) × (said ≡ x)
pick_ok true said x wrong e = (refl, ok_is said x e)
pick_ok false said x wrong e = absurd (no_ok x wrong (sym e))

-- a line that says something has its form, and is in range
pub said_parts : {X : Type 0} (k : ℕ) (o : Option X) (test : X → Bool) (x : X) → said_in_range k o test ≡ Ok x → (o ≡ Some x) × (test x ≡ true)
said_parts k None test x e = absurd (no_ok x (fault.Syntax k) (sym e))
said_parts {X} k (Some said) test x e =
    let p = pick_ok (test said) said x (fault.OutOfRange k) e in
    (ap (λ (y : X). Some y) p.1, ap test (sym p.1) ∙ p.0)

gate_said : (said : Result Equation CoreFault) (g : Gate) → gate_of said ≡ Ok g → (q : Equation) × (said ≡ Ok q) × (q.gate ≡ g)
gate_said (Err wrong) g e = absurd (no_ok g wrong (sym e))
gate_said (Ok q) g e = (q, refl, ok_is q.gate g e)

pub equation_parts : (said : Result Gate CoreFault) (later : Result Body CoreFault) (body : Body) → with_equation said later ≡ Ok body
    → (g : Gate) × (rest : Body) × (said ≡ Ok g) × (later ≡ Ok rest) × (record { equations = g ∷ rest.equations; outputs = rest.outputs } ≡ body)
equation_parts (Err wrong) later body e = absurd (no_ok body wrong (sym e))
equation_parts (Ok g) (Err wrong) body e = absurd (no_ok body wrong (sym e))
equation_parts (Ok g) (Ok rest) body e =
    let made : Body = record { equations = g ∷ rest.equations; outputs = rest.outputs } in
    (g, rest, refl, refl, ok_is made body e)

pub outputs_parts : (said : Result (List Reg) CoreFault) (k : ℕ) (lines : List (Option (List (List ℕ)))) (body : Body) → with_outputs said k lines ≡ Ok body
    → (rs : List Reg) × (said ≡ Ok rs) × (lines ≡ []) × (record { equations = []; outputs = rs } ≡ body)
outputs_parts (Err wrong) k lines body e = absurd (no_ok body wrong (sym e))
outputs_parts (Ok rs) k [] body e =
    let made : Body = record { equations = []; outputs = rs } in
    (rs, refl, refl, ok_is made body e)
outputs_parts (Ok rs) k (line ∷ lines) body e = absurd (no_ok body (fault.Syntax k) (sym e))

-- what is told of a body that was read
pub record BodyTold (w n : ℕ) (bytes : List ℕ) (body : Body) : Type 0 where
  pub equations : AreEquations w n body.equations
  pub outputs : All (λ r. r.0 < n + length body.equations) body.outputs
  pub some : 0 < length body.outputs
  pub text : bytes ≡ equations_text n body.equations ++ (codes "outputs" ++ (outputs_text body.outputs ++ codes "\n"))

last_told : (w n k : ℕ) (words : List (List ℕ)) (lines : List (Option (List (List ℕ)))) (bytes : List ℕ) (body : Body) → n < 2 ^ 64 → lines_of bytes ≡ Some words ∷ lines
    → with_outputs (outputs_line n k words) (k + 1) lines ≡ Ok body → BodyTold w n bytes body
last_told w n k words lines bytes body small l e =
    let p = outputs_parts (outputs_line n k words) (k + 1) lines body e in
    let q = said_parts k (outputs_form words) (are_outputs n) p.0 p.1 in
    let t = outputs_told n words p.0 (omega arith) q.0 q.1 in
    let r = text_back_of bytes words lines l in
    let none : r.0 ≡ [] = lines_of_empty r.0 (r.2 ∙ p.2) in
    let made : Body = record { equations = []; outputs = p.0 } in
    let told : BodyTold w n bytes made = record {
      equations = tt;
      outputs = λ j d within. omega (arith, t.1 j d within);
      some = t.2;
      text =
          r.1
          ∙ ap (λ (x : List ℕ). line_text words ++ x) none
          ∙ append-nil (line_text words)
          ∙ ap line_text t.0
          ∙ outputs_line_is p.0;
    } in
    subst (BodyTold w n bytes) p.3 told

next_told : (w n k : ℕ) (words : List (List ℕ)) (lines : List (Option (List (List ℕ)))) (bytes rest : List ℕ) (g : Gate) (others : Body) → w ≤ 64 → n < 2 ^ 64
    → bytes ≡ line_text words ++ rest → equation_line w n k words ≡ Ok g → BodyTold w (suc n) rest others
    → BodyTold w n bytes (record { equations = g ∷ others.equations; outputs = others.outputs })
next_told w n k words lines bytes rest g others width small l e told =
    let q = gate_said (said_in_range k (equation_form words) (is_next w n)) g e in
    let s = said_parts k (equation_form words) (is_next w n) q.0 q.1 in
    let t = equation_told w n words q.0 width (pow_mono width) small s.0 s.1 in
    let known : words ≡ equation_words n g = t.0 ∙ ap (equation_words n) q.2 in
    let first : IsEquation w n g = subst (IsEquation w n) q.2 t.1 in
    let end : List ℕ = codes "outputs" ++ (outputs_text others.outputs ++ codes "\n") in
    record {
      equations = (first, told.equations);
      outputs = λ j d within. omega (arith, told.outputs j d within);
      some = told.some;
      text =
          l
          ∙ ap (λ (ws : List (List ℕ)). line_text ws ++ rest) known
          ∙ ap (λ (x : List ℕ). x ++ rest) (equation_line_is n g)
          ∙ ap (λ (x : List ℕ). equation_text n g ++ x) told.text
          ∙ sym (append_assoc (equation_text n g) (equations_text (suc n) others.equations) end);
    }

-- a body that was read
pub body_told : (w n k : ℕ) (lines : List (Option (List (List ℕ)))) (bytes : List ℕ) (body : Body) → w ≤ 64 → n + length body.equations < 2 ^ 64 → lines_of bytes ≡ lines
    → body_from w n k lines ≡ Ok body → BodyTold w n bytes body
body_told w n k [] bytes body width small l e = absurd (no_ok body (fault.Syntax k) (sym e))
body_told w n k (None ∷ lines) bytes body width small l e = absurd (no_ok body (fault.Syntax k) (sym e))
body_told w n k (Some words ∷ lines) bytes body width small l e =
    elim (cases_Bool (is_outputs words)) [
      | inl last ↦ last_told w n k words lines bytes body (omega arith) l (sym (outputs_at w n k words lines last) ∙ e)
      | inr other ↦
          (let p = equation_parts (equation_line w n k words) (body_from w (suc n) (k + 1) lines) body (sym (equation_at w n k words lines other) ∙ e) in
          let r = text_back_of bytes words lines l in
          let longer : suc (length p.1.equations) ≡ length body.equations = ap (λ (b : Body). length b.equations) p.4 in
          subst (BodyTold w n bytes) p.4
          (next_told w n k words lines bytes r.0 p.0 p.1 width (omega arith) r.1 p.2
          (body_told w (suc n) (k + 1) lines r.0 p.1 width (omega (arith, longer, small)) r.2 p.3)))
    ]

pub number_parts : (said : Result ℕ CoreFault) (follows : ℕ → Result Circuit CoreFault) (core : Circuit) → with_number said follows ≡ Ok core
    → (n : ℕ) × (said ≡ Ok n) × (follows n ≡ Ok core)
number_parts (Err wrong) follows core e = absurd (no_ok core wrong (sym e))
number_parts (Ok n) follows core e = (n, refl, e)

pub circuit_parts : (w n : ℕ) (said : Result Body CoreFault) (core : Circuit) → circuit_with w n said ≡ Ok core
    → (body : Body) × (said ≡ Ok body) × (record { width = w; inputs = n; equations = body.equations; outputs = body.outputs } ≡ core)
circuit_parts w n (Err wrong) core e = absurd (no_ok core wrong (sym e))
circuit_parts w n (Ok body) core e =
    let made : Circuit = record { width = w; inputs = n; equations = body.equations; outputs = body.outputs } in
    (body, refl, ok_is made core e)

-- what is told of a circuit that was read
pub record CircuitTold (bytes : List ℕ) (core : Circuit) : Type 0 where
  pub is_core : IsCore core
  pub few_inputs : core.inputs < 2 ^ 32
  pub text : bytes ≡ core_text core

pub head_parts : (a b c body : List ℕ) → a ++ ((b ++ c) ++ body) ≡ ((a ++ b) ++ c) ++ body
head_parts a b c body = ap (λ (x : List ℕ). a ++ x) (append_assoc b c body) ∙ sym (append_assoc a b (c ++ body)) ∙ sym (append_assoc (a ++ b) c body)

inputs_told : (w : ℕ) (lines : List (Option (List (List ℕ)))) (bytes rest : List ℕ) (core : Circuit) → 0 < w → w ≤ 64 → length core.equations ≤ 2 ^ 40
    → bytes ≡ line_text (codes "width" ∷ decimal w ∷ []) ++ rest → lines_of rest ≡ lines → from_inputs w lines ≡ Ok core → CircuitTold bytes core
inputs_told w [] bytes rest core some width small b l e = absurd (no_ok core (fault.Syntax 2) (sym e))
inputs_told w (None ∷ lines) bytes rest core some width small b l e = absurd (no_ok core (fault.Syntax 2) (sym e))
inputs_told w (Some words ∷ lines) bytes rest core some width small b l e =
    let p = number_parts (inputs_line 2 words) (λ n. circuit_with w n (body_from w n 3 lines)) core e in
    let n : ℕ = p.0 in
    let q = said_parts 2 (inputs_form words) is_inputs n p.1 in
    let v = and_parts (ltb 0 n) (ltb n (2 ^ 32)) q.1 in
    let some_input : 0 < n = ltb-true 0 n v.0 in
    let few : n < 2 ^ 32 = ltb-true n (2 ^ 32) v.1 in
    let known : words ≡ codes "inputs" ∷ decimal n ∷ [] = number_told (codes "inputs") words n (omega arith) q.0 in
    let r = text_back_of rest words lines l in
    let c = circuit_parts w n (body_from w n 3 lines) core p.2 in
    let body : Body = c.0 in
    let made : Circuit = record { width = w; inputs = n; equations = body.equations; outputs = body.outputs } in
    let size : length body.equations ≡ length core.equations = ap (λ (x : Circuit). length x.equations) c.2 in
    let told : BodyTold w n r.0 body = body_told w n 3 lines r.0 body width (omega arith) r.2 c.1 in
    let end : List ℕ = equations_text n body.equations ++ (codes "outputs" ++ (outputs_text body.outputs ++ codes "\n")) in
    let second : rest ≡ (codes "inputs" ++ codes " " ++ decimal n ++ codes "\n") ++ end =
    r.1
    ∙ ap (λ (ws : List (List ℕ)). line_text ws ++ r.0) known
    ∙ ap (λ (x : List ℕ). x ++ r.0) (number_line_is (codes "inputs") (decimal n))
    ∙ ap (λ (x : List ℕ). (codes "inputs" ++ codes " " ++ decimal n ++ codes "\n") ++ x) told.text in
    let whole : bytes ≡ head_text w n ++ end =
    b
    ∙ ap (λ (x : List ℕ). x ++ rest) (number_line_is (codes "width") (decimal w))
    ∙ ap (λ (x : List ℕ). (codes "width" ++ codes " " ++ decimal w ++ codes "\n") ++ x) second
    ∙ head_parts (codes "width" ++ codes " " ++ decimal w ++ codes "\n") (codes "inputs" ++ codes " " ++ decimal n) (codes "\n") end in
    let made_told : CircuitTold bytes made = record {
      is_core = record {
        some_width = some;
        width_fits = width;
        some_input = some_input;
        some_output = told.some;
        equations = told.equations;
        outputs = told.outputs;
      };
      few_inputs = few;
      text = whole ∙ core_text_parts made w n n body.equations body.outputs refl refl refl refl refl;
    } in
    subst (CircuitTold bytes) c.2 made_told

width_told : (lines : List (Option (List (List ℕ)))) (bytes : List ℕ) (core : Circuit) → length core.equations ≤ 2 ^ 40 → lines_of bytes ≡ lines → from_width lines ≡ Ok core
    → CircuitTold bytes core
width_told [] bytes core small l e = absurd (no_ok core (fault.Syntax 1) (sym e))
width_told (None ∷ lines) bytes core small l e = absurd (no_ok core (fault.Syntax 1) (sym e))
width_told (Some words ∷ lines) bytes core small l e =
    let p = number_parts (width_line 1 words) (λ w. from_inputs w lines) core e in
    let w : ℕ = p.0 in
    let q = said_parts 1 (width_form words) is_width w p.1 in
    let v = and_parts (ltb 0 w) (leb w 64) q.1 in
    let width : w ≤ 64 = leb-true w 64 v.1 in
    let known : words ≡ codes "width" ∷ decimal w ∷ [] = number_told (codes "width") words w (omega arith) q.0 in
    let r = text_back_of bytes words lines l in
    inputs_told w lines bytes r.0 core (ltb-true 0 w v.0) width small (r.1 ∙ ap (λ (ws : List (List ℕ)). line_text ws ++ r.0) known) r.2 p.2

-- a circuit that was read
pub circuit_told : (bytes : List ℕ) (core : Circuit) → length core.equations ≤ 2 ^ 40 → circuit_of bytes ≡ Ok core → CircuitTold bytes core
circuit_told bytes core small e = width_told (lines_of bytes) bytes core small refl e
