-- What a body says, line by line, as it is read.
use Rattle.std.proofs.Common.{◌≡◌, ℕ, suc, ◌+◌, true, false, List, [], ◌∷◌, ◌++◌, map, Option, None, Some, Result, Ok, Err, refl, sym, ap, ◌∙◌, subst, append_assoc, append-nil, add-one, MatchResult}
use Rattle.std.specs.Result.{IsErrAnd}
use Rattle.std.proofs.lemmas.Bool.{cond-true, cond-false}
use Rattle.core_text.specs.declared.fault.CoreFault.{CoreFault}
use Rattle.core_text.specs.declared.fault.CoreFault.TheVariants as fault
use Rattle.core_text.specs.Forms.{is_outputs}
use Rattle.core_text.specs.Parts.{kept, kept_gate, kept_body, answer_kept, after_equations, rest_of, TakesEquation, AreOutputsDue, IsAnswer, IsMemory}
use Rattle.core_text.specs.Reading.{Body, with_equation, with_outputs, body_from, equation_line, outputs_line}
use Rattle.text_lines.specs.Lines.{LinesLeft, first_words}
use Rattle.usuba0.specs.declared.circuit.Gate.{Gate}
use Rattle.usuba0.specs.declared.circuit.Reg.{Reg}

pub no_ok : {X : Type 0} (x : X) (wrong : CoreFault) → Ok x ≡ Err wrong → ⊥
no_ok x wrong e = cc

abbrev value_or : {X : Type 0} → X → Result X CoreFault → X
value_or d (Ok x) = x
value_or d (Err wrong) = d

abbrev fault_or : {X : Type 0} → CoreFault → Result X CoreFault → CoreFault
fault_or d (Ok x) = d
fault_or d (Err wrong) = wrong

abbrev okay : {X : Type 0} → X → Result X CoreFault
okay x = Ok x

pub ok_is : {X : Type 0} (x y : X) → okay x ≡ okay y → x ≡ y
ok_is x y e = ap (value_or x) e

abbrev pub failed : (X : Type 0) → CoreFault → Result X CoreFault
failed X wrong = Err wrong

pub err_is : {X : Type 0} (e f : CoreFault) → failed X e ≡ failed X f → e ≡ f
err_is {X} e f h = ap (λ (r : Result X CoreFault). fault_or e r) h

pub no_words : (words : List (List ℕ)) → Some words ≡ None → ⊥
no_words words e = cc

more_of : (gs : List Gate) (gate : Gate) (said : Result Gate CoreFault) (later : Result Body CoreFault) → Ok gate ≡ answer_kept kept_gate said
    → after_equations gs (answer_kept kept_body (with_equation said later)) ≡ after_equations (gs ++ gate ∷ []) (answer_kept kept_body later)
more_of gs gate (Err wrong) later e = absurd (no_ok gate wrong e)
more_of gs gate (Ok said) (Err wrong) e = refl
more_of gs gate (Ok said) (Ok body) e =
    let same : gate ≡ kept_gate said = ok_is gate (kept_gate said) e in
    let others : List Gate = map kept_gate body.equations in
    let outputs : List Reg = map kept body.outputs in
    ap (λ (g : Gate). Ok (record { equations = gs ++ g ∷ others; outputs = outputs })) (sym same)
    ∙ ap (λ (es : List Gate). Ok (record { equations = es; outputs = outputs })) (sym (append_assoc gs (gate ∷ []) others))

-- a line that is no line of outputs
pub equation_at : (w n k : ℕ) (words : List (List ℕ)) (lines : List (Option (List (List ℕ)))) → is_outputs words ≡ false
    → body_from w n k (Some words ∷ lines) ≡ with_equation (equation_line w n k words) (body_from w (suc n) (k + 1) lines)
equation_at w n k words lines h =
    cond-false (is_outputs words) (with_outputs (outputs_line n k words) (k + 1) lines) (with_equation (equation_line w n k words) (body_from w (suc n) (k + 1) lines)) h

-- one more equation
pub one_more : (w n k : ℕ) (words : List (List ℕ)) (lines : List (Option (List (List ℕ)))) (gs : List Gate) (gate : Gate) → is_outputs words ≡ false
    → Ok gate ≡ answer_kept kept_gate (equation_line w n k words)
    → after_equations gs (answer_kept kept_body (body_from w n k (Some words ∷ lines)))
    ≡ after_equations (gs ++ gate ∷ []) (answer_kept kept_body (body_from w (n + 1) (k + 1) lines))
one_more w n k words lines gs gate h e =
    ap (λ (r : Result Body CoreFault). after_equations gs (answer_kept kept_body r)) (equation_at w n k words lines h)
    ∙ more_of gs gate (equation_line w n k words) (body_from w (suc n) (k + 1) lines) e
    ∙ ap (λ (m : ℕ). after_equations (gs ++ gate ∷ []) (answer_kept kept_body (body_from w m (k + 1) lines))) (sym (add-one n))

wrong_of : (wrong : CoreFault) (said : Result Gate CoreFault) (later : Result Body CoreFault) → Err wrong ≡ answer_kept kept_gate said
    → answer_kept kept_body (with_equation said later) ≡ Err wrong
wrong_of wrong (Err found) later e = ap (λ (f : CoreFault). Err f) (sym (err_is wrong found e))
wrong_of wrong (Ok said) later e = absurd (no_ok (kept_gate said) wrong (sym e))

-- an equation with a fault
pub wrong_equation : (w n k : ℕ) (words : List (List ℕ)) (lines : List (Option (List (List ℕ)))) (wrong : CoreFault) → is_outputs words ≡ false
    → Err wrong ≡ answer_kept kept_gate (equation_line w n k words)
    → answer_kept kept_body (body_from w n k (Some words ∷ lines)) ≡ Err wrong
wrong_equation w n k words lines wrong h e =
    ap (answer_kept kept_body) (equation_at w n k words lines h)
    ∙ wrong_of wrong (equation_line w n k words) (body_from w (suc n) (k + 1) lines) e

none_of : (w n k : ℕ) (lines : List (Option (List (List ℕ)))) → first_words lines ≡ None → answer_kept kept_body (body_from w n k lines) ≡ Err (fault.Syntax k)
none_of w n k [] h = refl
none_of w n k (None ∷ lines) h = refl
none_of w n k (Some words ∷ lines) h = absurd (no_words words h)

-- no line is left
pub no_line : (w n : ℕ) (left : LinesLeft) → first_words left.lines ≡ None → answer_kept kept_body (rest_of w n left) ≡ Err (fault.Syntax left.number)
no_line w n left h = none_of w n left.number left.lines h

pub outputs_at : (w n k : ℕ) (words : List (List ℕ)) (lines : List (Option (List (List ℕ)))) → is_outputs words ≡ true
    → body_from w n k (Some words ∷ lines) ≡ with_outputs (outputs_line n k words) (k + 1) lines
outputs_at w n k words lines h =
    cond-true (is_outputs words) (with_outputs (outputs_line n k words) (k + 1) lines) (with_equation (equation_line w n k words) (body_from w (suc n) (k + 1) lines)) h

wrong_outputs_of : (gs : List Gate) (wrong : CoreFault) (said : Result (List Reg) CoreFault) (k : ℕ) (lines : List (Option (List (List ℕ)))) → answer_kept (map kept) said ≡ Err wrong
    → after_equations gs (answer_kept kept_body (with_outputs said k lines)) ≡ Err wrong
wrong_outputs_of gs wrong (Err found) k lines e = ap (λ (f : CoreFault). Err f) (err_is found wrong e)
wrong_outputs_of gs wrong (Ok said) k lines e = absurd (no_ok (map kept said) wrong e)

-- outputs with a fault
pub wrong_outputs : (w n k : ℕ) (words : List (List ℕ)) (lines : List (Option (List (List ℕ)))) (gs : List Gate) (wrong : CoreFault) → is_outputs words ≡ true
    → answer_kept (map kept) (outputs_line n k words) ≡ Err wrong
    → after_equations gs (answer_kept kept_body (body_from w n k (Some words ∷ lines))) ≡ Err wrong
wrong_outputs w n k words lines gs wrong h e =
    ap (λ (r : Result Body CoreFault). after_equations gs (answer_kept kept_body r)) (outputs_at w n k words lines h)
    ∙ wrong_outputs_of gs wrong (outputs_line n k words) (k + 1) lines e

over_of : (gs : List Gate) (outputs : List Reg) (said : Result (List Reg) CoreFault) (k : ℕ) (lines : List (Option (List (List ℕ)))) → answer_kept (map kept) said ≡ Ok outputs
    → (lines ≡ [] → ⊥) → after_equations gs (answer_kept kept_body (with_outputs said k lines)) ≡ Err (fault.Syntax k)
over_of gs outputs (Err found) k lines e more = absurd (no_ok outputs found (sym e))
over_of gs outputs (Ok said) k [] e more = absurd (more refl)
over_of gs outputs (Ok said) k (line ∷ lines) e more = refl

-- a line is left over
pub left_over : (w n k : ℕ) (words : List (List ℕ)) (lines : List (Option (List (List ℕ)))) (gs : List Gate) (outputs : List Reg) → is_outputs words ≡ true
    → answer_kept (map kept) (outputs_line n k words) ≡ Ok outputs → (lines ≡ [] → ⊥)
    → after_equations gs (answer_kept kept_body (body_from w n k (Some words ∷ lines))) ≡ Err (fault.Syntax (k + 1))
left_over w n k words lines gs outputs h e more =
    ap (λ (r : Result Body CoreFault). after_equations gs (answer_kept kept_body r)) (outputs_at w n k words lines h)
    ∙ over_of gs outputs (outputs_line n k words) (k + 1) lines e more

whole_of : (gs : List Gate) (outputs : List Reg) (said : Result (List Reg) CoreFault) (k : ℕ) → answer_kept (map kept) said ≡ Ok outputs
    → after_equations gs (answer_kept kept_body (with_outputs said k [])) ≡ Ok (record { equations = gs; outputs = outputs })
whole_of gs outputs (Err found) k e = absurd (no_ok outputs found (sym e))
whole_of gs outputs (Ok said) k e =
    let same : map kept said ≡ outputs = ok_is (map kept said) outputs e in
    ap (λ (es : List Gate). Ok (record { equations = es; outputs = map kept said })) (append-nil gs)
    ∙ ap (λ (rs : List Reg). Ok (record { equations = gs; outputs = rs })) same

-- the whole body was read
pub whole : (w n k : ℕ) (words : List (List ℕ)) (lines : List (Option (List (List ℕ)))) (gs : List Gate) (outputs : List Reg) → is_outputs words ≡ true
    → answer_kept (map kept) (outputs_line n k words) ≡ Ok outputs → lines ≡ []
    → after_equations gs (answer_kept kept_body (body_from w n k (Some words ∷ lines))) ≡ Ok (record { equations = gs; outputs = outputs })
whole w n k words lines gs outputs h e none =
    ap (λ (r : Result Body CoreFault). after_equations gs (answer_kept kept_body r)) (outputs_at w n k words lines h)
    ∙ ap (λ (ls : List (Option (List (List ℕ)))). after_equations gs (answer_kept kept_body (with_outputs (outputs_line n k words) (k + 1) ls))) none
    ∙ whole_of gs outputs (outputs_line n k words) (k + 1) e

nothing_before : (said : Result Body CoreFault) → after_equations [] said ≡ said
nothing_before (Err wrong) = refl
nothing_before (Ok body) = refl

-- nothing was read yet
pub at_start : (w n m : ℕ) (left : LinesLeft) (gs : List Gate) → m ≡ n → gs ≡ []
    → answer_kept kept_body (rest_of w n left) ≡ after_equations gs (answer_kept kept_body (rest_of w m left))
at_start w n m left gs e h =
    sym (nothing_before (answer_kept kept_body (rest_of w n left)))
    ∙ ap (λ (k : ℕ). after_equations [] (answer_kept kept_body (rest_of w k left))) (sym e)
    ∙ ap (λ (xs : List Gate). after_equations xs (answer_kept kept_body (rest_of w m left))) (sym h)

-- an equation was taken
pub one_taken : (w n : ℕ) (said : Gate) (before after : LinesLeft) (gs hs : List Gate) → TakesEquation w n said before after → hs ≡ gs ++ said ∷ []
    → after_equations gs (answer_kept kept_body (rest_of w n before)) ≡ after_equations hs (answer_kept kept_body (rest_of w (n + 1) after))
one_taken w n said before after gs hs t e =
    ap (λ (ls : List (Option (List (List ℕ)))). after_equations gs (answer_kept kept_body (body_from w n before.number ls))) t.1
    ∙ one_more w n before.number t.0 after.lines gs said t.3 t.4
    ∙ ap (λ (k : ℕ). after_equations (gs ++ said ∷ []) (answer_kept kept_body (body_from w (n + 1) k after.lines))) (sym t.2)
    ∙ ap (λ (es : List Gate). after_equations es (answer_kept kept_body (rest_of w (n + 1) after))) (sym e)

-- a line is due
pub line_due : (w n k : ℕ) (left : LinesLeft) (words : List (List ℕ)) (lines : List (Option (List (List ℕ)))) → left.lines ≡ Some words ∷ lines → k ≡ left.number
    → rest_of w n left ≡ body_from w n k (Some words ∷ lines)
line_due w n k left words lines e h = ap (body_from w n left.number) e ∙ ap (λ (m : ℕ). body_from w n m (Some words ∷ lines)) (sym h)

same_words : (a b : List (List ℕ)) (xs ys : List (Option (List (List ℕ)))) → Some a ∷ xs ≡ Some b ∷ ys → a ≡ b
same_words a b xs ys e = cc

-- the line of the outputs is due, and was taken
pub at_outputs : (w n k : ℕ) (left due : LinesLeft) (words : List (List ℕ)) (lines : List (Option (List (List ℕ)))) (gs : List Gate) (wanted : Result Body CoreFault)
    → (due ≡ left) × AreOutputsDue left → due.lines ≡ Some words ∷ lines → k ≡ due.number → wanted ≡ after_equations gs (answer_kept kept_body (rest_of w n left))
    → (is_outputs words ≡ true) × (wanted ≡ after_equations gs (answer_kept kept_body (body_from w n k (Some words ∷ lines))))
at_outputs w n k left due words lines gs wanted is e h so_far =
    let outputs = is.1 in
    let first : Some words ∷ lines ≡ Some outputs.0 ∷ outputs.1 = sym e ∙ ap (λ (l : LinesLeft). l.lines) is.0 ∙ outputs.2 in (
      ap is_outputs (same_words words outputs.0 lines outputs.1 first) ∙ outputs.3,
      so_far
          ∙ ap (λ (l : LinesLeft). after_equations gs (answer_kept kept_body (rest_of w n l))) (sym is.0)
          ∙ ap (λ (r : Result Body CoreFault). after_equations gs (answer_kept kept_body r)) (line_due w n k due words lines e h),
    )

-- an answer that hands on the fault that is wanted
pub tells : {X Y : Type 0} (shown : X → Y) (said : Result X CoreFault) (wrong : CoreFault) (wanted : Result Y CoreFault) → IsErrAnd said (λ x. x ≡ wrong) → wanted ≡ Err wrong
    → IsAnswer shown said wanted
tells shown (Ok x) wrong wanted is e = absurd is
tells shown (Err (fault.Memory error)) wrong wanted is e = tt
tells shown (Err (fault.Syntax k)) wrong wanted is e = e ∙ ap (λ (f : CoreFault). Err f) (sym is)
tells shown (Err (fault.OutOfRange k)) wrong wanted is e = e ∙ ap (λ (f : CoreFault). Err f) (sym is)
tells shown (Err fault.Limit) wrong wanted is e = e ∙ ap (λ (f : CoreFault). Err f) (sym is)

memory_told : {X Y : Type 0} (shown : X → Y) (said : Result X CoreFault) (wrong : CoreFault) (wanted : Result Y CoreFault) → IsMemory wrong → IsErrAnd said (λ x. x ≡ wrong)
    → IsAnswer shown said wanted
memory_told shown (Ok x) wrong wanted mem is = absurd is
memory_told shown (Err (fault.Memory error)) wrong wanted mem is = tt
memory_told shown (Err (fault.Syntax k)) wrong wanted mem is = absurd (subst IsMemory (sym is) mem)
memory_told shown (Err (fault.OutOfRange k)) wrong wanted mem is = absurd (subst IsMemory (sym is) mem)
memory_told shown (Err fault.Limit) wrong wanted mem is = absurd (subst IsMemory (sym is) mem)

-- the same of the outputs, where want of memory is handed on too
pub tells_outputs : {V X : Type 0} (shown : X → Body) (items : V → List Reg) (said : Result X CoreFault) (outputs : Result V CoreFault) (wrong : CoreFault) (w n k : ℕ) (words : List (List ℕ))
    (lines : List (Option (List (List ℕ)))) (gs : List Gate) (wanted : Result Body CoreFault) → IsErrAnd said (λ x. x ≡ wrong) → outputs ≡ Err wrong → is_outputs words ≡ true
    → IsAnswer items outputs (answer_kept (map kept) (outputs_line n k words))
    → wanted ≡ after_equations gs (answer_kept kept_body (body_from w n k (Some words ∷ lines)))
    → IsAnswer shown said wanted
tells_outputs {V} shown items said outputs (fault.Memory error) w n k words lines gs wanted is was h told so_far = memory_told shown said (fault.Memory error) wanted tt is
tells_outputs {V} shown items said outputs (fault.Syntax j) w n k words lines gs wanted is was h told so_far =
    let e : answer_kept (map kept) (outputs_line n k words) ≡ Err (fault.Syntax j) =
    subst (λ (o : Result V CoreFault). IsAnswer items o (answer_kept (map kept) (outputs_line n k words))) was told in
    tells shown said (fault.Syntax j) wanted is (so_far ∙ wrong_outputs w n k words lines gs (fault.Syntax j) h e)
tells_outputs {V} shown items said outputs (fault.OutOfRange j) w n k words lines gs wanted is was h told so_far =
    let e : answer_kept (map kept) (outputs_line n k words) ≡ Err (fault.OutOfRange j) =
    subst (λ (o : Result V CoreFault). IsAnswer items o (answer_kept (map kept) (outputs_line n k words))) was told in
    tells shown said (fault.OutOfRange j) wanted is (so_far ∙ wrong_outputs w n k words lines gs (fault.OutOfRange j) h e)
tells_outputs {V} shown items said outputs fault.Limit w n k words lines gs wanted is was h told so_far =
    let e : answer_kept (map kept) (outputs_line n k words) ≡ Err fault.Limit =
    subst (λ (o : Result V CoreFault). IsAnswer items o (answer_kept (map kept) (outputs_line n k words))) was told in
    tells shown said fault.Limit wanted is (so_far ∙ wrong_outputs w n k words lines gs fault.Limit h e)

-- what is told of a fault that an answer hands on
pub fault_handed_on : {X : Type 0} (said : Result X CoreFault) (wrong : CoreFault) (P : X → Type 0) (Q : CoreFault → Type 0) → IsErrAnd said (λ x. x ≡ wrong) → Q wrong
    → MatchResult said P Q
fault_handed_on (Ok x) wrong P Q is told = absurd is
fault_handed_on (Err found) wrong P Q is told = subst Q (sym is) told
