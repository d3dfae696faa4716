-- The lines of the equations, up to one of them and round it.
use Rattle.std.proofs.Common.{◌≡◌, ℕ, suc, ◌+◌, ◌<◌, List, [], ◌∷◌, ◌++◌, length, get_or, take, drop, sym, ap, ◌∙◌, arith, append_assoc, append-nil, add-one, drop-cons, codes}
use Rattle.std.proofs.lemmas.List.{take_more, take-append-drop, length-take-le}
use Rattle.usuba0.specs.declared.circuit.Gate.{Gate}
use Rattle.usuba0.specs.CoreText.{equation_text, equations_text, head_text, outputs_text, core_text}
use Rattle.usuba0.specs.Circuit.{Circuit}
use Rattle.usuba0.specs.declared.circuit.Reg.{Reg}

equations_text-append : (k : ℕ) (gs hs : List Gate) → equations_text k (gs ++ hs) ≡ equations_text k gs ++ equations_text (k + length gs) hs
equations_text-append k [] hs = ap (λ (m : ℕ). equations_text m hs) (omega arith)
equations_text-append k (g ∷ gs) hs =
    let place : suc k + length gs ≡ k + suc (length gs) = omega arith in
    ap (λ (t : List ℕ). equation_text k g ++ t) (equations_text-append (suc k) gs hs ∙ ap (λ (m : ℕ). equations_text (suc k) gs ++ equations_text m hs) place)
    ∙ sym (append_assoc (equation_text k g) (equations_text (suc k) gs) (equations_text (k + suc (length gs)) hs))

-- the text of one more equation
pub equations_text-more : (k : ℕ) (gs : List Gate) (i : ℕ) (d : Gate) → i < length gs
    → equations_text k (take i gs) ++ equation_text (k + i) (get_or gs i d) ≡ equations_text k (take (i + 1) gs)
equations_text-more k gs i d h =
    let g = get_or gs i d in
    let len : length (take i gs) ≡ i = length-take-le i gs (omega arith) in
    sym
    (ap (equations_text k) (take_more gs i d h)
    ∙ equations_text-append k (take i gs) (g ∷ [])
    ∙ ap (λ (m : ℕ). equations_text k (take i gs) ++ equations_text (k + m) (g ∷ [])) len
    ∙ ap (λ (t : List ℕ). equations_text k (take i gs) ++ t) (append-nil (equation_text (k + i) g)))

-- the text of equations is that of those before one, of that one and of those behind it
pub equations_text-around : (k : ℕ) (gs : List Gate) (i : ℕ) (d : Gate) → i < length gs
    → equations_text k (take i gs) ++ (equation_text (k + i) (get_or gs i d) ++ equations_text (suc (k + i)) (drop (i + 1) gs)) ≡ equations_text k gs
equations_text-around k gs i d h =
    let g = get_or gs i d in
    let len : length (take i gs) ≡ i = length-take-le i gs (omega arith) in
    let rest : drop i gs ≡ g ∷ drop (i + 1) gs = drop-cons gs i d h ∙ ap (λ (m : ℕ). g ∷ drop m gs) (sym (add-one i)) in
    sym
    (ap (equations_text k) (sym (take-append-drop i gs) ∙ ap (λ (l : List Gate). take i gs ++ l) rest)
    ∙ equations_text-append k (take i gs) (g ∷ drop (i + 1) gs)
    ∙ ap (λ (m : ℕ). equations_text k (take i gs) ++ equations_text (k + m) (g ∷ drop (i + 1) gs)) len)

-- the parts of a core's text
pub parts_assoc : (a b c d e : List ℕ) → a ++ (b ++ (c ++ (d ++ e))) ≡ (((a ++ b) ++ c) ++ d) ++ e
parts_assoc a b c d e = sym (simp append_assoc)

-- the text of a circuit from its parts
pub core_text_parts : (core : Circuit) (w n m : ℕ) (gs : List Gate) (rs : List Reg) → w ≡ core.width → n ≡ core.inputs → m ≡ core.inputs → gs ≡ core.equations → rs ≡ core.outputs
    → head_text w n ++ (equations_text m gs ++ (codes "outputs" ++ (outputs_text rs ++ codes "\n"))) ≡ core_text core
core_text_parts core w n m gs rs ew en em eg er =
    ap (λ (v : ℕ). head_text v n ++ (equations_text m gs ++ (codes "outputs" ++ (outputs_text rs ++ codes "\n")))) ew
    ∙ ap (λ (v : ℕ). head_text core.width v ++ (equations_text m gs ++ (codes "outputs" ++ (outputs_text rs ++ codes "\n")))) en
    ∙ ap (λ (v : ℕ). head_text core.width core.inputs ++ (equations_text v gs ++ (codes "outputs" ++ (outputs_text rs ++ codes "\n")))) em
    ∙ ap (λ (v : List Gate). head_text core.width core.inputs ++ (equations_text core.inputs v ++ (codes "outputs" ++ (outputs_text rs ++ codes "\n")))) eg
    ∙ ap (λ (v : List Reg). head_text core.width core.inputs ++ (equations_text core.inputs core.equations ++ (codes "outputs" ++ (outputs_text v ++ codes "\n")))) er
    ∙ parts_assoc (head_text core.width core.inputs) (equations_text core.inputs core.equations) (codes "outputs") (outputs_text core.outputs) (codes "\n")
