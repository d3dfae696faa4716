-- The lines of outputs, up to one of them and round it.
use Rattle.std.proofs.Common.{◌≡◌, ℕ, suc, ◌+◌, ◌<◌, List, [], ◌∷◌, ◌++◌, length, get_or, take, drop, sym, ap, ◌∙◌, arith, append_assoc, append-nil, add-one, drop-cons, codes, decimal, flat_map}
use Rattle.std.proofs.lemmas.List.{take_more, take-append-drop, length-take-le}
use Rattle.share_trial.specs.TrialText.{share_text, output_text, outputs_text, head_text, trial_text}
use Rattle.share_trial.specs.declared.trials.Trial.{Trial}
use Rattle.share_trial.specs.declared.trials.TrialOutput.{TrialOutput}

lines-append : (k : ℕ) (os ps : List TrialOutput) → outputs_text k (os ++ ps) ≡ outputs_text k os ++ outputs_text (k + length os) ps
lines-append k [] ps = ap (λ (m : ℕ). outputs_text m ps) (omega arith)
lines-append k (o ∷ os) ps =
    let place : suc k + length os ≡ k + suc (length os) = omega arith in
    ap (λ (t : List ℕ). output_text k o ++ t) (lines-append (suc k) os ps ∙ ap (λ (m : ℕ). outputs_text (suc k) os ++ outputs_text m ps) place)
    ∙ sym (append_assoc (output_text k o) (outputs_text (suc k) os) (outputs_text (k + suc (length os)) ps))

-- the line of one more output
pub lines-more : (os : List TrialOutput) (i : ℕ) (d : TrialOutput) → i < length os
    → outputs_text 0 (take i os) ++ output_text i (get_or os i d) ≡ outputs_text 0 (take (i + 1) os)
lines-more os i d h =
    let o = get_or os i d in
    let place : 0 + length (take i os) ≡ i = let l = length-take-le i os (omega arith) in omega (arith, l) in
    sym
    (ap (outputs_text 0) (take_more os i d h)
    ∙ lines-append 0 (take i os) (o ∷ [])
    ∙ ap (λ (m : ℕ). outputs_text 0 (take i os) ++ outputs_text m (o ∷ [])) place
    ∙ ap (λ (t : List ℕ). outputs_text 0 (take i os) ++ t) (append-nil (output_text i o)))

-- the lines are those before one, it, and those behind it
pub lines-around : (os : List TrialOutput) (i : ℕ) (d : TrialOutput) → i < length os
    → outputs_text 0 (take i os) ++ (output_text i (get_or os i d) ++ outputs_text (suc i) (drop (i + 1) os)) ≡ outputs_text 0 os
lines-around os i d h =
    let o = get_or os i d in
    let place : 0 + length (take i os) ≡ i = let l = length-take-le i os (omega arith) in omega (arith, l) in
    let rest : drop i os ≡ o ∷ drop (i + 1) os = drop-cons os i d h ∙ ap (λ (m : ℕ). o ∷ drop m os) (sym (add-one i)) in
    sym
    (ap (outputs_text 0) (sym (take-append-drop i os) ∙ ap (λ (l : List TrialOutput). take i os ++ l) rest)
    ∙ lines-append 0 (take i os) (o ∷ drop (i + 1) os)
    ∙ ap (λ (m : ℕ). outputs_text 0 (take i os) ++ outputs_text m (o ∷ drop (i + 1) os)) place)

-- the parts of an output's line
pub line_parts : (k : ℕ) (o : TrialOutput) (shares : List ℕ) → shares ≡ o.shares
    → (codes "o" ++ decimal k ++ codes " " ++ decimal o.value ++ codes " =") ++ (flat_map share_text shares ++ codes "\n") ≡ output_text k o
line_parts k o shares is =
    let first = codes "o" ++ decimal k ++ codes " " ++ decimal o.value ++ codes " =" in
    ap (λ (s : List ℕ). first ++ (flat_map share_text s ++ codes "\n")) is ∙ sym (append_assoc first (flat_map share_text o.shares) (codes "\n"))

-- the parts of a trial's text
pub text_parts : (trial : Trial) (outputs : List TrialOutput) → outputs ≡ trial.outputs
    → head_text trial.shares trial.words ++ outputs_text 0 outputs ≡ trial_text trial
text_parts trial outputs is = ap (λ (os : List TrialOutput). head_text trial.shares trial.words ++ outputs_text 0 os) is
