-- The texts of the parts of an attack, joined.
use Rattle.std.proofs.Common.{◌≡◌, ℕ, suc, ◌+◌, ◌<◌, Bool, List, [], ◌∷◌, ◌++◌, length, get_or, take, drop, map, refl, sym, ap, ◌∙◌, arith, append_assoc, append-nil, add-one, drop-cons, codes, decimal, flat_map}
use Rattle.std.proofs.lemmas.List.{take_more, take-append-drop, length-take-le}
use Rattle.linear_view.specs.RowsText.{row_text}
use Rattle.linear_view.specs.View.{LinearView}
use Rattle.linear_view.specs.declared.column.Column.{Column}
use Rattle.column_lists.specs.Rows.{column_words}
use Rattle.column_lists.proofs.ReadLemmas.{spaced_words}
use Rattle.attack_text.specs.AttackText.{side_word, step_words, steps_text, counted_steps_text, head_text, leak_text, root_text, listing_text, attack_text_among}
use Rattle.attack_model.specs.declared.attack.Attack.{Attack}
use Rattle.attack_model.specs.declared.attack.Step.{Step}
use Rattle.text_lines.specs.Words.{line_text, spaced}

-- a line and the words after the first, from their front
line_is : (word : List ℕ) (words : List (List ℕ)) → line_text (word ∷ words) ≡ word ++ (spaced words ++ codes "\n")
line_is word words = append_assoc word (spaced words) (codes "\n")

spaced_is : (word : List ℕ) (words : List (List ℕ)) (rest : List ℕ) → spaced (word ∷ words) ++ rest ≡ codes " " ++ (word ++ (spaced words ++ rest))
spaced_is word words rest = append_assoc (codes " " ++ word) (spaced words) rest

pub head_is : (a b columns products : ℕ) → a ≡ columns → b ≡ products
    → codes "attack 2\ncore columns " ++ (decimal a ++ (codes " products " ++ (decimal b ++ codes "\n"))) ≡ head_text columns products
head_is a b columns products ea eb =
    rw (ea, eb)
    (let tail : spaced (codes "products" ∷ decimal products ∷ []) ++ codes "\n" ≡ codes " products " ++ (decimal products ++ codes "\n") =
    ap (λ (t : List ℕ). codes " products " ++ t) (append_assoc (decimal products) [] (codes "\n")) in
    sym
    (ap (λ (t : List ℕ). codes "attack 2\ncore columns " ++ t)
    (append_assoc (decimal columns) (spaced (codes "products" ∷ decimal products ∷ [])) (codes "\n") ∙ ap (λ (t : List ℕ). decimal columns ++ t) tail)))

-- a step: what stands before its uses, and its uses
pub step_is : (index : ℕ) (step : Step) (uses : List ℕ) → uses ≡ step.uses
    → (codes "step " ++ (decimal index ++ (codes " product " ++ (decimal step.product ++ (codes " " ++ (side_word step.side ++ codes " uses"))))))
    ++ (spaced (map decimal uses) ++ codes "\n")
    ≡ line_text (step_words index step)
step_is index step uses e =
    let u : List (List ℕ) = map decimal step.uses in
    let i : List ℕ = decimal index in
    let p : List ℕ = decimal step.product in
    let s : List ℕ = side_word step.side in
    let nl : List ℕ = codes "\n" in
    let end : List ℕ = spaced u ++ nl in
    let uses_end : spaced (codes "uses" ∷ u) ++ nl ≡ codes " uses" ++ end = spaced_is (codes "uses") u nl in
    let side_end : spaced (s ∷ codes "uses" ∷ u) ++ nl ≡ codes " " ++ (s ++ (codes " uses" ++ end)) =
    spaced_is s (codes "uses" ∷ u) nl ∙ ap (λ (t : List ℕ). codes " " ++ (s ++ t)) uses_end in
    let product_end : spaced (p ∷ s ∷ codes "uses" ∷ u) ++ nl ≡ codes " " ++ (p ++ (codes " " ++ (s ++ (codes " uses" ++ end)))) =
    spaced_is p (s ∷ codes "uses" ∷ u) nl ∙ ap (λ (t : List ℕ). codes " " ++ (p ++ t)) side_end in
    let word_end : spaced (codes "product" ∷ p ∷ s ∷ codes "uses" ∷ u) ++ nl ≡ codes " product" ++ (codes " " ++ (p ++ (codes " " ++ (s ++ (codes " uses" ++ end))))) =
    spaced_is (codes "product") (p ∷ s ∷ codes "uses" ∷ u) nl ∙ ap (λ (t : List ℕ). codes " product" ++ t) product_end in
    let index_end : spaced (i ∷ codes "product" ∷ p ∷ s ∷ codes "uses" ∷ u) ++ nl
    ≡ codes " " ++ (i ++ (codes " product" ++ (codes " " ++ (p ++ (codes " " ++ (s ++ (codes " uses" ++ end))))))) =
    spaced_is i (codes "product" ∷ p ∷ s ∷ codes "uses" ∷ u) nl ∙ ap (λ (t : List ℕ). codes " " ++ (i ++ t)) word_end in
    let line : line_text (step_words index step) ≡ codes "step" ++ (codes " " ++ (i ++ (codes " product" ++ (codes " " ++ (p ++ (codes " " ++ (s ++ (codes " uses" ++ end)))))))) =
    line_is (codes "step") (i ∷ codes "product" ∷ p ∷ s ∷ codes "uses" ∷ u) ∙ ap (λ (t : List ℕ). codes "step" ++ t) index_end in
    let front_s : (s ++ codes " uses") ++ end ≡ s ++ (codes " uses" ++ end) = append_assoc s (codes " uses") end in
    let front_p : (p ++ (codes " " ++ (s ++ codes " uses"))) ++ end ≡ p ++ (codes " " ++ (s ++ (codes " uses" ++ end))) =
    append_assoc p (codes " " ++ (s ++ codes " uses")) end ∙ ap (λ (t : List ℕ). p ++ (codes " " ++ t)) front_s in
    let front_i : (i ++ (codes " product " ++ (p ++ (codes " " ++ (s ++ codes " uses"))))) ++ end
    ≡ i ++ (codes " product " ++ (p ++ (codes " " ++ (s ++ (codes " uses" ++ end))))) =
    append_assoc i (codes " product " ++ (p ++ (codes " " ++ (s ++ codes " uses")))) end ∙ ap (λ (t : List ℕ). i ++ (codes " product " ++ t)) front_p in
    ap (λ (us : List ℕ). (codes "step " ++ (i ++ (codes " product " ++ (p ++ (codes " " ++ (s ++ codes " uses")))))) ++ (spaced (map decimal us) ++ nl)) e
    ∙ ap (λ (t : List ℕ). codes "step " ++ t) front_i
    ∙ sym line

-- a number after a blank
abbrev pub use_text : ℕ → List ℕ
use_text number = codes " " ++ decimal number

pub uses_are : (uses : List ℕ) → flat_map use_text uses ≡ spaced (map decimal uses)
uses_are [] = refl
uses_are (number ∷ uses) = ap (λ (rest : List ℕ). use_text number ++ rest) (uses_are uses)

-- steps
steps_text_append : (k : ℕ) (a b : List Step) → steps_text k (a ++ b) ≡ steps_text k a ++ steps_text (k + length a) b
steps_text_append k [] b = ap (λ (m : ℕ). steps_text m b) (omega arith)
steps_text_append k (step ∷ a) b =
    let place : suc k + length a ≡ k + suc (length a) = omega arith in
    ap (λ (t : List ℕ). line_text (step_words k step) ++ t) (steps_text_append (suc k) a b ∙ ap (λ (m : ℕ). steps_text (suc k) a ++ steps_text m b) place)
    ∙ sym (append_assoc (line_text (step_words k step)) (steps_text (suc k) a) (steps_text (k + suc (length a)) b))

pub steps_text_more : (steps : List Step) (i : ℕ) (d : Step) → i < length steps
    → steps_text 0 (take i steps) ++ line_text (step_words i (get_or steps i d)) ≡ steps_text 0 (take (i + 1) steps)
steps_text_more steps i d h =
    let step = get_or steps i d in
    let len : 0 + length (take i steps) ≡ i = omega (arith, length-take-le i steps (omega arith)) in
    sym
    (ap (steps_text 0) (take_more steps i d h)
    ∙ steps_text_append 0 (take i steps) (step ∷ [])
    ∙ ap (λ (m : ℕ). steps_text 0 (take i steps) ++ steps_text m (step ∷ [])) len
    ∙ ap (λ (t : List ℕ). steps_text 0 (take i steps) ++ t) (append-nil (line_text (step_words i step))))

pub steps_text_around : (steps : List Step) (i : ℕ) (d : Step) → i < length steps
    → steps_text 0 (take i steps) ++ (line_text (step_words i (get_or steps i d)) ++ steps_text (suc i) (drop (i + 1) steps)) ≡ steps_text 0 steps
steps_text_around steps i d h =
    let step = get_or steps i d in
    let len : 0 + length (take i steps) ≡ i = omega (arith, length-take-le i steps (omega arith)) in
    let rest : drop i steps ≡ step ∷ drop (i + 1) steps = drop-cons steps i d h ∙ ap (λ (m : ℕ). step ∷ drop m steps) (sym (add-one i)) in
    sym
    (ap (steps_text 0) (sym (take-append-drop i steps) ∙ ap (λ (l : List Step). take i steps ++ l) rest)
    ∙ steps_text_append 0 (take i steps) (step ∷ drop (i + 1) steps)
    ∙ ap (λ (m : ℕ). steps_text 0 (take i steps) ++ steps_text m (step ∷ drop (i + 1) steps)) len)

-- the line of a leak
pub leak_is : (columns : List Column) (leak : List Bool) → codes "leak" ++ (row_text columns leak ++ codes "\n") ≡ leak_text columns leak
leak_is columns leak =
    ap (λ (t : List ℕ). codes "leak" ++ (t ++ codes "\n")) (sym (spaced_words columns leak))
    ∙ sym (append_assoc (codes "leak") (spaced (column_words columns leak)) (codes "\n"))

-- the parts of the text
pub text_parts : (columns : ℕ) (view : LinearView) (attack : Attack) (p : ℕ) (steps : List Step) (uses : List ℕ)
    → p ≡ length view.products → steps ≡ attack.derivation.steps → uses ≡ attack.derivation.root
    → head_text columns p ++ (leak_text view.columns attack.derivation.leak
    ++ (counted_steps_text steps ++ (root_text uses ++ listing_text attack.listing)))
    ≡ attack_text_among columns view attack
text_parts columns view attack p steps uses ep es eu =
    let text : ℕ → List Step → List ℕ → List ℕ =
    λ n these root. head_text columns n ++ (leak_text view.columns attack.derivation.leak
    ++ (counted_steps_text these ++ (root_text root ++ listing_text attack.listing))) in
    ap (λ (n : ℕ). text n steps uses) ep
    ∙ ap (λ (these : List Step). text (length view.products) these uses) es
    ∙ ap (λ (root : List ℕ). text (length view.products) attack.derivation.steps root) eu
