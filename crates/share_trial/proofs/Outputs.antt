-- The outputs of a trial, one after another; and what they show.
use Rattle.std.proofs.Common.{◌≡◌, ℕ, ◌+◌, ◌<◌, List, [], ◌∷◌, ◌++◌, length, map, take, get_or, refl, sym, ap, ap₂, ◌∙◌, subst}
use Rattle.std.specs.Prelude.{All}
use Rattle.std.proofs.lemmas.List.{take_more}
use Rattle.std.proofs.lemmas.List.Elements.{All-nil, All-cons}
use Rattle.usuba0.specs.PlainRun.{plain_run}
use Rattle.usuba0.specs.Term.{bits_of_width}
use Rattle.share_gadgets.specs.MaskedRun.{masked_run}
use Rattle.share_gadgets.specs.Sharing.{sharing_value}
use Rattle.share_gadgets.proofs.RunLemmas.{masked_values}
use Rattle.share_trial.specs.Trial.{outputs_of, trial_inputs, trial_words}
use Rattle.share_trial.specs.TrialLaw.{SharesHaveTheValue}
use Rattle.share_trial.specs.declared.trials.TrialOutput.{TrialOutput}
use Rattle.share_trial.proofs.Sharings.{masked_input}

-- outputs with the values of their shares
abbrev pub valued : List (List ℕ) → List TrialOutput
valued sharings = outputs_of (map sharing_value sharings) sharings

valued_more : (sharings : List (List ℕ)) (shares : List ℕ)
    → valued (sharings ++ shares ∷ []) ≡ valued sharings ++ record { value = sharing_value shares; shares = shares } ∷ []
valued_more [] shares = refl
valued_more (first ∷ sharings) shares =
    ap (λ (os : List TrialOutput). record { value = sharing_value first; shares = first } ∷ os) (valued_more sharings shares)

-- one output more
pub valued_next : (sharings : List (List ℕ)) (i : ℕ) (item : List ℕ) (value : ℕ) (shares : List ℕ) (outputs more : List TrialOutput)
    → i < length sharings → item ≡ get_or sharings i item → value ≡ sharing_value item → shares ≡ item
    → outputs ≡ valued (take i sharings) → more ≡ outputs ++ record { value = value; shares = shares } ∷ []
    → more ≡ valued (take (i + 1) sharings)
valued_next sharings i item value shares outputs more less is here same so_far pushed =
    pushed
    ∙ ap₂ (λ v s. outputs ++ record { value = v; shares = s } ∷ []) here same
    ∙ ap (λ (os : List TrialOutput). os ++ record { value = sharing_value item; shares = item } ∷ []) so_far
    ∙ sym (valued_more (take i sharings) item)
    ∙ ap (λ (x : List ℕ). valued (take i sharings ++ x ∷ [])) is
    ∙ sym (ap valued (take_more sharings i item less))

share_their_values : (sharings : List (List ℕ)) → All (λ output. sharing_value output.shares ≡ output.value) (valued sharings)
share_their_values [] = All-nil (λ output. sharing_value output.shares ≡ output.value)
share_their_values (shares ∷ sharings) =
    All-cons (λ output. sharing_value output.shares ≡ output.value) (record { value = sharing_value shares; shares = shares }) (valued sharings)
    refl (share_their_values sharings)

pub shares_have_the_value : SharesHaveTheValue
shares_have_the_value d core seed some is =
    let B = bits_of_width core.width in
    let inputs = trial_inputs d core seed in
    let outputs = masked_run B d core inputs (trial_words d core seed) in
    let same : map sharing_value outputs ≡ plain_run B core (map sharing_value inputs) =
    masked_values B d core inputs (trial_words d core seed) (masked_input d core seed some is) in
    subst (λ (values : List ℕ). All (λ output. sharing_value output.shares ≡ output.value) (outputs_of values outputs)) same
    (share_their_values outputs)
