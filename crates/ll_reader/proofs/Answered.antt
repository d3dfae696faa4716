-- Classes that end with the end class are a text that keeps the depth, or have a fault.
use Rattle.std.proofs.Common.{◌≡◌, ◌≢◌, ℕ, zero, suc, ◌+◌, ◌<◌, ◌≤◌, List, [], ◌∷◌, ◌++◌, length, take, get_or, Some, refl, ap, ◌∙◌, ◌⊎◌, inl, inr, arith}
use Rattle.std.specs.Int.{bit_at}
use Rattle.std.proofs.lemmas.Bool.{cases_order, cases_lt}
use Rattle.std.proofs.lemmas.Option.{same_Some}
use Rattle.ll_reader.specs.declared.grammar.Frame.{Frame}
use Rattle.ll_reader.specs.declared.grammar.Item.{Item}
use Rattle.ll_reader.specs.declared.grammar.Item.TheVariants.{Token, Rule}
use Rattle.ll_reader.specs.declared.grammar.Production.{Production}
use Rattle.ll_reader.specs.declared.grammar.Step.{Step}
use Rattle.ll_reader.specs.declared.grammar.Step.TheVariants.{Take, Choose}
use Rattle.ll_reader.specs.Answer.{HasAnswer}
use Rattle.ll_reader.specs.Depth.{items_at}
use Rattle.ll_reader.specs.Derivation.{items}
use Rattle.ll_reader.specs.Predictive.{Facts, weight_of, Meet}
use Rattle.ll_reader.specs.Private.Choice.{GoesOn}
use Rattle.ll_reader.proofs.Machine.{plain, plain_opened, Stands, Expands, begins, chooses}
use Rattle.ll_reader.proofs.Reading.{fault_at_end, fault_at_token, fault_at_rule, fault_of_depth, taken, entered, finished}
use Rattle.ll_reader.proofs.Weights.{lighter}

decided : (n m : ℕ) → (n ≡ m) ⊎ (n ≢ m)
decided n m = elim (cases_order n m) [
  | inl same ↦ inl same
  | inr (inl below) ↦ inr (λ same. absurd (omega arith))
  | inr (inr above) ↦ inr (λ same. absurd (omega arith))
]

-- ---- the production that goes on for a rule at a class, if there is one

Chosen : List Production → ℕ → ℕ → Type 0
Chosen table rule class = ((k : ℕ) × GoesOn table rule class k) ⊎ ((k : ℕ) → ¬ GoesOn table rule class k)

not_first : (p : Production) (ps : List Production) (rule class : ℕ) → ((p.rule ≡ rule) → (bit_at p.first class ≡ 1) → ⊥) → Chosen ps rule class → Chosen (p ∷ ps) rule class
unfolding Chosen
not_first p ps rule class none (inl (k, on)) = inl (suc k, on)
not_first p ps rule class none (inr later) = inr each where
  each : (k : ℕ) → ¬ GoesOn (p ∷ ps) rule class k
  each zero on =
      let same = same_Some p on.0 on.1 in
      none (ap (λ (q : Production). q.rule) same ∙ on.2) (ap (λ (q : Production). bit_at q.first class) same ∙ on.3)
  each (suc k) on = later k on

chosen : (table : List Production) (rule class : ℕ) → Chosen table rule class
unfolding Chosen
chosen [] rule class = inr (λ k on. absurd (cc))
chosen (p ∷ ps) rule class = elim (decided p.rule rule) [
  | inl of ↦ elim (decided (bit_at p.first class) 1) [
    | inl first ↦ inl (0, (p, refl, of, first))
    | inr other ↦ not_first p ps rule class (λ _ first. other first) (chosen ps rule class)
  ]
  | inr other ↦ not_first p ps rule class (λ of _. other of) (chosen ps rule class)
]

module _ (table : List Production) (frame : Frame) (facts : List Facts) (passed : Meet facts frame.start frame.end table) (classes : List ℕ) where
  -- ---- one token

  -- a token is taken, or at it is a fault
  Stepped : ℕ → Type 0
  Stepped at = ((steps : List Step) × (due : List (Item × ℕ)) × Stands table frame facts (take (at + 1) classes) steps due) ⊎ HasAnswer table frame classes

  at_token : (at : ℕ) (inside : at < length classes) (steps : List Step) (w depth : ℕ) (due : List (Item × ℕ)) → Expands table frame facts (get_or classes at 0) (take at classes) steps ((Token w, depth) ∷ due) → Stepped at
  unfolding Stepped
  at_token at inside steps w depth due state = elim (decided w (get_or classes at 0)) [
    | inl same ↦ elim (cases_lt frame.deepest depth) [
      | inl high ↦ inr (inr (at, inr (fault_of_depth table frame facts passed classes at inside steps w depth due same high state)))
      | inr low ↦ inl (steps ++ Take ∷ [], due, taken table frame facts passed classes at inside steps (steps ++ Take ∷ []) w depth due same low refl state)
    ]
    | inr other ↦ inr (inr (at, inl (fault_at_token table frame facts passed classes at inside steps w depth due other state)))
  ]

  -- what is due grows lighter with each choice
  step : (n at : ℕ) (inside : at < length classes) (steps : List Step) (due : List (Item × ℕ)) → weight_of facts (plain due) < n → Expands table frame facts (get_or classes at 0) (take at classes) steps due → Stepped at
  unfolding Stepped Chosen
  step zero at inside steps due light state = absurd (omega arith)
  step (suc n) at inside steps [] light state = inr (inr (at, inl (fault_at_end table frame facts passed classes at inside steps state)))
  step (suc n) at inside steps ((Token w, depth) ∷ due) light state = at_token at inside steps w depth due state
  step (suc n) at inside steps ((Rule a, depth) ∷ due) light state = elim (chosen table a (get_or classes at 0)) [
    | inl (k, on) ↦
        let less = lighter table facts frame.start frame.end passed k a on.0 (plain due) on.1 on.2 in
        let same : weight_of facts (plain (items_at depth (Some on.0) ++ due)) ≡ weight_of facts (items on.0 ++ plain due) = ap (weight_of facts) (plain_opened on.0 depth due) in
        let below : weight_of facts (plain (items_at depth (Some on.0) ++ due)) < n = omega arith in
        step n at inside (steps ++ Choose k ∷ []) (items_at depth (Some on.0) ++ due) below
        (chooses table frame facts passed (get_or classes at 0) (take at classes) steps a depth k on.0 due on.1 on.2 on.3 state)
    | inr none ↦ inr (inr (at, inl (fault_at_rule table frame facts passed classes at inside steps a depth due none state)))
  ]

  -- ---- all tokens

  from : (left at : ℕ) → left + at ≡ length classes → (front : List ℕ) → classes ≡ front ++ frame.end ∷ [] → (steps : List Step) (due : List (Item × ℕ)) → Stands table frame facts (take at classes) steps due → HasAnswer table frame classes
  unfolding Stepped
  from zero at count front ends steps due stands =
      let past : length classes ≤ at = omega arith in
      let r = finished table frame facts passed classes front at steps due ends past stands in
      inl (steps, r.text, r.shallow)
  from (suc left) at count front ends steps due stands =
      let inside : at < length classes = omega arith in
      let light : weight_of facts (plain due) < suc (weight_of facts (plain due)) = omega arith in
      elim (step (suc (weight_of facts (plain due))) at inside steps due light (entered table frame facts passed classes at inside steps due stands)) [
        | inl (more, rest, next) ↦ from left (at + 1) (omega arith) front ends more rest next
        | inr answer ↦ answer
      ]

  pub answered : (front : List ℕ) → classes ≡ front ++ frame.end ∷ [] → HasAnswer table frame classes
  answered front ends =
      from (length classes) 0 (omega arith) front ends [] ((Rule frame.start, 0) ∷ (Token frame.end, 0) ∷ []) (begins table frame facts passed)
