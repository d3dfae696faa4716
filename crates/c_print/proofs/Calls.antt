-- The calls of equations and of copies, up to one of them.
use Rattle.std.proofs.Common.{◌≡◌, ℕ, suc, ◌+◌, ◌<◌, ◌≤◌, List, [], ◌∷◌, ◌++◌, length, get_or, take, All}
use Rattle.std.proofs.Common.{sym, ap, ◌∙◌, arith}
use Rattle.std.proofs.lemmas.List.{take_more, length-take-le}
use Rattle.std.proofs.lemmas.List.Elements.{All-weaker}
use Rattle.c_tree.specs.declared.CCall.{CCall}
use Rattle.usuba0.specs.declared.circuit.Gate.{Gate}
use Rattle.usuba0.specs.declared.circuit.Reg.{Reg}
use Rattle.usuba0.specs.Circuit.{AreEquations}
use Rattle.usuba0.proofs.CircuitLemmas.{equation_at}
use Rattle.c_form.specs.Slots.{operands}
use Rattle.c_form.specs.MaskedForm.{row_of, equation_call, equation_calls, output_call, output_calls}
use Rattle.c_form.proofs.Last.{operands-below}

module _ (inputs : ℕ) (slots : List ℕ) where
  equation_calls-append : (w B k : ℕ) (gs hs : List Gate)
      → equation_calls w B inputs slots k (gs ++ hs)
      ≡ equation_calls w B inputs slots k gs ++ equation_calls w B inputs slots (k + length gs) hs
  equation_calls-append w B k [] hs = ap (λ (m : ℕ). equation_calls w B inputs slots m hs) (omega arith)
  equation_calls-append w B k (g ∷ gs) hs =
      let place : suc k + length gs ≡ k + suc (length gs) = omega arith in
      ap (λ (t : List CCall). equation_call w B (row_of inputs slots) (get_or slots k 0) g ∷ t)
      (equation_calls-append w B (suc k) gs hs
      ∙ ap (λ (m : ℕ). equation_calls w B inputs slots (suc k) gs ++ equation_calls w B inputs slots m hs) place)

  -- the calls of the equations before one, and its own, are those of the equations up to it
  pub equation_calls-more : (w B : ℕ) (gs : List Gate) (i : ℕ) (d : Gate) → i < length gs
      → equation_calls w B inputs slots 0 (take i gs)
      ++ equation_call w B (row_of inputs slots) (get_or slots i 0) (get_or gs i d) ∷ []
      ≡ equation_calls w B inputs slots 0 (take (i + 1) gs)
  equation_calls-more w B gs i d within =
      let g = get_or gs i d in
      let long : 0 + length (take i gs) ≡ i = omega (
        arith,
        length-take-le i gs
            (let le : i ≤ length gs = omega arith in le),
      ) in
      sym
      (ap (equation_calls w B inputs slots 0) (take_more gs i d within)
      ∙ equation_calls-append w B 0 (take i gs) (g ∷ [])
      ∙ ap (λ (m : ℕ). equation_calls w B inputs slots 0 (take i gs) ++ equation_calls w B inputs slots m
      (g ∷ [])) long)

  output_calls-append : (k : ℕ) (rs more : List Reg)
      → output_calls inputs slots k (rs ++ more)
      ≡ output_calls inputs slots k rs ++ output_calls inputs slots (k + length rs) more
  output_calls-append k [] more = ap (λ (m : ℕ). output_calls inputs slots m more) (omega arith)
  output_calls-append k (r ∷ rs) more =
      let place : suc k + length rs ≡ k + suc (length rs) = omega arith in
      ap (λ (t : List CCall). output_call inputs slots k r ∷ t)
      (output_calls-append (suc k) rs more
      ∙ ap (λ (m : ℕ). output_calls inputs slots (suc k) rs ++ output_calls inputs slots m more) place)

  -- the copies of the registers before one, and its own, are those of the registers up to it
  pub output_calls-more : (rs : List Reg) (i : ℕ) (d : Reg) → i < length rs
      → output_calls inputs slots 0 (take i rs) ++ output_call inputs slots i (get_or rs i d) ∷ []
      ≡ output_calls inputs slots 0 (take (i + 1) rs)
  output_calls-more rs i d within =
      let r = get_or rs i d in
      let long : 0 + length (take i rs) ≡ i = omega (
        arith,
        length-take-le i rs
            (let le : i ≤ length rs = omega arith in le),
      ) in
      sym
      (ap (output_calls inputs slots 0) (take_more rs i d within)
      ∙ output_calls-append 0 (take i rs) (r ∷ [])
      ∙ ap (λ (m : ℕ). output_calls inputs slots 0 (take i rs) ++ output_calls inputs slots m (r ∷ [])) long)

-- what an equation reads was made before all slots are used up
pub operands-within : (w inputs many : ℕ) (gs : List Gate) (i : ℕ) (d : Gate) → AreEquations w inputs gs
    → many ≡ length gs → i < length gs → All (λ r. r < inputs + many) (operands (get_or gs i d))
operands-within w inputs many gs i d are same within =
    All-weaker (λ r. r < inputs + i) (λ r. r < inputs + many) (λ r below. omega arith) (operands (get_or gs i d))
    (operands-below w (inputs + i) (get_or gs i d) (equation_at w inputs gs i d are within))
