-- The lanes of a run.
use Rattle.std.proofs.Common.{◌≡◌, ℕ, zero, suc, ◌+◌, ◌%◌, ◌^◌, ◌<◌, min, List, [], ◌∷◌, ◌++◌, map, get_or, refl, sym, ap, ◌∙◌, arith, subst, bit_and, bit_xor}
use Rattle.std.specs.Int.{bit_at}
use Rattle.std.proofs.lemmas.List.{map-append}
use Rattle.std.proofs.lemmas.Nat.Bits.{bit_at_xor, bit_at_and, bit_at_ones, bit_at-zero}
use Rattle.usuba0.specs.declared.circuit.Gate.{Gate}
use Rattle.usuba0.specs.declared.circuit.Gate.TheVariants as gate
use Rattle.usuba0.specs.declared.circuit.Reg.{Reg}
use Rattle.usuba0.specs.Circuit.{IsEquation, AreEquations}
use Rattle.usuba0.specs.PlainRun.{word_at, word_of_equation, run_equations}
use Rattle.usuba0.specs.Term.{ones, word_of_constant}
use Rattle.masked_meaning.specs.Lanes.{lane, LanesAreRuns}

-- a bit of a word of a list
pub bit_of : (position : ℕ) (words : List ℕ) (k : ℕ) → bit_at (get_or words k 0) position ≡ get_or (lane position words) k 0
bit_of position [] k = bit_at-zero position
bit_of position (word ∷ words) zero = refl
bit_of position (word ∷ words) (suc k) = bit_of position words k

module _ (B position : ℕ) (within : position < B) where
  -- the lane of the first words is bit 0 of the second
  abbrev Same : List ℕ → List ℕ → Type 0
  Same words single = lane position words ≡ lane 0 single

  register_same : (words single : List ℕ) → Same words single → (r : Reg) → bit_at (word_at words r) position ≡ bit_at (word_at single r) 0
  register_same words single same r =
      bit_of position words r.0 ∙ ap (λ (bits : List ℕ). get_or bits r.0 0) same ∙ sym (bit_of 0 single r.0)

  ones_same : bit_at (ones B) position ≡ bit_at (ones 32) 0
  ones_same = bit_at_ones B position within ∙ sym (bit_at_ones 32 0 (omega arith))

  constant_same : (c : ℕ) → c < 2 ^ 1 → bit_at (word_of_constant 1 B c) position ≡ bit_at (word_of_constant 1 32 c) 0
  constant_same zero below = bit_at-zero position ∙ sym (bit_at-zero 0)
  constant_same (suc zero) below = ones_same
  constant_same (suc (suc c)) below = absurd (omega (arith, below))

  xor_same : (a b x y : ℕ) → bit_at a position ≡ bit_at x 0 → bit_at b position ≡ bit_at y 0 → bit_at (bit_xor a b) position ≡ bit_at (bit_xor x y) 0
  xor_same a b x y p q = bit_at_xor a b position ∙ (λ i. (p i + q i) % 2) ∙ sym (bit_at_xor x y 0)

  and_same : (a b x y : ℕ) → bit_at a position ≡ bit_at x 0 → bit_at b position ≡ bit_at y 0 → bit_at (bit_and a b) position ≡ bit_at (bit_and x y) 0
  and_same a b x y p q = bit_at_and a b position ∙ (λ i. min (p i) (q i)) ∙ sym (bit_at_and x y 0)

  module _ (words single : List ℕ) (same : Same words single) where
    equation_same : (n : ℕ) (g : Gate) → IsEquation 1 n g → bit_at (word_of_equation 1 B words g) position ≡ bit_at (word_of_equation 1 32 single g) 0
    equation_same n (gate.Const c) right = constant_same c right
    equation_same n (gate.Xor a b) right = xor_same _ _ _ _ (register_same words single same a) (register_same words single same b)
    equation_same n (gate.Not a) right = xor_same _ _ _ _ (register_same words single same a) ones_same
    equation_same n (gate.Mask c a) right = and_same _ _ _ _ (constant_same c right.0) (register_same words single same a)
    equation_same n (gate.And a b) right = and_same _ _ _ _ (register_same words single same a) (register_same words single same b)
    equation_same n (gate.Shl k a) right = absurd (omega (arith, right.0, right.1))
    equation_same n (gate.Shr k a) right = absurd (omega (arith, right.0, right.1))
    equation_same n (gate.Rotl k a) right = absurd (omega (arith, right.0, right.1))
    equation_same n (gate.Refresh a) right = register_same words single same a

  run_same : (gs : List Gate) (n : ℕ) (words single : List ℕ) → AreEquations 1 n gs → Same words single
      → Same (run_equations 1 B words gs) (run_equations 1 32 single gs)
  run_same [] n words single right same = same
  run_same (g ∷ gs) n words single right same =
      run_same gs (suc n) (words ++ word_of_equation 1 B words g ∷ []) (single ++ word_of_equation 1 32 single g ∷ []) right.1
      (map-append (λ word. bit_at word position) words (word_of_equation 1 B words g ∷ [])
      ∙ (λ i. same i ++ equation_same words single same n g right.0 i ∷ [])
      ∙ sym (map-append (λ word. bit_at word 0) single (word_of_equation 1 32 single g ∷ [])))

  outputs_same : (words single : List ℕ) → Same words single → (outputs : List Reg)
      → lane position (map (word_at words) outputs) ≡ lane 0 (map (word_at single) outputs)
  outputs_same words single same [] = refl
  outputs_same words single same (r ∷ outputs) =
      λ i. register_same words single same r i ∷ outputs_same words single same outputs i

  -- a bit that is a word has itself as its bit 0
  bit_again : (word : ℕ) → bit_at word position ≡ bit_at (bit_at word position) 0
  bit_again word = omega arith

  inputs_same : (inputs : List ℕ) → Same inputs (lane position inputs)
  inputs_same [] = refl
  inputs_same (word ∷ inputs) = λ i. bit_again word i ∷ inputs_same inputs i

pub lanes_run : LanesAreRuns
lanes_run core B position inputs is_core one within many =
    let right : AreEquations 1 core.inputs core.equations = subst (λ w. AreEquations w core.inputs core.equations) one is_core.equations in
    let run = outputs_same B position within _ _
    (run_same B position within core.equations core.inputs inputs (lane position inputs) right (inputs_same B position within inputs)) core.outputs in
    ap (λ w. lane position (map (word_at (run_equations w B inputs core.equations)) core.outputs)) one
    ∙ run
    ∙ ap (λ w. lane 0 (map (word_at (run_equations w 32 (lane position inputs) core.equations)) core.outputs)) (sym one)
