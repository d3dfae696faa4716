-- Counts of equations, and what a core's invariant says of one equation.
use Rattle.std.proofs.Common.{◌≡◌, ℕ, zero, suc, ◌+◌, ◌<◌, ◌≤◌, List, [], ◌∷◌, ◌++◌, length, get_or, take, drop, map, sym, ap, ◌∙◌, arith, subst}
use Rattle.std.proofs.lemmas.List.{at_drop_more, at_drop_all, take_more, map-append}
use Rattle.usuba0.specs.declared.circuit.Gate.{Gate}
use Rattle.usuba0.specs.declared.circuit.Gate.TheVariants as gate
use Rattle.usuba0.specs.Circuit.{products_of, refreshes_of, registers, Circuit, IsCore, IsEquation, AreEquations}
use Rattle.usuba0.specs.Term.{bits_of_width}
use Rattle.usuba0.specs.declared.circuit.Reg.{Reg}
use Rattle.usuba0.specs.PlainRun.{word_at, run_equations, word_of_equation}

-- together they are at most the equations
pub counts_le : (gs : List Gate) → products_of gs + refreshes_of gs ≤ length gs
counts_le [] = omega arith
counts_le (gate.Const c ∷ gs) = let h = counts_le gs in omega arith
counts_le (gate.Xor a b ∷ gs) = let h = counts_le gs in omega arith
counts_le (gate.Not a ∷ gs) = let h = counts_le gs in omega arith
counts_le (gate.Mask c a ∷ gs) = let h = counts_le gs in omega arith
counts_le (gate.And a b ∷ gs) = let h = counts_le gs in omega arith
counts_le (gate.Shl k a ∷ gs) = let h = counts_le gs in omega arith
counts_le (gate.Shr k a ∷ gs) = let h = counts_le gs in omega arith
counts_le (gate.Rotl k a ∷ gs) = let h = counts_le gs in omega arith
counts_le (gate.Refresh a ∷ gs) = let h = counts_le gs in omega arith

-- one equation of a core
pub equation_at : (w n : ℕ) (gs : List Gate) (i : ℕ) (d : Gate) → AreEquations w n gs → i < length gs → IsEquation w (n + i) (get_or gs i d)
equation_at w n [] i d p h = absurd (omega arith)
equation_at w n (g ∷ gs) zero d p h = subst (λ (m : ℕ). IsEquation w m g) (omega arith) p.0
equation_at w n (g ∷ gs) (suc i) d p h =
    subst (λ (m : ℕ). IsEquation w m (get_or gs i d)) (omega arith) (equation_at w (suc n) gs i d p.1 (omega arith))

-- one step of a run
pub run_step : (w B : ℕ) (words : List ℕ) (gs : List Gate) (i : ℕ) (d : Gate) → i < length gs
    → run_equations w B words (drop i gs) ≡ run_equations w B (words ++ word_of_equation w B words (get_or gs i d) ∷ []) (drop (i + 1) gs)
run_step w B words gs i d h = at_drop_more (run_equations w B words) gs i d h

-- an equation fits the words of the registers before it
pub gate_fits : (core : Circuit) (w : ℕ) (gs : List Gate) (many i : ℕ) (d : Gate) → IsCore core → gs ≡ core.equations → w ≡ core.width → many ≡ core.inputs + i → i < length gs
    → IsEquation w many (get_or gs i d)
gate_fits core w gs many i d is g e m h =
    let below : i < length core.equations = subst (λ (l : List Gate). i < length l) g h in
    let at = equation_at core.width core.inputs core.equations i d is.equations below in
    subst (λ (v : ℕ). IsEquation v many (get_or gs i d)) (sym e)
    (subst (λ (k : ℕ). IsEquation core.width k (get_or gs i d)) (sym m)
    (subst (λ (l : List Gate). IsEquation core.width (core.inputs + i) (get_or l i d)) (sym g) at))

-- a run of all equations is the run of the circuit
pub run_ends : (core : Circuit) (w B : ℕ) (gs : List Gate) (words inputs : List ℕ) (i : ℕ) → gs ≡ core.equations → w ≡ core.width → B ≡ bits_of_width w → length gs ≤ i
    → run_equations w B words (drop i gs) ≡ run_equations w B inputs gs → words ≡ run_equations core.width (bits_of_width core.width) inputs core.equations
run_ends core w B gs words inputs i g e b h same =
    sym (at_drop_all (run_equations w B words) gs i h) ∙ same
    ∙ ap (run_equations w B inputs) g
    ∙ ap (λ (v : ℕ). run_equations w v inputs core.equations) b
    ∙ ap (λ (v : ℕ). run_equations v (bits_of_width v) inputs core.equations) e

-- one more output word
pub outputs_step : (words : List ℕ) (rs : List Reg) (i : ℕ) (d : Reg) → i < length rs
    → map (word_at words) (take (i + 1) rs) ≡ map (word_at words) (take i rs) ++ word_at words (get_or rs i d) ∷ []
outputs_step words rs i d h = ap (map (word_at words)) (take_more rs i d h) ∙ map-append (word_at words) (take i rs) (get_or rs i d ∷ [])

-- each output is a register
pub output_fits : (core : Circuit) (rs : List Reg) (many i : ℕ) (d : Reg) → IsCore core → rs ≡ core.outputs → many ≡ registers core → i < length rs → (get_or rs i d).0 < many
output_fits core rs many i d is e m h =
    let below : i < length core.outputs = subst (λ (l : List Reg). i < length l) e h in
    let at : (get_or core.outputs i d).0 < registers core = is.outputs i d below in
    let same : (get_or rs i d).0 ≡ (get_or core.outputs i d).0 = ap (λ (l : List Reg). (get_or l i d).0) e in
    omega arith
