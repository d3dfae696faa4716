use Rattle.std.proofs.Common.{ℕ, ◌+◌, List, [], ◌∷◌, ◌++◌, length, get_or, drop, sym, ap, ◌∙◌, arith}
use Rattle.usuba0.specs.declared.circuit.Gate.TheVariants as gate
use Rattle.usuba0.specs.PlainRun.{run_equations, word_of_equation}
use Rattle.usuba0.proofs.CircuitLemmas.{gate_fits, run_step, run_ends}
use Rattle.usuba0.proofs.run.run_equations.Goals as goal

pub word_of-word-requires-clause-gate : goal.word_of-word-requires-clause-gate
word_of-word-requires-clause-gate c =
    gate_fits c.args.core.now c.width-width.result c.equation_slice-equations.result.now _ c.loop-gate.gate-index (gate.Const 0)
    c.equation_slice-equations.ensures.core c.equation_slice-equations.ensures.gates c.width-width.ensures.value
    (omega (arith, c.loop-gate.invariant.many, c.as_slice.ensures.len)) (omega arith)

pub loop-gate-preserved : goal.loop-gate-preserved
loop-gate-preserved c =
    let w = c.width-width.result in
    let B = c.word_bits-bits.result in
    let gs = c.equation_slice-equations.result.now in
    let i = c.loop-gate.gate-index in
    let g = get_or gs i (gate.Const 0) in
    record {
      same =
          ap (λ (words : List ℕ). run_equations w B words (drop (i + 1) gs))
          (c.in_ok-push.ensures.items
          ∙ ap (λ (x : ℕ). c.loop-gate.words.items ++ x ∷ [])
          (c.word_of-word.ensures ∙ ap (λ (words : List ℕ). word_of_equation w B words g) c.as_slice.ensures.value))
          ∙ sym (run_step w B c.loop-gate.words.items gs i (gate.Const 0) (omega arith))
          ∙ c.loop-gate.invariant.same;
      many = omega (arith, c.in_ok-push.ensures.len, c.loop-gate.invariant.many);
    }

pub returns-clause-words : goal.returns-clause-words
returns-clause-words c =
    run_ends c.args.core.now c.width-width.result c.word_bits-bits.result c.equation_slice-equations.result.now c.loop-gate.words.items c.args.inputs.now
    c.loop-gate.gate-index c.equation_slice-equations.ensures.gates c.width-width.ensures.value c.word_bits-bits.ensures (omega arith) c.loop-gate.invariant.same

pub returns-clause-all : goal.returns-clause-all
returns-clause-all c =
    let n = ap (λ gs. length gs) c.equation_slice-equations.ensures.gates in
    omega (arith, c.loop-gate.invariant.many, n)
