use Rattle.std.proofs.Common.{ℕ, ◌+◌, ◌++◌, get_or, take, drop, suc, ap, ◌∙◌, arith}
use Rattle.tor_edge.proofs.Writing.{Wrote-is, Wrote-then, Wrote-stops, Wrote-ok}
use Rattle.usuba0.specs.declared.circuit.Gate.TheVariants as gate
use Rattle.usuba0.specs.CoreText.{equation_text, equations_text}
use Rattle.usuba0.proofs.TextLemmas.{equations_text-more, equations_text-around}
use Rattle.usuba0.proofs.text.put_equations.Goals as goal

pub returns-in_err-put_equation : goal.returns-in_err-put_equation
returns-in_err-put_equation g c =
    let gs = c.args.gates.now in
    let i = c.loop-gate.gate-index in
    let k = c.args.first in
    let line = get_or gs i (gate.Const 0) in
    Wrote-is
    (ap (λ (m : ℕ). equations_text k (take i gs) ++ (equation_text m line ++ equations_text (suc (k + i)) (drop (i + 1) gs))) c.loop-gate.invariant.counted
    ∙ equations_text-around k gs i (gate.Const 0) c.loop-gate-test.true)
    (Wrote-then c.loop-gate.invariant.wrote (Wrote-stops (equations_text (suc (k + i)) (drop (i + 1) gs)) c.in_err-put_equation.ensures c.from_residual.ensures.0))

pub loop-gate-preserved : goal.loop-gate-preserved
loop-gate-preserved g c =
    let gs = c.args.gates.now in
    let i = c.loop-gate.gate-index in
    let k = c.args.first in
    let line = get_or gs i (gate.Const 0) in
    record {
      wrote =
          Wrote-is
          (ap (λ (m : ℕ). equations_text k (take i gs) ++ equation_text m line) c.loop-gate.invariant.counted
          ∙ equations_text-more k gs i (gate.Const 0) c.loop-gate-test.true)
          (Wrote-then c.loop-gate.invariant.wrote (Wrote-ok _ _ c.in_ok-put_equation.ensures));
      counted = omega (arith, c.loop-gate.invariant.counted);
    }
