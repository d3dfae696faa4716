use Rattle.std.proofs.Common.{ℕ, List, [], ◌∷◌, ◌++◌, get_or, refl, subst, arith}
use Rattle.usuba0.specs.declared.circuit.Gate.TheVariants as gate
use Rattle.linear_view.specs.Rows.{gate_rows, rows_over}
use Rattle.linear_view.specs.Walk.{IsReadAfter, KeepsLater}
use Rattle.linear_view.proofs.CoreLemmas.{all_rows, core_equations, under_way_first, under_way_next, under_way_equation, taken_late, under_way_needs, under_way_counts}
use Rattle.linear_view.proofs.core_view.register_rows.Goals as goal

pub loop-gate-init : goal.loop-gate-init
loop-gate-init c =
    under_way_first c.args.columns.now.keys c.width-width.result c.inputs-inputs.result c.args.gates.now c.first-stage.result c.in_ok-last.last.items c.in_ok-registers.registers.items
    c.in_ok-registers.ensures c.first-stage.ensures

pub push_register-requires-clause-gate : goal.push_register-requires-clause-gate
push_register-requires-clause-gate c =
    let names = c.args.columns.now.keys in
    let w = c.width-width.result in
    let n = c.inputs-inputs.result in
    let gs = c.args.gates.now in
    let k = c.loop-gate.gate-index in
    let stage = c.loop-gate.stage in
    let held = c.loop-gate.registers.items in
    let last = c.in_ok-last.last.items in
    let are = core_equations c.args.core.now w n gs c.width-width.ensures.core c.width-width.ensures.value c.inputs-inputs.ensures c.requires.gates in
    under_way_equation names w n gs k c.loop-gate.registers.len (gate.Const 0) stage last held c.loop-gate-test.true are c.loop-gate.invariant (omega (arith, c.loop-gate.registers.ok.0))

pub push_register-requires-clause-held : goal.push_register-requires-clause-held
push_register-requires-clause-held c =
    let names = c.args.columns.now.keys in
    let w = c.width-width.result in
    let n = c.inputs-inputs.result in
    let gs = c.args.gates.now in
    let k = c.loop-gate.gate-index in
    let stage = c.loop-gate.stage in
    let held = c.loop-gate.registers.items in
    let last = c.in_ok-last.last.items in
    let are = core_equations c.args.core.now w n gs c.width-width.ensures.core c.width-width.ensures.value c.inputs-inputs.ensures c.requires.gates in
    let late = taken_late n n k gs (gate.Const 0) last refl c.in_ok-last.ensures.told c.loop-gate-test.true in
    λ read. (
      all_rows w n gs,
      under_way_needs names w n gs k c.loop-gate.registers.len (gate.Const 0) stage last held c.loop-gate-test.true are late c.loop-gate.invariant
          (omega (arith, c.loop-gate.registers.ok.0)) (subst (λ (l : List ℕ). IsReadAfter l c.loop-gate.registers.len stage.equations) c.as_slice.ensures.value read),
    )

pub after-stage-requires-clause-products : goal.after-stage-requires-clause-products
after-stage-requires-clause-products c =
    omega (arith, (under_way_counts c.args.columns.now.keys c.width-width.result c.inputs-inputs.result c.args.gates.now c.loop-gate.gate-index c.loop-gate.stage c.in_ok-last.last.items c.loop-gate.registers.items c.loop-gate-test.true c.loop-gate.invariant).0, c.loop-gate-test.true, c.requires.few_gates)

pub after-stage-requires-clause-refreshes : goal.after-stage-requires-clause-refreshes
after-stage-requires-clause-refreshes c =
    omega (arith, (under_way_counts c.args.columns.now.keys c.width-width.result c.inputs-inputs.result c.args.gates.now c.loop-gate.gate-index c.loop-gate.stage c.in_ok-last.last.items c.loop-gate.registers.items c.loop-gate-test.true c.loop-gate.invariant).1, c.loop-gate-test.true, c.requires.few_gates)

pub loop-gate-preserved : goal.loop-gate-preserved
loop-gate-preserved c =
    let names = c.args.columns.now.keys in
    let w = c.width-width.result in
    let n = c.inputs-inputs.result in
    let gs = c.args.gates.now in
    let k = c.loop-gate.gate-index in
    let stage = c.loop-gate.stage in
    let held = c.loop-gate.registers.items in
    let last = c.in_ok-last.last.items in
    let are = core_equations c.args.core.now w n gs c.width-width.ensures.core c.width-width.ensures.value c.inputs-inputs.ensures c.requires.gates in
    let all = all_rows w n gs in
    let late = taken_late n n k gs (gate.Const 0) last refl c.in_ok-last.ensures.told c.loop-gate-test.true in
    let needs = λ (read : IsReadAfter c.as_slice.result.now c.loop-gate.registers.len stage.equations). under_way_needs names w n gs k c.loop-gate.registers.len (gate.Const 0) stage last held c.loop-gate-test.true are late
    c.loop-gate.invariant (omega (arith, c.loop-gate.registers.ok.0))
    (subst (λ (l : List ℕ). IsReadAfter l c.loop-gate.registers.len stage.equations) c.as_slice.ensures.value read) in
    let keeps = subst
    (λ (l : List ℕ). KeepsLater l stage.equations (held ++ rows_over names (gate_rows stage.width stage.products stage.refreshes all (get_or gs k (gate.Const 0))) ∷ []) c.push_register.new.registers.items)
    c.as_slice.ensures.value (c.in_ok-push_register.ensures all needs) in
    let next = under_way_next names w n gs k (gate.Const 0) stage c.after-stage.result last held c.push_register.new.registers.items c.loop-gate-test.true are c.loop-gate.invariant keeps c.after-stage.ensures in
    next
