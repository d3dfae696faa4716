use Rattle.std.proofs.Common.{◌++◌, Option, get_or, sym, ap, ◌∙◌, arith, append-nil}
use Rattle.std.specs.Option.{option_to_list}
use Rattle.usuba0.specs.declared.circuit.Gate.TheVariants as gate
use Rattle.linear_view.specs.Rows.{gate_rows, rows_over}
use Rattle.linear_view.specs.View.{Operands}
use Rattle.linear_view.specs.Walk.{IsReadAfter}
use Rattle.linear_view.proofs.CoreLemmas.{all_rows, core_equations, under_way_first, under_way_next, under_way_equation, taken_late, under_way_operands, under_way_needs, under_way_counts}
use Rattle.linear_view.proofs.ViewLemmas.{products_step}
use Rattle.linear_view.proofs.WalkLemmas.{keeps_then, keeps_push}
use Rattle.linear_view.proofs.core_view.product_operands.Goals as goal
use Rattle.linear_view.proofs.core_view.product_operands.Goals.{in-Some+in_ok-push, in_default}

pub loop-gate-init : goal.loop-gate-init
loop-gate-init c =
    record {
      under_way = under_way_first c.args.columns.now.keys c.width-width.result c.inputs-inputs.result c.args.gates.now c.first-stage.result c.args.last_reads.now c.in_ok-registers.registers.items
          c.in_ok-registers.ensures c.first-stage.ensures;
      products = c.in_ok-products.ensures.items;
    }

pub pair_of-requires-clause-gate : goal.pair_of-requires-clause-gate
pair_of-requires-clause-gate c =
    let names = c.args.columns.now.keys in
    let w = c.width-width.result in
    let n = c.inputs-inputs.result in
    let gs = c.args.gates.now in
    let k = c.loop-gate.gate-index in
    let stage = c.loop-gate.stage in
    let held = c.loop-gate.registers.items in
    let last = c.args.last_reads.now in
    let are = core_equations c.args.core.now w n gs c.width-width.ensures.core c.width-width.ensures.value c.inputs-inputs.ensures c.requires.gates in
    (stage.width, under_way_equation names w n gs k c.loop-gate.registers.len (gate.Const 0) stage last held c.loop-gate-test.true are c.loop-gate.invariant.under_way (omega (arith, c.loop-gate.registers.ok.0)))

pub pair_of-requires-clause-known : goal.pair_of-requires-clause-known
pair_of-requires-clause-known c =
    omega (arith, c.loop-gate.registers.ok.0, c.loop-gate.invariant.under_way.holds.count, c.loop-gate-test.true, c.requires.told.count, c.inputs-inputs.ensures)

pub push_register-requires-clause-gate : goal.push_register-requires-clause-gate
push_register-requires-clause-gate c =
    let names = c.args.columns.now.keys in
    let w = c.width-width.result in
    let n = c.inputs-inputs.result in
    let gs = c.args.gates.now in
    let k = c.loop-gate.gate-index in
    let stage = c.loop-gate.stage in
    let held = c.loop-gate.registers.items in
    let last = c.args.last_reads.now in
    let are = core_equations c.args.core.now w n gs c.width-width.ensures.core c.width-width.ensures.value c.inputs-inputs.ensures c.requires.gates in
    under_way_equation names w n gs k c.pair_of.new.registers.len (gate.Const 0) stage last held c.loop-gate-test.true are c.loop-gate.invariant.under_way
    (omega (arith, c.pair_of.new.registers.ok.0, c.in_ok-pair.ensures.kept.count))

pub push_register-requires-clause-held : goal.push_register-requires-clause-held
push_register-requires-clause-held c =
    let names = c.args.columns.now.keys in
    let w = c.width-width.result in
    let n = c.inputs-inputs.result in
    let gs = c.args.gates.now in
    let k = c.loop-gate.gate-index in
    let stage = c.loop-gate.stage in
    let held = c.loop-gate.registers.items in
    let last = c.args.last_reads.now in
    let are = core_equations c.args.core.now w n gs c.width-width.ensures.core c.width-width.ensures.value c.inputs-inputs.ensures c.requires.gates in
    let late = taken_late c.args.core.now.inputs n k gs (gate.Const 0) last c.inputs-inputs.ensures c.requires.told c.loop-gate-test.true in
    λ read. (
      all_rows w n gs,
      c.in_ok-pair.ensures.needs names (all_rows w n gs)
          (under_way_needs names w n gs k c.pair_of.new.registers.len (gate.Const 0) stage last held c.loop-gate-test.true are late
          c.loop-gate.invariant.under_way (omega (arith, c.pair_of.new.registers.ok.0, c.in_ok-pair.ensures.kept.count)) read),
    )

pub after-stage-requires-clause-products : goal.after-stage-requires-clause-products
after-stage-requires-clause-products c =
    omega (arith, (under_way_counts c.args.columns.now.keys c.width-width.result c.inputs-inputs.result c.args.gates.now c.loop-gate.gate-index c.loop-gate.stage c.args.last_reads.now c.loop-gate.registers.items c.loop-gate-test.true c.loop-gate.invariant.under_way).0, c.loop-gate-test.true, c.requires.few_gates)

pub after-stage-requires-clause-refreshes : goal.after-stage-requires-clause-refreshes
after-stage-requires-clause-refreshes c =
    omega (arith, (under_way_counts c.args.columns.now.keys c.width-width.result c.inputs-inputs.result c.args.gates.now c.loop-gate.gate-index c.loop-gate.stage c.args.last_reads.now c.loop-gate.registers.items c.loop-gate-test.true c.loop-gate.invariant.under_way).1, c.loop-gate-test.true, c.requires.few_gates)

pub loop-gate-preserved : goal.loop-gate-preserved
loop-gate-preserved c =
    let names = c.args.columns.now.keys in
    let w = c.width-width.result in
    let n = c.inputs-inputs.result in
    let gs = c.args.gates.now in
    let k = c.loop-gate.gate-index in
    let stage = c.loop-gate.stage in
    let held = c.loop-gate.registers.items in
    let last = c.args.last_reads.now in
    let are = core_equations c.args.core.now w n gs c.width-width.ensures.core c.width-width.ensures.value c.inputs-inputs.ensures c.requires.gates in
    let all = all_rows w n gs in
    let late = taken_late c.args.core.now.inputs n k gs (gate.Const 0) last c.inputs-inputs.ensures c.requires.told c.loop-gate-test.true in
    let operands = under_way_operands names w n gs k (gate.Const 0) stage last held c.loop-gate-test.true are late c.loop-gate.invariant.under_way in
    let needs = λ (read : IsReadAfter last c.pair_of.new.registers.len stage.equations). c.in_ok-pair.ensures.needs names all
    (under_way_needs names w n gs k c.pair_of.new.registers.len (gate.Const 0) stage last held c.loop-gate-test.true are late
    c.loop-gate.invariant.under_way (omega (arith, c.pair_of.new.registers.ok.0, c.in_ok-pair.ensures.kept.count)) read) in
    let made = rows_over names (gate_rows stage.width stage.products stage.refreshes all (get_or gs k (gate.Const 0))) in
    let pushed = c.in_ok-push_register.ensures all needs in
    let next = under_way_next names w n gs k (gate.Const 0) stage c.after-stage.result last held c.push_register.new.registers.items c.loop-gate-test.true are c.loop-gate.invariant.under_way
    (keeps_then (keeps_push made c.in_ok-pair.ensures.kept) pushed) c.after-stage.ensures in
    let old = c.loop-gate.products.items in
    record {
      under_way = next;
      products =
          products_step names all gs k (gate.Const 0) old c.match-branch-4.products.items c.in_ok-pair.field-0 c.loop-gate-test.true c.loop-gate.invariant.products
          (elim c.match-branch-4.branch [
            | in-Some+in_ok-push v ↦
                ap (λ p. p.items) v.products-is ∙ v.in_ok-push.ensures.items ∙ ap (λ (found : Option Operands). old ++ option_to_list found) (sym v.in-Some.is)
            | in_default v ↦
                ap (λ p. p.items) v.products-is ∙ sym (append-nil old) ∙ ap (λ (found : Option Operands). old ++ option_to_list found) (sym v.in_default.is)
          ])
          (c.in_ok-pair.ensures.pair names all operands);
    }
