use Rattle.std.proofs.Common.{◌≡◌, ℕ, ◌+◌, ◌<◌, true, get_or, nat_lt, sym, subst, arith}
use Rattle.usuba0.specs.declared.circuit.Gate.TheVariants as gate
use Rattle.linear_view.proofs.SomeLemmas.{so_far_first, so_far_product, so_far_refresh, so_far_counts, so_far_next, so_far_ends}
use Rattle.linear_view.proofs.names.needed_columns.Goals as goal

pub loop-gate-init : goal.loop-gate-init
loop-gate-init c =
    so_far_first c.args.width c.args.inputs c.args.gates.now c.args.last_reads.now c.first-stage.result c.in_ok-columns.columns.keys
    c.in_ok-columns.ensures c.first-stage.ensures

pub add_if_read-requires-clause-product : goal.add_if_read-requires-clause-product
add_if_read-requires-clause-product c =
    so_far_product c.args.width c.args.inputs c.args.gates.now c.args.last_reads.now c.loop-gate.gate-index c.loop-gate.stage
    c.loop-gate.columns.keys c.loop-gate.invariant

pub add_if_read-requires-clause-refresh : goal.add_if_read-requires-clause-refresh
add_if_read-requires-clause-refresh c =
    so_far_refresh c.args.width c.args.inputs c.args.gates.now c.args.last_reads.now c.loop-gate.gate-index c.loop-gate.stage
    c.loop-gate.columns.keys c.loop-gate.invariant

pub after-stage-requires-clause-products : goal.after-stage-requires-clause-products
after-stage-requires-clause-products c =
    omega (
      arith,
      (so_far_counts c.args.width c.args.inputs c.args.gates.now c.args.last_reads.now c.loop-gate.gate-index c.loop-gate.stage
          c.loop-gate.columns.keys c.loop-gate-test.true c.loop-gate.invariant).0,
      c.loop-gate-test.true,
      c.requires.few,
    )

pub after-stage-requires-clause-refreshes : goal.after-stage-requires-clause-refreshes
after-stage-requires-clause-refreshes c =
    omega (
      arith,
      (so_far_counts c.args.width c.args.inputs c.args.gates.now c.args.last_reads.now c.loop-gate.gate-index c.loop-gate.stage
          c.loop-gate.columns.keys c.loop-gate-test.true c.loop-gate.invariant).1,
      c.loop-gate-test.true,
      c.requires.few,
    )

pub loop-gate-preserved : goal.loop-gate-preserved
loop-gate-preserved c =
    let n = c.args.inputs in
    let i = c.loop-gate.gate-index in
    let stage = c.loop-gate.stage in
    let last = c.args.last_reads.now in
    so_far_next c.args.width n c.args.gates.now last i (gate.Const 0) stage c.after-stage.result c.loop-gate.columns.keys
    c.add_if_read.new.columns.keys (nat_lt stage.equations (get_or last (n + stage.equations) 0)) c.loop-gate-test.true
    (λ read. below stage.equations (get_or last (n + stage.equations) 0)
    (subst (λ (m : ℕ). m < get_or last (n + m) 0) (sym c.loop-gate.invariant.equations) read))
    c.loop-gate.invariant c.in_ok-add_if_read.ensures c.after-stage.ensures
  where
    below : (a b : ℕ) → a < b → nat_lt a b ≡ true
    below a b h = grind arith

pub returns : goal.returns
returns c =
    so_far_ends c.args.width c.args.inputs c.args.gates.now c.args.last_reads.now c.loop-gate.gate-index c.loop-gate.stage
    c.loop-gate.columns.keys (omega (arith, c.loop-gate-test.false)) c.loop-gate.invariant
