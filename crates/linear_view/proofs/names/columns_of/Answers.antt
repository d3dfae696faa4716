use Rattle.std.proofs.Common.{ℕ, ◌+◌, List, [], ◌∷◌, refl, take, get_or, sym, ap, ◌∙◌, arith}
use Rattle.std.proofs.lemmas.List.{length-take-le}
use Rattle.std.specs.List.{list_any}
use Rattle.usuba0.specs.declared.circuit.Gate.{Gate}
use Rattle.usuba0.specs.declared.circuit.Gate.TheVariants as gate
use Rattle.usuba0.specs.Circuit.{products_of, refreshes_of}
use Rattle.usuba0.proofs.CircuitLemmas.{counts_le}
use Rattle.linear_view.specs.declared.column.Column.{Column}
use Rattle.linear_view.specs.declared.column.ColumnKind.TheVariants.{Product, Refresh}
use Rattle.linear_view.specs.Names.{same_column, input_columns, equation_columns}
use Rattle.linear_view.proofs.ColumnLemmas.{no_input, new_product, new_refresh, absent-append, columns_step, products_of-more, refreshes_of-more}
use Rattle.linear_view.proofs.names.columns_of.Goals as goal

pub add_gate_columns-requires-clause-product : goal.add_gate_columns-requires-clause-product
add_gate_columns-requires-clause-product c bit =
    let name : Column = record { kind = Product; number = c.loop-gate.stage.products; bit = bit } in
    let before : List Gate = take c.loop-gate.gate-index c.args.gates.now in
    ap (list_any (same_column name)) c.loop-gate.invariant.columns
    ∙ absent-append name (input_columns c.args.width c.args.inputs) (equation_columns c.args.width 0 0 before) (no_input name c.args.width c.args.inputs refl)
    (new_product c.args.width 0 0 c.loop-gate.stage.products bit before (omega (arith, c.loop-gate.invariant.products)))

pub add_gate_columns-requires-clause-refresh : goal.add_gate_columns-requires-clause-refresh
add_gate_columns-requires-clause-refresh c bit =
    let name : Column = record { kind = Refresh; number = c.loop-gate.stage.refreshes; bit = bit } in
    let before : List Gate = take c.loop-gate.gate-index c.args.gates.now in
    ap (list_any (same_column name)) c.loop-gate.invariant.columns
    ∙ absent-append name (input_columns c.args.width c.args.inputs) (equation_columns c.args.width 0 0 before) (no_input name c.args.width c.args.inputs refl)
    (new_refresh c.args.width 0 0 c.loop-gate.stage.refreshes bit before (omega (arith, c.loop-gate.invariant.refreshes)))

pub after-stage-requires-clause-products : goal.after-stage-requires-clause-products
after-stage-requires-clause-products c =
    let before : List Gate = take c.loop-gate.gate-index c.args.gates.now in
    omega (arith, c.loop-gate.invariant.products, counts_le before, length-take-le c.loop-gate.gate-index c.args.gates.now (omega arith), c.loop-gate-test.true, c.requires)

pub after-stage-requires-clause-refreshes : goal.after-stage-requires-clause-refreshes
after-stage-requires-clause-refreshes c =
    let before : List Gate = take c.loop-gate.gate-index c.args.gates.now in
    omega (arith, c.loop-gate.invariant.refreshes, counts_le before, length-take-le c.loop-gate.gate-index c.args.gates.now (omega arith), c.loop-gate-test.true, c.requires)

pub loop-gate-preserved : goal.loop-gate-preserved
loop-gate-preserved c =
    let gs = c.args.gates.now in
    let i = c.loop-gate.gate-index in
    let g = get_or gs i (gate.Const 0) in
    record {
      columns =
          columns_step c.args.width c.args.inputs gs i (gate.Const 0) c.loop-gate.columns.keys _ c.loop-gate.stage.width c.loop-gate.stage.products c.loop-gate.stage.refreshes
          c.loop-gate-test.true c.loop-gate.invariant.columns c.loop-gate.invariant.width c.loop-gate.invariant.products c.loop-gate.invariant.refreshes
          c.in_ok-add_gate_columns.ensures;
      width = ap (λ s. s.width) c.after-stage.ensures ∙ c.loop-gate.invariant.width;
      equations = ap (λ s. s.equations) c.after-stage.ensures ∙ ap (λ (n : ℕ). n + 1) c.loop-gate.invariant.equations;
      products =
          ap (λ s. s.products) c.after-stage.ensures ∙ ap (λ (n : ℕ). n + products_of (g ∷ [])) c.loop-gate.invariant.products
          ∙ sym (products_of-more gs i (gate.Const 0) c.loop-gate-test.true);
      refreshes =
          ap (λ s. s.refreshes) c.after-stage.ensures ∙ ap (λ (n : ℕ). n + refreshes_of (g ∷ [])) c.loop-gate.invariant.refreshes
          ∙ sym (refreshes_of-more gs i (gate.Const 0) c.loop-gate-test.true);
    }
