use Rattle.std.proofs.Common.{◌≡◌, ◌++◌, take}
use Rattle.usuba0.specs.Circuit.{products_of, refreshes_of}
use Rattle.linear_view.specs.Names.{input_columns, equation_columns}
use Rattle.linear_view.proofs.names.columns_of.Given as goal

abbrev pub invariant-loop-gate : goal.invariant-loop-gate
invariant-loop-gate l =
    record {
      columns : l.columns.keys ≡ input_columns l.width l.inputs ++ equation_columns l.width 0 0 (take l.gate-index l.gates);
      width : l.stage.width ≡ l.width;
      equations : l.stage.equations ≡ l.gate-index;
      products : l.stage.products ≡ products_of (take l.gate-index l.gates);
      refreshes : l.stage.refreshes ≡ refreshes_of (take l.gate-index l.gates);
    }
