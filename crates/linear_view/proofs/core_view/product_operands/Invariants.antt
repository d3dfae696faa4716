use Rattle.std.proofs.Common.{◌≡◌, map, flat_map, take}
use Rattle.linear_view.specs.Rows.{operands_over, gate_product}
use Rattle.linear_view.proofs.CoreLemmas.{all_rows, IsUnderWay}
use Rattle.linear_view.proofs.core_view.product_operands.Given as goal

abbrev pub invariant-loop-gate : goal.invariant-loop-gate
invariant-loop-gate l =
    record {
      under_way : IsUnderWay l.columns.keys l.width l.inputs l.gates l.gate-index l.stage l.last_reads l.registers.items;
      products : l.products.items ≡ map (operands_over l.columns.keys) (flat_map (gate_product (all_rows l.width l.inputs l.gates)) (take l.gate-index l.gates));
    }
