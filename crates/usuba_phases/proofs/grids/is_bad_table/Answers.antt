use Rattle.std.proofs.Common.{◌∙◌, sym, ap, min, ◌^◌, ◌-◌, arith}
use Rattle.usuba_model.specs.Shapes.{all_elements}
use Rattle.usuba_phases.proofs.Counting.{table-large}
use Rattle.usuba_phases.proofs.grids.is_bad_table.Goals as goal

pub returns-then-is_too_large : goal.returns-then-is_too_large
returns-then-is_too_large c =
    table-large (all_elements c.args.grid.now.inputs) (all_elements c.args.grid.now.outputs)
    c.all_elements-inputs.result c.all_elements-outputs.result (2 ^ 64 - 1)
    c.args.grid.now.entries (omega arith)
    (c.all_elements-inputs.ensures ∙ ap (λ ds. min (all_elements ds) (2 ^ 64 - 1)) c.as_slice.ensures)
    (c.all_elements-outputs.ensures ∙ ap (λ ds. min (all_elements ds) (2 ^ 64 - 1)) c.as_slice-2.ensures)
    (sym c.if-is_too_large.true ∙ c.is_too_large.ensures)
