use Rattle.std.proofs.Common.{◌≡◌, ◌||◌, ◌∙◌, ap, sym, arith}
use Rattle.std.specs.List.{list_any}
use Rattle.usuba_model.specs.Shapes.{product}
use Rattle.usuba_model.specs.Cells.{meets_too_big, pick_outside}
use Rattle.usuba_cells.specs.State.Brackets.{brackets, picked_numbers}
use Rattle.usuba_cells.proofs.PlaceLemmas.{none-divided, none-out, none-empty, none-appended}
use Rattle.usuba_cells.proofs.variables.read_variable.Goals as goal
use Rattle.usuba_cells.proofs.variables.read_variable.Goals.{then-read-via-then-read, then-read-via-else-read+then-read-2, then-read-via-else-read+else-read-2+then-product-eq0}

pub returns-then-read-clause-cells : goal.returns-then-read-clause-cells
returns-then-read-clause-cells c =
    let sizes = c.args.variable.now.sizes in
    let all = brackets c.args.counters.now c.args.picks.now in
    let out : c.read_brackets-read.result.index_out ≡ (list_any meets_too_big all || pick_outside sizes all) =
    c.read_brackets-read.ensures.out ∙ ap (λ l. list_any meets_too_big all || pick_outside l all) c.as_slice-sizes.ensures in
    none-appended c.args.variable.now.first (picked_numbers sizes all) c.args.cells.now.items
    (elim c.then-read.branch [
      | then-read-via-then-read w ↦ none-divided sizes all (sym c.read_brackets-read.ensures.divided ∙ w.if-read.true)
      | then-read-via-else-read+then-read-2 w ↦ none-out sizes all (sym out ∙ w.if-read-2.true)
      | then-read-via-else-read+else-read-2+then-product-eq0 w ↦
          none-empty sizes all (omega (arith, w.product.ensures, w.if-product-eq0.true, ap product c.as_slice-sizes.ensures)) (sym out ∙ w.if-read-2.false)
    ])
