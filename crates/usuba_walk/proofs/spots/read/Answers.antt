use Rattle.std.proofs.Common.{◌≡◌, length, refl, ap, ◌∙◌, arith, rules}
use Rattle.usuba_walk.specs.State.Progress.{with_code, cell_code}
use Rattle.usuba_walk.specs.State.Scopes.{read_in}
use Rattle.usuba_walk.proofs.Expressions.{read-makes}
use Rattle.usuba_walk.proofs.spots.read.Goals as goal

pub returns-clause-makes : goal.returns-clause-makes
returns-clause-makes c =
    let after = c.read_cells.new.progress in
    let size : c.len.result ≡ length after.cells.items = first_of (grind (arith, c.len.ensures, c.as_slice.ensures.len, c.as_slice.ensures.value), search rules) in
    read-makes c.args.scope.now.variables c.args.progress.now after _ c.len.result _ after.cells.items
    (read_in c.args.scope.now c.args.counters.now c.args.spot.now).cells c.in_ok-read_cells.ensures.takes c.in_ok-read_cells.ensures.cells refl
    (c.in_ok-push_reads.ensures ∙ ap (λ numbers. with_code after.table (cell_code numbers)) c.as_slice.ensures.value) size refl
