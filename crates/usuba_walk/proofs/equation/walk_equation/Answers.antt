use Rattle.std.proofs.Common.{length, refl, ap, ◌∙◌}
use Rattle.usuba_cells.specs.Counters.{around}
use Rattle.usuba_model.specs.Unrolled.{targets_of, target_cells}
use Rattle.usuba_walk.proofs.Taking.{if_ok, if_fault, passed_on}
use Rattle.usuba_walk.proofs.Equations.{equation-takes, begun-fault, right-fault, end-fault, begun-takes, lefts-as}
use Rattle.usuba_walk.proofs.equation.walk_equation.Goals as goal

pub returns-in_err-left-clause-stops : goal.returns-in_err-left-clause-stops
returns-in_err-left-clause-stops c =
    passed_on c.from_residual-in_err-left.result c.walk_left.result _ c.from_residual-in_err-left.ensures.1 c.in_err-left.was
    (λ f known. begun-fault c.args.scope.now.width c.args.scope.now.definitions.now c.args.scope.now.variables (around c.args.counters.now) c.args.equation.now c.args.progress.now.count c.in_ok-progress.field-0 c.first_name.result c.as_slice.result.now f c.first_name.ensures
    c.in_ok-progress.ensures.clean c.in_ok-progress.ensures.added c.as_slice.ensures known) c.walk_left.ensures.stops

pub returns-in_err-right-clause-stops : goal.returns-in_err-right-clause-stops
returns-in_err-right-clause-stops c =
    passed_on c.from_residual-in_err-right.result c.walk.result _ c.from_residual-in_err-right.ensures.1 c.in_err-right.was
    (λ f known. right-fault c.args.scope.now.width c.args.scope.now.definitions.now c.args.scope.now.variables (around c.args.counters.now) c.args.equation.now c.args.progress.now _ c.walk_left.new.progress _ f (begun-takes c.args.scope.now.width c.args.scope.now.definitions.now c.args.scope.now.variables (around c.args.counters.now) c.args.equation.now c.args.progress.now _ c.first_name.result c.first_name.ensures c.in_ok-progress.ensures.clean c.in_ok-progress.ensures.added refl) (lefts-as c.args.scope.now.width c.args.scope.now.definitions.now c.args.scope.now.variables (around c.args.counters.now) c.args.equation.now _ c.walk_left.new.progress c.as_slice.result.now c.in_ok-left.ensures.takes c.as_slice.ensures) known) c.walk.ensures.stops

pub returns-clause-takes : goal.returns-clause-takes
returns-clause-takes c =
    if_ok c.end_equation.result (λ _ takes. equation-takes c.args.scope.now.width c.args.scope.now.definitions.now c.args.scope.now.variables (around c.args.counters.now) c.args.equation.now c.args.progress.now _ c.walk_left.new.progress c.walk.new.progress c.end_equation.new.progress c.in_ok-left.left c.in_ok-right.right
    (begun-takes c.args.scope.now.width c.args.scope.now.definitions.now c.args.scope.now.variables (around c.args.counters.now) c.args.equation.now c.args.progress.now _ c.first_name.result c.first_name.ensures c.in_ok-progress.ensures.clean c.in_ok-progress.ensures.added refl) (lefts-as c.args.scope.now.width c.args.scope.now.definitions.now c.args.scope.now.variables (around c.args.counters.now) c.args.equation.now _ c.walk_left.new.progress c.as_slice.result.now c.in_ok-left.ensures.takes c.as_slice.ensures) (c.in_ok-left.ensures.size ∙ ap (λ l. length (target_cells (targets_of c.args.scope.now.variables (around c.args.counters.now) l))) c.as_slice.ensures) c.in_ok-right.ensures.walked takes) c.end_equation.ensures.takes

pub returns-clause-stops : goal.returns-clause-stops
returns-clause-stops c =
    if_fault c.end_equation.result (λ f known. end-fault c.args.scope.now.width c.args.scope.now.definitions.now c.args.scope.now.variables (around c.args.counters.now) c.args.equation.now c.args.progress.now _ c.walk_left.new.progress c.walk.new.progress _ c.in_ok-left.left c.in_ok-right.right f
    (begun-takes c.args.scope.now.width c.args.scope.now.definitions.now c.args.scope.now.variables (around c.args.counters.now) c.args.equation.now c.args.progress.now _ c.first_name.result c.first_name.ensures c.in_ok-progress.ensures.clean c.in_ok-progress.ensures.added refl) (lefts-as c.args.scope.now.width c.args.scope.now.definitions.now c.args.scope.now.variables (around c.args.counters.now) c.args.equation.now _ c.walk_left.new.progress c.as_slice.result.now c.in_ok-left.ensures.takes c.as_slice.ensures) (c.in_ok-left.ensures.size ∙ ap (λ l. length (target_cells (targets_of c.args.scope.now.variables (around c.args.counters.now) l))) c.as_slice.ensures) c.in_ok-right.ensures.walked known) c.end_equation.ensures.stops
