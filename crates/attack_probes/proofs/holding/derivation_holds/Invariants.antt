use Rattle.std.proofs.Common.{ℕ, ◌<◌, get_or}
use Rattle.span_model.specs.Columns.{set_of}
use Rattle.linear_view.specs.View.{products_of}
use Rattle.attack_model.specs.declared.attack.Step.{Step}
use Rattle.attack_probes.specs.Derivations.{IsDerived}
use Rattle.attack_probes.proofs.holding.derivation_holds.Given as goal

abbrev pub invariant-loop-step : goal.invariant-loop-step
invariant-loop-step l =
    (k : ℕ) (d : Step) → k < l.step-index → IsDerived (products_of l.view) (set_of l.leak) l.steps (get_or l.steps k d)
