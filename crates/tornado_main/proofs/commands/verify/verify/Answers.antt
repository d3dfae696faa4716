use Rattle.std.proofs.Common.{[], ◌∷◌, refl}
use Rattle.usuba0.specs.Circuit.{IsCore}
use Rattle.tornado_main.proofs.EndingLemmas.{stopped, no_memory, answered, unsent, then_fetched}
use Rattle.tornado_main.proofs.StepLemmas.{stops_anyway}
use Rattle.tornado_main.proofs.VerdictLemmas.{verify_stops, verify_may}
use Rattle.tornado_main.proofs.commands.verify.verify.Goals as goal

pub returns-in_err-core : goal.returns-in_err-core
returns-in_err-core g c =
    stopped (c.args.attack.now ∷ []) c.in_err-core.field-0.0 c.from_residual.ensures.1 refl c.in_err-core.ensures.fetched
    (stops_anyway _ _ _ _ _ _ _ c.in_err-core.ensures.refused)

pub returns-in_err-view : goal.returns-in_err-view
returns-in_err-view g c = no_memory (c.args.attack.now ∷ []) c.from_residual-in_err-view.ensures.1 refl c.in_ok-core.ensures.fetched

pub returns-in_err-attack : goal.returns-in_err-attack
returns-in_err-attack g c =
    stopped [] c.in_err-attack.field-0.0 c.from_residual-in_err-attack.ensures.1 refl (then_fetched c.in_ok-core.ensures.fetched c.in_err-attack.ensures.fetched)
    (verify_stops _ _ c.in_ok-core.ensures.fetched.contents_stay c.args.file.now c.args.attack.now c.args.basis.now c.in_ok-core.core c.in_ok-view.view c.in_ok-view.ensures
    c.in_ok-core.ensures.core _ c.in_err-attack.ensures.refused)

pub returns-in_err-line : goal.returns-in_err-line
returns-in_err-line g c =
    no_memory [] c.from_residual-in_err-line.ensures.1 refl (then_fetched c.in_ok-core.ensures.fetched c.in_ok-attack.ensures.fetched)

pub returns-in_err-send : goal.returns-in_err-send
returns-in_err-send g c =
    let is_core : IsCore c.in_ok-core.core = rw (← c.core.view_is) c.core.invariant.core in
    unsent c.in_ok-line.line.0.now c.in_ok-line.status c.in_err-send.field-0.0 c.from_residual-in_err-send.ensures.1
    (then_fetched c.in_ok-core.ensures.fetched c.in_ok-attack.ensures.fetched)
    (verify_may _ _ c.in_ok-core.ensures.fetched.contents_stay c.args.file.now c.args.attack.now c.args.basis.now c.in_ok-core.core c.in_ok-view.view c.in_ok-view.ensures
    c.in_ok-core.ensures.core c.in_ok-attack.attack c.in_ok-attack.ensures.attack _ (c.in_ok-line.ensures c.in_ok-core.core is_core c.in_ok-view.ensures))
    c.in_err-send.ensures

pub returns : goal.returns
returns g c =
    let is_core : IsCore c.in_ok-core.core = rw (← c.core.view_is) c.core.invariant.core in
    answered c.in_ok-line.line.0.now c.in_ok-line.status (then_fetched c.in_ok-core.ensures.fetched c.in_ok-attack.ensures.fetched)
    (verify_may _ _ c.in_ok-core.ensures.fetched.contents_stay c.args.file.now c.args.attack.now c.args.basis.now c.in_ok-core.core c.in_ok-view.view c.in_ok-view.ensures
    c.in_ok-core.ensures.core c.in_ok-attack.attack c.in_ok-attack.ensures.attack _ (c.in_ok-line.ensures c.in_ok-core.core is_core c.in_ok-view.ensures))
    c.in_ok-send.ensures
