use Rattle.std.proofs.Common.{[], refl, codes}
use Rattle.attack_text.specs.AttackText.{attack_text_among}
use Rattle.tornado_main.specs.commands.Check.{secure}
use Rattle.tornado_main.specs.declared.status.Status.TheVariants.{Done, Found}
use Rattle.tornado_main.proofs.EndingLemmas.{stopped, no_memory, answered, unsent}
use Rattle.tornado_main.proofs.StepLemmas.{stops_anyway, goes_on_with}
use Rattle.tornado_main.proofs.VerdictLemmas.{found_verdict, none_case, some_case}
use Rattle.tornado_main.proofs.commands.check.check.Goals as goal

pub returns-in_err-core : goal.returns-in_err-core
returns-in_err-core g c =
    stopped [] c.in_err-core.field-0.0 c.from_residual.ensures.1 refl c.in_err-core.ensures.fetched (stops_anyway _ _ _ _ _ _ _ c.in_err-core.ensures.refused)

pub attack_on-requires-clause-core : goal.attack_on-requires-clause-core
attack_on-requires-clause-core g c = rw (← c.core.view_is) c.core.invariant.core

pub returns-in_err-attack_on : goal.returns-in_err-attack_on
returns-in_err-attack_on g c = no_memory [] c.from_residual-in_err-attack_on.ensures.1 refl c.in_ok-core.ensures.fetched

pub returns-in_err-send-in-None : goal.returns-in_err-send-in-None
returns-in_err-send-in-None g c =
    unsent (codes "secure\n") Done c.in_err-send-in-None.field-0.0 c.from_residual-in_err-send-in-None.ensures.1 c.in_ok-core.ensures.fetched
    (goes_on_with _ _ _ _ _ _ c.in_ok-core.core _ c.in_ok-core.ensures.core (secure (none_case _ _ _ _ c.in-None.is c.in_ok-attack_on.ensures))) c.in_err-send-in-None.ensures

pub returns-in-None : goal.returns-in-None
returns-in-None g c =
    answered (codes "secure\n") Done c.in_ok-core.ensures.fetched
    (goes_on_with _ _ _ _ _ _ c.in_ok-core.core _ c.in_ok-core.ensures.core (secure (none_case _ _ _ _ c.in-None.is c.in_ok-attack_on.ensures))) c.in_ok-send-in-None.ensures

pub returns-in_err-send-in-Some : goal.returns-in_err-send-in-Some
returns-in_err-send-in-Some g c =
    let finding = some_case _ _ _ _ c.in-Some.found c.in-Some.is c.in_ok-attack_on.ensures in
    unsent (attack_text_among c.in-Some.found.columns c.in-Some.found.view c.in-Some.found.attack) Found c.in_err-send-in-Some.field-0.0 c.from_residual-in_err-send-in-Some.ensures.1
    c.in_ok-core.ensures.fetched
    (goes_on_with _ _ _ _ _ _ c.in_ok-core.core _ c.in_ok-core.ensures.core (found_verdict c.in_ok-core.core _ finding))
    c.in_err-send-in-Some.ensures

pub returns : goal.returns
returns g c =
    let finding = some_case _ _ _ _ c.in-Some.found c.in-Some.is c.in_ok-attack_on.ensures in
    answered (attack_text_among c.in-Some.found.columns c.in-Some.found.view c.in-Some.found.attack) Found c.in_ok-core.ensures.fetched
    (goes_on_with _ _ _ _ _ _ c.in_ok-core.core _ c.in_ok-core.ensures.core (found_verdict c.in_ok-core.core _ finding))
    c.in_ok-send-in-Some.ensures
