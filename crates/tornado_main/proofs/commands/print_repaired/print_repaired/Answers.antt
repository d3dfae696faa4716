use Rattle.std.proofs.Common.{[], refl}
use Rattle.usuba0.specs.CoreText.{core_text}
use Rattle.tornado_main.specs.declared.status.Status.TheVariants.{Done}
use Rattle.tornado_main.proofs.EndingLemmas.{stopped, no_memory, answered, unsent}
use Rattle.tornado_main.proofs.StepLemmas.{stops_anyway, goes_on_with}
use Rattle.tornado_main.proofs.commands.print_repaired.print_repaired.Goals as goal

pub returns-in_err-core : goal.returns-in_err-core
returns-in_err-core g c =
    stopped [] c.in_err-core.field-0.0 c.from_residual.ensures.1 refl c.in_err-core.ensures.fetched (stops_anyway _ _ _ _ _ _ _ c.in_err-core.ensures.refused)

pub returns-in_err-repaired : goal.returns-in_err-repaired
returns-in_err-repaired g c = no_memory [] c.from_residual-in_err-repaired.ensures.1 refl c.in_ok-core.ensures.fetched

pub returns-in_err-send : goal.returns-in_err-send
returns-in_err-send g c =
    unsent (core_text c.in_ok-repaired.repaired.core) Done c.in_err-send.field-0.0 c.from_residual-in_err-send.ensures.1 c.in_ok-core.ensures.fetched
    (goes_on_with _ _ _ _ _ _ c.in_ok-core.core _ c.in_ok-core.ensures.core (c.in_ok-repaired.repaired.core, c.in_ok-repaired.repaired.set, c.in_ok-repaired.ensures, refl))
    c.in_err-send.ensures

pub returns : goal.returns
returns g c =
    answered (core_text c.in_ok-repaired.repaired.core) Done c.in_ok-core.ensures.fetched
    (goes_on_with _ _ _ _ _ _ c.in_ok-core.core _ c.in_ok-core.ensures.core (c.in_ok-repaired.repaired.core, c.in_ok-repaired.repaired.set, c.in_ok-repaired.ensures, refl))
    c.in_ok-send.ensures
