use Rattle.std.proofs.Common.{[], refl, ap}
use Rattle.linear_view.specs.View.{LinearView}
use Rattle.linear_view.specs.RowsText.{rows_text}
use Rattle.tornado_main.specs.Outcome.{answers}
use Rattle.tornado_main.specs.declared.status.Status.TheVariants.{Done}
use Rattle.tornado_main.proofs.EndingLemmas.{stopped, no_memory, answered, unsent}
use Rattle.tornado_main.proofs.StepLemmas.{stops_anyway, goes_on_with}
use Rattle.tornado_main.proofs.commands.print_rows.print_rows.Goals as goal

pub returns-in_err-core : goal.returns-in_err-core
returns-in_err-core g c =
    stopped [] c.in_err-core.field-0.0 c.from_residual.ensures.1 refl c.in_err-core.ensures.fetched (stops_anyway _ _ _ _ _ _ _ c.in_err-core.ensures.refused)

pub returns-in_err-view : goal.returns-in_err-view
returns-in_err-view g c = no_memory [] c.from_residual-in_err-view.ensures.1 refl c.in_ok-core.ensures.fetched

pub returns-in_err-send : goal.returns-in_err-send
returns-in_err-send g c =
    unsent (rows_text c.in_ok-view.view) Done c.in_err-send.field-0.0 c.from_residual-in_err-send.ensures.1 c.in_ok-core.ensures.fetched
    (goes_on_with _ _ _ _ _ _ c.in_ok-core.core _ c.in_ok-core.ensures.core (ap (λ (v : LinearView). answers (rows_text v) Done) c.in_ok-view.ensures)) c.in_err-send.ensures

pub returns : goal.returns
returns g c =
    answered (rows_text c.in_ok-view.view) Done c.in_ok-core.ensures.fetched
    (goes_on_with _ _ _ _ _ _ c.in_ok-core.core _ c.in_ok-core.ensures.core (ap (λ (v : LinearView). answers (rows_text v) Done) c.in_ok-view.ensures)) c.in_ok-send.ensures
