use Rattle.std.proofs.Common.{[], ◌∷◌, refl}
use Rattle.tornado_main.specs.commands.Run.{RunsTo, outputs_text}
use Rattle.tornado_main.specs.declared.status.Status.TheVariants.{Done}
use Rattle.tornado_main.proofs.EndingLemmas.{stopped, stopped_inside, answered, unsent, then_fetched}
use Rattle.tornado_main.proofs.StepLemmas.{stops_anyway}
use Rattle.tornado_main.proofs.RunCLemmas.{run_reads, run_stops, run_stops_last, run_may}
use Rattle.tornado_main.proofs.commands.print_shares.print_shares.Goals as goal

pub returns-in_err-file : goal.returns-in_err-file
returns-in_err-file g c =
    stopped (c.args.values.now ∷ []) c.in_err-file.field-0.0 c.from_residual.ensures.1 refl c.in_err-file.ensures.fetched
    (stops_anyway _ _ _ _ _ _ _ c.in_err-file.ensures.refused)

pub returns-in_err-said : goal.returns-in_err-said
returns-in_err-said g c =
    stopped [] c.in_err-said.field-0.0 c.from_residual-in_err-said.ensures.1 refl (then_fetched c.in_ok-file.ensures.fetched c.in_err-said.ensures.fetched)
    (run_stops _ _ c.in_ok-file.ensures.fetched.contents_stay c.args.cfile.now c.args.values.now c.in_ok-file.file c.in_ok-file.ensures.file _
    c.in_err-said.ensures.refused)

pub returns-in_err-shares : goal.returns-in_err-shares
returns-in_err-shares g c =
    stopped_inside (RunsTo c.args.cfile.now c.args.values.now c.in_ok-file.file c.in_ok-said.said)
    (run_reads c.args.cfile.now c.args.values.now c.in_ok-file.file c.in_ok-said.said) c.in_err-shares.field-0.0
    c.from_residual-in_err-shares.ensures.1 (then_fetched c.in_ok-file.ensures.fetched c.in_ok-said.ensures.fetched) c.in_err-shares.ensures.refused
    (run_stops_last _ _ c.in_ok-file.ensures.fetched.contents_stay c.args.cfile.now c.args.values.now c.in_ok-file.file c.in_ok-file.ensures.file
    c.in_ok-said.said c.in_ok-said.ensures.said _ c.in_err-shares.ensures.refused)

pub returns-in_err-send : goal.returns-in_err-send
returns-in_err-send g c =
    unsent (outputs_text c.in_ok-shares.shares.shares c.in_ok-shares.shares.outputs c.in_ok-shares.shares.words) Done c.in_err-send.field-0.0
    c.from_residual-in_err-send.ensures.1 (then_fetched c.in_ok-file.ensures.fetched c.in_ok-said.ensures.fetched)
    (run_may _ _ c.in_ok-file.ensures.fetched.contents_stay c.args.cfile.now c.args.values.now c.in_ok-file.file c.in_ok-file.ensures.file
    c.in_ok-said.said c.in_ok-said.ensures.said _ c.in_ok-shares.ensures.shares)
    c.in_err-send.ensures

pub returns : goal.returns
returns g c =
    answered (outputs_text c.in_ok-shares.shares.shares c.in_ok-shares.shares.outputs c.in_ok-shares.shares.words) Done
    (then_fetched c.in_ok-file.ensures.fetched c.in_ok-said.ensures.fetched)
    (run_may _ _ c.in_ok-file.ensures.fetched.contents_stay c.args.cfile.now c.args.values.now c.in_ok-file.file c.in_ok-file.ensures.file
    c.in_ok-said.said c.in_ok-said.ensures.said _ c.in_ok-shares.ensures.shares)
    c.in_ok-send.ensures
