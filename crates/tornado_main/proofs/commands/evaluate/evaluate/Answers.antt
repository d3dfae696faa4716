use Rattle.std.proofs.Common.{[], ◌∷◌, refl, ◌∙◌, ap}
use Rattle.data_text.specs.Writing.{values_text}
use Rattle.usuba0.specs.PlainRun.{plain_run}
use Rattle.usuba0.specs.Term.{bits_of_width}
use Rattle.tornado_main.specs.commands.Eval.{AreOutputs}
use Rattle.tornado_main.specs.declared.status.Status.TheVariants.{Done}
use Rattle.tornado_main.proofs.EndingLemmas.{stopped, answered, unsent, then_fetched}
use Rattle.tornado_main.proofs.EvalLemmas.{run_gives_outputs, eval_stops_first, eval_stops, eval_may}
use Rattle.tornado_main.proofs.commands.evaluate.evaluate.Goals as goal

pub returns-in_err-core : goal.returns-in_err-core
returns-in_err-core g c =
    stopped (c.args.values.now ∷ []) c.in_err-core.field-0.0 c.from_residual.ensures.1 refl c.in_err-core.ensures.fetched
    (eval_stops_first _ _ _ _ _ c.in_err-core.ensures.refused)

pub returns-in_err-inputs : goal.returns-in_err-inputs
returns-in_err-inputs g c =
    stopped [] c.in_err-inputs.field-0.0 c.from_residual-in_err-inputs.ensures.1 refl (then_fetched c.in_ok-core.ensures.fetched c.in_err-inputs.ensures.fetched)
    (eval_stops _ _ c.in_ok-core.ensures.fetched.contents_stay c.args.file.now c.args.values.now c.args.basis.now c.in_ok-core.core c.in_ok-core.ensures.core _
    c.in_err-inputs.ensures.refused)

pub returns-in_err-send : goal.returns-in_err-send
returns-in_err-send g c =
    let core = c.in_ok-core.core in
    let source = c.in_ok-core.ensures.core in
    let are : AreOutputs c.args.basis.now (record { core = core; bytes = source.0 }) c.in_ok-inputs.inputs c.in_ok-run_plain.field-0 =
    run_gives_outputs c.judged_takes_and_gives.ensures c.meanings_agree.ensures c.args.basis.now c.requires core source.0 source.2 c.in_ok-inputs.inputs
    c.in_ok-inputs.ensures.count c.in_ok-inputs.ensures.words c.in_ok-run_plain.field-0
    (c.in_ok-run_plain.ensures ∙ ap (plain_run (bits_of_width core.width) core) c.as_slice.ensures) in
    unsent (values_text c.in_ok-run_plain.field-0) Done c.in_err-send.field-0.0 c.from_residual-in_err-send.ensures.1
    (then_fetched c.in_ok-core.ensures.fetched c.in_ok-inputs.ensures.fetched)
    (eval_may _ _ c.in_ok-core.ensures.fetched.contents_stay c.args.file.now c.args.values.now c.args.basis.now core source c.in_ok-inputs.inputs
    c.in_ok-inputs.ensures.inputs c.in_ok-run_plain.field-0 are)
    c.in_err-send.ensures

pub returns : goal.returns
returns g c =
    let core = c.in_ok-core.core in
    let source = c.in_ok-core.ensures.core in
    let are : AreOutputs c.args.basis.now (record { core = core; bytes = source.0 }) c.in_ok-inputs.inputs c.in_ok-run_plain.field-0 =
    run_gives_outputs c.judged_takes_and_gives.ensures c.meanings_agree.ensures c.args.basis.now c.requires core source.0 source.2 c.in_ok-inputs.inputs
    c.in_ok-inputs.ensures.count c.in_ok-inputs.ensures.words c.in_ok-run_plain.field-0
    (c.in_ok-run_plain.ensures ∙ ap (plain_run (bits_of_width core.width) core) c.as_slice.ensures) in
    answered (values_text c.in_ok-run_plain.field-0) Done (then_fetched c.in_ok-core.ensures.fetched c.in_ok-inputs.ensures.fetched)
    (eval_may _ _ c.in_ok-core.ensures.fetched.contents_stay c.args.file.now c.args.values.now c.args.basis.now core source c.in_ok-inputs.inputs
    c.in_ok-inputs.ensures.inputs c.in_ok-run_plain.field-0 are)
    c.in_ok-send.ensures
