use Rattle.std.proofs.Common.{◌≡◌, Err, refl, ◌∙◌, ap}
use Rattle.c_machine.specs.Run.{machine_run}
use Rattle.c_machine.specs.declared.stop.RunFault.TheVariants as run_fault
use Rattle.tornado_main.specs.commands.Run.{RunsTo, done, index_out, bad_shift, words_short}
use Rattle.tornado_main.specs.declared.status.Status.TheVariants.{Values}
use Rattle.tornado_main.proofs.RunCLemmas.{run_met, run_told, stops_at}
use Rattle.tornado_main.proofs.commands.print_shares.run_on.Goals as goal

pub returns-in-Ok-clause-shares : goal.returns-in-Ok-clause-shares
returns-in-Ok-clause-shares c =
    done c.in-Ok.words
    (run_told c.args.said.now.shares c.args.file.now _ _ _ _ _ c.as_slice.ensures c.as_slice-2.ensures c.in-Ok.ensures.answer)

pub returns-in-Err-IndexOut-clause-refused : goal.returns-in-Err-IndexOut-clause-refused
returns-in-Err-IndexOut-clause-refused c =
    stops_at (RunsTo c.args.cfile.now c.args.values.now c.args.file.now c.args.said.now) Values _ _ c.faulty_call.ensures
    (index_out c.in-Err-IndexOut.call
    (run_told c.args.said.now.shares c.args.file.now _ _ _ _ _ c.as_slice.ensures c.as_slice-2.ensures
    (run_met (machine_run c.args.said.now.shares c.args.file.now c.as_slice.result.now c.as_slice-2.result.now) c.run_c.result
    (run_fault.IndexOut c.in-Err-IndexOut.call) (c.in-Err-IndexOut.is ∙ ap Err c.in-Err-IndexOut.field-0-is) c.run_c.ensures.refused)))

pub returns-in-Err-BadShift-clause-refused : goal.returns-in-Err-BadShift-clause-refused
returns-in-Err-BadShift-clause-refused c =
    stops_at (RunsTo c.args.cfile.now c.args.values.now c.args.file.now c.args.said.now) Values _ _ c.faulty_call-in-Err-BadShift.ensures
    (bad_shift c.in-Err-BadShift.call
    (run_told c.args.said.now.shares c.args.file.now _ _ _ _ _ c.as_slice.ensures c.as_slice-2.ensures
    (run_met (machine_run c.args.said.now.shares c.args.file.now c.as_slice.result.now c.as_slice-2.result.now) c.run_c.result
    (run_fault.BadShift c.in-Err-BadShift.call) (c.in-Err-BadShift.is ∙ ap Err c.in-Err-BadShift.field-0-is) c.run_c.ensures.refused)))

pub returns-in-Err-WordsShort-clause-refused : goal.returns-in-Err-WordsShort-clause-refused
returns-in-Err-WordsShort-clause-refused c =
    stops_at (RunsTo c.args.cfile.now c.args.values.now c.args.file.now c.args.said.now) Values _ _ c.faulty_file.ensures
    (words_short
    (run_told c.args.said.now.shares c.args.file.now _ _ _ _ _ c.as_slice.ensures c.as_slice-2.ensures
    (run_met (machine_run c.args.said.now.shares c.args.file.now c.as_slice.result.now c.as_slice-2.result.now) c.run_c.result
    run_fault.WordsShort (c.in-Err-WordsShort.is ∙ ap Err c.in-Err-WordsShort.field-0-is) c.run_c.ensures.refused)))
