use Rattle.std.proofs.Common.{List, ℕ, IfErr, sym, subst}
use Rattle.data_text.specs.declared.read.RunValues.{RunValues}
use Rattle.tornado_main.specs.Ending.{Stops, Nowhere}
use Rattle.tornado_main.specs.Files.{IsFetched}
use Rattle.tornado_main.specs.Steps.{AfterFile}
use Rattle.tornado_main.specs.commands.Run.{SaysRun, IsFaultyRun}
use Rattle.tornado_main.specs.declared.status.Status.TheVariants.{Values}
use Rattle.tornado_main.proofs.EndingLemmas.{so_refused}
use Rattle.tornado_main.proofs.StepLemmas.{unread_stops, faults_stop}
use Rattle.tornado_main.proofs.commands.print_shares.run_values.Goals as goal

pub returns-in_err-bytes-clause-refused : goal.returns-in_err-bytes-clause-refused
returns-in_err-bytes-clause-refused g c =
    so_refused {T = RunValues}
    (λ r. IfErr r (λ e. Stops (AfterFile (g.F.Files.contents c.args.files.now) c.args.name.now Values (SaysRun c.args.file.now) (IsFaultyRun c.args.file.now) Nowhere) e))
    c.in_err-bytes.field-0.0 c.from_residual.result c.from_residual.ensures.1
    (unread_stops (g.F.Files.contents c.args.files.now) c.args.name.now Values (SaysRun c.args.file.now) (IsFaultyRun c.args.file.now) c.in_err-bytes.field-0.0
    c.in_err-bytes.ensures.refused)

pub returns-clause-refused : goal.returns-clause-refused
returns-clause-refused g c =
    faults_stop (g.F.Files.contents c.args.files.now) c.args.name.now Values (SaysRun c.args.file.now) (IsFaultyRun c.args.file.now) c.as_slice.result.now
    (subst (λ (b : List ℕ). IsFetched (g.F.Files.contents c.args.files.now) c.args.name.now b) (sym c.as_slice.ensures) c.in_ok-bytes.ensures.bytes)
    c.values_of_bytes.result c.values_of_bytes.ensures.refused
