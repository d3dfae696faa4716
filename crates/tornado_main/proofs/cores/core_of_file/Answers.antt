use Rattle.std.proofs.Common.{List, ℕ, IfErr, sym, subst}
use Rattle.usuba0.specs.Circuit.{Circuit}
use Rattle.tornado_main.specs.Ending.{Stops, Nowhere}
use Rattle.tornado_main.specs.Files.{IsFetched}
use Rattle.tornado_main.specs.Bases as bases
use Rattle.tornado_main.specs.Steps.{AfterCore}
use Rattle.tornado_main.specs.declared.status.Status.TheVariants.{Source}
use Rattle.tornado_main.proofs.EndingLemmas.{so_refused}
use Rattle.tornado_main.proofs.StepLemmas.{unread_stops, faults_stop}
use Rattle.tornado_main.proofs.cores.core_of_file.Goals as goal

pub returns-in_err-bytes-clause-refused : goal.returns-in_err-bytes-clause-refused
returns-in_err-bytes-clause-refused g c =
    so_refused {T = Circuit} (λ r. IfErr r (λ e. Stops (AfterCore (g.F.Files.contents c.args.files.now) c.args.name.now c.args.basis.now Nowhere) e)) c.in_err-bytes.field-0.0
    c.from_residual.result c.from_residual.ensures.1
    (unread_stops (g.F.Files.contents c.args.files.now) c.args.name.now Source (bases.Holds c.args.basis.now) (bases.IsFaulty c.args.basis.now) c.in_err-bytes.field-0.0 c.in_err-bytes.ensures.refused)

pub returns-clause-refused : goal.returns-clause-refused
returns-clause-refused g c =
    faults_stop (g.F.Files.contents c.args.files.now) c.args.name.now Source (bases.Holds c.args.basis.now) (bases.IsFaulty c.args.basis.now) c.as_slice.result.now
    (subst (λ (b : List ℕ). IsFetched (g.F.Files.contents c.args.files.now) c.args.name.now b) (sym c.as_slice.ensures) c.in_ok-bytes.ensures.bytes)
    c.core_of_bytes.result c.core_of_bytes.ensures.refused
