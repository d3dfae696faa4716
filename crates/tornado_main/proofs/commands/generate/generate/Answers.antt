use Rattle.std.proofs.Common.{ℕ, refl, subst}
use Rattle.source_gen.specs.Report.{report_text}
use Rattle.tornado_main.specs.Ending.{Shown}
use Rattle.tornado_main.specs.commands.Gen.{IsReport, GenEnds}
use Rattle.tornado_main.specs.declared.status.Status.{Status}
use Rattle.tornado_main.specs.declared.status.Status.TheVariants.{Done}
use Rattle.tornado_main.proofs.EndingLemmas.{so_refused, unsent_shows}
use Rattle.tornado_main.proofs.commands.generate.generate.Goals as goal

pub returns-in_err-send : goal.returns-in_err-send
returns-in_err-send g c =
    so_refused {T = Status} (λ r. Shown g.O.Sink.faults g.O.Sink.written (GenEnds c.args.seed c.args.size) c.args.out.now c.send.new.out r)
    c.in_err-send.field-0.0 c.from_residual-in_err-send.result c.from_residual-in_err-send.ensures.1
    (unsent_shows g.O.Sink.faults g.O.Sink.written (GenEnds c.args.seed c.args.size) _ _ (report_text c.in_ok-report.report) Done c.in_err-send.field-0.0
    (c.in_ok-report.report, subst (λ (n : ℕ). IsReport c.args.seed n c.in_ok-report.report) c.from.ensures c.in_ok-report.ensures, refl) c.in_err-send.ensures)
