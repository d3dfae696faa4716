use Rattle.std.proofs.Common.{List, ℕ, ◌++◌, ap, ◌∙◌, codes, decimal}
use Rattle.tor_edge.proofs.Writing.{Wrote-is}
use Rattle.source_gen.proofs.Texts.{report_pieces}
use Rattle.source_gen.proofs.report.write_report.Goals as goal

pub returns : goal.returns
returns g c =
    let seed = decimal c.args.report.seed in
    let size = decimal c.args.report.size in
    let equations = decimal c.args.report.equations in
    let columns = decimal c.args.report.columns in
    Wrote-is
    (report_pieces (codes "seed ") seed (codes "\nsize ") size (codes "\nequations ") equations (codes "\ncolumns ")
    columns (codes "\nverdict ")
    c.verdict.result.now (codes "\n")
    ∙ ap (λ (t : List ℕ). codes "seed " ++ seed ++ codes "\nsize " ++ size ++ codes "\nequations " ++ equations
    ++ codes "\ncolumns " ++ columns ++ codes "\nverdict " ++ t ++ codes "\n") c.verdict.ensures)
    c.put_pieces.ensures
