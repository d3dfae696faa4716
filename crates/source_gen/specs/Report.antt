-- What is told of a generated source that was judged.
use Rattle.std.specs.Prelude.{ℕ, Bool, List, ◌++◌, if◌then◌else◌, codes, decimal}
use Rattle.source_gen.specs.declared.report.Report.{Report}

-- the word of a verdict
abbrev pub verdict_text : Bool → List ℕ
verdict_text secure = if secure then codes "secure" else codes "attack"

-- the seed, the size, how many equations and columns the core has, and the verdict, a line each
abbrev pub report_text : Report → List ℕ
report_text report =
    codes "seed " ++ decimal report.seed ++ codes "\nsize " ++ decimal report.size
    ++ codes "\nequations " ++ decimal report.equations
    ++ codes "\ncolumns " ++ decimal report.columns ++ codes "\nverdict " ++ verdict_text report.secure ++ codes "\n"
