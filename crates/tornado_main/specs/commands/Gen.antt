-- `gen SEED SIZE`
use Rattle.std.specs.Prelude.{◌≡◌, ℕ, MatchBool, None, length}
use Rattle.span_model.specs.Attack.{HasAttack}
use Rattle.usuba0.specs.Circuit.{Circuit}
use Rattle.linear_view.specs.Names.{core_columns}
use Rattle.linear_view.specs.Rows.{core_products}
use Rattle.source_gen.specs.Report.{report_text}
use Rattle.source_gen.specs.Source.{generated_source}
use Rattle.source_gen.specs.declared.report.Report.{Report}
use Rattle.tornado_main.specs.Outcome.{Outcome, answers}
use Rattle.tornado_main.specs.Source.{IsSource}
use Rattle.tornado_main.specs.declared.status.Status.TheVariants as status

-- the report on the generated source: how many equations and columns its core has, and whether this has no attack
pub record IsReport (seed size : ℕ) (report : Report) : Type 0 where
  pub core : Circuit
  pub generated : IsSource None None core (generated_source seed size)
  pub seed_is : report.seed ≡ seed
  pub size_is : report.size ≡ size
  pub equations_are : report.equations ≡ length core.equations
  pub columns_are : report.columns ≡ length (core_columns core)
  pub verdict : MatchBool report.secure (¬ HasAttack (core_products core)) (HasAttack (core_products core))

-- it prints the report
abbrev pub GenEnds : (seed size : ℕ) → Outcome → Type 0
GenEnds seed size end = (report : Report) × IsReport seed size report × (end ≡ answers (report_text report) status.Done)
