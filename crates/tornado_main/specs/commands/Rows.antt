-- `rows FILE`
use Rattle.std.specs.Prelude.{◌≡◌, ℕ, List}
use Rattle.linear_view.specs.Rows.{core_view}
use Rattle.linear_view.specs.RowsText.{rows_text}
use Rattle.tornado_words.specs.declared.order.Basis.{Basis}
use Rattle.tornado_main.specs.Files.{Contents}
use Rattle.tornado_main.specs.Outcome.{Outcome, answers}
use Rattle.tornado_main.specs.Steps.{AfterCore}
use Rattle.tornado_main.specs.declared.status.Status.TheVariants as status

-- it prints the rows of the operands of the core's products
abbrev pub RowsEnds : Contents → (file : List ℕ) → Basis → Outcome → Type 0
RowsEnds contents file basis = AfterCore contents file basis
    (λ core end. end ≡ answers (rows_text (core_view core)) status.Done)
