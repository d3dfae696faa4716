-- `core FILE`
use Rattle.std.specs.Prelude.{◌≡◌, ℕ, List}
use Rattle.usuba0.specs.CoreText.{core_text}
use Rattle.tornado_words.specs.declared.order.Basis.{Basis}
use Rattle.tornado_main.specs.Files.{Contents}
use Rattle.tornado_main.specs.Outcome.{Outcome, answers}
use Rattle.tornado_main.specs.Steps.{AfterCore}
use Rattle.tornado_main.specs.declared.status.Status.TheVariants as status

-- it prints the text of the core
abbrev pub CoreEnds : Contents → (file : List ℕ) → Basis → Outcome → Type 0
CoreEnds contents file basis = AfterCore contents file basis (λ core end. end ≡ answers (core_text core) status.Done)
