-- `repair FILE`
use Rattle.std.specs.Prelude.{◌≡◌, ℕ, List, Bool}
use Rattle.usuba0.specs.Circuit.{Circuit}
use Rattle.usuba0.specs.CoreText.{core_text}
use Rattle.refresh_place.specs.RepairSet.{IsRepairOf}
use Rattle.tornado_words.specs.declared.order.Basis.{Basis}
use Rattle.tornado_main.specs.Files.{Contents}
use Rattle.tornado_main.specs.Outcome.{Outcome, answers}
use Rattle.tornado_main.specs.Steps.{AfterCore}
use Rattle.tornado_main.specs.declared.status.Status.TheVariants as status

-- the text of the core with the refreshes of a repair set, for some such set
abbrev pub IsRepaired : Circuit → Outcome → Type 0
IsRepaired core end = (repaired : Circuit) × (set : List Bool) × IsRepairOf core repaired set
    × (end ≡ answers (core_text repaired) status.Done)

-- it prints the text of the repaired core
abbrev pub RepairEnds : Contents → (file : List ℕ) → Basis → Outcome → Type 0
RepairEnds contents file basis = AfterCore contents file basis IsRepaired
