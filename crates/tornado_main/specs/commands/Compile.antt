-- `compile FILE`
use Rattle.std.specs.Prelude.{◌≢◌, ℕ, Bool, List, Option, IsSome}
use Rattle.c_tree.specs.declared.CFile.{CFile}
use Rattle.c_text.specs.CText.{c_text}
use Rattle.c_form.specs.MaskedForm.{IsMaskedForm}
use Rattle.c_print.specs.WordSize.{bits_of_c, FitsWord}
use Rattle.core_refresh.specs.RefreshedCore.{refreshed_core}
use Rattle.refresh_place.specs.RepairSet.{IsRepairSetOf}
use Rattle.usuba0.specs.Circuit.{Circuit, IsCore}
use Rattle.tornado_words.specs.declared.order.Basis.{Basis}
use Rattle.tornado_main.specs.Files.{Contents}
use Rattle.tornado_main.specs.Outcome.{Outcome, answers, refused}
use Rattle.tornado_main.specs.Steps.{AfterCore}
use Rattle.tornado_main.specs.declared.message.Complaint.TheVariants as complaint
use Rattle.tornado_main.specs.declared.message.Spot.TheVariants as spot
use Rattle.tornado_main.specs.declared.status.Status.TheVariants as status

-- the file of C is the masked form of the core with the refreshes of a repair set, for words of the bits that are
-- asked for or those of the core
pub record IsMaskedC (core : Circuit) (word : Option ℕ) (c_file : CFile) : Type 0 where
  pub is_core : IsCore core
  pub fits : FitsWord word core
  pub set : ℕ → Bool
  pub repairs : IsRepairSetOf core set
  pub form : IsMaskedForm (refreshed_core core set) (bits_of_c word core.width) c_file

-- the C of a core; a word size may be asked for at width 1 alone
pub data IsCompiled (file : List ℕ) (word : Option ℕ) (core : Circuit) : Outcome → Type 0 where
  masked : (c_file : CFile) → IsMaskedC core word c_file
      → IsCompiled file word core (answers (c_text c_file) status.Done)
  other_width : IsSome word → core.width ≢ 1
      → IsCompiled file word core (refused status.Source file (record { at = spot.Whole; what = complaint.WordSize }))

-- it prints the C of the core
abbrev pub CompileEnds : Contents → (file : List ℕ) → (word : Option ℕ) → Basis → Outcome → Type 0
CompileEnds contents file word basis = AfterCore contents file basis (IsCompiled file word)
