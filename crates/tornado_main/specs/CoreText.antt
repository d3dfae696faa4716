-- The core of the bytes of core text, and their faults.
use Rattle.std.specs.Prelude.{◌≡◌, ℕ, List, Err}
use Rattle.usuba0.specs.Circuit.{Circuit, IsCore, IsSmall, HasFewColumns}
use Rattle.usuba0.specs.CoreText.{core_text}
use Rattle.core_text.specs.Reading.{core_of}
use Rattle.core_text.specs.declared.fault.CoreFault.TheVariants as core_fault
use Rattle.tornado_main.specs.declared.message.Complaint.TheVariants as complaint
use Rattle.tornado_main.specs.declared.message.Spot.TheVariants as spot
use Rattle.tornado_main.specs.declared.message.Fault.{Fault}

-- the bytes are the text of this core, and it is within both limits
pub record IsCoreText (core : Circuit) (bytes : List ℕ) : Type 0 where
  pub is_core : IsCore core
  pub small : IsSmall core
  pub few_columns : HasFewColumns core
  pub text : bytes ≡ core_text core

-- the first line of the bytes that is wrong, and what is wrong with it; and where none is, that the core passes a limit
pub data IsFaultyCoreText : Fault → List ℕ → Type 0 where
  syntax : (bytes : List ℕ) (line : ℕ) → core_of bytes ≡ Err (core_fault.Syntax line)
      → IsFaultyCoreText (record { at = spot.Line line; what = complaint.Syntax }) bytes
  out_of_range : (bytes : List ℕ) (line : ℕ) → core_of bytes ≡ Err (core_fault.OutOfRange line)
      → IsFaultyCoreText (record { at = spot.Line line; what = complaint.OutOfRange }) bytes
  past_limit : (bytes : List ℕ) → core_of bytes ≡ Err core_fault.Limit
      → IsFaultyCoreText (record { at = spot.Whole; what = complaint.LimitPassed }) bytes
