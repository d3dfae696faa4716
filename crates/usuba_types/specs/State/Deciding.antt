-- What the later phases come to for a file that passed the first five.
use Rattle.std.specs.Prelude.{◌≡◌, ℕ, List, Option, Some, None, IfSome}
use Rattle.usuba_trees.specs.declared.File.{File}
use Rattle.usuba_model.specs.Judging.{later_fault}
use Rattle.source_shapes.specs.Shaped.{IsWidth}
use Rattle.usuba_phases.specs.Early.{IsPassed}
use Rattle.usuba_types.specs.declared.judging.JudgeFault.{JudgeFault}
use Rattle.usuba_types.specs.declared.judging.JudgeFault.TheVariants as judge_fault
use Rattle.usuba_types.specs.Judged.{Program, IsSpelled}

-- a file that bytes spell passed the first five phases, for some entry that was asked for, and for no width or one of 1 to 64
pub record WasPassed (file : File) (width entry : ℕ) : Type 0 where
  pub spelled : IsSpelled file
  pub asked_width : Option ℕ
  pub wide : IfSome asked_width IsWidth
  pub asked_entry : Option (List ℕ)
  pub passed : IsPassed asked_width asked_entry file width entry

-- the later phases have no fault
pub record IsClean (file : File) (width entry : ℕ) (program : Program) : Type 0 where
  pub is : program ≡ record { file = file; width = width; entry = entry }
  pub none : later_fault width file.defs entry ≡ None

-- the first fault of the later phases; want of memory has no cause
abbrev pub IsLaterRefusal : File → ℕ → ℕ → JudgeFault → Type 0
IsLaterRefusal file width entry (judge_fault.At kind place) =
    later_fault width file.defs entry ≡ Some (record { kind = kind; place = place })
IsLaterRefusal file width entry (judge_fault.Memory error) = Unit {0}
