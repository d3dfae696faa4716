-- What a file that is judged has: the file, its width, and its entry.
use Rattle.std.specs.Prelude.{◌≡◌, ℕ, zero, suc, List, [], ◌∷◌, Option, Some, IfSome}
use Rattle.usuba_syntax.specs.Sources.{SpellsFile}
use Rattle.usuba_trees.specs.declared.Def.{Def}
use Rattle.usuba_trees.specs.declared.File.{File}
use Rattle.usuba_model.specs.Judging.{fault_of, IsJudged}
use Rattle.usuba_model.specs.Walk.{signature}
use Rattle.source_shapes.specs.Shaped.{IsWidth}
use Rattle.usuba_types.specs.declared.judging.JudgeFault.{JudgeFault}
use Rattle.usuba_types.specs.declared.judging.JudgeFault.TheVariants as judge_fault

-- a judged file with its width, and its entry's place among the definitions, from 0
pub record Program : Type 0 where
  pub file : File
  pub width : ℕ
  pub entry : ℕ

-- some bytes spell the file
abbrev pub IsSpelled : File → Type 0
IsSpelled file = (bytes : List ℕ) × SpellsFile bytes file

-- the program is a file that bytes spell and that is judged, for some entry that was asked for, and for no width or one of
-- 1 to 64
pub record IsProgram (program : Program) : Type 0 where
  pub spelled : IsSpelled program.file
  pub asked_width : Option ℕ
  pub wide : IfSome asked_width IsWidth
  pub asked_entry : Option (List ℕ)
  pub judged : IsJudged asked_width asked_entry program.file program.width program.entry

-- a refusal has its cause: the first fault of the file; want of memory has none
abbrev pub IsRefusal : Option ℕ → Option (List ℕ) → File → JudgeFault → Type 0
IsRefusal asked_width asked_entry file (judge_fault.At kind place) =
    fault_of asked_width asked_entry file ≡ Some (record { kind = kind; place = place })
IsRefusal asked_width asked_entry file (judge_fault.Memory error) = Unit {0}

-- an answer to a file: it is the program, which is judged
pub record IsJudgedAs (asked_width : Option ℕ) (asked_entry : Option (List ℕ)) (file : File) (program : Program) : Type 0 where
  pub same_file : program.file ≡ file
  pub judged : IsJudged asked_width asked_entry file program.width program.entry

-- how many elements the definition at a number takes; none past all
abbrev pub inputs_at : List Def → ℕ → ℕ
inputs_at [] k = 0
inputs_at (d ∷ rest) zero = (signature d).inputs
inputs_at (d ∷ rest) (suc k) = inputs_at rest k

-- how many elements the definition at a number gives; none past all
abbrev pub outputs_at : List Def → ℕ → ℕ
outputs_at [] k = 0
outputs_at (d ∷ rest) zero = (signature d).outputs
outputs_at (d ∷ rest) (suc k) = outputs_at rest k
