-- The statements of the laws about the types of a file that bytes spell.
use Rattle.std.specs.Prelude.{◌≡◌, ℕ, List, Option, Some, IfSome, slice_get}
use Rattle.usuba_syntax.specs.Sources.{SpellsFile}
use Rattle.usuba_trees.specs.declared.Def.{Def}
use Rattle.usuba_trees.specs.declared.File.{File}
use Rattle.usuba_model.specs.Judging.{IsJudged}
use Rattle.source_shapes.specs.Shaped.{IsWidth, TakesAndGives, IsShapedFile}

-- a file that bytes spell has such types
abbrev pub SpelledIsShaped : Type 0
SpelledIsShaped = (bytes : List ℕ) (file : File) → SpellsFile bytes file → IsShapedFile file

-- a file that is spelled and judged, with no width asked for or one of 1 to 64, has a width of 1 to 64, and its entry is a
-- definition that takes and gives at least one element
abbrev pub JudgedTakesAndGives : Type 0
JudgedTakesAndGives = (bytes : List ℕ) (asked_width : Option ℕ) (asked_entry : Option (List ℕ)) (file : File) (width entry : ℕ)
    → SpellsFile bytes file → IfSome asked_width IsWidth → IsJudged asked_width asked_entry file width entry
    → IsWidth width × (d : Def) × (slice_get file.defs entry ≡ Some d) × TakesAndGives d
