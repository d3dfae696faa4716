-- The statement of the law about the core of a source.
use Rattle.std.specs.Prelude.{◌≡◌, ℕ, List, Option, Some, IfSome}
use Rattle.usuba_syntax.specs.Sources.{SpellsFile}
use Rattle.usuba_trees.specs.declared.File.{File}
use Rattle.usuba_model.specs.Judging.{IsJudged}
use Rattle.source_shapes.specs.Shaped.{IsWidth}
use Rattle.source_terms.specs.SourceTerms.{core_of_source}
use Rattle.usuba0.specs.Circuit.{Circuit, IsCore}

-- what is the core of a file that is spelled and judged, with no width asked for or one of 1 to 64, is a core
abbrev pub SourceCoresAreCores : Type 0
SourceCoresAreCores = (bytes : List ℕ) (asked_width : Option ℕ) (asked_entry : Option (List ℕ)) (file : File)
    (width entry : ℕ) → SpellsFile bytes file → IfSome asked_width IsWidth
    → IsJudged asked_width asked_entry file width entry
    → (core : Circuit) → core_of_source width file entry ≡ Some core → IsCore core
