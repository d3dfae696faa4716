-- The statement of the law about generated sources.
use Rattle.std.specs.Prelude.{◌≡◌, ℕ, ◌<◌, ◌≤◌, List, Some, None}
use Rattle.usuba_syntax.specs.SourceFaults.{SourceFault}
use Rattle.usuba_syntax.specs.Sources.{SpellsFile, HasFault}
use Rattle.usuba_trees.specs.declared.File.{File}
use Rattle.usuba_model.specs.Judging.{IsJudged}
use Rattle.usuba0.specs.Circuit.{Circuit, IsSmall, HasFewColumns}
use Rattle.source_gen.specs.Source.{generated_source}
use Rattle.source_gen.specs.declared.source.TheConstants.{MAX_SIZE}
use Rattle.source_terms.specs.SourceTerms.{core_of_source}

-- the file has a core at width 1, which is within both limits
abbrev pub HasSmallCore : File → Type 0
HasSmallCore file = (core : Circuit) × (core_of_source 1 file 0 ≡ Some core) × IsSmall core × HasFewColumns core

-- a source that nothing is at fault with
pub record IsClean (source : List ℕ) : Type 0 where
  -- it spells a file
  pub spelled : (file : File) × SpellsFile source file
  -- and is not at fault in what it spells
  pub no_fault : (fault : SourceFault) → ¬ HasFault source fault
  -- its file is judged, where no width and no entry are asked for: its width is 1, and its entry stands first
  pub judged : (file : File) → SpellsFile source file → IsJudged None None file 1 0
  -- and its core is within the limits
  pub small : (file : File) → SpellsFile source file → HasSmallCore file

-- a generated source of one line or more, and of no more than there may be, is clean
abbrev pub GeneratedIsClean : Type 0
GeneratedIsClean = (seed size : ℕ) → 0 < size → size ≤ MAX_SIZE → IsClean (generated_source seed size)
