-- The core of the bytes of a source, and their faults, for the width and the entry that are asked for, where they are.
use Rattle.std.specs.Prelude.{◌≡◌, ◌<◌, ℕ, List, Option, Some}
use Rattle.tor_edge.specs.declared.place.Place.{Place}
use Rattle.usuba_trees.specs.declared.File.{File}
use Rattle.usuba_syntax.specs.Sources.{SpellsFile, HasFault}
use Rattle.usuba_syntax.specs.SourceFaults as read
use Rattle.usuba_model.specs.declared.fault.FaultKind.{FaultKind}
use Rattle.usuba_model.specs.Judging.{IsJudged, fault_of}
use Rattle.usuba0.specs.Circuit.{Circuit, IsSmall, HasFewColumns, weight, columns}
use Rattle.usuba0.specs.declared.limit.TheConstants.{MAX_WEIGHT, MAX_COLUMNS}
use Rattle.source_terms.specs.SourceTerms.{core_of_source}
use Rattle.tornado_main.specs.declared.message.Complaint.TheVariants as complaint
use Rattle.tornado_main.specs.declared.message.Spot.TheVariants as spot
use Rattle.tornado_main.specs.declared.message.Fault.{Fault}

-- the bytes spell a file that is judged, and this is its core
pub record HasCore (asked_width : Option ℕ) (asked_entry : Option (List ℕ)) (core : Circuit) (bytes : List ℕ)
    : Type 0 where
  pub file : File
  pub width : ℕ
  pub entry : ℕ
  pub spelled : SpellsFile bytes file
  pub judged : IsJudged asked_width asked_entry file width entry
  pub core_of_file : core_of_source width file entry ≡ Some core

-- the bytes have this core, and it is within both limits
pub record IsSource (asked_width : Option ℕ) (asked_entry : Option (List ℕ)) (core : Circuit) (bytes : List ℕ)
    : Type 0 where
  pub has_core : HasCore asked_width asked_entry core bytes
  pub small : IsSmall core
  pub few_columns : HasFewColumns core

-- the limit that a core passes, the first before the second, which is said of the file as a whole
pub data PassesLimit (core : Circuit) : Fault → Type 0 where
  too_large : MAX_WEIGHT < weight core → PassesLimit core (record { at = spot.Whole; what = complaint.CoreTooLarge })
  too_many : IsSmall core → MAX_COLUMNS < columns core → PassesLimit core
      (record { at = spot.Whole; what = complaint.ColumnsTooMany })

-- the first fault of the bytes, at its place: one of reading them, or of judging the file that they spell; and where
-- they have none, the limit that their core passes
pub data IsFaultySource (asked_width : Option ℕ) (asked_entry : Option (List ℕ)) : Fault → List ℕ → Type 0 where
  syntax : (bytes : List ℕ) (at : Place) → HasFault bytes (read.Syntax at)
      → IsFaultySource asked_width asked_entry (record { at = spot.Place at; what = complaint.Syntax }) bytes
  too_deep : (bytes : List ℕ) (at : Place) → HasFault bytes (read.TooDeep at)
      → IsFaultySource asked_width asked_entry (record { at = spot.Place at; what = complaint.TooDeep }) bytes
  number_too_big : (bytes : List ℕ) (at : Place) → HasFault bytes (read.NumberTooBig at)
      → IsFaultySource asked_width asked_entry (record { at = spot.Place at; what = complaint.NumberTooBig }) bytes
  not_judged : (bytes : List ℕ) (file : File) (kind : FaultKind) (at : Place) → SpellsFile bytes file
      → fault_of asked_width asked_entry file ≡ Some (record { kind = kind; place = at })
      → IsFaultySource asked_width asked_entry (record { at = spot.Place at; what = complaint.Judged kind }) bytes
  past_limit : (bytes : List ℕ) (core : Circuit) (fault : Fault) → HasCore asked_width asked_entry core bytes
      → PassesLimit core fault
      → IsFaultySource asked_width asked_entry fault bytes
