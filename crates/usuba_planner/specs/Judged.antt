-- Files that are judged, whatever width and entry were asked for.
use Rattle.std.specs.Prelude.{ℕ, List, Option}
use Rattle.usuba_trees.specs.declared.File.{File}
use Rattle.usuba_model.specs.Judging.{IsJudged}

-- for some width and some entry that were asked for, the file is judged to have this width and this entry
abbrev pub IsJudgedFor : File → ℕ → ℕ → Type 0
IsJudgedFor file width entry =
    (asked_width : Option ℕ) × (asked_entry : Option (List ℕ)) × IsJudged asked_width asked_entry file width entry
