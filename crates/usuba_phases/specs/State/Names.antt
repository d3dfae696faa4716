-- Sets of names, and the findings that stand on them.
use Rattle.std.specs.Prelude.{◌≡◌, ℕ, List, [], map, flat_map}
use Rattle.std.specs.HashSet.{HashSet}
use denote.Ref.{Bor}
use Rattle.usuba_trees.specs.declared.Def.{Def}
use Rattle.usuba_trees.specs.declared.Def.TheVariants as def
use Rattle.usuba_trees.specs.declared.Item.{Item}
use Rattle.usuba_trees.specs.declared.ShiftLink.{ShiftLink}
use Rattle.usuba_model.specs.Faults.{Finding}
use Rattle.usuba_model.specs.Names.{is_name_among, repeated_counters, unknown_in_index, unknown_in_item}

-- the names in a set
abbrev pub names_in : {S : Type 0} → HashSet (Bor (List ℕ)) S → List (List ℕ)
names_in names = map (λ name. name.now) names.keys

-- the same names are among both
abbrev pub AreSame : List (List ℕ) → List (List ℕ) → Type 0
AreSame names others = (name : List ℕ) → is_name_among names name ≡ is_name_among others name

-- the counters of an item around which there is no loop
abbrev pub counters_outermost : List (List ℕ) → Item → List Finding
counters_outermost declared item = repeated_counters declared item []

-- the counters of a definition that declares these names
abbrev pub counters_among : List (List ℕ) → Def → List Finding
counters_among declared (def.Node node) = flat_map (counters_outermost declared) node.items
counters_among declared (def.Table grid) = []
counters_among declared (def.Perm grid) = []

-- the names in the amount of a shift
abbrev pub unknown_in_move : List (List ℕ) → ShiftLink → List Finding
unknown_in_move counters shift = unknown_in_index shift.amount counters

-- the names in an item around which there is no loop
abbrev pub unknown_outermost : List (List ℕ) → List (List ℕ) → Item → List Finding
unknown_outermost defined declared item = unknown_in_item defined declared item []

-- the names in a definition that declares these names
abbrev pub unknown_among : List (List ℕ) → List (List ℕ) → Def → List Finding
unknown_among defined declared (def.Node node) = flat_map (unknown_outermost defined declared) node.items
unknown_among defined declared (def.Table grid) = []
unknown_among defined declared (def.Perm grid) = []
