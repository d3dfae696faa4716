-- The entry of a file, its width, and its tables and permutations: the third, fourth and fifth phases of judging.
use Rattle.std.specs.Prelude.{ℕ, zero, suc, ◌^◌, Bool, true, false, not, ◌||◌, ◌==◌, nat_lt, nat_le, if◌then◌else◌, List, [], ◌∷◌, length, map, flat_map, Option, Some, None, bytes_eq}
use Rattle.std.specs.List.{list_any}
use Rattle.std.specs.Option.{option_or}
use Rattle.tor_edge.specs.declared.place.Place.{Place}
use Rattle.usuba_trees.specs.declared.Decl.{Decl}
use Rattle.usuba_trees.specs.declared.Def.{Def}
use Rattle.usuba_trees.specs.declared.Def.TheVariants as def
use Rattle.usuba_trees.specs.declared.Node.{Node}
use Rattle.usuba_model.specs.declared.fault.FaultKind.TheVariants.{NoEntry, MixedWidth, NoWidth, BadTable, BadPerm}
use Rattle.usuba_model.specs.declared.fault.Fault.{Fault}
use Rattle.usuba_model.specs.Faults.{Finding, first_of}
use Rattle.usuba_model.specs.Names.{declared_in, name_of}
use Rattle.usuba_model.specs.Shapes.{all_elements, base_width}

-- whether a node may be the entry: the one asked for, or any where none is asked for
abbrev pub is_asked_for : Option (List ℕ) → Node → Bool
is_asked_for None node = true
is_asked_for (Some name) node = bytes_eq node.name.text name

-- the place among the definitions of a node that may be the entry, counted on from k; the last one counts
abbrev pub entry_from : Option (List ℕ) → ℕ → List Def → Option ℕ
entry_from asked k [] = None
entry_from asked k (def.Node node ∷ rest) =
    option_or (entry_from asked (suc k) rest) (if is_asked_for asked node then Some k else None)
entry_from asked k (def.Table grid ∷ rest) = entry_from asked (suc k) rest
entry_from asked k (def.Perm grid ∷ rest) = entry_from asked (suc k) rest

-- the entry's place among the definitions: the node asked for, or the last node
abbrev pub entry_of : Option (List ℕ) → List Def → Option ℕ
entry_of asked defs = entry_from asked 0 defs

-- where a file begins
abbrev pub beginning : Place
beginning = record { line = 1; column = 1 }

-- there is no node, or the entry asked for is no node
abbrev pub entry_fault : Option ℕ → Option Fault
entry_fault (Some entry) = None
entry_fault None = Some (record { kind = NoEntry; place = beginning })

-- all declarations, in text order
abbrev pub all_declarations : List Def → List Decl
all_declarations defs = flat_map declared_in defs

-- the first width that a type has
abbrev pub first_width : List Decl → Option ℕ
first_width [] = None
first_width (declaration ∷ rest) = option_or (base_width declaration.shape.base) (first_width rest)

-- the width of a program: the one asked for, or the first that a type has
abbrev pub width_of : Option ℕ → List Def → Option ℕ
width_of asked defs = option_or asked (first_width (all_declarations defs))

-- whether a type has a width, and another one than this
abbrev pub is_another : ℕ → Option ℕ → Bool
is_another width (Some w) = not (w == width)
is_another width None = false

-- a type, which is at fault where it has another width than this
abbrev pub mixed : ℕ → Decl → Finding
mixed width declaration = record {
  place = declaration.shape.place;
  holds = is_another width (base_width declaration.shape.base);
}

-- the place of the name of the definition at a number
abbrev pub name_place : List Def → ℕ → Place
name_place [] k = beginning
name_place (d ∷ rest) zero = (name_of d).place
name_place (d ∷ rest) (suc k) = name_place rest k

-- a type has another width than the program, or the program has none, at the entry's name
abbrev pub width_fault : List Def → ℕ → Option ℕ → Option Fault
width_fault defs entry (Some width) = first_of MixedWidth (map (mixed width) (all_declarations defs))
width_fault defs entry None = Some (record { kind = NoWidth; place = name_place defs entry })

-- whether entries are not as many as 2^n, or one of them is 2^m or more
abbrev pub has_wrong_entries : ℕ → ℕ → List ℕ → Bool
has_wrong_entries n m entries = not (length entries == 2 ^ n) || list_any (nat_le (2 ^ m)) entries

-- whether a table of n input elements and m output elements is bad: it has more than 8 inputs or more than 64 outputs, a wrong
-- count of entries, or an entry of 2^m or more
abbrev pub is_bad_table : ℕ → ℕ → List ℕ → Bool
is_bad_table n m entries = if nat_lt 8 n || nat_lt 64 m then true else has_wrong_entries n m entries

-- whether an entry of a permutation is 0 or above its inputs
abbrev pub is_no_input : ℕ → ℕ → Bool
is_no_input n entry = entry == 0 || nat_lt n entry

-- whether a permutation of n input elements to m output elements is bad: a wrong count of entries, or an entry 0 or above the
-- inputs
abbrev pub is_bad_permutation : ℕ → ℕ → List ℕ → Bool
is_bad_permutation n m entries = not (length entries == m) || list_any (is_no_input n) entries

-- the first table or permutation that is bad
abbrev pub grid_fault : List Def → Option Fault
grid_fault [] = None
grid_fault (def.Node node ∷ rest) = grid_fault rest
grid_fault (def.Table grid ∷ rest) =
    if is_bad_table (all_elements grid.inputs) (all_elements grid.outputs) grid.entries
    then Some (record { kind = BadTable; place = grid.name.place })
    else grid_fault rest
grid_fault (def.Perm grid ∷ rest) =
    if is_bad_permutation (all_elements grid.inputs) (all_elements grid.outputs) grid.entries
    then Some (record { kind = BadPerm; place = grid.name.place })
    else grid_fault rest
