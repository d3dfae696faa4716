-- Files that are held in memory.
use Rattle.std.specs.Prelude.{ℕ, List, [], Option, Some, find}
use Rattle.std.specs.Option.{option_map, unwrap_or}
use Rattle.std.specs.Str.{bytes_eq}
use Rattle.tor_edge.specs.declared.mem_files.Held.{Held}

-- the bytes of the first file of this name, if there is one
abbrev pub file_of : List Held → List ℕ → Option (List ℕ)
file_of held name = option_map (λ file. file.bytes) (find (λ file. bytes_eq file.name name) held)

-- the bytes of the first file of this name, and none where there is none
abbrev pub steady_file_of : List Held → List ℕ → Option (List ℕ)
steady_file_of held name = Some (unwrap_or (file_of held name) [])
