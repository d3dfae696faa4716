-- The names in scope as the code keeps them.
use Rattle.std.specs.Prelude.{ℕ, suc, Bool, false, nat_eq, if◌then◌else◌, bytes_eq}
use Rattle.std.specs.Prelude.{List, [], ◌∷◌, map, Option, None, Some}
use Rattle.std.specs.HashMap.{HashMap, get_by}
use denote.Ref.{Bor}
use Rattle.c_names.specs.Scope.{InScope}
use Rattle.c_names.specs.declared.scope.First.{First}
use Rattle.c_names.specs.declared.scope.Known.{Known}

-- a kept name as one in scope
abbrev pub known_of : Known → InScope
known_of known = record { name = known.name.now; role = known.role }

-- the kept names as a scope
abbrev pub scope_of : List Known → List InScope
scope_of names = map known_of names

-- what a map has at a name
abbrev pub found_at : {S : Type 0} → HashMap (Bor (List ℕ)) First S → List ℕ → Option First
found_at first name = get_by (λ key. bytes_eq name key.now) first

-- the first name in scope of a spelling, where so many stand before all of these
abbrev pub found_from : ℕ → List InScope → List ℕ → Option First
found_from place [] name = None
found_from place (known ∷ scope) name =
    if bytes_eq known.name name then Some (record { place = place; role = known.role })
    else found_from (suc place) scope name

-- so many stand before what is found
abbrev pub stands_at : ℕ → Option First → Bool
stands_at place None = false
stands_at place (Some found) = nat_eq found.place place
