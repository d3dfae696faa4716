-- What the code answers of names, one after the other.
use Rattle.std.specs.Prelude.{◌≡◌, Bool, if◌then◌else◌, List, [], ◌∷◌, Option, None, Some, Result, Ok, Err}
use Rattle.c_names.specs.declared.fault.NameFault.{NameFault}
use Rattle.c_names.specs.declared.fault.NameFault.TheVariants as fault
use Rattle.tor_edge.specs.declared.place.Place.{Place}

-- the places that are left after names that are right, or the place of the first that is not
abbrev pub passed : List Bool → List Place → Result (List Place) Place
passed [] places = Ok places
passed (right ∷ names) [] = Ok []
passed (right ∷ names) (place ∷ places) = if right then passed names places else Err place

-- the answer is what is wanted, with the places that are left; want of memory has no cause
abbrev pub IsPassed : Result (List Place) Place → Result Unit NameFault → List Place → Type 0
IsPassed wanted (Ok done) left = wanted ≡ Ok left
IsPassed wanted (Err (fault.BadName place)) left = wanted ≡ Err place
IsPassed wanted (Err (fault.Memory error)) left = Unit {0}

-- the answer is the first bad name, if there is one; want of memory has no cause
abbrev pub IsAnswer : Option Place → Result Unit NameFault → Type 0
IsAnswer bad (Ok done) = bad ≡ None
IsAnswer bad (Err (fault.BadName place)) = bad ≡ Some place
IsAnswer bad (Err (fault.Memory error)) = Unit {0}
