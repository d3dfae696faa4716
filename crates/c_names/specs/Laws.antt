-- What holds of the names of files.
use Rattle.std.specs.Prelude.{◌≡◌, ◌≤◌, ◌↔◌, Bool, true, List, length, None}
use Rattle.std.specs.List.{list_all}
use Rattle.c_names.specs.Names.{first_bad}
use Rattle.tor_edge.specs.declared.place.Place.{Place}

-- where each name has a place there is no bad one exactly where all are right
abbrev pub NoneIsBad : Type 0
NoneIsBad = (names : List Bool) (places : List Place) → length names ≤ length places
    → (first_bad names places ≡ None) ↔ (list_all (λ right. right) names ≡ true)
