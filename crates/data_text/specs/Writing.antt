-- How values are written.
use Rattle.std.specs.Prelude.{ℕ, List, [], ◌∷◌, ◌++◌, codes, decimal, flat_map}

-- a value after a blank
abbrev pub value_after : ℕ → List ℕ
value_after value = codes " " ++ decimal value

-- values on one line, parted by one blank
abbrev pub values_text : List ℕ → List ℕ
values_text [] = codes "\n"
values_text (value ∷ values) = decimal value ++ flat_map value_after values ++ codes "\n"
