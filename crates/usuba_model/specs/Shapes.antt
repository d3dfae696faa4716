-- Types, and the elements that they give to a variable. Sizes and counts are numbers without a bound.
use Rattle.std.specs.Prelude.{ℕ, ◌+◌, ◌*◌, List, [], ◌∷◌, ◌++◌, Option, Some, None}
use Rattle.usuba_trees.specs.declared.Base.{Base}
use Rattle.usuba_trees.specs.declared.Base.TheVariants.{Bits, Poly}
use Rattle.usuba_trees.specs.declared.Decl.{Decl}
use Rattle.usuba_trees.specs.declared.Shape.{Shape}

-- the size of a count, where the type has one
abbrev pub count_size : Option ℕ → List ℕ
count_size (Some count) = count ∷ []
count_size None = []

-- the sizes of a variable: its dimensions, and last the count of its type
abbrev pub sizes : Shape → List ℕ
sizes shape = shape.dims ++ count_size shape.count

-- how many elements sizes give
abbrev pub product : List ℕ → ℕ
product [] = 1
product (size ∷ rest) = size * product rest

-- how many elements a declared variable has
abbrev pub elements : Decl → ℕ
elements declaration = product (sizes declaration.shape)

-- how many elements declared variables have together
abbrev pub all_elements : List Decl → ℕ
all_elements [] = 0
all_elements (declaration ∷ rest) = elements declaration + all_elements rest

-- the bits of an element, where the type says them; the program's width stands for them else
abbrev pub base_width : Base → Option ℕ
base_width (Bits width) = Some width
base_width Poly = None
