-- What the private functions of this crate say of arithmetic.
use Rattle.std.specs.Prelude.{ℕ, ◌<◌, ℤ, ◌+ℤ◌, ◌-ℤ◌, ◌*ℤ◌, int_div, int_rem, Bool, true, false, List, [], ◌∷◌}
use Rattle.usuba_trees.specs.declared.IndexOp.{IndexOp}
use Rattle.usuba_trees.specs.declared.IndexOp.TheVariants.{Add, Sub, Mul, Div, Rem}

-- the number that an operator makes of two
abbrev pub number_made : IndexOp → ℤ → ℤ → ℤ
number_made Add a b = a +ℤ b
number_made Sub a b = a -ℤ b
number_made Mul a b = a *ℤ b
number_made Div a b = int_div a b
number_made Rem a b = int_rem a b

-- whether an operator divides
abbrev pub divides : IndexOp → Bool
divides Add = false
divides Sub = false
divides Mul = false
divides Div = true
divides Rem = true

-- each of some numbers is below a bound
abbrev pub AllBelow : ℕ → List ℕ → Type 0
AllBelow bound [] = Unit {0}
AllBelow bound (number ∷ numbers) = (number < bound) × AllBelow bound numbers
