-- The forms of the lines of a core text, by their words, and what a line of its form says. Numbers may be of any size here.
use Rattle.std.specs.Prelude.{ℕ, ◌==◌, Bool, false, ◌&&◌, if◌then◌else◌, List, [], ◌∷◌, map, codes, Option, None, Some}
use Rattle.std.specs.List.{list_all}
use Rattle.std.specs.Str.{bytes_eq}
use Rattle.text_lines.specs.Numbers.{is_number, value_of}
use Rattle.usuba0.specs.declared.circuit.Gate.{Gate}
use Rattle.usuba0.specs.declared.circuit.Gate.TheVariants as gate
use Rattle.usuba0.specs.declared.circuit.Reg.{Reg}

-- `rN`: whether a word is a register, the letter `r` and a number
abbrev pub is_register : List ℕ → Bool
is_register [] = false
is_register (letter ∷ digits) = letter == 114 && is_number digits

-- the register that such a word names
abbrev pub register_of : List ℕ → Reg
register_of [] = record { 0 = 0 }
register_of (letter ∷ digits) = record { 0 = value_of digits }

-- a keyword and a number: the number
abbrev pub number_form : List ℕ → List (List ℕ) → Option ℕ
number_form keyword (name ∷ number ∷ []) = if bytes_eq name keyword && is_number number then Some (value_of number) else None
number_form keyword _ = None

-- `width W`
abbrev pub width_form : List (List ℕ) → Option ℕ
width_form words = number_form (codes "width") words

-- `inputs N`
abbrev pub inputs_form : List (List ℕ) → Option ℕ
inputs_form words = number_form (codes "inputs") words

-- `not rA` and `refresh rA`
abbrev pub single_gate : List ℕ → Reg → Option Gate
single_gate name a =
    if bytes_eq name (codes "not") then Some (gate.Not a) else (if bytes_eq name (codes "refresh") then Some (gate.Refresh a) else None)

-- `const C`
abbrev pub constant_gate : List ℕ → ℕ → Option Gate
constant_gate name c = if bytes_eq name (codes "const") then Some (gate.Const c) else None

-- `xor rA rB` and `and rA rB`
abbrev pub pair_gate : List ℕ → Reg → Reg → Option Gate
pair_gate name a b =
    if bytes_eq name (codes "xor") then Some (gate.Xor a b) else (if bytes_eq name (codes "and") then Some (gate.And a b) else None)

-- `shl S rA`, `shr S rA` and `rotl S rA`
abbrev pub shift_gate : List ℕ → ℕ → Reg → Option Gate
shift_gate name k a =
    if bytes_eq name (codes "shl") then Some (gate.Shl k a)
    else (if bytes_eq name (codes "shr") then Some (gate.Shr k a) else (if bytes_eq name (codes "rotl") then Some (gate.Rotl k a) else None))

-- `mask C rA`, or a shift
abbrev pub numbered_gate : List ℕ → ℕ → Reg → Option Gate
numbered_gate name c a = if bytes_eq name (codes "mask") then Some (gate.Mask c a) else shift_gate name c a

-- a right side with one operand, a register or a number
abbrev pub one_form : List ℕ → List ℕ → Option Gate
one_form name a =
    if is_register a then single_gate name (register_of a) else (if is_number a then constant_gate name (value_of a) else None)

-- a right side with two operands: a register or a number, and a register
abbrev pub two_form : List ℕ → List ℕ → List ℕ → Option Gate
two_form name a b =
    if is_register b
    then (if is_register a then pair_gate name (register_of a) (register_of b)
    else (if is_number a then numbered_gate name (value_of a) (register_of b) else None))
    else None

-- the right side of an equation
abbrev pub gate_form : List (List ℕ) → Option Gate
gate_form (name ∷ a ∷ []) = one_form name a
gate_form (name ∷ a ∷ b ∷ []) = two_form name a b
gate_form _ = None

-- an equation: the register on its left side, and its right side
pub record Equation : Type 0 where
  pub register : Reg
  pub gate : Gate

-- the equation of a register, where its right side is of a form
abbrev pub with_gate : Reg → Option Gate → Option Equation
with_gate left None = None
with_gate left (Some right) = Some (record { register = left; gate = right })

-- `rK = GATE`
abbrev pub equation_form : List (List ℕ) → Option Equation
equation_form (left ∷ equals ∷ right) =
    if is_register left && bytes_eq equals (codes "=") then with_gate (register_of left) (gate_form right) else None
equation_form _ = None

-- whether the first word is `outputs`, so that the line is no equation
abbrev pub is_outputs : List (List ℕ) → Bool
is_outputs [] = false
is_outputs (name ∷ words) = bytes_eq name (codes "outputs")

-- `outputs rA rB ..`, with one register or more
abbrev pub outputs_form : List (List ℕ) → Option (List Reg)
outputs_form (name ∷ first ∷ more) =
    if bytes_eq name (codes "outputs") && list_all is_register (first ∷ more) then Some (map register_of (first ∷ more)) else None
outputs_form _ = None
