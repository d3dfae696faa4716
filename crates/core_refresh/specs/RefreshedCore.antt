-- The refreshed core of a set of products: a refresh just before each product of the set, in place of its left operand.
use Rattle.std.specs.Prelude.{ℕ, zero, suc, ◌+◌, ◌-◌, Bool, false, List, [], ◌∷◌, ◌++◌, length, map, slice_index_or, if◌then◌else◌}
use Rattle.usuba0.specs.declared.circuit.Gate.{Gate}
use Rattle.usuba0.specs.declared.circuit.Gate.TheVariants as gate
use Rattle.usuba0.specs.declared.circuit.Reg.{Reg}
use Rattle.usuba0.specs.Circuit.{Circuit, products_of}

-- the products whose marks are set, where there is a mark for each product, in order
abbrev pub marked : List Bool → ℕ → Bool
marked marks k = slice_index_or marks k false

-- whether an equation is a product of the set, where the product would have the number k
abbrev pub takes_refresh : (ℕ → Bool) → ℕ → Gate → Bool
takes_refresh set k (gate.Const c) = false
takes_refresh set k (gate.Xor a b) = false
takes_refresh set k (gate.Not a) = false
takes_refresh set k (gate.Mask c a) = false
takes_refresh set k (gate.And a b) = set k
takes_refresh set k (gate.Shl m a) = false
takes_refresh set k (gate.Shr m a) = false
takes_refresh set k (gate.Rotl m a) = false
takes_refresh set k (gate.Refresh a) = false

-- how many of the first n equations are products of the set, where the first product has the number k
abbrev pub added : (ℕ → Bool) → (k n : ℕ) → List Gate → ℕ
added set k zero gs = 0
added set k (suc n) [] = 0
added set k (suc n) (g ∷ gs) = (if takes_refresh set k g then 1 else 0) + added set (k + products_of (g ∷ [])) n gs

-- the new number of a register: one more for each refresh that comes before the equation that makes it
abbrev pub new_register : Circuit → (ℕ → Bool) → Reg → Reg
new_register core set r = record { 0 = r.0 + added set 0 (r.0 + 1 - core.inputs) core.equations }

-- an equation with other numbers for the registers that it reads
abbrev pub renumbered : (Reg → Reg) → Gate → Gate
renumbered new (gate.Const c) = gate.Const c
renumbered new (gate.Xor a b) = gate.Xor (new a) (new b)
renumbered new (gate.Not a) = gate.Not (new a)
renumbered new (gate.Mask c a) = gate.Mask c (new a)
renumbered new (gate.And a b) = gate.And (new a) (new b)
renumbered new (gate.Shl m a) = gate.Shl m (new a)
renumbered new (gate.Shr m a) = gate.Shr m (new a)
renumbered new (gate.Rotl m a) = gate.Rotl m (new a)
renumbered new (gate.Refresh a) = gate.Refresh (new a)

-- a refresh that makes this register, and the product that has it as its left operand
abbrev pub refreshed_product : (register : ℕ) → (a b : Reg) → List Gate
refreshed_product register a b = gate.Refresh a ∷ gate.And (record { 0 = register }) b ∷ []

-- the equations that stand for one: itself, and before a product of the set a refresh, which makes the next register.
-- The product would have the number k
abbrev pub refreshed_gate : (new : Reg → Reg) (set : ℕ → Bool) (k next : ℕ) → Gate → List Gate
refreshed_gate new set k next (gate.Const c) = gate.Const c ∷ []
refreshed_gate new set k next (gate.Xor a b) = gate.Xor (new a) (new b) ∷ []
refreshed_gate new set k next (gate.Not a) = gate.Not (new a) ∷ []
refreshed_gate new set k next (gate.Mask c a) = gate.Mask c (new a) ∷ []
refreshed_gate new set k next (gate.And a b) =
    if set k then refreshed_product next (new a) (new b) else gate.And (new a) (new b) ∷ []
refreshed_gate new set k next (gate.Shl m a) = gate.Shl m (new a) ∷ []
refreshed_gate new set k next (gate.Shr m a) = gate.Shr m (new a) ∷ []
refreshed_gate new set k next (gate.Rotl m a) = gate.Rotl m (new a) ∷ []
refreshed_gate new set k next (gate.Refresh a) = gate.Refresh (new a) ∷ []

-- the equations with the refreshes of the set, where the first product has the number k, and the first equation makes
-- the register `next`
abbrev pub refreshed_equations : (new : Reg → Reg) (set : ℕ → Bool) (k next : ℕ) → List Gate → List Gate
refreshed_equations new set k next [] = []
refreshed_equations new set k next (g ∷ gs) =
    refreshed_gate new set k next g
    ++ refreshed_equations new set (k + products_of (g ∷ [])) (next + length (refreshed_gate new set k next g)) gs

-- the core with a refresh just before each product of the set: it takes the product's left operand, and stands in its
-- place there and nowhere else; all else keeps its order
abbrev pub refreshed_core : Circuit → (ℕ → Bool) → Circuit
refreshed_core core set =
    record {
      width = core.width;
      inputs = core.inputs;
      equations = refreshed_equations (new_register core set) set 0 core.inputs core.equations;
      outputs = map (new_register core set) core.outputs;
    }
