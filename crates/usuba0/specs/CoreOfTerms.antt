-- The core of given output terms.
use Rattle.std.specs.Prelude.{ℕ, ◌+◌, Bool, true, false, ◌==◌, ◌&&◌, List, [], ◌∷◌, ◌++◌, map, if◌then◌else◌}
use Rattle.usuba0.specs.declared.circuit.Gate.{Gate}
use Rattle.usuba0.specs.declared.circuit.Gate.TheVariants as gate
use Rattle.usuba0.specs.declared.circuit.Reg.{Reg}
use Rattle.usuba0.specs.Term.{Term, Input, Const, Xor, Not, Mask, And, Shl, Shr, Rotl, Refresh}
use Rattle.usuba0.specs.Circuit.{Circuit}

-- the subterms of a term that are no inputs, in postorder, left operand before right, each as often as it occurs
abbrev pub postorder : Term → List Term
postorder (Input i) = []
postorder (Const c) = Const c ∷ []
postorder (Xor a b) = postorder a ++ postorder b ++ Xor a b ∷ []
postorder (Not a) = postorder a ++ Not a ∷ []
postorder (Mask c a) = postorder a ++ Mask c a ∷ []
postorder (And a b) = postorder a ++ postorder b ++ And a b ∷ []
postorder (Shl k a) = postorder a ++ Shl k a ∷ []
postorder (Shr k a) = postorder a ++ Shr k a ∷ []
postorder (Rotl k a) = postorder a ++ Rotl k a ∷ []
postorder (Refresh k a) = postorder a ++ Refresh k a ∷ []

-- a walk of all the outputs
abbrev pub walk : List Term → List Term
walk [] = []
walk (t ∷ ts) = postorder t ++ walk ts

-- whether two terms are the same tree
abbrev pub same_term : Term → Term → Bool
same_term (Input i) (Input j) = i == j
same_term (Const c) (Const d) = c == d
same_term (Xor a b) (Xor x y) = same_term a x && same_term b y
same_term (Not a) (Not x) = same_term a x
same_term (Mask c a) (Mask d x) = c == d && same_term a x
same_term (And a b) (And x y) = same_term a x && same_term b y
same_term (Shl k a) (Shl m x) = k == m && same_term a x
same_term (Shr k a) (Shr m x) = k == m && same_term a x
same_term (Rotl k a) (Rotl m x) = k == m && same_term a x
same_term (Refresh k a) (Refresh m x) = k == m && same_term a x
same_term _ _ = false

-- whether a term is in a list
abbrev pub is_among : Term → List Term → Bool
is_among t [] = false
is_among t (u ∷ us) = if same_term t u then true else is_among t us

-- `found`, and then each term of a list that has not come before, at its first place
abbrev pub first_places : List Term → List Term → List Term
first_places found [] = found
first_places found (t ∷ ts) = first_places (if is_among t found then found else found ++ t ∷ []) ts

-- the distinct subterms of the outputs that are no inputs, in the order of their first end in the walk
abbrev pub subterms : List Term → List Term
subterms outputs = first_places [] (walk outputs)

-- the place of a term in a list, counted from 0
abbrev pub place_of : Term → List Term → ℕ
place_of t [] = 0
place_of t (u ∷ us) = if same_term t u then 0 else place_of t us + 1

-- the register of a term, where the first n registers are the inputs and the terms of the list follow
abbrev pub register_of : ℕ → List Term → Term → Reg
register_of n made (Input i) = record { 0 = i }
register_of n made (Const c) = record { 0 = n + place_of (Const c) made }
register_of n made (Xor a b) = record { 0 = n + place_of (Xor a b) made }
register_of n made (Not a) = record { 0 = n + place_of (Not a) made }
register_of n made (Mask c a) = record { 0 = n + place_of (Mask c a) made }
register_of n made (And a b) = record { 0 = n + place_of (And a b) made }
register_of n made (Shl k a) = record { 0 = n + place_of (Shl k a) made }
register_of n made (Shr k a) = record { 0 = n + place_of (Shr k a) made }
register_of n made (Rotl k a) = record { 0 = n + place_of (Rotl k a) made }
register_of n made (Refresh k a) = record { 0 = n + place_of (Refresh k a) made }

-- the equations of the terms of a list over the registers of their operands; an input has none
abbrev pub equations_of : (Term → Reg) → List Term → List Gate
equations_of reg [] = []
equations_of reg (Input i ∷ ts) = equations_of reg ts
equations_of reg (Const c ∷ ts) = gate.Const c ∷ equations_of reg ts
equations_of reg (Xor a b ∷ ts) = gate.Xor (reg a) (reg b) ∷ equations_of reg ts
equations_of reg (Not a ∷ ts) = gate.Not (reg a) ∷ equations_of reg ts
equations_of reg (Mask c a ∷ ts) = gate.Mask c (reg a) ∷ equations_of reg ts
equations_of reg (And a b ∷ ts) = gate.And (reg a) (reg b) ∷ equations_of reg ts
equations_of reg (Shl k a ∷ ts) = gate.Shl k (reg a) ∷ equations_of reg ts
equations_of reg (Shr k a ∷ ts) = gate.Shr k (reg a) ∷ equations_of reg ts
equations_of reg (Rotl k a ∷ ts) = gate.Rotl k (reg a) ∷ equations_of reg ts
equations_of reg (Refresh k a ∷ ts) = gate.Refresh (reg a) ∷ equations_of reg ts

-- the core of the output terms, at width w and with n inputs
abbrev pub core_of_terms : ℕ → ℕ → List Term → Circuit
core_of_terms w n outputs =
    let reg = register_of n (subterms outputs) in
    record { width = w; inputs = n; equations = equations_of reg (subterms outputs); outputs = map reg outputs }
