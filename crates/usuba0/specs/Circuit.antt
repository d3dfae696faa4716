-- A core as contracts see it, what holds of every core, its counts and its two limits.
use Rattle.std.specs.Prelude.{◌≡◌, ℕ, suc, ◌+◌, ◌*◌, ◌<◌, ◌≤◌, ◌^◌, List, [], ◌∷◌, length, All}
use Rattle.usuba0.specs.declared.limit.TheConstants.{MAX_WEIGHT, MAX_COLUMNS}
use Rattle.usuba0.specs.declared.circuit.Gate.{Gate}
use Rattle.usuba0.specs.declared.circuit.Gate.TheVariants as gate
use Rattle.usuba0.specs.declared.circuit.Reg.{Reg}

-- registers 0 to inputs - 1 are the inputs, and equation k makes register inputs + k
pub record Circuit : Type 0 where
  pub width : ℕ
  pub inputs : ℕ
  pub equations : List Gate
  pub outputs : List Reg

-- an equation at width w that reads registers below n only, with a constant below 2^w or an amount of 1 to w - 1
abbrev pub IsEquation : ℕ → ℕ → Gate → Type 0
IsEquation w n (gate.Const c) = c < 2 ^ w
IsEquation w n (gate.Xor a b) = (a.0 < n) × (b.0 < n)
IsEquation w n (gate.Not a) = a.0 < n
IsEquation w n (gate.Mask c a) = (c < 2 ^ w) × (a.0 < n)
IsEquation w n (gate.And a b) = (a.0 < n) × (b.0 < n)
IsEquation w n (gate.Shl k a) = (0 < k) × (k < w) × (a.0 < n)
IsEquation w n (gate.Shr k a) = (0 < k) × (k < w) × (a.0 < n)
IsEquation w n (gate.Rotl k a) = (0 < k) × (k < w) × (a.0 < n)
IsEquation w n (gate.Refresh a) = a.0 < n

-- each equation reads earlier registers only, where the first makes register n
abbrev pub AreEquations : ℕ → ℕ → List Gate → Type 0
AreEquations w n [] = Unit {0}
AreEquations w n (g ∷ gs) = IsEquation w n g × AreEquations w (suc n) gs

-- how many registers a core has
abbrev pub registers : Circuit → ℕ
registers core = core.inputs + length core.equations

-- what holds of every core
pub record IsCore (core : Circuit) : Type 0 where
  pub some_width : 0 < core.width
  pub width_fits : core.width ≤ 64
  pub some_input : 0 < core.inputs
  pub some_output : 0 < length core.outputs
  pub equations : AreEquations core.width core.inputs core.equations
  pub outputs : All (λ r. r.0 < registers core) core.outputs

-- how many of the equations are products (`and`)
abbrev pub products_of : List Gate → ℕ
products_of [] = 0
products_of (gate.Const c ∷ gs) = products_of gs
products_of (gate.Xor a b ∷ gs) = products_of gs
products_of (gate.Not a ∷ gs) = products_of gs
products_of (gate.Mask c a ∷ gs) = products_of gs
products_of (gate.And a b ∷ gs) = products_of gs + 1
products_of (gate.Shl k a ∷ gs) = products_of gs
products_of (gate.Shr k a ∷ gs) = products_of gs
products_of (gate.Rotl k a ∷ gs) = products_of gs
products_of (gate.Refresh a ∷ gs) = products_of gs

-- how many of the equations are refreshes
abbrev pub refreshes_of : List Gate → ℕ
refreshes_of [] = 0
refreshes_of (gate.Const c ∷ gs) = refreshes_of gs
refreshes_of (gate.Xor a b ∷ gs) = refreshes_of gs
refreshes_of (gate.Not a ∷ gs) = refreshes_of gs
refreshes_of (gate.Mask c a ∷ gs) = refreshes_of gs
refreshes_of (gate.And a b ∷ gs) = refreshes_of gs
refreshes_of (gate.Shl k a ∷ gs) = refreshes_of gs
refreshes_of (gate.Shr k a ∷ gs) = refreshes_of gs
refreshes_of (gate.Rotl k a ∷ gs) = refreshes_of gs
refreshes_of (gate.Refresh a ∷ gs) = refreshes_of gs + 1

-- (equations + products) * width
abbrev pub weight : Circuit → ℕ
weight core = (length core.equations + products_of core.equations) * core.width

-- (inputs + 2 products + refreshes) * width
abbrev pub columns : Circuit → ℕ
columns core = (core.inputs + 2 * products_of core.equations + refreshes_of core.equations) * core.width

-- the first limit of a core: its weight
abbrev pub IsSmall : Circuit → Type 0
IsSmall core = weight core ≤ MAX_WEIGHT

-- the second limit of a core: its columns
abbrev pub HasFewColumns : Circuit → Type 0
HasFewColumns core = columns core ≤ MAX_COLUMNS

-- what holds of the fields of a core: they are a core's, and its counts stand beside it
pub record AreFields (width inputs : ℕ) (equations : List Gate) (outputs : List Reg) (products refreshes : ℕ) : Type 0 where
  pub core : IsCore (record { width = width; inputs = inputs; equations = equations; outputs = outputs })
  pub few_inputs : inputs < 2 ^ 32
  pub few_equations : length equations < 2 ^ 32
  pub few_outputs : length outputs < 2 ^ 32
  pub product_count : products ≡ products_of equations
  pub refresh_count : refreshes ≡ refreshes_of equations
