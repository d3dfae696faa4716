-- What is kept while the equations of a core are copied. No public clause needs it.
use Rattle.std.specs.Prelude.{◌≡◌, ℕ, suc, ◌+◌, ◌*◌, ◌<◌, ◌≤◌, Bool, List, ◌++◌, length, take, drop, slice_index_or}
use Rattle.usuba0.specs.declared.circuit.Gate.{Gate}
use Rattle.usuba0.specs.declared.circuit.Gate.TheVariants as gate
use Rattle.usuba0.specs.declared.circuit.Reg.{Reg}
use Rattle.usuba0.specs.Circuit.{Circuit, products_of}
use Rattle.core_refresh.specs.RefreshedCore.{added, new_register, refreshed_equations, refreshed_core}

-- the equations so far, the new number of each old register so far, and how many old equations were products
pub record Copying : Type 0 where
  pub inputs : ℕ
  pub numbers : List Reg
  pub equations : List Gate
  pub products : ℕ

-- the new number of a register, where those of the registers so far are listed
abbrev pub number_in : List Reg → Reg → Reg
number_in numbers r = slice_index_or numbers r.0 r

-- the register that the next equation makes
abbrev pub next_register : Copying → ℕ
next_register copying = copying.inputs + length copying.equations

-- the equation reads registers below n only
abbrev pub ReadsBelow : ℕ → Gate → Type 0
ReadsBelow n (gate.Const c) = Unit {0}
ReadsBelow n (gate.Xor a b) = (a.0 < n) × (b.0 < n)
ReadsBelow n (gate.Not a) = a.0 < n
ReadsBelow n (gate.Mask c a) = a.0 < n
ReadsBelow n (gate.And a b) = (a.0 < n) × (b.0 < n)
ReadsBelow n (gate.Shl m a) = a.0 < n
ReadsBelow n (gate.Shr m a) = a.0 < n
ReadsBelow n (gate.Rotl m a) = a.0 < n
ReadsBelow n (gate.Refresh a) = a.0 < n

-- the list has the new numbers of the registers below this one
pub record AreNumbers (new : Reg → Reg) (n : ℕ) (numbers : List Reg) : Type 0 where
  pub count : length numbers ≡ n
  pub same : (r : Reg) → r.0 < n → number_in numbers r ≡ new r

-- what the new numbers are for the equations that are left: the old registers below n have new numbers below `next`, and
-- each equation that is left makes one register, or two where it is a product of the set
pub record IsNumbering (new : Reg → Reg) (set : ℕ → Bool) (k n next : ℕ) (gs : List Gate) : Type 0 where
  pub earlier : (r : Reg) → r.0 < n → (new r).0 < next
  pub later : (j : ℕ) → j < length gs → (new (record { 0 = n + j })).0 ≡ next + j + added set k (suc j) gs

-- the first i equations of a core are copied
pub record IsCopied (core : Circuit) (set : ℕ → Bool) (i : ℕ) (copying : Copying) : Type 0 where
  pub inputs : copying.inputs ≡ core.inputs
  pub numbers : AreNumbers (new_register core set) (core.inputs + i) copying.numbers
  pub few : length copying.equations ≤ 2 * i
  pub products : copying.products ≡ products_of (take i core.equations)
  pub numbering : IsNumbering (new_register core set) set copying.products (core.inputs + i) (next_register copying) (drop i core.equations)
  pub rest : copying.equations
      ++ refreshed_equations (new_register core set) set copying.products (next_register copying) (drop i core.equations)
      ≡ (refreshed_core core set).equations
