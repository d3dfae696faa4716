-- What is kept along the equations of a core while the rows of its registers are made. No public clause needs it.
use Rattle.std.specs.Prelude.{◌≡◌, ℕ, ◌+◌, ◌<◌, ◌≤◌, Bool, true, false, List, [], ◌∷◌, ◌++◌, length, take, Some, slice_get, slice_index, slice_index_or, nat_lt, if◌then◌else◌}
use Rattle.std.specs.List.{AllByRecursion, list_any}
use Rattle.usuba0.specs.declared.circuit.Gate.{Gate}
use Rattle.usuba0.specs.declared.circuit.Gate.TheVariants as gate
use Rattle.usuba0.specs.declared.circuit.Reg.{Reg}
use Rattle.linear_view.specs.declared.column.Column.{Column}
use Rattle.linear_view.specs.declared.column.ColumnKind.{ColumnKind}
use Rattle.usuba0.specs.Circuit.{products_of, refreshes_of}
use Rattle.linear_view.specs.Names.{same_column, input_columns, gate_columns, equation_columns}
use Rattle.linear_view.specs.NarrowView.{AreSomeOf}
use Rattle.linear_view.specs.Rows.{RegisterRows, rows_at, rows_over}

-- the registers that an equation reads
abbrev pub reads : Gate → List Reg
reads (gate.Const c) = []
reads (gate.Xor a b) = a ∷ b ∷ []
reads (gate.Not a) = a ∷ []
reads (gate.Mask c a) = a ∷ []
reads (gate.And a b) = a ∷ b ∷ []
reads (gate.Shl k a) = a ∷ []
reads (gate.Shr k a) = a ∷ []
reads (gate.Rotl k a) = a ∷ []
reads (gate.Refresh a) = a ∷ []

-- the registers of whose rows those of the equation's own register are made: none where that has columns of its own
abbrev pub needs : Gate → List Reg
needs (gate.Const c) = []
needs (gate.Xor a b) = a ∷ b ∷ []
needs (gate.Not a) = a ∷ []
needs (gate.Mask c a) = a ∷ []
needs (gate.And a b) = []
needs (gate.Shl k a) = a ∷ []
needs (gate.Shr k a) = a ∷ []
needs (gate.Rotl k a) = a ∷ []
needs (gate.Refresh a) = []

-- both operands of an equation that is a product, and nothing of any other
abbrev pub operands : Gate → List Reg
operands (gate.Const c) = []
operands (gate.Xor a b) = []
operands (gate.Not a) = []
operands (gate.Mask c a) = []
operands (gate.And a b) = a ∷ b ∷ []
operands (gate.Shl k a) = []
operands (gate.Shr k a) = []
operands (gate.Rotl k a) = []
operands (gate.Refresh a) = []

-- the registers whose rows an equation takes: the operands of a product, and where its own register is to be read, those
-- that it needs
abbrev pub takes : (is_read : Bool) → Gate → List Reg
takes is_read g = operands g ++ (if is_read then needs g else [])

-- no column of this kind and number is among the columns
abbrev pub IsNewName : ColumnKind → ℕ → List Column → Type 0
IsNewName kind number columns = (bit : ℕ) → list_any (same_column (record { kind = kind; number = number; bit = bit })) columns ≡ false

-- no name stands at two places
abbrev pub AreOnce : List Column → Type 0
AreOnce columns = (b c : ℕ) (name : Column) → slice_get columns b ≡ Some name → slice_get columns c ≡ Some name → b ≡ c

-- register r, which equation k makes, is read later
abbrev pub IsReadAfter : List ℕ → (r k : ℕ) → Type 0
IsReadAfter last_reads r k = k < slice_index last_reads r

-- for each register that equation k takes, which makes register r, the equation of its last read is number k or a later one
abbrev pub AreTakenLate : List ℕ → (r k : ℕ) → Gate → Type 0
AreTakenLate last_reads r k g =
    AllByRecursion (λ (a : Reg). k ≤ slice_index last_reads a.0) (takes (nat_lt k (slice_index last_reads r)) g)

-- a number for each register, which is that of the last equation that takes it, or a later one
pub record TellsLastReads (inputs : ℕ) (equations : List Gate) (last_reads : List ℕ) : Type 0 where
  pub count : length last_reads ≡ inputs + length equations
  pub late : (k : ℕ) (g : Gate) → slice_get equations k ≡ Some g → AreTakenLate last_reads (inputs + k) k g

-- each of the columns is among the others
abbrev pub AreAmong : (columns others : List Column) → Type 0
AreAmong columns others =
    (name : Column) → list_any (same_column name) columns ≡ true → list_any (same_column name) others ≡ true

-- some of the columns of a circuit, among which are those of its inputs, and those of each of the equations whose register
-- is read later
pub record HoldsNeeded (width inputs : ℕ) (equations : List Gate) (last_reads : List ℕ) (columns : List Column) : Type 0 where
  pub some : AreSomeOf columns (input_columns width inputs ++ equation_columns width 0 0 equations)
  pub all_inputs : AreAmong (input_columns width inputs) columns
  pub own : (k : ℕ) (g : Gate) → slice_get equations k ≡ Some g → IsReadAfter last_reads (inputs + k) k
      → AreAmong (gate_columns width (products_of (take k equations)) (refreshes_of (take k equations)) g) columns

-- the same rows are held, as bits over the columns, of both operands of an equation that is a product
abbrev pub HoldsOperands : List Column → RegisterRows → List (List (List Bool)) → Gate → Type 0
HoldsOperands columns registers held g =
    AllByRecursion (λ (a : Reg). slice_index_or held a.0 [] ≡ rows_over columns (rows_at registers a)) (operands g)

-- the same rows are held of each register that the equation needs
abbrev pub HoldsNeeds : List Column → RegisterRows → List (List (List Bool)) → Gate → Type 0
HoldsNeeds columns registers held g =
    AllByRecursion (λ (a : Reg). slice_index_or held a.0 [] ≡ rows_over columns (rows_at registers a)) (needs g)

-- the rows of each register that is read after equation k stayed as they were
pub record KeepsLater (last_reads : List ℕ) (k : ℕ) (old new : List (List (List Bool))) : Type 0 where
  pub count : length new ≡ length old
  pub later : (r : ℕ) → k < slice_index last_reads r → slice_index_or new r [] ≡ slice_index_or old r []
