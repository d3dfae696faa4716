-- The state of the walk by which a builder is closed: over the numbers of terms, in place of the trees.
use Rattle.std.specs.Prelude.{◌≡◌, ◌≢◌, ◌⊎◌, ℕ, ◌+◌, ◌-◌, ◌*◌, ◌<◌, ◌≤◌, ◌^◌, ◌==◌, true, List, [], ◌∷◌, ◌++◌, Some, length, slice_get, slice_index, slice_index_or, if◌then◌else◌}
use Rattle.usuba0.specs.declared.circuit.Gate.{Gate}
use Rattle.usuba0.specs.declared.circuit.Gate.TheVariants as gate
use Rattle.usuba0.specs.declared.circuit.Reg.{Reg}
use Rattle.usuba0.specs.declared.builder.Head.{Head}
use Rattle.usuba0.specs.declared.builder.Head.TheVariants as head
use Rattle.usuba0.specs.Term.{Term, Input}
use Rattle.usuba0.specs.Builder.{input_terms}
use Rattle.usuba0.specs.Circuit.{IsEquation}
use Rattle.usuba0.specs.CoreOfTerms.{postorder, is_among, first_places}
use Rattle.usuba0.specs.State.Heads.{terms_of_heads}

-- the terms of a builder with n inputs
abbrev pub all_terms : ℕ → List Head → List Term
all_terms n heads = terms_of_heads (input_terms n) heads

-- the terms of these numbers
abbrev pub terms_in : List Term → List ℕ → List Term
terms_in ts [] = []
terms_in ts (i ∷ is) = slice_index_or ts i (Input 0) ∷ terms_in ts is

-- the place of a term that has no register yet
abbrev pub unplaced : ℕ
unplaced = 2 ^ 32 - 1

-- the term has a register
abbrev pub HasPlace : List ℕ → Reg → Type 0
HasPlace places r = slice_index places r.0 ≢ unplaced

-- the register of a term, read from the places
abbrev pub place_in : List ℕ → Reg → Reg
place_in places r = record { 0 = slice_index places r.0 }

-- how many terms have no register yet
abbrev pub count_unplaced : List ℕ → ℕ
count_unplaced [] = 0
count_unplaced (p ∷ ps) = if p == unplaced then count_unplaced ps + 1 else count_unplaced ps

-- P holds of each operand
abbrev pub AreOperands : (Reg → Type 0) → Head → Type 0
AreOperands P (head.Const c) = Unit {0}
AreOperands P (head.Xor a b) = P a × P b
AreOperands P (head.Not a) = P a
AreOperands P (head.Mask c a) = P a
AreOperands P (head.And a b) = P a × P b
AreOperands P (head.Shl k a) = P a
AreOperands P (head.Shr k a) = P a
AreOperands P (head.Rotl k a) = P a
AreOperands P (head.Refresh k a) = P a

-- r is the first operand, or the second one where the first has a place
abbrev pub IsNextOperand : List ℕ → Reg → Head → Type 0
IsNextOperand places r (head.Const c) = ⊥
IsNextOperand places r (head.Xor a b) = (a ≡ r) ⊎ (HasPlace places a × (b ≡ r))
IsNextOperand places r (head.Not a) = a ≡ r
IsNextOperand places r (head.Mask c a) = a ≡ r
IsNextOperand places r (head.And a b) = (a ≡ r) ⊎ (HasPlace places a × (b ≡ r))
IsNextOperand places r (head.Shl k a) = a ≡ r
IsNextOperand places r (head.Shr k a) = a ≡ r
IsNextOperand places r (head.Rotl k a) = a ≡ r
IsNextOperand places r (head.Refresh k a) = a ≡ r

-- the equation of an operation, given the registers of its operands
abbrev pub gate_of_head : (Reg → Reg) → Head → Gate
gate_of_head reg (head.Const c) = gate.Const c
gate_of_head reg (head.Xor a b) = gate.Xor (reg a) (reg b)
gate_of_head reg (head.Not a) = gate.Not (reg a)
gate_of_head reg (head.Mask c a) = gate.Mask c (reg a)
gate_of_head reg (head.And a b) = gate.And (reg a) (reg b)
gate_of_head reg (head.Shl k a) = gate.Shl k (reg a)
gate_of_head reg (head.Shr k a) = gate.Shr k (reg a)
gate_of_head reg (head.Rotl k a) = gate.Rotl k (reg a)
gate_of_head reg (head.Refresh k a) = gate.Refresh (reg a)

-- each term of the first list is in the second
abbrev pub AllAmong : List Term → List Term → Type 0
AllAmong [] ts = Unit {0}
AllAmong (u ∷ us) ts = (is_among u ts ≡ true) × AllAmong us ts

-- with each term the list has all its subterms that are no inputs
abbrev pub IsClosed : List Term → Type 0
IsClosed ts = (t : Term) → is_among t ts ≡ true → AllAmong (postorder t) ts

-- `places` is the register of each term that has one, and `order` is the numbers of those that are no inputs, in the order of their registers
pub record IsWalk (w n : ℕ) (heads : List Head) (places order : List ℕ) : Type 0 where
  pub all : length places ≡ n + length heads
  pub inputs : (i : ℕ) → i < n → slice_index places i ≡ i
  pub placed : (k : ℕ) → k < length order → (n ≤ slice_index order k) × (slice_index order k < n + length heads) × (slice_index places (slice_index order k) ≡ n + k)
  pub others : (i : ℕ) → n ≤ i → i < n + length heads → slice_index places i ≢ unplaced → (k : ℕ) × (k < length order) × (slice_index order k ≡ i)
  pub room : count_unplaced places + length order ≡ length heads
  pub gates : (k : ℕ) (h : Head) → k < length order → slice_get heads (slice_index order k - n) ≡ Some h → IsEquation w (n + k) (gate_of_head (place_in places) h)
  pub closed : IsClosed (terms_in (all_terms n heads) order)

-- what is still to be walked, where the last term that waits comes first
abbrev pub pending_walk : List Term → List Term
pending_walk [] = []
pending_walk (t ∷ ts) = pending_walk ts ++ postorder t

-- one more than the last number, or 0
abbrev pub last_and_one : List ℕ → ℕ
last_and_one [] = 0
last_and_one (i ∷ is) = slice_index (i ∷ is) (length is) + 1

-- a number that falls with each step of the walk
abbrev pub work : List ℕ → List ℕ → ℕ
work places pending = count_unplaced places * 2 ^ 26 + last_and_one pending

-- terms wait, each for one that comes after it in the list
pub record IsUnderWay (w n : ℕ) (heads : List Head) (places order pending : List ℕ) : Type 0 where
  pub walk : IsWalk w n heads places order
  pub waiting : (k : ℕ) → k < length pending → (n ≤ slice_index pending k) × (slice_index pending k < n + length heads) × (slice_index places (slice_index pending k) ≡ unplaced)
  pub falling : (j k : ℕ) → j < k → k < length pending → slice_index pending k < slice_index pending j

-- the terms in order once all that wait were walked
abbrev pub order_at_end : ℕ → List Head → List ℕ → List ℕ → List Term
order_at_end n heads order pending = first_places (terms_in (all_terms n heads) order) (pending_walk (terms_in (all_terms n heads) pending))
