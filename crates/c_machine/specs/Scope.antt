-- What the names of a gadget's body stand for.
use Rattle.std.specs.Prelude.{ℕ, ◌+◌, if◌then◌else◌, List, [], ◌∷◌, Option, None, Some, bytes_eq}
use Rattle.c_tree.specs.declared.CIndex.{CIndex}
use Rattle.c_tree.specs.declared.CIndex.TheVariants as c_index
use Rattle.c_tree.specs.declared.CLow.{CLow}
use Rattle.c_tree.specs.declared.CLow.TheVariants as c_low

-- what a name stands for: an array, by the number of its row in memory; a word; a counter, by its value
pub data Meaning : Type 0 where
  row : ℕ → Meaning
  word : ℕ → Meaning
  counter : ℕ → Meaning

-- a name in scope, with what it stands for
pub record Binding : Type 0 where
  pub name : List ℕ
  pub meaning : Meaning

-- what a name stands for, where it is in scope; the names are listed in the order in which they came into scope
abbrev pub meant_by : List Binding → List ℕ → Option Meaning
meant_by [] name = None
meant_by (binding ∷ scope) name = if bytes_eq binding.name name then Some binding.meaning else meant_by scope name

-- the row of an array; another name has none
abbrev pub row_of : Option Meaning → Option ℕ
row_of None = None
row_of (Some (row r)) = Some r
row_of (Some (word w)) = None
row_of (Some (counter i)) = None

-- the value of a word; another name has 0
abbrev pub word_of : Option Meaning → ℕ
word_of None = 0
word_of (Some (row r)) = 0
word_of (Some (word w)) = w
word_of (Some (counter i)) = 0

-- the value of a counter; another name has 0
abbrev pub counter_of : Option Meaning → ℕ
counter_of None = 0
counter_of (Some (row r)) = 0
counter_of (Some (word w)) = 0
counter_of (Some (counter i)) = i

-- the number of an index
abbrev pub index_value : List Binding → CIndex → ℕ
index_value scope (c_index.Number n) = n
index_value scope (c_index.Counter name) = counter_of (meant_by scope name)

-- where a loop begins
abbrev pub low_value : List Binding → CLow → ℕ
low_value scope (c_low.Number n) = n
low_value scope (c_low.After name) = counter_of (meant_by scope name) + 1
