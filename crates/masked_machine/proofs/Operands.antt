-- The scopes of gadgets, and what the rows that their parameters name hold.
use Rattle.std.proofs.Common.{◌≡◌, ◌≢◌, ℕ, ◌^◌, ◌<◌, List, [], ◌∷◌, set, get_or, slice_get, length, Some, ap, ◌∙◌, arith, get_or-set_other}
use Rattle.std.specs.Prelude.{codes}
use Rattle.std.proofs.lemmas.Option.{slice_get-get_or}
use Rattle.c_machine.specs.Scope.{Binding, row, word}
use Rattle.c_machine.specs.Machine.{word_at}
use Rattle.share_gadgets.specs.Sharing.{IsSharing}

-- an array of a gadget, by its row
abbrev pub array : List ℕ → ℕ → Binding
array name r = record { name = name; meaning = row r }

-- a constant of a gadget
abbrev pub constant : ℕ → Binding
constant k = record { name = codes "k"; meaning = word k }

-- `reg c[D], uint64_t k`
abbrev pub const_scope : ℕ → ℕ → List Binding
const_scope c k = array (codes "c") c ∷ constant k ∷ []

-- `reg c[D], reg a[D]`
abbrev pub unary_scope : ℕ → ℕ → List Binding
unary_scope c a = array (codes "c") c ∷ array (codes "a") a ∷ []

-- `reg c[D], reg a[D], reg b[D]`
abbrev pub binary_scope : ℕ → ℕ → ℕ → List Binding
binary_scope c a b = array (codes "c") c ∷ array (codes "a") a ∷ array (codes "b") b ∷ []

-- `reg c[D], reg a[D], uint64_t k`
abbrev pub constant_scope : ℕ → ℕ → ℕ → List Binding
constant_scope c a k = array (codes "c") c ∷ array (codes "a") a ∷ constant k ∷ []

-- the row that a gadget writes has d words
pub record IsTarget (d : ℕ) (memory : List (List ℕ)) (c : ℕ) : Type 0 where
  pub within : c < length memory
  pub count : length (get_or memory c []) ≡ d

-- a row that a gadget reads holds a sharing, and is another one than it writes
pub record IsOperand (B d : ℕ) (memory : List (List ℕ)) (c r : ℕ) (shares : List ℕ) : Type 0 where
  pub apart : r ≢ c
  pub held : get_or memory r [] ≡ shares
  pub shared : IsSharing B d shares

module _ (B d : ℕ) (memory : List (List ℕ)) (c r : ℕ) (shares : List ℕ) (it : IsOperand B d memory c r shares) where
  -- a word of an operand, whatever the gadget has written
  pub operand_word : (written : List ℕ) (n : ℕ) → n < d → word_at (set memory c written) (Some r) n ≡ Some (get_or shares n 0)
  operand_word written n below =
      ap (λ row. slice_get row n) (get_or-set_other memory c r written [] it.apart ∙ it.held)
      ∙ slice_get-get_or shares n 0 (omega (arith, it.shared.count))

  pub operand_small : (n : ℕ) → n < d → get_or shares n 0 < 2 ^ B
  operand_small n below = it.shared.words n 0 (omega (arith, it.shared.count))
