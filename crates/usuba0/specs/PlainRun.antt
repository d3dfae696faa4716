-- The plain run of a core: equation by equation on words of B bits.
use Rattle.std.specs.Prelude.{ℕ, List, [], ◌∷◌, ◌++◌, map, slice_index, bit_and, bit_xor}
use Rattle.usuba0.specs.declared.circuit.Gate.{Gate}
use Rattle.usuba0.specs.declared.circuit.Gate.TheVariants as gate
use Rattle.usuba0.specs.declared.circuit.Reg.{Reg}
use Rattle.usuba0.specs.Term.{ones, word_of_constant, shifted_left, shifted_right, rotated_left}
use Rattle.usuba0.specs.Circuit.{Circuit}

-- the word of a register among the words of all registers so far
abbrev pub word_at : List ℕ → Reg → ℕ
word_at words r = slice_index words r.0

-- the word that an equation makes at width w, given the words of the earlier registers
abbrev pub word_of_equation : ℕ → ℕ → List ℕ → Gate → ℕ
word_of_equation w B words (gate.Const c) = word_of_constant w B c
word_of_equation w B words (gate.Xor a b) = bit_xor (word_at words a) (word_at words b)
word_of_equation w B words (gate.Not a) = bit_xor (word_at words a) (ones B)
word_of_equation w B words (gate.Mask c a) = bit_and (word_of_constant w B c) (word_at words a)
word_of_equation w B words (gate.And a b) = bit_and (word_at words a) (word_at words b)
word_of_equation w B words (gate.Shl k a) = shifted_left B k (word_at words a)
word_of_equation w B words (gate.Shr k a) = shifted_right k (word_at words a)
word_of_equation w B words (gate.Rotl k a) = rotated_left B k (word_at words a)
word_of_equation w B words (gate.Refresh a) = word_at words a

-- the words of all registers after the equations
abbrev pub run_equations : ℕ → ℕ → List ℕ → List Gate → List ℕ
run_equations w B words [] = words
run_equations w B words (g ∷ gs) = run_equations w B (words ++ word_of_equation w B words g ∷ []) gs

-- the words of the outputs, for given input words
abbrev pub plain_run : ℕ → Circuit → List ℕ → List ℕ
plain_run B core inputs = map (word_at (run_equations core.width B inputs core.equations)) core.outputs
