-- The plain meaning of a source: its outcome over words of B bits.
use Rattle.std.specs.Prelude.{ℕ, zero, suc, ◌+◌, ◌-◌, ◌*◌, ◌^◌, List, [], ◌∷◌, map, reverse, Option, slice_index, bit_and, bit_or, bit_xor}
use Rattle.std.specs.Int.{bit_at}
use Rattle.usuba_trees.specs.declared.BitOp.{BitOp}
use Rattle.usuba_trees.specs.declared.BitOp.TheVariants.{And, Xor, Or}
use Rattle.usuba_trees.specs.declared.File.{File}
use Rattle.usuba_trees.specs.declared.ShiftKind.{ShiftKind}
use Rattle.usuba_trees.specs.declared.ShiftKind.TheVariants.{Left, Right, RotLeft, RotRight}
use Rattle.usuba0.specs.Term.{ones, shifted_left, shifted_right, rotated_left, word_of_constant}
use Rattle.usuba_model.specs.Judging.{name_at}
use Rattle.usuba_model.specs.Rounds.{Operators, outcomes}

-- the number that bits make, the most significant one first, after a number so far
abbrev pub number_of_bits : ℕ → List ℕ → ℕ
number_of_bits before [] = before
number_of_bits before (b ∷ bits) = number_of_bits (before * 2 + b) bits

-- the entry that the words of a table's inputs pick at a bit position: element 0 is the most significant bit of the index
abbrev pub entry_at : List ℕ → List ℕ → ℕ → ℕ
entry_at entries words position = slice_index entries (number_of_bits 0 (map (λ word. bit_at word position) words))

-- the sum of what each of so many positions, from 0, stands for in a word
abbrev pub word_of_bits : ℕ → (ℕ → ℕ) → ℕ
word_of_bits zero bit = 0
word_of_bits (suc n) bit = word_of_bits n bit + bit n * 2 ^ n

-- output element j of a table of m output elements, at each of B bit positions: element 0 is the most significant bit of the entry
abbrev pub looked_up_word : ℕ → ℕ → List ℕ → List ℕ → ℕ → ℕ
looked_up_word B m entries words j = word_of_bits B (λ position. bit_at (entry_at entries words position) (m - 1 - j))

-- what `&`, `^` and `|` make of words
abbrev pub word_operation : BitOp → ℕ → ℕ → ℕ
word_operation And a b = bit_and a b
word_operation Xor a b = bit_xor a b
word_operation Or a b = bit_or a b

-- a shift or rotation by k of a word of B bits; a rotation to the right by k is one to the left by B - k
abbrev pub word_shift : ℕ → ShiftKind → ℕ → ℕ → ℕ
word_shift B Left k a = shifted_left B k a
word_shift B Right k a = shifted_right k a
word_shift B RotLeft k a = rotated_left B k a
word_shift B RotRight k a = rotated_left B (B - k) a

-- operators on words of B bits at width w. A constant is itself, and at width 1 the constant 1 is the word of B ones. A refresh
-- gives its operand.
abbrev pub word_operators : ℕ → ℕ → Operators ℕ
word_operators w B = record {
  number_of = word_of_constant w B;
  complement_of = λ a. bit_xor a (ones B);
  operation_of = word_operation;
  shift_of = word_shift B;
  refresh_of = λ k a. a;
  look_up = looked_up_word B;
}

-- the plain meaning of the entry at a place among a file's definitions: its output words for its input words
abbrev pub plain_meaning : (w B : ℕ) → File → ℕ → List ℕ → Option (List ℕ)
plain_meaning w B file entry inputs = outcomes (word_operators w B) (reverse file.defs) (name_at file.defs entry) inputs
