-- When a file of C is the masked form of a core.
use Rattle.std.specs.Prelude.{◌≡◌, ◌≢◌, ℕ, suc, ◌-◌, ◌<◌, ◌≤◌, nat_le, nat_lt, List, [], ◌∷◌, ◌++◌, length}
use Rattle.std.specs.Prelude.{slice_get, slice_index, codes, if◌then◌else◌, All, Some}
use Rattle.c_tree.specs.declared.CArg.{CArg}
use Rattle.c_tree.specs.declared.CArg.TheVariants.{Out, Input, Slot, Number}
use Rattle.c_tree.specs.declared.CCall.{CCall}
use Rattle.c_tree.specs.declared.CFile.{CFile}
use Rattle.usuba0.specs.declared.circuit.Gate.{Gate}
use Rattle.usuba0.specs.declared.circuit.Gate.TheVariants as gate
use Rattle.usuba0.specs.declared.circuit.Reg.{Reg}
use Rattle.usuba0.specs.Circuit.{Circuit, IsCore}
use Rattle.usuba0.specs.Term.{ones, word_of_constant}
use Rattle.c_form.specs.Slots.{operands, copied, AreLeastSlots, IsLastWriter, slot_count}
use Rattle.c_form.specs.Template.{template}

-- the bits of the C type for words of so many bits: the least of 8, 16, 32 and 64 that holds them
abbrev pub reg_size : ℕ → ℕ
reg_size bits = if nat_le bits 8 then 8 else if nat_le bits 16 then 16 else if nat_le bits 32 then 32 else 64

-- the row of a register, where there are so many inputs and the equations have these slots: its own of `in`, or the
-- slot of its equation
abbrev pub row_of : ℕ → List ℕ → Reg → CArg
row_of inputs slots r = if nat_lt r.0 inputs then Input r.0 else Slot (slice_index slots (r.0 - inputs))

-- a call of the gadget of this name
abbrev pub called : List ℕ → List CArg → CCall
called name arguments = record { gadget = name; args = arguments }

-- the call of an equation at width w for words of B bits that writes this slot, given the rows of registers
abbrev pub equation_call : ℕ → ℕ → (Reg → CArg) → ℕ → Gate → CCall
equation_call w B row slot (gate.Const c) = called (codes "g_const") (Slot slot ∷ Number (word_of_constant w B c) ∷ [])
equation_call w B row slot (gate.Xor a b) = called (codes "g_xor") (Slot slot ∷ row a ∷ row b ∷ [])
equation_call w B row slot (gate.Not a) = called (codes "g_not") (Slot slot ∷ row a ∷ [])
equation_call w B row slot (gate.Mask c a) =
    called (codes "g_mask") (Slot slot ∷ row a ∷ Number (word_of_constant w B c) ∷ [])
equation_call w B row slot (gate.And a b) = called (codes "g_and") (Slot slot ∷ row a ∷ row b ∷ [])
equation_call w B row slot (gate.Shl k a) = called (codes "g_shl") (Slot slot ∷ row a ∷ Number k ∷ [])
equation_call w B row slot (gate.Shr k a) = called (codes "g_shr") (Slot slot ∷ row a ∷ Number k ∷ [])
equation_call w B row slot (gate.Rotl k a) = called (codes "g_rotl") (Slot slot ∷ row a ∷ Number k ∷ [])
equation_call w B row slot (gate.Refresh a) = called (codes "g_refresh") (Slot slot ∷ row a ∷ [])

-- the calls of equations in order, the first of which is equation k
abbrev pub equation_calls : ℕ → ℕ → ℕ → List ℕ → ℕ → List Gate → List CCall
equation_calls w B inputs slots k [] = []
equation_calls w B inputs slots k (g ∷ gs) =
    equation_call w B (row_of inputs slots) (slice_index slots k) g ∷ equation_calls w B inputs slots (suc k) gs

-- the copy of a register into output k
abbrev pub output_call : ℕ → List ℕ → ℕ → Reg → CCall
output_call inputs slots k r = called (codes "g_copy") (Out k ∷ row_of inputs slots r ∷ [])

-- the copies into the outputs in order, the first of which is output k
abbrev pub output_calls : ℕ → List ℕ → ℕ → List Reg → List CCall
output_calls inputs slots k [] = []
output_calls inputs slots k (r ∷ rs) = output_call inputs slots k r ∷ output_calls inputs slots (suc k) rs

-- the calls of a core: one for each equation, then a copy for each output
abbrev pub calls_of : Circuit → ℕ → List ℕ → List CCall
calls_of core B slots =
    equation_calls core.width B core.inputs slots 0 core.equations ++ output_calls core.inputs slots 0 core.outputs

-- each of these registers that is no input was the last to write its slot before call k
abbrev pub AreLastWritten : ℕ → List ℕ → ℕ → List ℕ → Type 0
AreLastWritten inputs slots k registers =
    All (λ r. inputs ≤ r → IsLastWriter slots k (slice_index slots (r - inputs)) (r - inputs)) registers

-- none of these registers that is no input has this slot
abbrev pub AreElsewhere : ℕ → List ℕ → ℕ → List ℕ → Type 0
AreElsewhere inputs slots slot registers =
    All (λ r. inputs ≤ r → slice_index slots (r - inputs) ≢ slot) registers

-- the file is the masked form of a core for words of B bits
pub record IsMaskedForm (core : Circuit) (B : ℕ) (file : CFile) : Type 0 where
  -- the slot of each equation
  pub places : List ℕ
  -- the gadgets of the template, in its order
  pub gadgets : file.gadgets ≡ template (ones B) B
  pub reg_bits : file.reg_bits ≡ reg_size B
  pub inputs : file.inputs ≡ core.inputs
  pub outputs : file.outputs ≡ length core.outputs
  -- a call for each equation, then a copy for each output
  pub calls : file.calls ≡ calls_of core B places
  -- each operand names the input that it is, or the slot whose last writer before the call it is
  pub operands_written : (k : ℕ) (g : Gate) → slice_get core.equations k ≡ Some g
      → AreLastWritten core.inputs places k (operands g)
  pub outputs_written : AreLastWritten core.inputs places (length core.equations) (copied core)
  -- the slot that a call writes is below `slots`, and is none of its operands' slots
  pub below : (k : ℕ) → k < length core.equations → slice_index places k < file.slots
  pub elsewhere : (k : ℕ) (g : Gate) → slice_get core.equations k ≡ Some g
      → AreElsewhere core.inputs places (slice_index places k) (operands g)
  -- the slot of an equation is the least number that no register live at it holds
  pub least : AreLeastSlots core places
  pub slots : file.slots ≡ slot_count places

-- each core has a masked form, for words of any number of bits
abbrev pub MaskedFormsExist : Type 0
MaskedFormsExist = (core : Circuit) → IsCore core → (B : ℕ) → (file : CFile) × IsMaskedForm core B file

-- and no two
abbrev pub MaskedFormsAreUnique : Type 0
MaskedFormsAreUnique = (core : Circuit) (B : ℕ) (first second : CFile) → IsMaskedForm core B first
    → IsMaskedForm core B second → first ≡ second
