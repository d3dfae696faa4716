-- The masked form of a core, from its parts.
use Rattle.std.proofs.Common.{◌≡◌, ℕ, List, length, ap, sym, ◌∙◌, arith}
use Rattle.c_tree.specs.declared.CCall.{CCall}
use Rattle.c_tree.specs.declared.CFile.{CFile}
use Rattle.c_tree.specs.declared.CFun.{CFun}
use Rattle.usuba0.specs.Circuit.{Circuit, IsCore}
use Rattle.usuba0.specs.Term.{ones}
use Rattle.c_form.specs.Slots.{AreLeastSlots, slot_count}
use Rattle.c_form.specs.Template.{template}
use Rattle.c_form.specs.MaskedForm.{IsMaskedForm, MaskedFormsAreUnique, reg_size, calls_of}
use Rattle.c_form.proofs.Last.{operands_written, copied_written, operands_elsewhere, below-slot_count}
use Rattle.c_form.proofs.Counting.{slots-unique}

-- the file of these parts
abbrev pub file_of : Circuit → ℕ → List ℕ → CFile
file_of core B places = record {
  reg_bits = reg_size B;
  gadgets = template (ones B) B;
  outputs = length core.outputs;
  inputs = core.inputs;
  slots = slot_count places;
  calls = calls_of core B places;
}

-- a file of these parts is the masked form, where the slots are least
pub IsMaskedForm-from : (core : Circuit) (B : ℕ) (places : List ℕ) (file : CFile) → IsCore core
    → AreLeastSlots core places → file ≡ file_of core B places → IsMaskedForm core B file
IsMaskedForm-from core B places file is are same = record {
  places = places;
  gadgets = ap (λ (f : CFile). f.gadgets) same;
  reg_bits = ap (λ (f : CFile). f.reg_bits) same;
  inputs = ap (λ (f : CFile). f.inputs) same;
  outputs = ap (λ (f : CFile). f.outputs) same;
  calls = ap (λ (f : CFile). f.calls) same;
  operands_written = λ k g here. operands_written core places k g is are here;
  outputs_written = copied_written core places is are;
  below = λ k within.
      let count : length places ≡ length core.equations = are.count in
      let slots : file.slots ≡ slot_count places = ap (λ (f : CFile). f.slots) same in
      let here = below-slot_count places k (omega arith) in
      omega arith;
  elsewhere = λ k g here. operands_elsewhere core places k g is are here;
  least = are;
  slots = ap (λ (f : CFile). f.slots) same;
}

-- a masked form is the file of its parts
pub IsMaskedForm-is : (core : Circuit) (B : ℕ) (file : CFile) (form : IsMaskedForm core B file)
    → file ≡ file_of core B form.places
IsMaskedForm-is core B file form =
    ap (λ (n : ℕ). record {
      reg_bits = n;
      gadgets = file.gadgets;
      outputs = file.outputs;
      inputs = file.inputs;
      slots = file.slots;
      calls = file.calls;
    }) form.reg_bits
    ∙ ap (λ (g : List CFun). record {
      reg_bits = reg_size B;
      gadgets = g;
      outputs = file.outputs;
      inputs = file.inputs;
      slots = file.slots;
      calls = file.calls;
    }) form.gadgets
    ∙ ap (λ (n : ℕ). record {
      reg_bits = reg_size B;
      gadgets = template (ones B) B;
      outputs = n;
      inputs = file.inputs;
      slots = file.slots;
      calls = file.calls;
    }) form.outputs
    ∙ ap (λ (n : ℕ). record {
      reg_bits = reg_size B;
      gadgets = template (ones B) B;
      outputs = length core.outputs;
      inputs = n;
      slots = file.slots;
      calls = file.calls;
    }) form.inputs
    ∙ ap (λ (n : ℕ). record {
      reg_bits = reg_size B;
      gadgets = template (ones B) B;
      outputs = length core.outputs;
      inputs = core.inputs;
      slots = n;
      calls = file.calls;
    }) form.slots
    ∙ ap (λ (k : List CCall). record {
      reg_bits = reg_size B;
      gadgets = template (ones B) B;
      outputs = length core.outputs;
      inputs = core.inputs;
      slots = slot_count form.places;
      calls = k;
    }) form.calls

pub masked_forms-unique : MaskedFormsAreUnique
masked_forms-unique core B first second one two =
    IsMaskedForm-is core B first one
    ∙ ap (file_of core B) (slots-unique core one.places two.places one.least two.least)
    ∙ sym (IsMaskedForm-is core B second two)
