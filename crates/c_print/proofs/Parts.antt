-- The masked form from the parts that are made one by one.
use Rattle.std.proofs.Common.{◌≡◌, ℕ, List, length, ap, ◌∙◌, subst}
use Rattle.c_tree.specs.declared.CCall.{CCall}
use Rattle.c_tree.specs.declared.CFile.{CFile}
use Rattle.c_tree.specs.declared.CFun.{CFun}
use Rattle.usuba0.specs.Circuit.{Circuit, IsCore}
use Rattle.usuba0.specs.Term.{ones}
use Rattle.c_form.specs.Slots.{AreLeastSlots, slot_count}
use Rattle.c_form.specs.Template.{template}
use Rattle.c_form.specs.MaskedForm.{IsMaskedForm, reg_size, calls_of}
use Rattle.c_form.proofs.Forms.{IsMaskedForm-from}

-- a file of these parts
abbrev made : ℕ → List CFun → ℕ → ℕ → ℕ → List CCall → CFile
made bits gadgets outputs inputs slots calls = record {
  reg_bits = bits;
  gadgets = gadgets;
  outputs = outputs;
  inputs = inputs;
  slots = slots;
  calls = calls;
}

-- it is the masked form where each part is
pub IsMaskedForm-parts : (core : Circuit) (size B mask reg outputs inputs slots : ℕ) (places : List ℕ)
    (gadgets : List CFun) (calls : List CCall) → IsCore core → AreLeastSlots core places → B ≡ size → reg ≡ reg_size B
    → mask ≡ ones B → gadgets ≡ template mask B → outputs ≡ length core.outputs → inputs ≡ core.inputs
    → slots ≡ slot_count places → calls ≡ calls_of core B places
    → IsMaskedForm core size (made reg gadgets outputs inputs slots calls)
IsMaskedForm-parts core size B mask reg outputs inputs slots places gadgets calls is are same_size same_reg same_mask
    same_gadgets same_outputs same_inputs same_slots same_calls =
    subst (λ (n : ℕ). IsMaskedForm core n (made reg gadgets outputs inputs slots calls)) same_size
    (IsMaskedForm-from core B places (made reg gadgets outputs inputs slots calls) is are
    (ap (λ (n : ℕ). made n gadgets outputs inputs slots calls) same_reg
    ∙ ap (λ (g : List CFun). made (reg_size B) g outputs inputs slots calls)
    (same_gadgets ∙ ap (λ (m : ℕ). template m B) same_mask)
    ∙ ap (λ (n : ℕ). made (reg_size B) (template (ones B) B) n inputs slots calls) same_outputs
    ∙ ap (λ (n : ℕ). made (reg_size B) (template (ones B) B) (length core.outputs) n slots calls) same_inputs
    ∙ ap (λ (n : ℕ). made (reg_size B) (template (ones B) B) (length core.outputs) core.inputs n calls) same_slots
    ∙ ap (made (reg_size B) (template (ones B) B) (length core.outputs) core.inputs (slot_count places)) same_calls))
