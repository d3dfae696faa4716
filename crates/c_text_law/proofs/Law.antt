-- The text of a masked form spells it.
use Rattle.std.proofs.Common.{◌≡◌, ℕ, ◌<◌, ◌≤◌, ◌^◌, ◌∙◌, Bool, true, false, List, [], ◌∷◌, ◌++◌, drop, length, slice_index, refl, sym, ap, subst, inl, inr, ⊎_elim, flat_map, codes, append_assoc, arith}
use Rattle.std.specs.Prelude.{nat_le, if◌then◌else◌}
use Rattle.std.proofs.lemmas.Nat.{pow_pos, pow_below}
use Rattle.std.proofs.lemmas.Bool.{cases_lt}
use Rattle.c_tree.specs.declared.CCall.{CCall}
use Rattle.c_tree.specs.declared.CFun.{CFun}
use Rattle.c_tree.specs.declared.CFile.{CFile}
use Rattle.usuba0.specs.Circuit.{Circuit, IsCore}
use Rattle.usuba0.specs.Term.{ones}
use Rattle.c_tokens.specs.Openings.{IsRegBits, lines_of, opening_of}
use Rattle.c_tokens.specs.Tokens.{Spells}
use Rattle.c_tokens.specs.declared.opening.Opening.TheVariants.{Lines}
use Rattle.c_tokens.specs.declared.token.Ending.TheVariants as ending
use Rattle.c_form.specs.MaskedForm.{IsMaskedForm, calls_of}
use Rattle.c_text.specs.CText.{c_text, head_text, gadget_text, masked_text, slots_text, call_text}
use Rattle.c_syntax.specs.Syntax.{SpellsFile, behind_lines}
use Rattle.c_text_law.proofs.Reading.{dropped_front}
use Rattle.c_text_law.proofs.Gadgets.{ReadsGadgets}
use Rattle.c_text_law.proofs.Templates.{template_reads}
use Rattle.c_text_law.proofs.Calls.{FitsCalls}
use Rattle.c_text_law.proofs.CoreCalls.{equations_fit, outputs_fit}
use Rattle.c_text_law.proofs.File.{file_reads, rest_text, head_is}

pow_le : (w : ℕ) → w ≤ 64 → 2 ^ w ≤ 2 ^ 64
pow_le w h =
    ⊎_elim (λ (l : w < 64). let k = pow_below w 64 l in omega arith)
    (λ (l : 64 ≤ w). let e : w ≡ 64 = omega arith in subst (λ (n : ℕ). 2 ^ w ≤ 2 ^ n) e (omega arith)) (cases_lt w 64)

mask_fits : (B : ℕ) → B ≤ 64 → ones B < 2 ^ 64
mask_fits B h = let p = pow_pos B in let l = pow_le B h in omega (arith, p, l)

reg_case : (a b c : Bool) → IsRegBits (if a then 8 else if b then 16 else if c then 32 else 64)
reg_case true b c = inl refl
reg_case false true c = inr (inl refl)
reg_case false false true = inr (inr (inl refl))
reg_case false false false = inr (inr (inr refl))

calls_fit : (core : Circuit) → IsCore core → (B : ℕ) → B ≤ 64 → (places : List ℕ) → core.inputs ≤ 32768
    → length core.outputs ≤ 32768 → ((k : ℕ) → k < length core.equations → slice_index places k < 2 ^ 64)
    → FitsCalls (calls_of core B places)
calls_fit core is B bits places few few_out fit =
    let narrow = is.width_fits in
    let small : core.width < 2 ^ 64 = omega (arith, narrow) in
    let inputs : core.inputs < 2 ^ 64 = omega (arith, few) in
    let m = length core.equations in
    equations_fit core.width B core.inputs places m (pow_le core.width narrow) small (mask_fits B bits) inputs fit
    0 core.inputs core.equations _ (omega arith) (omega arith) is.equations
    (outputs_fit core.width B core.inputs places m (pow_le core.width narrow) small (mask_fits B bits) inputs fit
    0 core.outputs (omega (arith, few_out)) is.outputs)

text_parts : (head gadgets masked slots calls end : List ℕ)
    → head ++ gadgets ++ masked ++ slots ++ calls ++ end ≡ head ++ (gadgets ++ (masked ++ (slots ++ (calls ++ end))))
text_parts head gadgets masked slots calls end = simp append_assoc

text_is : (form : CFile) → c_text form
    ≡ head_text form.reg_bits ++ rest_text form.gadgets form.outputs form.inputs form.slots form.calls
text_is form =
    text_parts (head_text form.reg_bits) (flat_map gadget_text form.gadgets) (masked_text form.outputs form.inputs)
    (slots_text form.slots) (flat_map call_text form.calls) (codes "}\n")

-- the six lines are found before each rest
abbrev Opens : ℕ → List ℕ → Type 0
Opens bits rest = opening_of (lines_of bits ++ rest) ≡ Lines bits (length (lines_of bits))

opening_8 : (rest : List ℕ) → Opens 8 rest
opening_8 [] = refl
opening_8 (b ∷ bs) = refl

opening_16 : (rest : List ℕ) → Opens 16 rest
opening_16 [] = refl
opening_16 (b ∷ bs) = refl

opening_32 : (rest : List ℕ) → Opens 32 rest
opening_32 [] = refl
opening_32 (b ∷ bs) = refl

opening_64 : (rest : List ℕ) → Opens 64 rest
opening_64 [] = refl
opening_64 (b ∷ bs) = refl

opening_is : (bits : ℕ) → IsRegBits bits → (rest : List ℕ)
    → opening_of (lines_of bits ++ rest) ≡ Lines bits (length (lines_of bits))
opening_is bits (inl h) rest = subst (λ (n : ℕ). Opens n rest) (sym h) (opening_8 rest)
opening_is bits (inr (inl h)) rest = subst (λ (n : ℕ). Opens n rest) (sym h) (opening_16 rest)
opening_is bits (inr (inr (inl h))) rest = subst (λ (n : ℕ). Opens n rest) (sym h) (opening_32 rest)
opening_is bits (inr (inr (inr h))) rest = subst (λ (n : ℕ). Opens n rest) (sym h) (opening_64 rest)

pub masked_text-spells : (core : Circuit) → IsCore core → (B : ℕ) → B ≤ 64 → (form : CFile) → IsMaskedForm core B form
    → form.outputs ≤ 32768 → form.inputs ≤ 32768 → form.slots ≤ 131072 → SpellsFile (c_text form) form
masked_text-spells core is B bits form made few_out few_in few_slots =
    let some_in = is.some_input in
    let some_out = is.some_output in
    let same_in = made.inputs in
    let same_out = made.outputs in
    let regs : IsRegBits form.reg_bits
    = subst IsRegBits (sym made.reg_bits) (reg_case (nat_le B 8) (nat_le B 16) (nat_le B 32)) in
    let gadgets : ReadsGadgets form.gadgets
    = subst (λ (gs : List CFun). ReadsGadgets gs) (sym made.gadgets)
    (template_reads (ones B) B (mask_fits B bits) (omega (arith, bits))) in
    let fit : (k : ℕ) → k < length core.equations → slice_index made.places k < 2 ^ 64
    = λ k l. let below = made.below k l in omega (arith, below, few_slots) in
    let calls : FitsCalls form.calls
    = subst (λ (cs : List CCall). FitsCalls cs) (sym made.calls)
    (calls_fit core is B bits made.places (omega (arith, same_in, few_in)) (omega (arith, same_out, few_out)) fit) in
    let read = file_reads form.reg_bits form.gadgets form.outputs form.inputs form.slots form.calls gadgets
    (omega (arith, some_out, same_out)) few_out (omega (arith, some_in, same_in)) few_in few_slots calls
    behind_lines in
    let behind = rest_text form.gadgets form.outputs form.inputs form.slots form.calls in
    let same : c_text form ≡ lines_of form.reg_bits ++ behind
    = text_is form ∙ ap (λ (t : List ℕ). t ++ behind) (head_is form.reg_bits regs) in
    let size = length (lines_of form.reg_bits) in
    let rest : drop size (c_text form) ≡ behind
    = ap (drop size) same ∙ dropped_front (lines_of form.reg_bits) behind in
    record {
      bits = form.reg_bits;
      found = read.1;
      end = read.0;
      spelled = record {
        n = size;
        lines = ap opening_of same ∙ opening_is form.reg_bits regs behind;
        behind = subst (λ (t : List ℕ). Spells behind_lines t read.1 (ending.End read.0)) (sym rest) read.2;
      };
      is = read.3;
    }
