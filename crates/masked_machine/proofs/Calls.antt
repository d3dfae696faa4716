-- The calls of a masked form: each makes the sharing of its equation.
use Rattle.std.proofs.Common.{◌≡◌, ◌⊎◌, inl, inr, ℕ, suc, ◌*◌, ◌<◌, ◌≤◌, List, [], ◌∷◌, map, drop, set, length, Some, Ok, refl, sym, ap, ◌∙◌, arith, zero-mul}
use Rattle.std.specs.Prelude.{codes}
use Rattle.c_tree.specs.declared.CArg.{CArg}
use Rattle.c_tree.specs.declared.CArg.TheVariants.{Out, Slot, Number}
use Rattle.c_tree.specs.declared.CCall.{CCall}
use Rattle.c_tree.specs.declared.CFile.{CFile}
use Rattle.c_tree.specs.declared.CFun.{CFun}
use Rattle.c_machine.specs.Scope.{Binding, row}
use Rattle.c_machine.specs.Machine.{State, Outcome, in_turn, executed}
use Rattle.c_machine.specs.Run.{argument_meaning, bound, bound_first, gadget_named, body_done, call_done, called, Ending, after_call, calls_done}
use Rattle.c_form.specs.Template.{template, const_gadget, xor_gadget, not_gadget, mask_gadget, shl_gadget, shr_gadget, rotl_gadget, and_gadget, refresh_gadget, copy_gadget}
use Rattle.c_form.specs.MaskedForm.{equation_call}
use Rattle.usuba0.specs.declared.circuit.Gate.{Gate}
use Rattle.usuba0.specs.declared.circuit.Gate.TheVariants as gate
use Rattle.usuba0.specs.declared.circuit.Reg.{Reg}
use Rattle.usuba0.specs.Circuit.{IsEquation}
use Rattle.usuba0.specs.Term.{ones, word_of_constant}
use Rattle.share_gadgets.specs.Gadgets.{pairs}
use Rattle.share_gadgets.specs.MaskedRun.{draws, sharing_at, sharing_of_equation}
use Rattle.share_gadgets.proofs.Shared.{constant_below}
use Rattle.masked_machine.proofs.Operands.{constant, const_scope, unary_scope, binary_scope, constant_scope, IsTarget, IsOperand}
use Rattle.masked_machine.proofs.Sharewise.{wrote, copy_done, xor_done, mask_done, shl_done, shr_done, rotl_done}
use Rattle.masked_machine.proofs.FirstShares.{const_done, not_done}
use Rattle.masked_machine.proofs.Products.{cut_words, refresh_done, product_done}

-- a call has left this memory and these random words
pub record Leaves (outcome : Outcome) (memory : List (List ℕ)) (stream : List ℕ) : Type 0 where
  pub scope : List Binding
  pub is : outcome ≡ Ok (record { scope = scope; memory = memory; stream = stream })

-- calls in order, the first of which has number k, and then what comes of the memory and the random words that they leave
abbrev pub calls_then : ℕ → CFile → (List (List ℕ) → List ℕ → Ending) → ℕ → List CCall → List (List ℕ) → List ℕ → Ending
calls_then d file final k [] memory stream = final memory stream
calls_then d file final k (call ∷ calls) memory stream =
    after_call k (calls_then d file final (suc k) calls) (called d file call memory stream)

-- the calls of a run are such, where the memory comes of it
pub calls_done-then : (d : ℕ) (file : CFile) (calls : List CCall) (k : ℕ) (memory : List (List ℕ)) (stream : List ℕ)
    → calls_done d file k calls memory stream ≡ calls_then d file (λ left rest. Ok left) k calls memory stream
calls_done-then d file [] k memory stream = refl
calls_done-then d file (call ∷ calls) k memory stream =
    ap (λ further. after_call k further (called d file call memory stream)) (λ i left rest. calls_done-then d file calls (suc k) left rest i)

-- the registers that an equation reads
abbrev pub IsRead : Gate → Reg → Type 0
IsRead (gate.Const c) r = ⊥
IsRead (gate.Xor a b) r = (a ≡ r) ⊎ (b ≡ r)
IsRead (gate.Not a) r = a ≡ r
IsRead (gate.Mask c a) r = a ≡ r
IsRead (gate.And a b) r = (a ≡ r) ⊎ (b ≡ r)
IsRead (gate.Shl k a) r = a ≡ r
IsRead (gate.Shr k a) r = a ≡ r
IsRead (gate.Rotl k a) r = a ≡ r
IsRead (gate.Refresh a) r = a ≡ r

-- the file's gadgets are those of the template, for words of B bits in registers that hold them
pub record HasTemplate (B : ℕ) (file : CFile) : Type 0 where
  pub gadgets : file.gadgets ≡ template (ones B) B
  pub room : B ≤ file.reg_bits
  pub wide : file.reg_bits ≤ 64

module _ (w B d : ℕ) (file : CFile) (form : HasTemplate B file) (some : 0 < d) (fits : w ≤ B) (width : w ≤ 64)
    (memory : List (List ℕ)) (c : ℕ) (target : IsTarget d memory c) where
  -- a call of a gadget by its name does its body, in the scope that its arguments make
  gadget_call : (name : List ℕ) (gadget : CFun) (arguments : List CArg) (scope : List Binding) (stream : List ℕ) (state : State)
      → gadget_named (template (ones B) B) name ≡ Some gadget → bound file gadget.params arguments ≡ Some scope
      → in_turn (map (executed d file.reg_bits) gadget.body) (record { scope = scope; memory = memory; stream = stream }) ≡ Ok state
      → called d file (record { gadget = name; args = arguments }) memory stream ≡ Ok state
  gadget_call name gadget arguments scope stream state named bounds does =
      ap (λ gadgets. call_done d file arguments memory stream (gadget_named gadgets name)) form.gadgets
      ∙ ap (call_done d file arguments memory stream) named
      ∙ ap (body_done d file.reg_bits gadget memory stream) bounds
      ∙ does

  -- the row of an argument, and the sharing that it holds
  pub record Reads (argument : CArg) (shares : List ℕ) : Type 0 where
    pub place : ℕ
    pub meant : argument_meaning file argument ≡ Some (row place)
    pub operand : IsOperand B d memory c place shares

  module _ (rows : List (List ℕ)) (at : Reg → CArg) (slot : ℕ) (writes : argument_meaning file (Slot slot) ≡ Some (row c))
      (stream : List ℕ) where
    unary : (a : ℕ) (first : CArg) → argument_meaning file first ≡ Some (row a)
        → bound file (copy_gadget.params) (Slot slot ∷ first ∷ []) ≡ Some (unary_scope c a)
    unary a first meant = λ i. bound_first (codes "c") (writes i) (bound_first (codes "a") (meant i) (Some []))

    binary : (a b : ℕ) (first second : CArg) → argument_meaning file first ≡ Some (row a) → argument_meaning file second ≡ Some (row b)
        → bound file (xor_gadget.params) (Slot slot ∷ first ∷ second ∷ []) ≡ Some (binary_scope c a b)
    binary a b first second meant meant' =
        λ i. bound_first (codes "c") (writes i) (bound_first (codes "a") (meant i) (bound_first (codes "b") (meant' i) (Some [])))

    with_number : (a k : ℕ) (first : CArg) → argument_meaning file first ≡ Some (row a)
        → bound file (mask_gadget.params) (Slot slot ∷ first ∷ Number k ∷ []) ≡ Some (constant_scope c a k)
    with_number a k first meant =
        λ i. bound_first (codes "c") (writes i) (bound_first (codes "a") (meant i) (Some (constant k ∷ [])))

    -- a call that draws no word
    quiet : (outcome : Outcome) (scope : List Binding) (written : List ℕ)
        → outcome ≡ Ok (wrote scope memory c written stream)
        → Leaves outcome (set memory c written) (drop (0 * pairs d) stream)
    quiet outcome scope written is = record {
      scope = scope;
      is = is ∙ ap (λ n. Ok (wrote scope memory c written (drop n stream))) (sym (zero-mul (pairs d)));
    }

    -- a call that draws a word for each pair
    drawing : (outcome : Outcome) (scope : List Binding) (written : List ℕ)
        → outcome ≡ Ok (wrote scope memory c written (drop (pairs d) stream))
        → Leaves outcome (set memory c written) (drop (1 * pairs d) stream)
    drawing outcome scope written is =
        let one : pairs d ≡ 1 * pairs d = omega arith in
        record {
          scope = scope;
          is = is ∙ ap (λ n. Ok (wrote scope memory c written (drop n stream))) one;
        }

    -- the call of an equation makes its sharing
    pub equation_done : (g : Gate) → IsEquation w (length rows) g → draws g * pairs d ≤ length stream
        → ((r : Reg) → IsRead g r → Reads (at r) (sharing_at rows r))
        → Leaves (called d file (equation_call w B at slot g) memory stream)
        (set memory c (sharing_of_equation w B d (cut_words B stream) rows g)) (drop (draws g * pairs d) stream)
    equation_done (gate.Const k) right enough reads =
        quiet _ (const_scope c (word_of_constant w B k)) _
        (gadget_call (codes "g_const") const_gadget (Slot slot ∷ Number (word_of_constant w B k) ∷ []) (const_scope c (word_of_constant w B k)) stream _ refl
        (λ i. bound_first (codes "c") (writes i) (Some (constant (word_of_constant w B k) ∷ [])))
        (const_done B file.reg_bits d form.room some memory stream c target (word_of_constant w B k) (constant_below w B k fits right)))
    equation_done (gate.Xor a b) right enough reads =
        let x = reads a (inl refl) in
        let y = reads b (inr refl) in
        quiet _ (binary_scope c x.place y.place) _
        (gadget_call (codes "g_xor") xor_gadget (Slot slot ∷ at a ∷ at b ∷ []) (binary_scope c x.place y.place) stream _ refl
        (binary x.place y.place (at a) (at b) x.meant y.meant)
        (xor_done B file.reg_bits d form.room memory stream c target x.place (sharing_at rows a) x.operand y.place (sharing_at rows b) y.operand))
    equation_done (gate.Not a) right enough reads =
        let x = reads a refl in
        quiet _ (unary_scope c x.place) _
        (gadget_call (codes "g_not") (not_gadget (ones B)) (Slot slot ∷ at a ∷ []) (unary_scope c x.place) stream _ refl
        (unary x.place (at a) x.meant)
        (not_done B file.reg_bits d form.room some memory stream c target x.place (sharing_at rows a) x.operand))
    equation_done (gate.Mask k a) right enough reads =
        let x = reads a refl in
        quiet _ (constant_scope c x.place (word_of_constant w B k)) _
        (gadget_call (codes "g_mask") mask_gadget (Slot slot ∷ at a ∷ Number (word_of_constant w B k) ∷ []) (constant_scope c x.place (word_of_constant w B k)) stream _ refl
        (with_number x.place (word_of_constant w B k) (at a) x.meant)
        (mask_done B file.reg_bits d form.room memory stream c target x.place (sharing_at rows a) x.operand (word_of_constant w B k)))
    equation_done (gate.And a b) right enough reads =
        let x = reads a (inl refl) in
        let y = reads b (inr refl) in
        drawing _ (binary_scope c x.place y.place) _
        (gadget_call (codes "g_and") (and_gadget (ones B)) (Slot slot ∷ at a ∷ at b ∷ []) (binary_scope c x.place y.place) stream _ refl
        (binary x.place y.place (at a) (at b) x.meant y.meant)
        (product_done B file.reg_bits d form.room memory stream c target (omega (arith, enough)) x.place (sharing_at rows a) x.operand y.place (sharing_at rows b) y.operand some))
    equation_done (gate.Shl k a) right enough reads =
        let x = reads a refl in
        quiet _ (constant_scope c x.place k) _
        (gadget_call (codes "g_shl") (shl_gadget (ones B)) (Slot slot ∷ at a ∷ Number k ∷ []) (constant_scope c x.place k) stream _ refl
        (with_number x.place k (at a) x.meant)
        (shl_done B file.reg_bits d form.room memory stream c target x.place (sharing_at rows a) x.operand k form.wide (omega (arith, right.1, width))))
    equation_done (gate.Shr k a) right enough reads =
        let x = reads a refl in
        quiet _ (constant_scope c x.place k) _
        (gadget_call (codes "g_shr") shr_gadget (Slot slot ∷ at a ∷ Number k ∷ []) (constant_scope c x.place k) stream _ refl
        (with_number x.place k (at a) x.meant)
        (shr_done B file.reg_bits d form.room memory stream c target x.place (sharing_at rows a) x.operand k (omega (arith, right.1, width))))
    equation_done (gate.Rotl k a) right enough reads =
        let x = reads a refl in
        quiet _ (constant_scope c x.place k) _
        (gadget_call (codes "g_rotl") (rotl_gadget (ones B) B) (Slot slot ∷ at a ∷ Number k ∷ []) (constant_scope c x.place k) stream _ refl
        (with_number x.place k (at a) x.meant)
        (rotl_done B file.reg_bits d form.room memory stream c target x.place (sharing_at rows a) x.operand k form.wide right.0 (omega (arith, right.1, fits))))
    equation_done (gate.Refresh a) right enough reads =
        let x = reads a refl in
        drawing _ (unary_scope c x.place) _
        (gadget_call (codes "g_refresh") (refresh_gadget (ones B)) (Slot slot ∷ at a ∷ []) (unary_scope c x.place) stream _ refl
        (unary x.place (at a) x.meant)
        (refresh_done B file.reg_bits d form.room memory stream c target (omega (arith, enough)) x.place (sharing_at rows a) x.operand some))

  -- the call of an output copies its sharing
  pub output_done : (k : ℕ) (at : CArg) (shares : List ℕ) (stream : List ℕ) → argument_meaning file (Out k) ≡ Some (row c)
      → Reads at shares
      → Leaves (called d file (record { gadget = codes "g_copy"; args = Out k ∷ at ∷ [] }) memory stream) (set memory c shares) stream
  output_done k at shares stream writes x = record {
    scope = unary_scope c x.place;
    is = gadget_call (codes "g_copy") copy_gadget (Out k ∷ at ∷ []) (unary_scope c x.place) stream _ refl
        (λ i. bound_first (codes "c") (writes i) (bound_first (codes "a") (x.meant i) (Some [])))
        (copy_done B file.reg_bits d form.room memory stream c target x.place shares x.operand);
  }
