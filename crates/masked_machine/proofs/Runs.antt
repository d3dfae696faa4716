-- The run of a masked form, with random words enough.
use Rattle.std.proofs.Common.{◌≡◌, ◌≢◌, ℕ, suc, ◌+◌, ◌-◌, ◌*◌, ◌<◌, ◌≤◌, ltb, List, [], ◌∷◌, ◌++◌, drop, set, get_or, slice_get, length, Some, Ok, refl, sym, ap, ◌∙◌, arith, subst, mul-le-mul_right, mod-lt}
use Rattle.std.specs.Prelude.{slice_index}
use Rattle.std.proofs.lemmas.Bool.{cond-true, lt-ltb}
use Rattle.std.proofs.lemmas.List.{drop_more, length-drop, drop-drop, length-append}
use Rattle.std.proofs.lemmas.Option.{slice_get-get_or}
use Rattle.std.proofs.lemmas.Nat.{pow_pos}
use Rattle.c_tree.specs.declared.CArg.TheVariants.{Slot}
use Rattle.c_tree.specs.declared.CCall.{CCall}
use Rattle.c_tree.specs.declared.CFile.{CFile}
use Rattle.c_machine.specs.Scope.{row}
use Rattle.c_machine.specs.Run.{argument_meaning, Ending, after_call, called}
use Rattle.c_form.specs.Slots.{IsLastWriter}
use Rattle.c_form.specs.MaskedForm.{IsMaskedForm, row_of, equation_call, equation_calls}
use Rattle.usuba0.specs.declared.circuit.Gate.{Gate}
use Rattle.usuba0.specs.Circuit.{Circuit, IsCore, IsEquation, AreEquations, products_of, refreshes_of}
use Rattle.share_gadgets.specs.Gadgets.{pairs}
use Rattle.share_gadgets.specs.MaskedRun.{draws, drawn_word, sharing_of_equation, run_shared}
use Rattle.share_gadgets.proofs.RunLemmas.{follows}
use Rattle.share_gadgets.proofs.RunSteps.{drawn_rest, due_step}
use Rattle.masked_machine.proofs.Operands.{IsTarget}
use Rattle.masked_machine.proofs.Calls.{calls_then, Leaves, HasTemplate, equation_done}
use Rattle.masked_machine.proofs.Registers.{of_read, read_earlier, Holds, register_read, holds_next}

-- where the rest of a list begins
pub first_of : {X : Type 0} (xs rest : List X) (k : ℕ) (x : X) → drop k xs ≡ x ∷ rest
    → (k < length xs) × (get_or xs k x ≡ x) × (drop (suc k) xs ≡ rest)
first_of {X} xs rest k x is =
    let within : k < length xs = omega (arith, ap length is, length-drop k xs) in
    let parts : get_or xs k x ∷ drop (k + 1) xs ≡ x ∷ rest = sym (drop_more xs k x within) ∙ is in
    let next : k + 1 ≡ suc k = omega arith in (
      within,
      ap (λ (l : List X). get_or l 0 x) parts,
      ap (λ n. drop n xs) (sym next) ∙ ap (drop 1) parts,
    )

-- how many of some equations draw
abbrev pub due : List Gate → ℕ
due gs = products_of gs + refreshes_of gs

pub due_next : (g : Gate) (gs : List Gate) → due (g ∷ gs) ≡ draws g + due gs
due_next g gs = due_step (g ∷ gs) 0 g (omega arith) refl

-- a call that leaves a memory, and the calls after it
pub goes_on : (d : ℕ) (file : CFile) (final : List (List ℕ) → List ℕ → Ending) (k : ℕ) (call : CCall) (more : List CCall) (memory next : List (List ℕ)) (stream rest : List ℕ)
    → Leaves (called d file call memory stream) next rest
    → calls_then d file final k (call ∷ more) memory stream ≡ calls_then d file final (suc k) more next rest
goes_on d file final k call more memory next stream rest leaves = ap (after_call k (calls_then d file final (suc k) more)) leaves.is

module _ (core : Circuit) (B d : ℕ) (file : CFile) (form : IsMaskedForm core B file) (template : HasTemplate B file) (is_core : IsCore core)
    (some : 0 < d) (fits : core.width ≤ B) (words : List ℕ) (final : List (List ℕ) → List ℕ → Ending) where
  abbrev slots : List ℕ
  slots = form.places

  abbrev base : ℕ
  base = file.outputs + file.inputs

  -- one equation
  equation_step : (k : ℕ) (g : Gate) (rows memory : List (List ℕ)) (q : ℕ) → slice_get core.equations k ≡ Some g → k < length core.equations
      → IsEquation core.width (length rows) g → (q + draws g) * pairs d ≤ length words
      → Holds B d core.inputs file slots k rows memory
      → Leaves (called d file (equation_call core.width B (row_of core.inputs slots) (slice_index slots k) g) memory (drop (q * pairs d) words))
      (set memory (base + slice_index slots k) (sharing_of_equation core.width B d (drawn_word B d words q) rows g))
      (drop ((q + draws g) * pairs d) words)
  equation_step k g rows memory q at within right enough holds =
      let slot = slice_index slots k in
      let c = base + slot in
      let few : slot < file.slots = form.below k within in
      let target : IsTarget d memory c = record { within = omega (arith, holds.count, few); count = holds.long c (omega (arith, holds.count, few)) } in
      let left : draws g * pairs d ≤ length (drop (q * pairs d) words) = omega (arith, enough, length-drop (q * pairs d) words) in
      let writes : argument_meaning file (Slot slot) ≡ Some (row c) = cond-true (ltb slot file.slots) _ _ (lt-ltb slot file.slots few) in
      let leaves = equation_done core.width B d file template some fits is_core.width_fits memory c target rows (row_of core.inputs slots) slot writes
      (drop (q * pairs d) words) g right left
      (λ r read.
      let early : r.0 < core.inputs + k = omega (arith, read_earlier core.width (length rows) g r right read, holds.many) in
      let last = of_read (λ n. core.inputs ≤ n → IsLastWriter slots k (slice_index slots (n - core.inputs)) (n - core.inputs)) g r read (form.operands_written k g at) in
      let other = of_read (λ n. core.inputs ≤ n → slice_index slots (n - core.inputs) ≢ slot) g r read (form.elsewhere k g at) in
      let it = register_read B d core.inputs file form.inputs slots k rows memory holds c r early last
      (λ h. form.below (r.0 - core.inputs) (omega (arith, h, early, within)))
      (λ h e. absurd (omega (arith, h, e, form.inputs)))
      (λ h e. other h (omega (arith, e))) in
      record { place = it.0; meant = it.1; operand = it.2 }) in
      let sum : q * pairs d + draws g * pairs d ≡ (q + draws g) * pairs d = omega arith in
      record {
        scope = leaves.scope;
        is = leaves.is
            ∙ ap (λ random. Ok (record {
              scope = leaves.scope;
              memory = set memory c (sharing_of_equation core.width B d random rows g);
              stream = drop (draws g * pairs d) (drop (q * pairs d) words);
            })) (drawn_rest B d words q)
            ∙ ap (λ rest. Ok (record { scope = leaves.scope; memory = set memory c (sharing_of_equation core.width B d (drawn_word B d words q) rows g); stream = rest }))
            (drop-drop (draws g * pairs d) (q * pairs d) words ∙ ap (λ n. drop n words) sum);
      }

  -- what the calls of some equations leave
  pub record Ran (k : ℕ) (calls : List CCall) (memory : List (List ℕ)) (stream : List ℕ) (end : ℕ) (rows : List (List ℕ)) (more : List CCall) (rest : List ℕ) : Type 0 where
    pub left : List (List ℕ)
    pub holds : Holds B d core.inputs file slots end rows left
    pub goes : calls_then d file final k calls memory stream ≡ calls_then d file final end more left rest

  -- the calls of the equations from k on
  pub equations_run : (gs : List Gate) (k : ℕ) (rows memory : List (List ℕ)) (q end total : ℕ) (more : List CCall)
      → drop k core.equations ≡ gs → AreEquations core.width (length rows) gs → Holds B d core.inputs file slots k rows memory
      → k + length gs ≡ end → q + due gs ≡ total → total * pairs d ≤ length words
      → Ran k (equation_calls core.width B core.inputs slots k gs ++ more) memory (drop (q * pairs d) words) end
      (run_shared core.width B d words q rows gs) more (drop (total * pairs d) words)
  equations_run [] k rows memory q end total more at right holds last all enough =
      let here : k ≡ end = omega (arith, last) in
      let drawn : q ≡ total = omega (arith, all) in
      record {
        left = memory;
        holds = subst (λ n. Holds B d core.inputs file slots n rows memory) here holds;
        goes = (λ i. calls_then d file final (here i) more memory (drop (drawn i * pairs d) words));
      }
  equations_run (g ∷ gs) k rows memory q end total more at right holds last all enough =
      let it = first_of core.equations gs k g at in
      let here : (q + draws g) + due gs ≡ total = omega (arith, all, due_next g gs) in
      let less : (q + draws g) * pairs d ≤ total * pairs d = mul-le-mul_right (pairs d) (omega (arith, here)) in
      let leaves = equation_step k g rows memory q (slice_get-get_or core.equations k g it.0 ∙ ap Some it.1) it.0 right.0 (omega (arith, less, enough)) holds in
      let made = sharing_of_equation core.width B d (drawn_word B d words q) rows g in
      let shared = (follows core.width B d fits some (drawn_word B d words q) rows (λ n. mod-lt _ (pow_pos B)) holds.shared g right.0).shared in
      let slot = slice_index slots k in
      let next = holds_next B d core.inputs file form.inputs slots k rows memory holds core.width fits some slot made refl (form.below k it.0) shared in
      let one : k + 1 ≡ suc k = omega arith in
      let longer : suc (length rows) ≡ length (rows ++ made ∷ []) = omega (arith, length-append rows (made ∷ [])) in
      let rest = equations_run gs (suc k) (rows ++ made ∷ []) (set memory (base + slot) made) (q + draws g) end total more it.2
      (subst (λ n. AreEquations core.width n gs) longer right.1)
      (subst (λ n. Holds B d core.inputs file slots n (rows ++ made ∷ []) (set memory (base + slot) made)) one next)
      (omega (arith, last)) here enough in
      record {
        left = rest.left;
        holds = rest.holds;
        goes = goes_on d file final k (equation_call core.width B (row_of core.inputs slots) slot g) (equation_calls core.width B core.inputs slots (suc k) gs ++ more)
            memory (set memory (base + slot) made) (drop (q * pairs d) words) (drop ((q + draws g) * pairs d) words) leaves
            ∙ rest.goes;
      }
