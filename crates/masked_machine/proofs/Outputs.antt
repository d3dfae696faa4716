-- The copies into the outputs, and the whole run.
use Rattle.std.proofs.Common.{◌≡◌, ℕ, zero, suc, ◌+◌, ◌-◌, ◌*◌, ◌<◌, ◌≤◌, ltb, List, [], ◌∷◌, ◌++◌, take, drop, set, map, get_or, length, replicate, All, Some, refl, sym, ap, ◌∙◌, ⊎_elim, arith, subst, length-set, get_or-set_same, get_or-set_other, zero-mul}
use Rattle.std.specs.Prelude.{slice_index}
use Rattle.std.proofs.lemmas.Bool.{cond-true, lt-ltb, cases_eq}
use Rattle.std.proofs.lemmas.List.{length-drop, length-append, length-replicate, append_assoc, take_all, drop_at, map_more, get_or-map, length-map, get_or-append-add, get_or_append_left, get_or-replicate}
use Rattle.std.proofs.lemmas.List.Elements.{All-append}
use Rattle.std.proofs.Math.Seq.{take-suc-set, take-append_seam}
use Rattle.c_tree.specs.declared.CArg.TheVariants.{Out}
use Rattle.c_tree.specs.declared.CFile.{CFile}
use Rattle.c_machine.specs.Scope.{row}
use Rattle.c_machine.specs.Run.{argument_meaning, Ending, zero_rows, rows_of, start_memory, words_of_rows}
use Rattle.c_form.specs.Slots.{copied, IsLastWriter}
use Rattle.c_form.specs.MaskedForm.{IsMaskedForm, row_of, output_call, output_calls}
use Rattle.usuba0.specs.declared.circuit.Reg.{Reg}
use Rattle.usuba0.specs.Circuit.{Circuit, IsCore, AreEquations}
use Rattle.share_gadgets.specs.Gadgets.{pairs}
use Rattle.share_gadgets.specs.MaskedRun.{sharing_at, run_shared, masked_run, words_drawn}
use Rattle.share_gadgets.specs.Sharing.{IsSharing}
use Rattle.masked_machine.proofs.Operands.{IsTarget}
use Rattle.masked_machine.proofs.Calls.{calls_then, HasTemplate, output_done}
use Rattle.masked_machine.proofs.Registers.{Holds, register_read}
use Rattle.masked_machine.proofs.Runs.{due, first_of, goes_on, equations_run}

module _ (core : Circuit) (B d : ℕ) (file : CFile) (form : IsMaskedForm core B file) (template : HasTemplate B file) (is_core : IsCore core)
    (some : 0 < d) (fits : core.width ≤ B) (final : List (List ℕ) → List ℕ → Ending) where
  abbrev slots : List ℕ
  slots = form.places

  abbrev last : ℕ
  last = length core.equations

  -- a copy into a row of `out` leaves the registers where they are
  still_holds : (rows memory : List (List ℕ)) (k : ℕ) (made : List ℕ) → k < file.outputs → length made ≡ d
      → Holds B d core.inputs file slots last rows memory → Holds B d core.inputs file slots last rows (set memory k made)
  still_holds rows memory k made few long holds =
      let within : k < length memory = omega (arith, few, holds.count) in
      record {
        count = length-set memory k made ∙ holds.count;
        long = λ r h. ⊎_elim
            (λ (e : r ≡ k). ap length (ap (λ n. get_or (set memory k made) n []) e ∙ get_or-set_same memory k made [] within) ∙ long)
            (λ (a : r ≡ k → ⊥). ap length (get_or-set_other memory k r made [] a) ∙ holds.long r (omega (arith, h, length-set memory k made)))
            (cases_eq r k);
        inputs_held = λ r h. get_or-set_other memory k (file.outputs + r) made [] (λ e. absurd (omega (arith, few, e))) ∙ holds.inputs_held r h;
        written = λ j wrote.
            get_or-set_other memory k (file.outputs + file.inputs + slice_index slots j) made [] (λ e. absurd (omega (arith, few, e)))
            ∙ holds.written j wrote;
        many = holds.many;
        shared = holds.shared;
      }

  -- the copies into the outputs from k on leave the sharings of their registers
  outputs_run : (os : List Reg) (k at : ℕ) (rows memory : List (List ℕ)) (stream : List ℕ) → drop k core.outputs ≡ os → k ≤ length core.outputs
      → Holds B d core.inputs file slots last rows memory
      → take k memory ≡ map (sharing_at rows) (take k core.outputs)
      → (left : List (List ℕ)) × (take file.outputs left ≡ map (sharing_at rows) core.outputs)
      × (calls_then d file final at (output_calls core.inputs slots k os) memory stream ≡ final left stream)
  outputs_run [] k at rows memory stream rest few holds done =
      let all : length core.outputs ≤ k = omega (arith, ap length rest, length-drop k core.outputs) in
      let here : file.outputs ≡ k = omega (arith, form.outputs, all, few) in
      (memory, ap (λ n. take n memory) here ∙ done ∙ ap (map (sharing_at rows)) (take_all k core.outputs all), refl)
  outputs_run (o ∷ os) k at rows memory stream rest few holds done =
      let it = first_of core.outputs os k o rest in
      let below : k < file.outputs = omega (arith, form.outputs, it.0) in
      let within : k < length memory = omega (arith, holds.count, below) in
      let target : IsTarget d memory k = record { within = within; count = holds.long k within } in
      let number : get_or (copied core) k 0 ≡ o.0 = get_or-map (λ (r : Reg). r.0) core.outputs k o 0 it.0 ∙ ap (λ (r : Reg). r.0) it.1 in
      let many : length (copied core) ≡ length core.outputs = length-map core.outputs (λ (r : Reg). r.0) in
      let early : o.0 < core.inputs + last = subst (λ (r : Reg). r.0 < core.inputs + last) it.1 (is_core.outputs k o it.0) in
      let wrote = subst (λ n. core.inputs ≤ n → IsLastWriter slots last (slice_index slots (n - core.inputs)) (n - core.inputs)) number
      (form.outputs_written k 0 (omega (arith, it.0, many))) in
      let read = register_read B d core.inputs file form.inputs slots last rows memory holds k o early wrote
      (λ h. form.below (o.0 - core.inputs) (omega (arith, h, early)))
      (λ h e. absurd (omega (arith, below, e)))
      (λ h e. absurd (omega (arith, below, e))) in
      let zero_more : 0 + k ≡ k = omega arith in
      let writes : argument_meaning file (Out k) ≡ Some (row k) =
      cond-true (ltb k file.outputs) _ _ (lt-ltb k file.outputs below) ∙ ap (λ n. Some (row n)) zero_more in
      let shares = sharing_at rows o in
      let leaves = output_done core.width B d file template some fits is_core.width_fits memory k target k (row_of core.inputs slots o) shares stream writes
      (record { place = read.0; meant = read.1; operand = read.2 }) in
      let next : k + 1 ≡ suc k = omega arith in
      let copied_on : take (suc k) (set memory k shares) ≡ map (sharing_at rows) (take (suc k) core.outputs) =
      take-suc-set memory k shares within ∙ ap (λ ss. ss ++ shares ∷ []) done
      ∙ ap (λ (r : Reg). map (sharing_at rows) (take k core.outputs) ++ sharing_at rows r ∷ []) (sym it.1)
      ∙ sym (map_more (sharing_at rows) core.outputs k o it.0)
      ∙ ap (λ n. map (sharing_at rows) (take n core.outputs)) next in
      let others = outputs_run os (suc k) (suc at) rows (set memory k shares) stream it.2 it.0
      (still_holds rows memory k shares below read.2.shared.count holds) copied_on in (
        others.0,
        others.1,
        goes_on d file final at (output_call core.inputs slots k o) (output_calls core.inputs slots (suc k) os) memory (set memory k shares) stream stream leaves
            ∙ others.2,
      )

module _ (d : ℕ) where
  -- the words of rows, cut into rows again
  pub rows_again : (rows : List (List ℕ)) (n : ℕ) → length rows ≡ n → All (λ r. length r ≡ d) rows → rows_of d n (words_of_rows rows) ≡ rows
  rows_again [] zero same all = refl
  rows_again [] (suc n) same all = absurd (omega (arith, same))
  rows_again (r ∷ rows) zero same all = absurd (omega (arith, same))
  rows_again (r ∷ rows) (suc n) same all =
      let long : length r ≡ d = all 0 [] (omega arith) in
      (λ i. take_at r (words_of_rows rows) d long i ∷ rows_of d n (drop_at r (words_of_rows rows) d long i))
      ∙ ap (λ rs. r ∷ rs) (rows_again rows n (omega (arith, same)) (λ k e h. all (suc k) e (omega (arith, h))))
    where
      take_at : (p q : List ℕ) (n : ℕ) → length p ≡ n → take n (p ++ q) ≡ p
      take_at p q n e = ap (λ m. take m (p ++ q)) (sym e) ∙ take-append_seam p q

  abbrev zeros : List ℕ
  zeros = replicate d 0

  zero_long : (n : ℕ) → All (λ r. length r ≡ d) (zero_rows d n)
  zero_long n k e h =
      let zero_word : ℕ = 0 in
      ap length (get_or-replicate n k zeros e (omega (arith, h, length-replicate n zeros))) ∙ length-replicate d zero_word

  -- the memory before the first call holds the sharings of the inputs
  pub starts : (B : ℕ) (core : Circuit) (file : CFile) (places : List ℕ) (inputs : List (List ℕ)) → file.inputs ≡ core.inputs
      → length inputs ≡ core.inputs → All (IsSharing B d) inputs
      → Holds B d core.inputs file places 0 inputs (start_memory d file (words_of_rows inputs))
  starts B core file places inputs same many shared =
      let outs = zero_rows d file.outputs in
      let vs = zero_rows d file.slots in
      let long : All (λ r. length r ≡ d) inputs = λ k e h. (shared k e h).count in
      let is : start_memory d file (words_of_rows inputs) ≡ outs ++ (inputs ++ vs) =
      append_assoc outs (rows_of d file.inputs (words_of_rows inputs)) vs
      ∙ ap (λ rows. outs ++ (rows ++ vs)) (rows_again inputs file.inputs (many ∙ sym same) long) in
      let out_count : length outs ≡ file.outputs = length-replicate file.outputs zeros in
      subst (Holds B d core.inputs file places 0 inputs) (sym is) (record {
        count = length-append outs (inputs ++ vs) ∙ omega (arith, out_count, length-append inputs vs, length-replicate file.slots zeros, many, same);
        long = λ r h. All-append (λ row. length row ≡ d) outs (inputs ++ vs) (zero_long file.outputs)
            (All-append (λ row. length row ≡ d) inputs vs long (zero_long file.slots)) r [] h;
        inputs_held = λ r h.
            ap (λ n. get_or (outs ++ (inputs ++ vs)) (n + r) []) (sym out_count)
            ∙ get_or-append-add outs (inputs ++ vs) r [] ∙ get_or_append_left inputs vs [] r (omega (arith, h, many));
        written = λ j wrote. absurd (omega (arith, wrote.earlier));
        many = omega (arith, many);
        shared = shared;
      })

-- with random words enough the rows of `out` hold the masked run, and the words that it draws are gone
pub long_run : (core : Circuit) (B d : ℕ) (file : CFile) (form : IsMaskedForm core B file) → HasTemplate B file → IsCore core
    → 0 < d → core.width ≤ B → (inputs : List (List ℕ)) → length inputs ≡ core.inputs → All (IsSharing B d) inputs
    → (words : List ℕ) → words_drawn d core ≤ length words → (final : List (List ℕ) → List ℕ → Ending)
    → (left : List (List ℕ)) × (take file.outputs left ≡ masked_run B d core inputs words)
    × (calls_then d file final 0 file.calls (start_memory d file (words_of_rows inputs)) words
    ≡ final left (drop (words_drawn d core) words))
long_run core B d file form template is_core some fits inputs many shared words enough final =
    let none : 0 * pairs d ≡ 0 = zero-mul (pairs d) in
    let outputs = output_calls core.inputs form.places 0 core.outputs in
    let ran = equations_run core B d file form template is_core some fits words final core.equations 0 inputs (start_memory d file (words_of_rows inputs))
    0 (length core.equations) (due core.equations) outputs refl
    (subst (λ n. AreEquations core.width n core.equations) (sym many) is_core.equations)
    (starts d B core file form.places inputs form.inputs many shared) (omega arith) (omega arith) enough in
    let copied = outputs_run core B d file form template is_core some fits final core.outputs 0 (length core.equations)
    (run_shared core.width B d words 0 inputs core.equations) ran.left (drop (due core.equations * pairs d) words) refl (omega arith) ran.holds refl in (
      copied.0,
      copied.1,
      (λ i. calls_then d file final 0 (form.calls i) (start_memory d file (words_of_rows inputs)) (drop (sym none i) words))
          ∙ ran.goes ∙ copied.2,
    )
