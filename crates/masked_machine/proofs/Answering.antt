-- What the machine answers for the masked form of a core.
use Rattle.std.proofs.Common.{◌≡◌, inl, inr, ℕ, ◌-◌, ◌<◌, ◌≤◌, leb, List, [], ◌∷◌, ◌++◌, take, drop, length, replicate, Ok, Err, refl, ap, ◌∙◌, ⊎_elim, arith}
use Rattle.std.proofs.lemmas.Bool.{cond_both, leb-true}
use Rattle.std.proofs.lemmas.List.{length-append, length-replicate, drop_all}
use Rattle.c_tree.specs.declared.CFile.{CFile}
use Rattle.c_machine.specs.Run.{Ending, start_memory, words_of_rows, answer, machine_run}
use Rattle.c_machine.specs.declared.stop.RunFault.{RunFault}
use Rattle.c_machine.specs.declared.stop.RunFault.TheVariants as fault
use Rattle.c_form.specs.MaskedForm.{IsMaskedForm, reg_size}
use Rattle.usuba0.specs.Circuit.{Circuit}
use Rattle.share_gadgets.specs.MaskedRun.{masked_run, words_drawn}
use Rattle.share_gadgets.specs.RunLaw.{AreWordBits, IsMaskedInput}
use Rattle.share_gadgets.proofs.RunSteps.{bits_are}
use Rattle.masked_machine.specs.MachineLaw.{MachineGivesMaskedRun, MachineFindsWordsShort}
use Rattle.masked_machine.proofs.Calls.{HasTemplate, calls_then, calls_done-then}
use Rattle.masked_machine.proofs.Outputs.{long_run}
use Rattle.masked_machine.proofs.Parting.{Final, parted}

-- word bits are at most 64, and a width is within them
bits_fit : (w B : ℕ) → AreWordBits w B → 0 < w → w ≤ 64 → (B ≤ 64) × (w ≤ B)
bits_fit w B (inl is) some few = let it = bits_are w B is some few in (it.1, it.2)
bits_fit w B (inr (one, inl is)) some few = (omega (arith, is), omega (arith, is, one))
bits_fit w B (inr (one, inr (inl is))) some few = (omega (arith, is), omega (arith, is, one))
bits_fit w B (inr (one, inr (inr (inl is)))) some few = (omega (arith, is), omega (arith, is, one))
bits_fit w B (inr (one, inr (inr (inr is)))) some few = (omega (arith, is), omega (arith, is, one))

-- the register of a word holds it, and has at most 64 bits
size_fits : (B : ℕ) → B ≤ 64 → (B ≤ reg_size B) × (reg_size B ≤ 64)
size_fits B few =
    cond_both (leb B 8) 8 _ (λ n. (B ≤ n) × (n ≤ 64)) (λ e. (leb-true B 8 e, omega arith)) (λ _.
    cond_both (leb B 16) 16 _ (λ n. (B ≤ n) × (n ≤ 64)) (λ e. (leb-true B 16 e, omega arith)) (λ _.
    cond_both (leb B 32) 32 64 (λ n. (B ≤ n) × (n ≤ 64)) (λ e. (leb-true B 32 e, omega arith)) (λ _. (few, omega arith))))

module _ (core : Circuit) (B d : ℕ) (file : CFile) (inputs : List (List ℕ)) (form : IsMaskedForm core B file) (input : IsMaskedInput B d core inputs) where
  fitting : (B ≤ 64) × (core.width ≤ B)
  fitting = bits_fit core.width B input.bits input.is_core.some_width input.is_core.width_fits

  has_template : HasTemplate B file
  has_template =
      let size = size_fits B fitting.0 in
      record {
        gadgets = form.gadgets;
        room = omega (arith, size.0, form.reg_bits);
        wide = omega (arith, size.1, form.reg_bits);
      }

  abbrev start : List (List ℕ)
  start = start_memory d file (words_of_rows inputs)

  abbrev Left : List ℕ → Final → Type 0
  Left words final = (left : List (List ℕ)) × (take file.outputs left ≡ masked_run B d core inputs words)
      × (calls_then d file final 0 file.calls start words ≡ final left (drop (words_drawn d core) words))

  long : (words : List ℕ) → words_drawn d core ≤ length words → (final : Final) → Left words final
  long words enough final =
      long_run core B d file form has_template input.is_core input.some fitting.1 inputs input.count input.shared words enough final

  pub gives : (words : List ℕ) → words_drawn d core ≤ length words
      → machine_run d file (words_of_rows inputs) words ≡ Ok (words_of_rows (masked_run B d core inputs words))
  gives words enough =
      let it = long words enough (λ left rest. Ok left) in
      ap (answer file.outputs) (calls_done-then d file file.calls 0 start words ∙ it.2)
      ∙ ap (λ rows. Ok (words_of_rows rows)) it.1

  -- a run that leaves no words
  abbrev only_empty : Final
  only_empty left [] = Ok left
  only_empty left (word ∷ rest) = Err fault.WordsShort

  not_empty : (left : List (List ℕ)) (rest more : List ℕ) → 0 < length more → only_empty left (rest ++ more) ≡ Err fault.WordsShort
  not_empty left [] [] some = absurd (omega (arith, some))
  not_empty left [] (word ∷ more) some = refl
  not_empty left (word ∷ rest) more some = refl

  clash : (left : List (List ℕ)) (met : RunFault) (ending : Ending) → ending ≡ Ok left → ending ≡ Err met → ⊥
  clash left met ending p q = cc (p, q)

  pub short : (words : List ℕ) → length words < words_drawn d core
      → machine_run d file (words_of_rows inputs) words ≡ Err fault.WordsShort
  short words few =
      let lacking = words_drawn d core - length words in
      let zero_word : ℕ = 0 in
      let more = replicate lacking zero_word in
      let many : length (words ++ more) ≡ words_drawn d core =
      length-append words more ∙ omega (arith, length-replicate lacking zero_word, few) in
      let it = long (words ++ more) (omega (arith, many)) only_empty in
      let full : calls_then d file only_empty 0 file.calls start (words ++ more) ≡ Ok it.0 =
      it.2 ∙ ap (only_empty it.0) (drop_all (words_drawn d core) (words ++ more) (omega (arith, many))) in
      ap (answer file.outputs)
      (calls_done-then d file file.calls 0 start words
      ∙ ⊎_elim (λ too_few. too_few (λ left rest. Ok left))
      (⊎_elim
      (λ same. absurd (clash it.0 fault.WordsShort _ full
      (same.3 only_empty ∙ not_empty same.0 same.1 more (omega (arith, length-replicate lacking zero_word, few)))))
      (λ stopped. absurd (clash it.0 stopped.0 _ full (stopped.1 only_empty))))
      (parted more d file file.calls 0 start words))

-- with random words enough the machine's answer is the masked run
pub gives_masked_run : MachineGivesMaskedRun
gives_masked_run core B d file inputs words form input enough = gives core B d file inputs form input words enough

-- with fewer it finds them too few
pub finds_words_short : MachineFindsWordsShort
finds_words_short core B d file inputs words form input few = short core B d file inputs form input words few
