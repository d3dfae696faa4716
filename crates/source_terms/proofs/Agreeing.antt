-- The terms of a judged file have its plain meaning, and so has its core.
use Rattle.std.proofs.Common.{◌≡◌, ℕ, ◌+◌, ◌<◌, ◌^◌, zero, suc, List, [], ◌∷◌, length, map, reverse, Option, Some, None, refl, sym, ap, ap₂, ◌∙◌, subst, arith}
use Rattle.std.specs.Prelude.{All, option_map, slice_get, slice_index}
use Rattle.std.specs.List.{range_with_len}
use Rattle.std.proofs.lemmas.List.{length-map}
use Rattle.std.proofs.lemmas.List.FromFn.{length-range_with_len}
use Rattle.std.proofs.lemmas.Option.{none-some}
use Rattle.usuba0.specs.CoreOfTerms.{core_of_terms}
use Rattle.usuba0.specs.PlainRun.{plain_run}
use Rattle.usuba0.specs.Term.{Term, Input, value, bits_of_width}
use Rattle.usuba_model.specs.Judging.{name_at}
use Rattle.usuba_model.specs.Meaning.{word_operators, plain_meaning}
use Rattle.usuba_model.specs.Rounds.{outcomes}
use Rattle.usuba_model.proofs.EntryOutcome.{entry_outcome, judged_passes}
use Rattle.usuba_model.proofs.Relating.{AllRelated, Matched, DefinitionsFit, related_outcomes}
use Rattle.table_anf.proofs.Values.{Makes}
use Rattle.source_terms.specs.SourceTerms.{term_operators, inputs_of}
use Rattle.source_terms.specs.SourceLaws.{IsWord, TermsHaveTheMeaning, MeaningsAgree}
use Rattle.source_terms.proofs.CoreRun.{core_keeps_values}
use Rattle.source_terms.proofs.Fitting.{width_bounds, definitions_fit, entry_stands, inputs_at}
use Rattle.source_terms.proofs.Reading.{Reads, all_read, related_read, no_operators, reads_kept}
use Rattle.source_terms.proofs.Words.{words_kept}

-- so many of nothing
abbrev nothings : ℕ → List (Unit {0})
nothings zero = []
nothings (suc k) = tt ∷ nothings k

-- the inputs from a on read inputs below n
inputs_read : (n a k : ℕ) → a + k ≡ n → AllRelated (Reads n) (map Input (range_with_len a k)) (nothings k)
inputs_read n a zero e = tt
inputs_read n a (suc k) e = (omega (arith, e), inputs_read n (a + 1) k (omega (arith, e)))

-- an input makes its word
input_makes : (w : ℕ) (inputs : List ℕ) (i x : ℕ) → slice_index inputs i ≡ x → x < 2 ^ bits_of_width w → Makes w inputs (Input i) x
input_makes w inputs i x e h =
    record { fits = record { word = subst (λ (y : ℕ). y < 2 ^ bits_of_width w) (sym e) h; number = tt }; same = e }

-- the inputs from a on make the words from there on
inputs_make : (w : ℕ) (inputs rest : List ℕ) (a : ℕ) → ((i : ℕ) → i < length rest → slice_index inputs (a + i) ≡ slice_index rest i)
    → All (IsWord (bits_of_width w)) rest → AllRelated (Makes w inputs) (map Input (range_with_len a (length rest))) rest
inputs_make w inputs [] a at words = tt
inputs_make w inputs (x ∷ rest) a at words = (
  input_makes w inputs a x (ap (slice_index inputs) (let e : a ≡ a + 0 = omega arith in e) ∙ at 0 (omega arith)) (words 0 0 (omega arith)),
  inputs_make w inputs rest (a + 1)
      (λ i l. ap (slice_index inputs) (let e : a + 1 + i ≡ a + suc i = omega arith in e) ∙ at (suc i) (omega (arith, l)))
      (λ i d l. words (suc i) d (omega (arith, l))),
)

some_list : {V : Type 0} (xs ys : List V) → Some xs ≡ Some ys → xs ≡ ys
some_list xs ys e = cc e

-- what related outcomes are where the first is there
related_some : {V W : Type 0} (R : V → W → Type 0) (xs : List V) (o : Option (List V)) (p : Option (List W)) → o ≡ Some xs
    → Matched (AllRelated R) o p → (ys : List W) × (p ≡ Some ys) × AllRelated R xs ys
related_some R xs None p e m = absurd (none-some xs e)
related_some R xs (Some zs) None e m = absurd m
related_some R xs (Some zs) (Some ys) e m = (ys, refl, subst (λ l. AllRelated R l ys) (some_list zs xs e) m)

-- the words that terms make are their values
words_made : (w : ℕ) (inputs : List ℕ) (terms : List Term) (words : List ℕ) → AllRelated (Makes w inputs) terms words
    → words ≡ map (value w (bits_of_width w) inputs) terms
words_made w inputs [] [] related = refl
words_made w inputs [] (x ∷ words) related = absurd related
words_made w inputs (t ∷ terms) [] related = absurd related
words_made w inputs (t ∷ terms) (x ∷ words) related =
    ap₂ (λ (y : ℕ) (ys : List ℕ). y ∷ ys) (sym related.0.same) (words_made w inputs terms words related.1)

as_same : (o : Option (List ℕ)) (xs ys : List ℕ) → o ≡ Some xs → xs ≡ ys → o ≡ Some ys
as_same o xs ys e same = e ∙ ap Some same

-- the terms of a judged file have its plain meaning
pub terms_have_the_meaning : TermsHaveTheMeaning
terms_have_the_meaning asked_width asked_entry file width entry judged some_width inputs are =
    let B = bits_of_width width in
    let n = inputs_of file.defs entry in
    let defs = reverse file.defs in
    let name = name_at file.defs entry in
    let arguments : List Term = map Input (range_with_len 0 n) in
    let stands = entry_stands asked_entry 0 file.defs entry judged.has_entry in
    let there : slice_get file.defs entry ≡ Some stands.1 =
    ap (slice_get file.defs) (let e : entry ≡ stands.0 = omega (arith, stands.2) in e) ∙ stands.3 in
    let many : length arguments ≡ n = length-map (range_with_len 0 n) Input ∙ length-range_with_len 0 n in
    let answer = entry_outcome (term_operators width) asked_width asked_entry file width entry judged some_width stands.1 there arguments
    (many ∙ inputs_at file.defs entry stands.1 there) in
    let fit : DefinitionsFit (width_bounds width) defs =
    definitions_fit width some_width file.defs [] tt (judged_passes asked_width asked_entry file width entry judged).1.walks in
    let make : AllRelated (Makes width inputs) arguments inputs =
    subst (λ (k : ℕ). AllRelated (Makes width inputs) (map Input (range_with_len 0 k)) inputs) are.each
    (inputs_make width inputs inputs 0 (λ i l. ap (slice_index inputs) (let e : 0 + i ≡ i = omega arith in e)) are.words) in
    let words = related_some (Makes width inputs) answer.0 (outcomes (term_operators width) defs name arguments)
    (outcomes (word_operators width B) defs name inputs) answer.1
    (related_outcomes (width_bounds width) (Makes width inputs) (term_operators width) (word_operators width B) (words_kept width inputs)
    defs fit name arguments inputs make) in
    let reads = related_some (Reads n) answer.0 (outcomes (term_operators width) defs name arguments)
    (outcomes no_operators defs name (nothings n)) answer.1
    (related_outcomes (width_bounds width) (Reads n) (term_operators width) no_operators (reads_kept n width)
    defs fit name arguments (nothings n) (inputs_read n 0 n (omega arith))) in (
      answer.0,
      answer.1,
      all_read n answer.0 (related_read n answer.0 reads.0 reads.2),
      as_same (outcomes (word_operators width B) defs name inputs) words.0 (map (value width B inputs) answer.0) words.1
          (words_made width inputs answer.0 words.0 words.2),
    )

-- the core of a judged file has its plain meaning
pub meanings_agree : MeaningsAgree
meanings_agree asked_width asked_entry file width entry judged some_width inputs are =
    let made = terms_have_the_meaning asked_width asked_entry file width entry judged some_width inputs are in
    let n = inputs_of file.defs entry in (
      core_of_terms width n made.0,
      ap (option_map (core_of_terms width n)) made.1,
      as_same (plain_meaning width (bits_of_width width) file entry inputs) (map (value width (bits_of_width width) inputs) made.0)
          (plain_run (bits_of_width width) (core_of_terms width n made.0) inputs) made.3
          (sym (core_keeps_values width (bits_of_width width) n made.0 inputs are.each made.2)),
    )
