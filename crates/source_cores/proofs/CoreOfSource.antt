-- The core of a source is a core.
use Rattle.std.proofs.Common.{◌≡◌, ℕ, ◌+◌, ◌<◌, zero, suc, List, [], ◌∷◌, length, map, reverse, Option, Some, None, sym, ap, ◌∙◌, subst, arith}
use Rattle.std.specs.Prelude.{option_map, slice_get}
use Rattle.std.specs.List.{range_with_len}
use Rattle.std.proofs.lemmas.List.{length-map}
use Rattle.std.proofs.lemmas.List.FromFn.{length-range_with_len}
use Rattle.std.proofs.lemmas.Option.{none-some}
use Rattle.usuba0.specs.Circuit.{Circuit, IsCore}
use Rattle.usuba0.specs.CoreOfTerms.{core_of_terms, register_of, subterms}
use Rattle.usuba0.specs.Term.{Term, Input}
use Rattle.usuba_model.specs.Judging.{name_at}
use Rattle.usuba_model.specs.Rounds.{outcomes}
use Rattle.usuba_model.proofs.EntryOutcome.{entry_outcome, judged_passes}
use Rattle.usuba_model.proofs.Relating.{AllRelated, Matched, DefinitionsFit, related_outcomes}
use Rattle.source_shapes.specs.Shaped.{IsWidth}
use Rattle.source_shapes.specs.ShapeLaws.{JudgedTakesAndGives}
use Rattle.source_terms.specs.SourceTerms.{term_operators, inputs_of, source_terms}
use Rattle.source_terms.proofs.Fitting.{width_bounds, definitions_fit, inputs_at}
use Rattle.source_terms.proofs.Reading.{AllRead, Reads, related_read, no_operators, reads_kept}
use Rattle.source_cores.specs.SourceCores.{SourceCoresAreCores}
use Rattle.source_cores.proofs.FitTerms.{AreFit, Fits, related_fit, fits_kept}
use Rattle.source_cores.proofs.OrderedTerms.{has_equations}

-- so many of nothing
abbrev nothings : ℕ → List (Unit {0})
nothings zero = []
nothings (suc k) = tt ∷ nothings k

-- the inputs from a on read inputs below n, and fit each width
inputs_read : (n a k : ℕ) → a + k ≡ n → AllRelated (Reads n) (map Input (range_with_len a k)) (nothings k)
inputs_read n a zero e = tt
inputs_read n a (suc k) e = (omega (arith, e), inputs_read n (a + 1) k (omega (arith, e)))

inputs_fit : (w a k : ℕ) → AllRelated (Fits w) (map Input (range_with_len a k)) (nothings k)
inputs_fit w a zero = tt
inputs_fit w a (suc k) = (tt, inputs_fit w (a + 1) k)

same_list : (xs ys : List Term) → Some xs ≡ Some ys → xs ≡ ys
same_list xs ys e = cc e

-- terms that are related to nothing, where they are there
related_there : (R : Term → Unit {0} → Type 0) (terms : List Term) (o : Option (List Term)) (p : Option (List (Unit {0}))) → o ≡ Some terms
    → Matched (AllRelated R) o p → (us : List (Unit {0})) × AllRelated R terms us
related_there R terms None p e m = absurd (none-some terms e)
related_there R terms (Some others) None e m = absurd m
related_there R terms (Some others) (Some us) e m = (us, subst (λ l. AllRelated R l us) (same_list others terms e) m)

-- the core of terms that there are
core_is : (w n : ℕ) (made : Option (List Term)) (terms : List Term) (core : Circuit) → made ≡ Some terms
    → option_map (core_of_terms w n) made ≡ Some core → core_of_terms w n terms ≡ core
core_is w n made terms core there is =
    let e : Some (core_of_terms w n terms) ≡ Some core = ap (option_map (core_of_terms w n)) (sym there) ∙ is in cc e

-- the core of terms that fit a width of 1 to 64, over inputs below n, is a core
terms_have_core : (w n : ℕ) (terms : List Term) → IsWidth w → 0 < n → 0 < length terms → AllRead n terms → AreFit w terms
    → IsCore (core_of_terms w n terms)
terms_have_core w n terms width takes gives read fit =
    let has = has_equations w n terms read fit in
    let count = length-map terms (register_of n (subterms terms)) in
    record {
      some_width = width.0;
      width_fits = width.1;
      some_input = takes;
      some_output = omega (arith, count, gives);
      equations = has.are;
      outputs = has.outputs_below;
    }

-- what is the core of a file that is spelled and judged is a core
pub source_core_is_core : JudgedTakesAndGives → SourceCoresAreCores
source_core_is_core takes_and_gives bytes asked_width asked_entry file width entry spelled asked judged core is =
    let shaped = takes_and_gives bytes asked_width asked_entry file width entry spelled asked judged in
    let w : IsWidth width = shaped.0 in
    let d = shaped.1 in
    let there : slice_get file.defs entry ≡ Some d = shaped.2 in
    let n = inputs_of file.defs entry in
    let takes = inputs_at file.defs entry d there in
    let defs = reverse file.defs in
    let name = name_at file.defs entry in
    let arguments : List Term = map Input (range_with_len 0 n) in
    let many : length arguments ≡ n = length-map (range_with_len 0 n) Input ∙ length-range_with_len 0 n in
    let made = entry_outcome (term_operators width) asked_width asked_entry file width entry judged w.0 d there arguments (many ∙ takes) in
    let fit : DefinitionsFit (width_bounds width) defs =
    definitions_fit width w.0 file.defs [] tt (judged_passes asked_width asked_entry file width entry judged).1.walks in
    let reads = related_there (Reads n) made.0 (outcomes (term_operators width) defs name arguments)
    (outcomes no_operators defs name (nothings n)) made.1
    (related_outcomes (width_bounds width) (Reads n) (term_operators width) no_operators (reads_kept n width)
    defs fit name arguments (nothings n) (inputs_read n 0 n (omega arith))) in
    let fits = related_there (Fits width) made.0 (outcomes (term_operators width) defs name arguments)
    (outcomes no_operators defs name (nothings n)) made.1
    (related_outcomes (width_bounds width) (Fits width) (term_operators width) no_operators (fits_kept width)
    defs fit name arguments (nothings n) (inputs_fit width 0 n)) in
    let given = shaped.3 in
    subst IsCore (core_is width n (source_terms width file entry) made.0 core made.1 is)
    (terms_have_core width n made.0 w (let t = given.takes in omega (arith, t, takes)) (let g = given.gives in let c = made.2 in omega (arith, g, c))
    (related_read n made.0 reads.0 reads.1) (related_fit width made.0 fits.0 fits.1))
