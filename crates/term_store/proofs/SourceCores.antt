-- What a plan makes of the inputs of a judged file's entry is what the source makes.
use Rattle.std.proofs.Common.{◌≡◌, List, Some, ap, ◌∙◌, arith, length}
use Rattle.std.specs.Prelude.{option_map, slice_get, Option}
use Rattle.std.specs.List.{range_with_len}
use Rattle.std.proofs.lemmas.List.{length-map}
use Rattle.std.proofs.lemmas.List.FromFn.{length-range_with_len}
use Rattle.usuba0.specs.CoreOfTerms.{core_of_terms}
use Rattle.usuba0.specs.Term.{Term, Input}
use Rattle.usuba_code.proofs.Running.{code_gives_value}
use Rattle.usuba_plan.proofs.FilePlans.{plan_gives_outcome}
use Rattle.source_terms.specs.SourceTerms.{term_operators, inputs_of, source_terms}
use Rattle.source_terms.proofs.Fitting.{entry_stands, inputs_at}
use Rattle.term_store.specs.CoreLaw.{PlanCoreIsTheSources}
use Rattle.term_store.specs.PlanCore.{terms_of_inputs, plan_terms}

-- the core of what the entry makes by its plan is the core of the source
pub source_cores : PlanCoreIsTheSources
source_cores asked_width asked_entry file width entry judged some_width plans planned =
    let n = inputs_of file.defs entry in
    let stands = entry_stands asked_entry 0 file.defs entry judged.has_entry in
    let there : slice_get file.defs entry ≡ Some stands.1 =
    ap (slice_get file.defs) (let e : entry ≡ stands.0 = omega (arith, stands.2) in e) ∙ stands.3 in
    let many : length (terms_of_inputs n) ≡ n = length-map (range_with_len 0 n) Input ∙ length-range_with_len 0 n in
    let same : plan_terms width file.defs plans entry n ≡ source_terms width file entry =
    plan_gives_outcome code_gives_value (term_operators width) asked_width asked_entry file width entry judged some_width plans planned
    stands.1 there (terms_of_inputs n) (many ∙ inputs_at file.defs entry stands.1 there) in
    (same, ap (λ (ts : Option (List Term)). option_map (core_of_terms width n) ts) same)
