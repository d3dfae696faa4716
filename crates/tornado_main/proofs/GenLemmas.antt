-- A generated source is not refused, and what is told of its core.
use Rattle.std.proofs.Common.{◌≡◌, ℕ, List, Bool, true, false, MatchBool, None, Some, Result, Err, IfErr, sym, ◌∙◌, subst}
use Rattle.span_model.specs.Attack.{HasAttack}
use Rattle.usuba_syntax.specs.SourceFaults as read
use Rattle.usuba0.specs.Circuit.{Circuit, IsCore, IsSmall, HasFewColumns}
use Rattle.source_terms.specs.SourceTerms.{core_of_source}
use Rattle.linear_view.specs.AttackLaw.{AttacksAreTheViews}
use Rattle.linear_view.specs.Rows.{core_products, core_view}
use Rattle.linear_view.specs.View.{LinearView, products_of}
use Rattle.generated_files.specs.GeneratedLaw.{IsClean}
use Rattle.tornado_main.specs.Ending.{IsRefusedFor}
use Rattle.tornado_main.specs.Source.{IsFaultySource, HasCore, syntax, too_deep, number_too_big, not_judged, past_limit}
use Rattle.tornado_main.specs.declared.message.Fault.{Fault}
use Rattle.tornado_main.specs.declared.refusal.Refusal.{Refusal}
use Rattle.tornado_main.specs.declared.refusal.Refusal.TheVariants as refusal
use Rattle.tornado_main.specs.declared.status.Status.{Status}
use Rattle.tornado_main.specs.declared.status.Status.TheVariants.{Source}
use Rattle.tornado_main.proofs.CoverageLemmas.{no_judged_fault, limit_apart}

-- the core of a clean source is within both limits
clean_core : (source : List ℕ) → IsClean source → (core : Circuit) → HasCore None None core source → IsSmall core × HasFewColumns core
clean_core source clean core has =
    let judged = clean.judged has.file has.spelled in
    let small = clean.small has.file has.spelled in
    let widths : Some 1 ≡ Some has.width = sym judged.has_width ∙ has.judged.has_width in
    let entries : Some 0 ≡ Some has.entry = sym judged.has_entry ∙ has.judged.has_entry in
    let width : 1 ≡ has.width = cc in
    let entry : 0 ≡ has.entry = cc in
    let cores : core_of_source 1 has.file 0 ≡ core_of_source has.width has.file has.entry = cc in
    let here : Some small.0 ≡ Some core = sym small.1 ∙ cores ∙ has.core_of_file in
    let same : small.0 ≡ core = cc in
    (subst IsSmall same small.2, subst HasFewColumns same small.3)

-- nothing is at fault with a clean source
clean_unfaulty : (source : List ℕ) → IsClean source → (fault : Fault) → ¬ IsFaultySource None None fault source
clean_unfaulty source clean _ (syntax _ at h) = clean.no_fault (read.Syntax at) h
clean_unfaulty source clean _ (too_deep _ at h) = clean.no_fault (read.TooDeep at) h
clean_unfaulty source clean _ (number_too_big _ at h) = clean.no_fault (read.NumberTooBig at) h
clean_unfaulty source clean _ (not_judged _ file kind at spelled has) =
    no_judged_fault None None file (record { kind = kind; place = at }) (clean.judged file spelled).no_fault has
clean_unfaulty source clean fault (past_limit _ core _ has passes) =
    let within = clean_core source clean core has in
    limit_apart core fault passes within.0 within.1

-- so it is not refused for a fault
pub never_faulty : (name source : List ℕ) → IsClean source → (answer : Result Circuit Refusal) (ends_with : Status) {told : _} (fault : Fault)
    → answer ≡ Err (refusal.Faulty ends_with told fault)
    → IfErr answer (λ e. IsRefusedFor Source name (λ wrong. IsFaultySource None None wrong source) e) → ⊥
never_faulty name source clean answer ends_with {told = told} fault is h =
    clean_unfaulty source clean fault
    (subst (λ (a : Result Circuit Refusal). IfErr a (λ e. IsRefusedFor Source name (λ wrong. IsFaultySource None None wrong source) e)) is h).2

-- the verdict on a view is that on its core
pub verdict_so : AttacksAreTheViews → (core : Circuit) → IsCore core → (view : LinearView) → view ≡ core_view core → (secure : Bool)
    → MatchBool secure (¬ HasAttack (products_of view)) (HasAttack (products_of view))
    → MatchBool secure (¬ HasAttack (core_products core)) (HasAttack (core_products core))
verdict_so law core is_core view is true none = λ attack.
    subst (λ (v : LinearView). ¬ HasAttack (products_of v)) is none ((law.attack core is_core).0 attack)
verdict_so law core is_core view is false attack =
    (law.attack core is_core).1 (subst (λ (v : LinearView). HasAttack (products_of v)) is attack)
