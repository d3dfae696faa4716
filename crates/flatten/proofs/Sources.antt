-- The core that the plans of a program make is the core of the source, and so are the limits that it passes.
use Rattle.std.proofs.Common.{◌≡◌, ◌<◌, ℕ, zero, suc, List, [], ◌∷◌, Option, Some, refl, sym, ap, ◌∙◌, subst}
use Rattle.std.specs.Prelude.{IfSome, option_map, Result, Ok, Err, IfErr}
use Rattle.std.specs.Result.{IsErrAnd}
use Rattle.usuba_trees.specs.declared.Def.{Def}
use Rattle.usuba0.specs.Circuit.{Circuit, IsSmall, weight, columns}
use Rattle.usuba0.specs.CoreOfTerms.{core_of_terms}
use Rattle.usuba0.specs.declared.finish.CloseFault.{CloseFault}
use Rattle.usuba0.specs.declared.finish.CloseFault.TheVariants as close_fault
use Rattle.usuba0.specs.declared.limit.TheConstants.{MAX_WEIGHT, MAX_COLUMNS}
use Rattle.usuba_types.specs.Judged.{Program, IsProgram, inputs_at}
use Rattle.usuba_types.proofs.Entry.{entry_stands}
use Rattle.usuba_plan.specs.Plans.{IsPlanned}
use Rattle.usuba_plan.specs.declared.plans.Plan.{Plan}
use Rattle.source_terms.specs.SourceTerms.{inputs_of, core_of_source}
use Rattle.term_store.specs.CoreLaw.{PlanCoreIsTheSources}
use Rattle.term_store.specs.PlanCore.{plan_core, CanMakeCore}
use Rattle.flatten.specs.CoreOf.{IsFlatRefusal, flat_fault_of}
use Rattle.flatten.specs.declared.fault.FlatFault.{FlatFault}

-- the entry has as many inputs for its core as it is judged to have
same_inputs : (defs : List Def) (k : ℕ) → inputs_at defs k ≡ inputs_of defs k
same_inputs [] k = refl
same_inputs (d ∷ rest) zero = refl
same_inputs (d ∷ rest) (suc k) = same_inputs rest k

-- the core that the plans make is that of the source
pub core_is_the_sources : PlanCoreIsTheSources → (program : Program) → IsProgram program → (plans : List Plan)
    → IsPlanned program.file.defs plans program.entry
    → plan_core program.width program.file.defs plans program.entry (inputs_at program.file.defs program.entry)
    ≡ core_of_source program.width program.file program.entry
core_is_the_sources law program known plans planned =
    let (wide, d, is) = entry_stands program known in
    let file = program.file in
    let width = program.width in
    let entry = program.entry in
    ap (λ (n : ℕ). plan_core width file.defs plans entry n) (same_inputs file.defs entry)
    ∙ (law known.asked_width known.asked_entry file width entry known.judged wide.0 plans planned).1

-- a core that can be made is there
pub core_is_made : (w : ℕ) (defs : List Def) (plans : List Plan) (number n : ℕ) → CanMakeCore w defs plans number n
    → (core : Circuit) × (plan_core w defs plans number n ≡ Some core)
core_is_made w defs plans number n can = (core_of_terms w n can.outputs, ap (option_map (core_of_terms w n)) can.makes)

-- a limit that the core passes is that of the source's core
pub limit_is_passed : (program : Program) (o : Option Circuit)
    → o ≡ core_of_source program.width program.file program.entry
    → (core : Circuit) × (o ≡ Some core) → (error : CloseFault)
    → (error ≡ close_fault.CoreTooLarge → IfSome o (λ core. MAX_WEIGHT < weight core))
    → (error ≡ close_fault.ColumnsTooMany → IfSome o (λ core. IsSmall core × (MAX_COLUMNS < columns core)))
    → IsFlatRefusal program (flat_fault_of error)
limit_is_passed program o is made close_fault.CoreTooLarge large many =
    (made.0, sym is ∙ made.1, subst (λ o. IfSome o (λ core. MAX_WEIGHT < weight core)) made.1 (large refl))
limit_is_passed program o is made close_fault.ColumnsTooMany large many =
    let past = subst (λ o. IfSome o (λ core. IsSmall core × (MAX_COLUMNS < columns core))) made.1 (many refl) in
    (made.0, sym is ∙ made.1, past.0, past.1)
limit_is_passed program o is made (close_fault.Memory error) large many = tt

-- so is that of an answer which is this limit
pub limit_is_answered : {T : Type 0} (program : Program) (error : CloseFault) (result : Result T FlatFault)
    → IsErrAnd result (λ fault. fault ≡ flat_fault_of error) → IsFlatRefusal program (flat_fault_of error)
    → IfErr result (IsFlatRefusal program)
limit_is_answered program error (Ok core) is told = tt
limit_is_answered program error (Err fault) is told = subst (IsFlatRefusal program) (sym is) told
