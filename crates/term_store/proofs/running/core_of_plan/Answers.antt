use Rattle.std.proofs.Common.{◌<◌, map}
use Rattle.usuba0.specs.declared.limit.TheConstants.{MAX_WEIGHT, MAX_COLUMNS}
use Rattle.usuba0.specs.Builder.{term_of}
use Rattle.usuba0.specs.Circuit.{IsSmall, weight, columns}
use Rattle.usuba0.specs.CoreOfTerms.{core_of_terms}
use Rattle.term_store.specs.PlanCore.{plan_core}
use Rattle.term_store.proofs.PlanCores.{AreOutputs, outputs_made, can_begin, core_is, asked_is}
use Rattle.term_store.proofs.running.core_of_plan.Goals as goal

pub terms_of_plan-requires : goal.terms_of_plan-requires
terms_of_plan-requires c =
    can_begin c.in_ok-terms.terms.builder c.args.width c.args.defs.now c.args.plans.now c.args.number c.args.inputs c.in_ok-terms.ensures
    c.requires.made

pub finish-requires-clause-some : goal.finish-requires-clause-some
finish-requires-clause-some c =
    let made : AreOutputs c.terms_of_plan.new.terms.builder c.args.width c.args.defs.now c.args.plans.now c.args.number c.args.inputs c.as_slice.result.now =
    outputs_made c.in_ok-terms.terms.builder c.terms_of_plan.new.terms.builder c.args.width c.args.defs.now c.args.plans.now c.args.number
    c.args.inputs c.in_ok-outputs.outputs.items c.as_slice.result.now c.as_slice.ensures.value c.in_ok-terms.ensures c.requires.made
    c.in_ok-outputs.ensures.made c.terms_of_plan.ensures.keeps in
    made.some

pub finish-requires-clause-few : goal.finish-requires-clause-few
finish-requires-clause-few c =
    let made : AreOutputs c.terms_of_plan.new.terms.builder c.args.width c.args.defs.now c.args.plans.now c.args.number c.args.inputs c.as_slice.result.now =
    outputs_made c.in_ok-terms.terms.builder c.terms_of_plan.new.terms.builder c.args.width c.args.defs.now c.args.plans.now c.args.number
    c.args.inputs c.in_ok-outputs.outputs.items c.as_slice.result.now c.as_slice.ensures.value c.in_ok-terms.ensures c.requires.made
    c.in_ok-outputs.ensures.made c.terms_of_plan.ensures.keeps in
    made.few

pub finish-requires-clause-held : goal.finish-requires-clause-held
finish-requires-clause-held c =
    let made : AreOutputs c.terms_of_plan.new.terms.builder c.args.width c.args.defs.now c.args.plans.now c.args.number c.args.inputs c.as_slice.result.now =
    outputs_made c.in_ok-terms.terms.builder c.terms_of_plan.new.terms.builder c.args.width c.args.defs.now c.args.plans.now c.args.number
    c.args.inputs c.in_ok-outputs.outputs.items c.as_slice.result.now c.as_slice.ensures.value c.in_ok-terms.ensures c.requires.made
    c.in_ok-outputs.ensures.made c.terms_of_plan.ensures.keeps in
    made.held

pub returns-clause-core : goal.returns-clause-core
returns-clause-core c =
    let made : AreOutputs c.terms_of_plan.new.terms.builder c.args.width c.args.defs.now c.args.plans.now c.args.number c.args.inputs c.as_slice.result.now =
    outputs_made c.in_ok-terms.terms.builder c.terms_of_plan.new.terms.builder c.args.width c.args.defs.now c.args.plans.now c.args.number
    c.args.inputs c.in_ok-outputs.outputs.items c.as_slice.result.now c.as_slice.ensures.value c.in_ok-terms.ensures c.requires.made
    c.in_ok-outputs.ensures.made c.terms_of_plan.ensures.keeps in
    let b = c.terms_of_plan.new.terms.builder in
    let core = core_of_terms b.width b.inputs (map (term_of b) c.as_slice.result.now) in
    core_is c.finish.result (plan_core c.args.width c.args.defs.now c.args.plans.now c.args.number c.args.inputs) core made.core c.finish.ensures.core

pub returns-clause-too_large : goal.returns-clause-too_large
returns-clause-too_large c = λ refused.
    let made : AreOutputs c.terms_of_plan.new.terms.builder c.args.width c.args.defs.now c.args.plans.now c.args.number c.args.inputs c.as_slice.result.now =
    outputs_made c.in_ok-terms.terms.builder c.terms_of_plan.new.terms.builder c.args.width c.args.defs.now c.args.plans.now c.args.number
    c.args.inputs c.in_ok-outputs.outputs.items c.as_slice.result.now c.as_slice.ensures.value c.in_ok-terms.ensures c.requires.made
    c.in_ok-outputs.ensures.made c.terms_of_plan.ensures.keeps in
    let b = c.terms_of_plan.new.terms.builder in
    let core = core_of_terms b.width b.inputs (map (term_of b) c.as_slice.result.now) in
    asked_is (λ core. MAX_WEIGHT < weight core) (plan_core c.args.width c.args.defs.now c.args.plans.now c.args.number c.args.inputs) core made.core
    (c.finish.ensures.too_large refused)

pub returns-clause-too_many : goal.returns-clause-too_many
returns-clause-too_many c = λ refused.
    let made : AreOutputs c.terms_of_plan.new.terms.builder c.args.width c.args.defs.now c.args.plans.now c.args.number c.args.inputs c.as_slice.result.now =
    outputs_made c.in_ok-terms.terms.builder c.terms_of_plan.new.terms.builder c.args.width c.args.defs.now c.args.plans.now c.args.number
    c.args.inputs c.in_ok-outputs.outputs.items c.as_slice.result.now c.as_slice.ensures.value c.in_ok-terms.ensures c.requires.made
    c.in_ok-outputs.ensures.made c.terms_of_plan.ensures.keeps in
    let b = c.terms_of_plan.new.terms.builder in
    let core = core_of_terms b.width b.inputs (map (term_of b) c.as_slice.result.now) in
    asked_is (λ core. IsSmall core × (MAX_COLUMNS < columns core))
    (plan_core c.args.width c.args.defs.now c.args.plans.now c.args.number c.args.inputs) core made.core (c.finish.ensures.too_many refused)
