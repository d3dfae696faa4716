use Rattle.std.proofs.Common.{length, Option, refl, sym, ap, subst, arith}
use Rattle.usuba_model.specs.declared.fault.Fault.{Fault}
use Rattle.usuba_model.proofs.Knowing.{none_hold}
use Rattle.usuba_types.specs.State.Passing.{IsStep, Passes}
use Rattle.usuba_types.proofs.Standing.{in-file, opens, name-text, stands-first, stands-next, stands-stops, stands-ends}
use Rattle.usuba_types.proofs.passing.later_fault.Goals as goal

pub loop-definition-init : goal.loop-definition-init
loop-definition-init c =
    stands-first c.args.width c.args.file.now.defs 0 _ _ _ refl c.new.ensures c.new-2.ensures.items refl (none_hold _ _ c.requires.unknown)
    (none_hold _ _ c.requires.repeated)

pub loop-definition-preserved : goal.loop-definition-preserved
loop-definition-preserved c =
    let d = c.definition-item.result in
    let i = c.loop-definition.definition-index in
    let before = c.loop-definition.pass in
    let after = c.look_at.new.pass in
    let at = in-file c.as_slice-definition-items.result.now c.args.file.now.defs i d c.as_slice-definition-items.ensures (omega (arith, c.loop-definition-test.true)) c.definition-item.is in
    let step : Passes c.args.width before after d = subst (λ (o : Option Fault). IsStep c.args.width before after d o) c.in_default.is c.in_ok-fault.ensures in
    stands-next c.args.width c.args.file.now.defs i before.definitions before.sizes.items before.kept d
    (opens c.args.file.now.defs i d at.0 at.1) c.loop-definition.invariant after.definitions after.sizes.items after.kept
    (sym (name-text c.args.file.now.defs i d at.0 at.1)) step.clean step.definitions step.sizes step.kept

pub returns : goal.returns
returns c =
    stands-ends c.args.width c.args.file.now.defs c.loop-definition.definition-index c.loop-definition.pass.definitions
    c.loop-definition.pass.sizes.items c.loop-definition.pass.kept c.args.entry c.last_fault.result
    (omega (arith, ap length c.as_slice-definition-items.ensures, c.loop-definition-test.false)) c.requires.entry c.loop-definition.invariant
    c.last_fault.ensures

pub returns-in-Some : goal.returns-in-Some
returns-in-Some c =
    let d = c.definition-item.result in
    let i = c.loop-definition.definition-index in
    let before = c.loop-definition.pass in
    let at = in-file c.as_slice-definition-items.result.now c.args.file.now.defs i d c.as_slice-definition-items.ensures (omega (arith, c.loop-definition-test.true)) c.definition-item.is in
    sym (stands-stops c.args.width c.args.file.now.defs i before.definitions before.sizes.items before.kept d
    (opens c.args.file.now.defs i d at.0 at.1) c.loop-definition.invariant c.args.entry c.in-Some.fault
    (subst (λ (o : Option Fault). IsStep c.args.width before c.look_at.new.pass d o) c.in-Some.is c.in_ok-fault.ensures))
