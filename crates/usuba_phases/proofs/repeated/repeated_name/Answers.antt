use Rattle.std.proofs.Common.{[], sym, ap, ◌∙◌, arith}
use Rattle.std.specs.Prelude.{map}
use Rattle.usuba_phases.specs.State.Names.{names_in}
use Rattle.usuba_phases.proofs.PerDefinition.{repeated_fault, repeated-passes, repeated-stops, repeated-ends}
use Rattle.usuba_phases.proofs.repeated.repeated_name.Goals as goal

pub loop-definition-init : goal.loop-definition-init
loop-definition-init c =
    ap (λ names. repeated_fault names c.as_slice-definition-items.result.now)
    (ap (map (λ key. key.now)) c.new-names.ensures.empty)
    ∙ ap (repeated_fault []) c.as_slice-definition-items.ensures

pub loop-definition-preserved : goal.loop-definition-preserved
loop-definition-preserved c =
    repeated-passes (names_in c.loop-definition.names) (names_in c.repeated_in_definition.new.names)
    c.as_slice-definition-items.result.now c.loop-definition.definition-index
    c.definition-item.result c.in_ok-found.found _ (omega arith) c.definition-item.is c.in_ok-found.ensures.found
    (sym c.is_some.ensures ∙ c.if-is_some.false) c.in_ok-found.ensures.noted c.loop-definition.invariant

pub returns-then-is_some : goal.returns-then-is_some
returns-then-is_some c =
    repeated-stops (names_in c.loop-definition.names) c.as_slice-definition-items.result.now
    c.loop-definition.definition-index
    c.definition-item.result c.in_ok-found.found _ (omega arith) c.definition-item.is c.in_ok-found.ensures.found
    (sym c.is_some.ensures ∙ c.if-is_some.true) c.loop-definition.invariant

pub returns : goal.returns
returns c =
    repeated-ends (names_in c.loop-definition.names) c.as_slice-definition-items.result.now
    c.loop-definition.definition-index _ (omega arith) c.loop-definition.invariant
