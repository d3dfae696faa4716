use Rattle.std.proofs.Common.{[], ◌∷◌, subst, sym, ap, ◌∙◌, arith}
use Rattle.std.specs.Prelude.{map}
use Rattle.usuba_trees.specs.declared.Word.{Word}
use Rattle.usuba_phases.specs.State.Names.{names_in, AreSame}
use Rattle.usuba_phases.proofs.PerDefinition.{unknown_fault, unknown-passes, unknown-stops, unknown-ends}
use Rattle.usuba_phases.proofs.unknown.unknown_name.Goals as goal

pub loop-definition-init : goal.loop-definition-init
loop-definition-init c =
    ap (λ names. unknown_fault names c.as_slice-definition-items.result.now)
    (ap (map (λ key. key.now)) c.new-defined.ensures.empty)
    ∙ ap (unknown_fault []) c.as_slice-definition-items.ensures

pub loop-definition-preserved : goal.loop-definition-preserved
loop-definition-preserved c =
    unknown-passes (names_in c.loop-definition.defined) (names_in c.add.new.names)
    c.as_slice-definition-items.result.now c.loop-definition.definition-index
    c.definition-item.result c.in_ok-found.found _ (omega arith) c.definition-item.is c.in_ok-found.ensures
    (sym c.is_some.ensures ∙ c.if-is_some.false)
    (subst (λ text. AreSame (names_in c.add.new.names) (text ∷ names_in c.loop-definition.defined))
    (c.as_str.ensures ∙ ap (λ (w : Word). w.text) c.name_of.ensures) c.in_ok-_is_new.ensures.added)
    c.loop-definition.invariant

pub returns-then-is_some : goal.returns-then-is_some
returns-then-is_some c =
    unknown-stops (names_in c.loop-definition.defined) c.as_slice-definition-items.result.now
    c.loop-definition.definition-index
    c.definition-item.result c.in_ok-found.found _ (omega arith) c.definition-item.is c.in_ok-found.ensures
    (sym c.is_some.ensures ∙ c.if-is_some.true) c.loop-definition.invariant

pub returns : goal.returns
returns c =
    unknown-ends (names_in c.loop-definition.defined) c.as_slice-definition-items.result.now
    c.loop-definition.definition-index _ (omega arith) c.loop-definition.invariant
