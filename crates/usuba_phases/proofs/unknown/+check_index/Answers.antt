use Rattle.std.proofs.Common.{sym, ap, ◌∙◌, arith}
use Rattle.usuba_model.specs.declared.fault.FaultKind.TheVariants.{UnknownName}
use Rattle.usuba_model.specs.Faults.{first_of}
use Rattle.usuba_model.specs.Names.{unknown_in_index}
use Rattle.usuba_trees.specs.declared.Index.TheVariants as index
use Rattle.usuba_phases.specs.State.Scopes.{counters_of}
use Rattle.usuba_phases.proofs.FirstSome.{loop-step}
use Rattle.usuba_phases.proofs.Firsts.{fault_in, loop-found}
use Rattle.usuba_phases.proofs.Trees.{index_operand, index-number, index-counter, index-chain}
use Rattle.usuba_phases.proofs.unknown.+check_index.Goals as goal

pub returns-in-Number : goal.returns-in-Number
returns-in-Number t c =
    ap (first_of UnknownName) (sym (index-number c.args.index.now _ (counters_of c.args.scope.now) c.in-Number.is))

pub returns-in-Counter : goal.returns-in-Counter
returns-in-Counter t c =
    c.check_counter.ensures
    ∙ ap (first_of UnknownName) (sym (index-counter c.args.index.now _ (counters_of c.args.scope.now) c.in-Counter.is))

pub loop-link-preserved : goal.loop-link-preserved
loop-link-preserved t c =
    loop-step (fault_in UnknownName (index_operand (counters_of c.args.scope.now))) c.as_slice-link-items.result.now
    c.loop-link.link-index c.link-item.result c.loop-link.fault c.check_index.result c.or-fault.result _
    (omega arith) c.link-item.is c.check_index.ensures c.or-fault.ensures c.loop-link.invariant

pub returns-after-loop-link : goal.returns-after-loop-link
returns-after-loop-link t c =
    loop-found UnknownName (index_operand (counters_of c.args.scope.now)) c.as_slice-link-items.result.now
    c.in-Chain.rest (unknown_in_index c.args.index.now (counters_of c.args.scope.now))
    (unknown_in_index c.get.result.now (counters_of c.args.scope.now)) _ c.loop-link.fault c.loop-link.link-index
    c.as_slice-link-items.ensures (omega arith)
    (index-chain c.args.index.now c.get.result.now c.in-Chain.rest (counters_of c.args.scope.now)
    (c.in-Chain.is ∙ ap (λ f. index.Chain f c.in-Chain.rest) (sym c.get.ensures)))
    c.check_index-fault.ensures c.loop-link.invariant
