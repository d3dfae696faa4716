use Rattle.std.proofs.Common.{◌+◌, refl, arith, drop}
use Rattle.usuba_cells.specs.Counters.{around}
use Rattle.usuba_walk.proofs.Taking.{if_both, if_fault, passed_on}
use Rattle.usuba_walk.proofs.Expressions.{W, Parts, drop-next, is-call, is-not, is-chain, is-shift, is-refresh, walked-as, fault-as, call-walked, call-fault, call-args_fault, complement-walked, complement-fault, complement-inner_fault, refresh-walked, refresh-fault, refresh-inner_fault, chain-walked, chain-fault, chain-first_fault, shifts-walked, shifts-fault, shifts-first_fault, parts-step, parts-fault, links-step, links-operand_fault, links-sign_fault}
use Rattle.usuba_walk.proofs.expression.+expressions.Goals as goal

pub walk-returns-in_ok-given-in-Call-clause-walked : goal.walk-returns-in_ok-given-in-Call-clause-walked
walk-returns-in_ok-given-in-Call-clause-walked t c =
    if_both c.call.result (λ made is two. walked-as c.args.scope.now.width c.args.scope.now.definitions.now c.args.scope.now.variables (around c.args.counters.now) c.args.progress.now c.call.new.progress made _ _ (is-call c.args.scope.now.width c.args.scope.now.definitions.now c.args.scope.now.variables (around c.args.counters.now) c.args.expression.now c.in-Call.name c.in-Call.args c.as_slice-in-Call.result.now c.in-Call.is c.as_slice-in-Call.ensures)
    (call-walked c.args.scope.now.width c.args.scope.now.definitions.now c.args.scope.now.variables (around c.args.counters.now) c.args.progress.now c.walk_parts-in-Call.new.progress c.call.new.progress c.in_ok-given-in-Call.given made c.in-Call.name _ c.in_ok-given-in-Call.ensures.walked is two))
    c.call.ensures.size c.call.ensures.makes

pub walk-returns-in_ok-given-in-Call-clause-stops : goal.walk-returns-in_ok-given-in-Call-clause-stops
walk-returns-in_ok-given-in-Call-clause-stops t c =
    if_fault c.call.result (λ f known. fault-as c.args.scope.now.width c.args.scope.now.definitions.now c.args.scope.now.variables (around c.args.counters.now) c.args.progress.now.count _ _ f (is-call c.args.scope.now.width c.args.scope.now.definitions.now c.args.scope.now.variables (around c.args.counters.now) c.args.expression.now c.in-Call.name c.in-Call.args c.as_slice-in-Call.result.now c.in-Call.is c.as_slice-in-Call.ensures)
    (call-fault c.args.scope.now.width c.args.scope.now.definitions.now c.args.scope.now.variables (around c.args.counters.now) c.args.progress.now c.walk_parts-in-Call.new.progress c.in_ok-given-in-Call.given c.in-Call.name _ f c.in_ok-given-in-Call.ensures.walked known)) c.call.ensures.stops

pub walk-returns-in_err-given-in-Call-clause-stops : goal.walk-returns-in_err-given-in-Call-clause-stops
walk-returns-in_err-given-in-Call-clause-stops t c =
    passed_on c.from_residual.result c.walk_parts-in-Call.result _ c.from_residual.ensures.1 c.in_err-given-in-Call.was
    (λ f known. fault-as c.args.scope.now.width c.args.scope.now.definitions.now c.args.scope.now.variables (around c.args.counters.now) c.args.progress.now.count _ _ f (is-call c.args.scope.now.width c.args.scope.now.definitions.now c.args.scope.now.variables (around c.args.counters.now) c.args.expression.now c.in-Call.name c.in-Call.args c.as_slice-in-Call.result.now c.in-Call.is c.as_slice-in-Call.ensures) (call-args_fault c.args.scope.now.width c.args.scope.now.definitions.now c.args.scope.now.variables (around c.args.counters.now) c.args.progress.now.count c.in-Call.name (Parts c.args.scope.now.width c.args.scope.now.definitions.now c.args.scope.now.variables (around c.args.counters.now) c.as_slice-in-Call.result.now) f known)) c.walk_parts-in-Call.ensures.stops

pub walk-returns-in_ok-size-in-Not-clause-walked : goal.walk-returns-in_ok-size-in-Not-clause-walked
walk-returns-in_ok-size-in-Not-clause-walked t c =
    if_both c.complement.result (λ made is two. walked-as c.args.scope.now.width c.args.scope.now.definitions.now c.args.scope.now.variables (around c.args.counters.now) c.args.progress.now c.complement.new.progress made _ _ (is-not c.args.scope.now.width c.args.scope.now.definitions.now c.args.scope.now.variables (around c.args.counters.now) c.args.expression.now c.in-Not.inner c.get.result.now c.in-Not.place c.in-Not.is c.get.ensures)
    (complement-walked c.args.scope.now.width c.args.scope.now.definitions.now c.args.scope.now.variables (around c.args.counters.now) c.args.progress.now c.walk.new.progress c.complement.new.progress c.in_ok-size-in-Not.size made c.in-Not.place _ c.in_ok-size-in-Not.ensures.walked is two))
    c.complement.ensures.size c.complement.ensures.makes

pub walk-returns-in_ok-size-in-Not-clause-stops : goal.walk-returns-in_ok-size-in-Not-clause-stops
walk-returns-in_ok-size-in-Not-clause-stops t c =
    if_fault c.complement.result (λ f known. fault-as c.args.scope.now.width c.args.scope.now.definitions.now c.args.scope.now.variables (around c.args.counters.now) c.args.progress.now.count _ _ f (is-not c.args.scope.now.width c.args.scope.now.definitions.now c.args.scope.now.variables (around c.args.counters.now) c.args.expression.now c.in-Not.inner c.get.result.now c.in-Not.place c.in-Not.is c.get.ensures)
    (complement-fault c.args.scope.now.width c.args.scope.now.definitions.now c.args.scope.now.variables (around c.args.counters.now) c.args.progress.now c.walk.new.progress c.in_ok-size-in-Not.size c.in-Not.place _ f c.in_ok-size-in-Not.ensures.walked known)) c.complement.ensures.stops

pub walk-returns-in_err-size-in-Not-clause-stops : goal.walk-returns-in_err-size-in-Not-clause-stops
walk-returns-in_err-size-in-Not-clause-stops t c =
    passed_on c.from_residual-in_err-size-in-Not.result c.walk.result _ c.from_residual-in_err-size-in-Not.ensures.1 c.in_err-size-in-Not.was
    (λ f known. fault-as c.args.scope.now.width c.args.scope.now.definitions.now c.args.scope.now.variables (around c.args.counters.now) c.args.progress.now.count _ _ f (is-not c.args.scope.now.width c.args.scope.now.definitions.now c.args.scope.now.variables (around c.args.counters.now) c.args.expression.now c.in-Not.inner c.get.result.now c.in-Not.place c.in-Not.is c.get.ensures) (complement-inner_fault c.args.scope.now.width c.args.scope.now.definitions.now c.args.scope.now.variables (around c.args.counters.now) c.args.progress.now.count c.in-Not.place (W c.args.scope.now.width c.args.scope.now.definitions.now c.args.scope.now.variables (around c.args.counters.now) c.get.result.now) f known)) c.walk.ensures.stops

pub walk-returns-in_ok-size-in-Refresh-clause-walked : goal.walk-returns-in_ok-size-in-Refresh-clause-walked
walk-returns-in_ok-size-in-Refresh-clause-walked t c =
    if_both c.refresh.result (λ made is two. walked-as c.args.scope.now.width c.args.scope.now.definitions.now c.args.scope.now.variables (around c.args.counters.now) c.args.progress.now c.refresh.new.progress made _ _ (is-refresh c.args.scope.now.width c.args.scope.now.definitions.now c.args.scope.now.variables (around c.args.counters.now) c.args.expression.now c.in-Refresh.inner c.get-in-Refresh.result.now c.in-Refresh.place c.in-Refresh.number c.in-Refresh.is c.get-in-Refresh.ensures)
    (refresh-walked c.args.scope.now.width c.args.scope.now.definitions.now c.args.scope.now.variables (around c.args.counters.now) c.args.progress.now c.walk-in-Refresh.new.progress c.refresh.new.progress c.in_ok-size-in-Refresh.size made c.in-Refresh.place c.in-Refresh.number _ c.in_ok-size-in-Refresh.ensures.walked is two))
    c.refresh.ensures.size c.refresh.ensures.makes

pub walk-returns-in_ok-size-in-Refresh-clause-stops : goal.walk-returns-in_ok-size-in-Refresh-clause-stops
walk-returns-in_ok-size-in-Refresh-clause-stops t c =
    if_fault c.refresh.result (λ f known. fault-as c.args.scope.now.width c.args.scope.now.definitions.now c.args.scope.now.variables (around c.args.counters.now) c.args.progress.now.count _ _ f (is-refresh c.args.scope.now.width c.args.scope.now.definitions.now c.args.scope.now.variables (around c.args.counters.now) c.args.expression.now c.in-Refresh.inner c.get-in-Refresh.result.now c.in-Refresh.place c.in-Refresh.number c.in-Refresh.is c.get-in-Refresh.ensures)
    (refresh-fault c.args.scope.now.width c.args.scope.now.definitions.now c.args.scope.now.variables (around c.args.counters.now) c.args.progress.now c.walk-in-Refresh.new.progress c.in_ok-size-in-Refresh.size c.in-Refresh.place c.in-Refresh.number _ f c.in_ok-size-in-Refresh.ensures.walked known)) c.refresh.ensures.stops

pub walk-returns-in_err-size-in-Refresh-clause-stops : goal.walk-returns-in_err-size-in-Refresh-clause-stops
walk-returns-in_err-size-in-Refresh-clause-stops t c =
    passed_on c.from_residual-in_err-size-in-Refresh.result c.walk-in-Refresh.result _ c.from_residual-in_err-size-in-Refresh.ensures.1 c.in_err-size-in-Refresh.was
    (λ f known. fault-as c.args.scope.now.width c.args.scope.now.definitions.now c.args.scope.now.variables (around c.args.counters.now) c.args.progress.now.count _ _ f (is-refresh c.args.scope.now.width c.args.scope.now.definitions.now c.args.scope.now.variables (around c.args.counters.now) c.args.expression.now c.in-Refresh.inner c.get-in-Refresh.result.now c.in-Refresh.place c.in-Refresh.number c.in-Refresh.is c.get-in-Refresh.ensures) (refresh-inner_fault c.args.scope.now.width c.args.scope.now.definitions.now c.args.scope.now.variables (around c.args.counters.now) c.args.progress.now.count c.in-Refresh.place c.in-Refresh.number (W c.args.scope.now.width c.args.scope.now.definitions.now c.args.scope.now.variables (around c.args.counters.now) c.get-in-Refresh.result.now) f known)) c.walk-in-Refresh.ensures.stops

pub walk-returns-in_ok-size-in-Chain-clause-walked : goal.walk-returns-in_ok-size-in-Chain-clause-walked
walk-returns-in_ok-size-in-Chain-clause-walked t c =
    if_both c.walk_links.result (λ made is two. walked-as c.args.scope.now.width c.args.scope.now.definitions.now c.args.scope.now.variables (around c.args.counters.now) c.args.progress.now c.walk_links.new.progress made _ _ (is-chain c.args.scope.now.width c.args.scope.now.definitions.now c.args.scope.now.variables (around c.args.counters.now) c.args.expression.now c.in-Chain.first c.get-in-Chain.result.now c.in-Chain.op c.in-Chain.rest c.as_slice-in-Chain.result.now c.in-Chain.is c.get-in-Chain.ensures c.as_slice-in-Chain.ensures)
    (chain-walked c.args.scope.now.width c.args.scope.now.definitions.now c.args.scope.now.variables (around c.args.counters.now) c.args.progress.now c.walk-in-Chain.new.progress c.walk_links.new.progress c.in_ok-size-in-Chain.size made c.in-Chain.op _ c.as_slice-in-Chain.result.now c.in_ok-size-in-Chain.ensures.walked is two))
    c.walk_links.ensures.size c.walk_links.ensures.takes

pub walk-returns-in_ok-size-in-Chain-clause-stops : goal.walk-returns-in_ok-size-in-Chain-clause-stops
walk-returns-in_ok-size-in-Chain-clause-stops t c =
    if_fault c.walk_links.result (λ f known. fault-as c.args.scope.now.width c.args.scope.now.definitions.now c.args.scope.now.variables (around c.args.counters.now) c.args.progress.now.count _ _ f (is-chain c.args.scope.now.width c.args.scope.now.definitions.now c.args.scope.now.variables (around c.args.counters.now) c.args.expression.now c.in-Chain.first c.get-in-Chain.result.now c.in-Chain.op c.in-Chain.rest c.as_slice-in-Chain.result.now c.in-Chain.is c.get-in-Chain.ensures c.as_slice-in-Chain.ensures)
    (chain-fault c.args.scope.now.width c.args.scope.now.definitions.now c.args.scope.now.variables (around c.args.counters.now) c.args.progress.now c.walk-in-Chain.new.progress c.in_ok-size-in-Chain.size c.in-Chain.op _ c.as_slice-in-Chain.result.now f c.in_ok-size-in-Chain.ensures.walked known)) c.walk_links.ensures.stops

pub walk-returns-in_err-size-in-Chain-clause-stops : goal.walk-returns-in_err-size-in-Chain-clause-stops
walk-returns-in_err-size-in-Chain-clause-stops t c =
    passed_on c.from_residual-in_err-size-in-Chain.result c.walk-in-Chain.result _ c.from_residual-in_err-size-in-Chain.ensures.1 c.in_err-size-in-Chain.was
    (λ f known. fault-as c.args.scope.now.width c.args.scope.now.definitions.now c.args.scope.now.variables (around c.args.counters.now) c.args.progress.now.count _ _ f (is-chain c.args.scope.now.width c.args.scope.now.definitions.now c.args.scope.now.variables (around c.args.counters.now) c.args.expression.now c.in-Chain.first c.get-in-Chain.result.now c.in-Chain.op c.in-Chain.rest c.in-Chain.rest c.in-Chain.is c.get-in-Chain.ensures refl) (chain-first_fault c.args.scope.now.width c.args.scope.now.definitions.now c.args.scope.now.variables (around c.args.counters.now) c.args.progress.now.count c.in-Chain.op (W c.args.scope.now.width c.args.scope.now.definitions.now c.args.scope.now.variables (around c.args.counters.now) c.get-in-Chain.result.now) c.in-Chain.rest f known)) c.walk-in-Chain.ensures.stops

pub walk-returns-in_ok-size-in-Shift-clause-walked : goal.walk-returns-in_ok-size-in-Shift-clause-walked
walk-returns-in_ok-size-in-Shift-clause-walked t c =
    if_both c.walk_moves.result (λ made is two. walked-as c.args.scope.now.width c.args.scope.now.definitions.now c.args.scope.now.variables (around c.args.counters.now) c.args.progress.now c.walk_moves.new.progress made _ _ (is-shift c.args.scope.now.width c.args.scope.now.definitions.now c.args.scope.now.variables (around c.args.counters.now) c.args.expression.now c.in-Shift.first c.get-in-Shift.result.now c.in-Shift.moves c.as_slice-in-Shift.result.now c.in-Shift.is c.get-in-Shift.ensures c.as_slice-in-Shift.ensures)
    (shifts-walked c.args.scope.now.width c.args.scope.now.definitions.now c.args.scope.now.variables (around c.args.counters.now) c.args.progress.now c.walk-in-Shift.new.progress c.walk_moves.new.progress c.in_ok-size-in-Shift.size made _ c.as_slice-in-Shift.result.now c.in_ok-size-in-Shift.ensures.walked is two))
    c.walk_moves.ensures.size c.walk_moves.ensures.takes

pub walk-returns-in_ok-size-in-Shift-clause-stops : goal.walk-returns-in_ok-size-in-Shift-clause-stops
walk-returns-in_ok-size-in-Shift-clause-stops t c =
    if_fault c.walk_moves.result (λ f known. fault-as c.args.scope.now.width c.args.scope.now.definitions.now c.args.scope.now.variables (around c.args.counters.now) c.args.progress.now.count _ _ f (is-shift c.args.scope.now.width c.args.scope.now.definitions.now c.args.scope.now.variables (around c.args.counters.now) c.args.expression.now c.in-Shift.first c.get-in-Shift.result.now c.in-Shift.moves c.as_slice-in-Shift.result.now c.in-Shift.is c.get-in-Shift.ensures c.as_slice-in-Shift.ensures)
    (shifts-fault c.args.scope.now.width c.args.scope.now.definitions.now c.args.scope.now.variables (around c.args.counters.now) c.args.progress.now c.walk-in-Shift.new.progress c.in_ok-size-in-Shift.size _ c.as_slice-in-Shift.result.now f c.in_ok-size-in-Shift.ensures.walked known)) c.walk_moves.ensures.stops

pub walk-returns-in_err-size-in-Shift-clause-stops : goal.walk-returns-in_err-size-in-Shift-clause-stops
walk-returns-in_err-size-in-Shift-clause-stops t c =
    passed_on c.from_residual-in_err-size-in-Shift.result c.walk-in-Shift.result _ c.from_residual-in_err-size-in-Shift.ensures.1 c.in_err-size-in-Shift.was
    (λ f known. fault-as c.args.scope.now.width c.args.scope.now.definitions.now c.args.scope.now.variables (around c.args.counters.now) c.args.progress.now.count _ _ f (is-shift c.args.scope.now.width c.args.scope.now.definitions.now c.args.scope.now.variables (around c.args.counters.now) c.args.expression.now c.in-Shift.first c.get-in-Shift.result.now c.in-Shift.moves c.in-Shift.moves c.in-Shift.is c.get-in-Shift.ensures refl) (shifts-first_fault c.args.scope.now.width c.args.scope.now.definitions.now c.args.scope.now.variables (around c.args.counters.now) c.args.progress.now.count (W c.args.scope.now.width c.args.scope.now.definitions.now c.args.scope.now.variables (around c.args.counters.now) c.get-in-Shift.result.now) c.in-Shift.moves f known)) c.walk-in-Shift.ensures.stops

pub walk_parts-loop-part-preserved : goal.walk_parts-loop-part-preserved
walk_parts-loop-part-preserved t c =
    parts-step c.args.scope.now.width c.args.scope.now.definitions.now c.args.scope.now.variables (around c.args.counters.now) c.args.progress.now c.loop-part.progress c.walk.new.progress c.loop-part.size _ c.args.parts.now _ (drop (c.loop-part.part-index + 1) c.args.parts.now) c.part-item.result
    c.loop-part.invariant (drop-next c.args.parts.now c.loop-part.part-index c.part-item.result (omega arith) c.part-item.is) c.in_ok-size.ensures.walked

pub walk_parts-returns-in_err-size-clause-stops : goal.walk_parts-returns-in_err-size-clause-stops
walk_parts-returns-in_err-size-clause-stops t c =
    passed_on c.from_residual.result c.walk.result _ c.from_residual.ensures.1 c.in_err-size.was
    (λ f known. parts-fault c.args.scope.now.width c.args.scope.now.definitions.now c.args.scope.now.variables (around c.args.counters.now) c.args.progress.now c.loop-part.progress c.loop-part.size c.args.parts.now _ (drop (c.loop-part.part-index + 1) c.args.parts.now) c.part-item.result f
    c.loop-part.invariant (drop-next c.args.parts.now c.loop-part.part-index c.part-item.result (omega arith) c.part-item.is) known) c.walk.ensures.stops

pub walk_links-loop-link-preserved : goal.walk_links-loop-link-preserved
walk_links-loop-link-preserved t c =
    links-step c.args.scope.now.width c.args.scope.now.definitions.now c.args.scope.now.variables (around c.args.counters.now) c.args.op c.args.size _ c.args.progress.now c.loop-link.progress c.walk.new.progress c.operator.new.progress c.args.links.now _ (drop (c.loop-link.link-index + 1) c.args.links.now) c.link-item.result
    c.loop-link.invariant (drop-next c.args.links.now c.loop-link.link-index c.link-item.result (omega arith) c.link-item.is) c.in_ok-operand.ensures.walked c.in_ok-operator.ensures.takes

pub walk_links-returns-in_err-operand-clause-stops : goal.walk_links-returns-in_err-operand-clause-stops
walk_links-returns-in_err-operand-clause-stops t c =
    passed_on c.from_residual.result c.walk.result _ c.from_residual.ensures.1 c.in_err-operand.was
    (λ f known. links-operand_fault c.args.scope.now.width c.args.scope.now.definitions.now c.args.scope.now.variables (around c.args.counters.now) c.args.op c.args.size c.args.progress.now c.loop-link.progress c.args.links.now _ (drop (c.loop-link.link-index + 1) c.args.links.now) c.link-item.result f
    c.loop-link.invariant (drop-next c.args.links.now c.loop-link.link-index c.link-item.result (omega arith) c.link-item.is) known) c.walk.ensures.stops

pub walk_links-returns-in_err-operator-clause-stops : goal.walk_links-returns-in_err-operator-clause-stops
walk_links-returns-in_err-operator-clause-stops t c =
    passed_on c.from_residual-in_err-operator.result c.operator.result _ c.from_residual-in_err-operator.ensures.1 c.in_err-operator.was
    (λ f known. links-sign_fault c.args.scope.now.width c.args.scope.now.definitions.now c.args.scope.now.variables (around c.args.counters.now) c.args.op c.args.size _ c.args.progress.now c.loop-link.progress c.walk.new.progress c.args.links.now _ (drop (c.loop-link.link-index + 1) c.args.links.now) c.link-item.result f
    c.loop-link.invariant (drop-next c.args.links.now c.loop-link.link-index c.link-item.result (omega arith) c.link-item.is) c.in_ok-operand.ensures.walked known) c.operator.ensures.stops
