use Rattle.std.proofs.Common.{rules, ◌<◌, ◌≤◌, ℕ, List, ◌++◌, length, map, get_or, Option, sym, ap, ◌∙◌, subst, arith}
use Rattle.std.specs.Prelude.{IfOk, IsSome}
use Rattle.usuba_code.specs.Machine.{with_answer}
use Rattle.std.specs.List.{range_with_len}
use Rattle.std.proofs.lemmas.List.{get_or_default}
use Rattle.std.proofs.lemmas.Result.{on_ok_weaker}
use Rattle.usuba_code.specs.declared.operation.Operation.TheVariants as make
use Rattle.usuba_model.specs.Rounds.{whole, permuted}
use Rattle.usuba_plan.specs.Made.{made_by_node, made_below, plan_outcome}
use Rattle.usuba_plan.specs.State.Handles.{handle_at}
use Rattle.usuba_plan.specs.Room.{plan_room}
use Rattle.usuba_plan.specs.Store.{Gives, Keeps, meanings}
use Rattle.usuba_plan.proofs.Choices.{if_ok, if_extended, defs_within, can_node, node_outcome, node_room, table_room, table_enough, table_fits, table_outcome, permutation_outcome, not_absent}
use Rattle.usuba_plan.proofs.NodeRuns.{picked_there, picked_mean, take_begin, can_take_at, take_kept_at, can_assign, take_next_at, take_there, take_done}
use Rattle.usuba_plan.proofs.Runs.{can_run, called, can_step, run_more, run_kept_after, operation_can, operation_below, operation_is, operation_room_is}
use Rattle.usuba_plan.proofs.Splitting.{gives_as}
use Rattle.usuba_plan.proofs.running.+running.Goals as goal

pub call-run-requires : goal.call-run-requires
call-run-requires g t c κs within =
    let can = can_run c.args.defs.now c.args.plans.now (g.E.Elements.store c.args.elements.now) c.args.callee c.args.inputs c.args.stack.now.items c.requires
    c.as_slice.result.now (c.as_slice.ensures.value ∙ c.in_ok-taken.ensures.taken) in
    search rules

pub call-returns-clause-made : goal.call-returns-clause-made
call-returns-clause-made g t c =
    let old = g.E.Elements.store c.args.elements.now in
    let new = g.E.Elements.store c.run.new.elements in
    let stack = c.args.stack.now.items in
    let f = plan_outcome old.operators c.args.defs.now c.args.plans.now c.args.callee in
    if_extended c.extend_from_slice.result c.extend_from_slice.new.self.items (c.take_last.new.stack.items ++ c.as_slice-2.result.now) c.take_last.new.stack.items
    (λ (hs : List g.row.E-Handle.Denot). Gives new hs (with_answer c.args.inputs f (meanings old stack)))
    c.extend_from_slice.ensures.items
    (called c.args.defs.now c.args.plans.now (plan_room c.args.defs.now c.args.plans.now c.args.callee) old new c.args.callee c.args.inputs stack
    c.take_last.new.stack.items c.as_slice.result.now c.as_slice-2.result.now c.requires c.in_ok-taken.ensures.below
    (c.as_slice.ensures.value ∙ c.in_ok-taken.ensures.taken) c.in_ok-made.ensures.keeps
    (subst (λ (hs : List g.row.E-Handle.Denot). Gives new hs (f (meanings old c.as_slice.result.now))) (sym c.as_slice-2.ensures.value) c.in_ok-made.ensures.made))

pub run-run_node-requires : goal.run-run_node-requires
run-run_node-requires g t c κs within =
    let can = can_node (g.E.Elements.store c.args.elements.now) c.args.defs.now c.args.plans.now c.args.number c.args.inputs.now c.requires
    c.index-plans-number.result c.index-plans-number.is c.in-Node.node c.in-Node.is in
    search rules

pub run-offset_bounds-defs-number : goal.run-offset_bounds-defs-number
run-offset_bounds-defs-number g t c =
    let less = defs_within (g.E.Elements.store c.args.elements.now) c.args.defs.now c.args.plans.now c.args.number c.args.inputs.now c.requires
    c.index-plans-number.result c.index-plans-number.is in
    search rules

pub run-bounds-defs-number : goal.run-bounds-defs-number
run-bounds-defs-number g t c =
    defs_within (g.E.Elements.store c.args.elements.now) c.args.defs.now c.args.plans.now c.args.number c.args.inputs.now c.requires
    c.index-plans-number.result c.index-plans-number.is

pub run-look_up-requires-clause-room : goal.run-look_up-requires-clause-room
run-look_up-requires-clause-room g t c =
    table_enough (g.E.Elements.store c.args.elements.now) c.args.defs.now c.args.plans.now c.args.number c.args.inputs.now c.requires
    c.index-plans-number.result c.index-plans-number.is c.in-Table.outputs c.in-Table.is

pub run-look_up-requires-clause-fits : goal.run-look_up-requires-clause-fits
run-look_up-requires-clause-fits g t c =
    table_fits (g.E.Elements.store c.args.elements.now) c.args.defs.now c.args.plans.now c.args.number c.args.inputs.now c.requires
    c.index-plans-number.result c.index-plans-number.is c.in-Table.outputs c.in-Table.is c.index-defs-number.result c.index-defs-number.is
    c.entries.result.now c.entries.ensures

pub run-offset_bounds-defs-number-in-Permutation : goal.run-offset_bounds-defs-number-in-Permutation
run-offset_bounds-defs-number-in-Permutation g t c =
    let less = defs_within (g.E.Elements.store c.args.elements.now) c.args.defs.now c.args.plans.now c.args.number c.args.inputs.now c.requires
    c.index-plans-number.result c.index-plans-number.is in
    search rules

pub run-bounds-defs-number-in-Permutation : goal.run-bounds-defs-number-in-Permutation
run-bounds-defs-number-in-Permutation g t c =
    defs_within (g.E.Elements.store c.args.elements.now) c.args.defs.now c.args.plans.now c.args.number c.args.inputs.now c.requires
    c.index-plans-number.result c.index-plans-number.is

pub run-permute-requires : goal.run-permute-requires
run-permute-requires g t c =
    let s = g.E.Elements.store c.args.elements.now in
    picked_there s c.entries-in-Permutation.result.now c.args.inputs.now
    (subst (λ (o : Option (List g.E.Elements.V)). IsSome o)
    (permutation_outcome s c.args.defs.now c.args.plans.now c.args.number c.args.inputs.now c.requires
    c.index-plans-number.result c.index-plans-number.is c.in-Permutation.is c.index-defs-number-in-Permutation.result c.index-defs-number-in-Permutation.is
    c.entries-in-Permutation.result.now c.entries-in-Permutation.ensures)
    c.requires.makes)

pub run-unreachable-requires : goal.run-unreachable-requires
run-unreachable-requires g t c =
    not_absent (g.E.Elements.store c.args.elements.now) c.args.defs.now c.args.plans.now c.args.number c.args.inputs.now c.requires
    c.index-plans-number.result c.index-plans-number.is c.in-Absent.is

pub run-returns-in-Node-clause-made : goal.run-returns-in-Node-clause-made
run-returns-in-Node-clause-made g t c =
    let s = g.E.Elements.store c.args.elements.now in
    subst (λ (o : Option (List g.E.Elements.V)). IfOk c.run_node.result (λ handles. Gives (g.E.Elements.store c.run_node.new.elements) handles.items o))
    (sym (node_outcome s c.args.defs.now c.args.plans.now c.args.number c.args.inputs.now c.requires
    c.index-plans-number.result c.index-plans-number.is c.in-Node.node c.in-Node.is))
    c.run_node.ensures.made

pub run-returns-in-Node-clause-keeps : goal.run-returns-in-Node-clause-keeps
run-returns-in-Node-clause-keeps g t c =
    subst (λ (n : ℕ). Keeps n (g.E.Elements.store c.args.elements.now) (g.E.Elements.store c.run_node.new.elements))
    (node_room (g.E.Elements.store c.args.elements.now) c.args.defs.now c.args.plans.now c.args.number c.args.inputs.now c.requires
    c.index-plans-number.result c.index-plans-number.is c.in-Node.node c.in-Node.is)
    c.run_node.ensures.keeps

pub run-returns-in-Table-clause-made : goal.run-returns-in-Table-clause-made
run-returns-in-Table-clause-made g t c =
    let s = g.E.Elements.store c.args.elements.now in
    subst (λ (o : Option (List g.E.Elements.V)). IfOk c.look_up.result (λ handles. Gives (g.E.Elements.store c.look_up.new.self) handles.items o))
    (sym (table_outcome s c.args.defs.now c.args.plans.now c.args.number c.args.inputs.now c.requires
    c.index-plans-number.result c.index-plans-number.is c.in-Table.outputs c.in-Table.is c.index-defs-number.result c.index-defs-number.is
    c.entries.result.now c.entries.ensures))
    c.look_up.ensures.made

pub run-returns-in-Table-clause-keeps : goal.run-returns-in-Table-clause-keeps
run-returns-in-Table-clause-keeps g t c =
    subst (λ (n : ℕ). Keeps n (g.E.Elements.store c.args.elements.now) (g.E.Elements.store c.look_up.new.self))
    (table_room (g.E.Elements.store c.args.elements.now) c.args.defs.now c.args.plans.now c.args.number c.args.inputs.now c.requires
    c.index-plans-number.result c.index-plans-number.is c.in-Table.outputs c.in-Table.is)
    c.look_up.ensures.keeps

pub run-returns-in-Permutation-clause-made : goal.run-returns-in-Permutation-clause-made
run-returns-in-Permutation-clause-made g t c =
    let s = g.E.Elements.store c.args.elements.now in
    subst (λ (o : Option (List g.E.Elements.V)). IfOk c.permute.result (λ handles. Gives s handles.items o))
    (sym (permutation_outcome s c.args.defs.now c.args.plans.now c.args.number c.args.inputs.now c.requires
    c.index-plans-number.result c.index-plans-number.is c.in-Permutation.is c.index-defs-number-in-Permutation.result c.index-defs-number-in-Permutation.is
    c.entries-in-Permutation.result.now c.entries-in-Permutation.ensures))
    (if_ok c.permute.result _ (λ handles. Gives s handles.items (permuted c.entries-in-Permutation.result.now (meanings s c.args.inputs.now)))
    (λ handles is. picked_mean s c.entries-in-Permutation.result.now c.args.inputs.now handles.items c.requires.held is)
    c.permute.ensures)

pub run_code-run_operation-requires : goal.run_code-run_operation-requires
run_code-run_operation-requires g t c κs within =
    let code = c.args.code.now in
    let i = c.loop-operation.operation-index in
    let can = can_step c.args.defs.now c.args.plans.now c.args.number (g.E.Elements.store c.args.elements.now) (g.E.Elements.store c.loop-operation.elements)
    code c.args.cells.now c.args.stack.now.items c.loop-operation.stack.items i (get_or code i (make.Number 0)) c.requires c.loop-operation-test.true
    (get_or_default code i (make.Number 0) (get_or code i (make.Number 0)) c.loop-operation-test.true) c.loop-operation.invariant in
    search rules

pub run_code-returns-in_err-run_operation-clause-keeps : goal.run_code-returns-in_err-run_operation-clause-keeps
run_code-returns-in_err-run_operation-clause-keeps g t c =
    let code = c.args.code.now in
    let i = c.loop-operation.operation-index in
    run_kept_after c.args.defs.now c.args.plans.now c.args.number (g.E.Elements.store c.args.elements.now) (g.E.Elements.store c.loop-operation.elements)
    (g.E.Elements.store c.run_operation.new.elements) code c.args.cells.now c.args.stack.now.items c.loop-operation.stack.items i (get_or code i (make.Number 0))
    c.loop-operation-test.true (get_or_default code i (make.Number 0) (get_or code i (make.Number 0)) c.loop-operation-test.true) c.loop-operation.invariant
    c.run_operation.ensures.keeps

pub run_code-loop-operation-preserved : goal.run_code-loop-operation-preserved
run_code-loop-operation-preserved g t c =
    let code = c.args.code.now in
    let i = c.loop-operation.operation-index in
    run_more c.args.defs.now c.args.plans.now c.args.number (g.E.Elements.store c.args.elements.now) (g.E.Elements.store c.loop-operation.elements)
    (g.E.Elements.store c.run_operation.new.elements) code c.args.cells.now c.args.stack.now.items c.loop-operation.stack.items c.run_operation.new.stack.items
    i (get_or code i (make.Number 0)) c.requires c.loop-operation-test.true
    (get_or_default code i (make.Number 0) (get_or code i (make.Number 0)) c.loop-operation-test.true) c.loop-operation.invariant
    c.in_ok-run_operation.ensures.made c.in_ok-run_operation.ensures.keeps

pub run_node-loop-i-init : goal.run_node-loop-i-init
run_node-loop-i-init g t c =
    take_begin c.args.defs.now c.args.plans.now c.args.number (g.E.Elements.store c.args.elements.now) c.args.node.now c.args.inputs.now
    c.in_ok-environment.environment.items c.requires.held c.in_ok-environment.ensures.inputs c.in_ok-environment.ensures.cells

pub run_node-run_code-requires : goal.run_node-run_code-requires
run_node-run_code-requires g t c κs within =
    let test = c.loop-i-test.true in
    let count = c.len-i-end.ensures in
    let ok = c.args.node.now.order.ok.0 in
    let less : c.loop-i.i < length c.args.node.now.order.items = omega (arith, test, count, ok) in
    let can = can_take_at c.args.defs.now c.args.plans.now c.args.number (g.E.Elements.store c.args.elements.now) (g.E.Elements.store c.loop-i.elements)
    c.args.node.now c.args.inputs.now c.loop-i.environment.items c.loop-i.i c.index.result.now c.requires less c.index.ensures c.loop-i.invariant
    c.operations.result.now c.operations.ensures c.as_slice.result.now c.as_slice.ensures.value c.new-stack.result.items c.new-stack.ensures.items in
    search rules

pub run_node-returns-in_err-run_code-clause-keeps : goal.run_node-returns-in_err-run_code-clause-keeps
run_node-returns-in_err-run_code-clause-keeps g t c =
    let test = c.loop-i-test.true in
    let count = c.len-i-end.ensures in
    let ok = c.args.node.now.order.ok.0 in
    let less : c.loop-i.i < length c.args.node.now.order.items = omega (arith, test, count, ok) in
    take_kept_at c.args.defs.now c.args.plans.now c.args.number (g.E.Elements.store c.args.elements.now) (g.E.Elements.store c.loop-i.elements)
    c.args.node.now c.args.inputs.now c.loop-i.environment.items c.loop-i.i c.index.result.now c.requires less c.index.ensures c.loop-i.invariant
    c.operations.result.now c.operations.ensures (g.E.Elements.store c.run_code.new.elements) c.run_code.ensures.keeps

pub run_node-returns-in_err-cells-clause-keeps : goal.run_node-returns-in_err-cells-clause-keeps
run_node-returns-in_err-cells-clause-keeps g t c =
    let test = c.loop-i-test.true in
    let count = c.len-i-end.ensures in
    let ok = c.args.node.now.order.ok.0 in
    let less : c.loop-i.i < length c.args.node.now.order.items = omega (arith, test, count, ok) in
    take_kept_at c.args.defs.now c.args.plans.now c.args.number (g.E.Elements.store c.args.elements.now) (g.E.Elements.store c.loop-i.elements)
    c.args.node.now c.args.inputs.now c.loop-i.environment.items c.loop-i.i c.index.result.now c.requires less c.index.ensures c.loop-i.invariant
    c.operations.result.now c.operations.ensures (g.E.Elements.store c.run_code.new.elements) c.run_code.ensures.keeps

pub run_node-assign-requires : goal.run_node-assign-requires
run_node-assign-requires g t c =
    let test = c.loop-i-test.true in
    let count = c.len-i-end.ensures in
    let ok = c.args.node.now.order.ok.0 in
    let less : c.loop-i.i < length c.args.node.now.order.items = omega (arith, test, count, ok) in
    can_assign c.args.defs.now c.args.plans.now c.args.number (g.E.Elements.store c.args.elements.now) (g.E.Elements.store c.loop-i.elements)
    c.args.node.now c.args.inputs.now c.loop-i.environment.items c.loop-i.i c.index.result.now c.requires less c.index.ensures c.loop-i.invariant
    c.operations.result.now c.operations.ensures c.as_slice-in-loop-i.result.now (c.as_slice-in-loop-i.ensures.value ∙ c.in_ok-cells.ensures)

pub run_node-loop-i-preserved : goal.run_node-loop-i-preserved
run_node-loop-i-preserved g t c =
    let test = c.loop-i-test.true in
    let count = c.len-i-end.ensures in
    let ok = c.args.node.now.order.ok.0 in
    let less : c.loop-i.i < length c.args.node.now.order.items = omega (arith, test, count, ok) in
    take_next_at c.args.defs.now c.args.plans.now c.args.number (g.E.Elements.store c.args.elements.now) (g.E.Elements.store c.loop-i.elements)
    c.args.node.now c.args.inputs.now c.loop-i.environment.items c.loop-i.i c.index.result.now c.requires less c.index.ensures c.loop-i.invariant
    c.operations.result.now c.operations.ensures (g.E.Elements.store c.run_code.new.elements) c.as_slice.result.now c.as_slice.ensures.value
    c.new-stack.result.items c.new-stack.ensures.items c.run_code.new.stack.items c.in_ok-run_code.ensures.made c.in_ok-run_code.ensures.keeps
    c.as_slice-in-loop-i.result.now (c.as_slice-in-loop-i.ensures.value ∙ c.in_ok-cells.ensures)
    c.as_slice-in-loop-i-2.result.now c.as_slice-in-loop-i-2.ensures.value c.assign.new.environment.items c.assign.ensures.assigned c.assign.ensures.as_many

pub run_node-read_all-requires : goal.run_node-read_all-requires
run_node-read_all-requires g t c =
    let test = c.loop-i-test.false in
    let count = c.len-i-end.ensures in
    let ok = c.args.node.now.order.ok.0 in
    let past : length c.args.node.now.order.items ≤ c.loop-i.i = omega (arith, test, count, ok) in
    subst (λ (cells : List (Option g.row.E-Handle.Denot)). IsSome (whole (map (handle_at cells) (range_with_len c.args.node.now.inputs c.args.node.now.outputs))))
    (sym c.as_slice-2.ensures.value)
    (take_there c.args.defs.now c.args.plans.now c.args.number (g.E.Elements.store c.args.elements.now) (g.E.Elements.store c.loop-i.elements)
    c.args.node.now c.args.inputs.now c.loop-i.environment.items c.loop-i.i past c.requires c.loop-i.invariant)

pub run_node-returns-clause-made : goal.run_node-returns-clause-made
run_node-returns-clause-made g t c =
    let test = c.loop-i-test.false in
    let count = c.len-i-end.ensures in
    let ok = c.args.node.now.order.ok.0 in
    let past : length c.args.node.now.order.items ≤ c.loop-i.i = omega (arith, test, count, ok) in
    let old = g.E.Elements.store c.args.elements.now in
    let node = c.args.node.now in
    if_ok c.read_all.result _
    (λ handles. Gives (g.E.Elements.store c.loop-i.elements) handles.items
    (made_by_node old.operators (made_below old.operators c.args.defs.now c.args.plans.now c.args.number) node (meanings old c.args.inputs.now)))
    (λ handles is. take_done c.args.defs.now c.args.plans.now c.args.number old (g.E.Elements.store c.loop-i.elements)
    node c.args.inputs.now c.loop-i.environment.items handles.items c.loop-i.i past c.loop-i.invariant
    (ap (λ (cells : List (Option g.row.E-Handle.Denot)). whole (map (handle_at cells) (range_with_len node.inputs node.outputs))) (sym c.as_slice-2.ensures.value) ∙ is))
    c.read_all.ensures

pub run_operation-call-requires : goal.run_operation-call-requires
run_operation-call-requires g t c κs within =
    let s = g.E.Elements.store c.args.elements.now in
    let can = operation_can c.args.defs.now c.args.plans.now s c.args.number c.in-Call.callee c.in-Call.inputs c.args.cells.now c.args.stack.now.items
    c.args.operation c.in-Call.is c.requires in
    let below = operation_below c.args.defs.now c.args.plans.now s c.args.number c.in-Call.callee c.in-Call.inputs c.args.cells.now c.args.stack.now.items
    c.args.operation c.in-Call.is c.requires in
    search rules

pub run_operation-returns-in-Call-clause-made : goal.run_operation-returns-in-Call-clause-made
run_operation-returns-in-Call-clause-made g t c =
    let s = g.E.Elements.store c.args.elements.now in
    on_ok_weaker c.call.result
    (gives_as (g.E.Elements.store c.call.new.elements) c.call.new.stack.items _ _
    (operation_is c.args.defs.now c.args.plans.now s c.args.number c.in-Call.callee c.in-Call.inputs c.args.cells.now c.args.stack.now.items
    c.args.operation c.in-Call.is c.requires))
    c.call.ensures.made

pub run_operation-returns-in-Call-clause-keeps : goal.run_operation-returns-in-Call-clause-keeps
run_operation-returns-in-Call-clause-keeps g t c =
    let s = g.E.Elements.store c.args.elements.now in
    subst (λ (n : ℕ). Keeps n s (g.E.Elements.store c.call.new.elements))
    (sym (operation_room_is c.args.defs.now c.args.plans.now s c.args.number c.in-Call.callee c.in-Call.inputs c.args.cells.now c.args.stack.now.items
    c.args.operation c.in-Call.is c.requires))
    c.call.ensures.keeps
