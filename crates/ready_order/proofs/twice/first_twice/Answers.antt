use Rattle.std.proofs.Common.{◌<◌, ◌≤◌, length, arith, refl}
use Rattle.ready_order.specs.Numbered.{all_targets}
use Rattle.ready_order.specs.State.Marks.{first_marked}
use Rattle.ready_order.proofs.StepLemmas.{passed_loop, twice_here, twice_nowhere}
use Rattle.ready_order.proofs.twice.first_twice.Goals as goal

pub returns-in-Some : goal.returns-in-Some
returns-in-Some c =
    let within : c.loop-k.k < length c.args.table.now.done = omega (arith, c.len-k-end.ensures) in
    twice_here c.args.inputs c.args.cells c.args.table.now.done c.requires.inputs c.requires.cells c.in_ok-marks.marks.items
    c.loop-k.marks.items c.in_ok-marks.ensures c.loop-k.k within c.loop-k.invariant c.in-Some.place c.in-Some.ensures.found

pub loop-k-preserved : goal.loop-k-preserved
loop-k-preserved c =
    let within : c.loop-k.k < length c.args.table.now.done = omega (arith, c.len-k-end.ensures) in
    passed_loop c.loop-k.marks.items c.first_again.new.marks.items c.args.table.now.done c.loop-k.k
    (first_marked c.in_ok-marks.marks.items (all_targets c.args.table.now.done)) within c.in-None.ensures.found (c.in-None.ensures.marked refl)
    c.loop-k.invariant

pub returns : goal.returns
returns c =
    let past : length c.args.table.now.done ≤ c.loop-k.k = omega (arith, c.len-k-end.ensures) in
    twice_nowhere c.args.inputs c.args.cells c.args.table.now.done c.requires.inputs c.requires.cells c.in_ok-marks.marks.items
    c.loop-k.marks.items c.in_ok-marks.ensures c.loop-k.k past c.loop-k.invariant
