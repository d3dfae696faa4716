use Rattle.std.proofs.Common.{List, sym, subst, ◌+◌}
use Rattle.std.specs.List.{range_with_len}
use Rattle.usuba_plan.specs.State.Handles.{handle_at}
use Rattle.usuba_plan.proofs.Picking.{Picking, range_there, range_step, range_done}
use Rattle.usuba_plan.proofs.cells.read_all.Goals as goal

pub read-requires : goal.read-requires
read-requires g c =
    range_there (handle_at c.args.environment.now) c.args.from c.args.count c.loop-k.found.items c.loop-k.k c.loop-k-test.true c.loop-k.invariant c.requires

pub loop-k-preserved : goal.loop-k-preserved
loop-k-preserved g c =
    subst (λ (found : List g.row.H.Denot). Picking (handle_at c.args.environment.now) (range_with_len c.args.from c.args.count) found (c.loop-k.k + 1))
    (sym c.in_ok-push.ensures.items)
    (range_step (handle_at c.args.environment.now) c.args.from c.args.count c.loop-k.found.items c.loop-k.k c.read.result c.loop-k-test.true c.loop-k.invariant c.read.ensures)

pub returns : goal.returns
returns g c =
    range_done (handle_at c.args.environment.now) c.args.from c.args.count c.loop-k.found.items c.loop-k.k c.loop-k-test.false c.loop-k.invariant
