use Rattle.std.proofs.Common.{◌-◌, ◌+◌, [], ◌∷◌, ◌++◌, vec_items, ap, ◌∙◌, arith}
use Rattle.c_machine.specs.Run.{zero_rows}
use Rattle.c_machine.proofs.Rows.{zero_rows-next}
use Rattle.c_machine.proofs.run.push_zero_rows.Goals as goal

pub loop-preserved : goal.loop-preserved
loop-preserved c =
    ap (λ rows. rows ++ zero_rows c.args.shares (c.args.count - (c.loop.counter + 1)))
    (c.in_ok-push.ensures.items ∙ ap (λ row. vec_items c.loop.rows ++ row ∷ []) (c.from_vec.ensures ∙ c.in_ok-row.ensures.items_if_clones_equal (λ y h. h)))
    ∙ zero_rows-next c.args.shares c.args.count c.loop.counter (vec_items c.loop.rows) (omega arith) ∙ c.loop.invariant
