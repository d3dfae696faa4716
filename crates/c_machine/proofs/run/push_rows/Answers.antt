use Rattle.std.proofs.Common.{◌-◌, ◌+◌, [], ◌∷◌, ◌++◌, take, vec_items, length, ap, ◌∙◌, arith}
use Rattle.c_machine.specs.Run.{rows_of}
use Rattle.c_machine.proofs.Rows.{rows_of-next, words_left}
use Rattle.c_machine.proofs.run.push_rows.Goals as goal

pub loop-preserved : goal.loop-preserved
loop-preserved c = record {
  rows =
      ap (λ rows. rows ++ rows_of c.args.shares (c.args.count - (c.loop.counter + 1)) c.split_at.result.1.now)
      (c.in_ok-push.ensures.items ∙ ap (λ row. vec_items c.loop.rows ++ row ∷ []) (c.in_ok-from_slice.ensures ∙ c.split_at.ensures.front))
      ∙ ap (λ rest. (vec_items c.loop.rows ++ take c.args.shares c.loop.rest.now ∷ []) ++ rows_of c.args.shares (c.args.count - (c.loop.counter + 1)) rest) c.split_at.ensures.back
      ∙ rows_of-next c.args.shares c.args.count c.loop.counter (vec_items c.loop.rows) c.loop.rest.now (omega arith) ∙ c.loop.invariant.rows;
  rest = ap length c.split_at.ensures.back
      ∙ words_left c.args.shares c.args.count c.loop.counter c.loop.rest.now (omega arith) c.loop.invariant.rest;
}
