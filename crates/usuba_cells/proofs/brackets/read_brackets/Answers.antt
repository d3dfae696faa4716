use Rattle.std.proofs.Common.{◌+◌, ◌∷◌, ◌∙◌, sym, ap, drop, arith}
use Rattle.usuba_cells.specs.State.Brackets.{picked_of, brackets}
use Rattle.usuba_cells.proofs.BracketLemmas.{next-bracket, brackets-step}
use Rattle.usuba_cells.proofs.brackets.read_brackets.Goals as goal

pub loop-level-preserved : goal.loop-level-preserved
loop-level-preserved c =
    let k = c.loop-level.level in
    brackets-step c.args.sizes.now _ _ _ k (picked_of c.picked.result) _ _ _ _ _ _
    (next-bracket c.args.counters.now c.args.picks.now k c.index-picks-level.result (omega arith) c.index-picks-level.is
    ∙ ap (λ b. b ∷ brackets c.args.counters.now (drop (k + 1) c.args.picks.now)) (sym c.picked.ensures))
    c.with_bracket-so_far.ensures.divided c.with_bracket-so_far.ensures.big c.with_bracket-so_far.ensures.outside
    c.loop-level.invariant
