use Rattle.std.proofs.Common.{◌-◌, ◌++◌, ◌∷◌, [], ◌∙◌, sym, ap, arith}
use Rattle.std.specs.List.{range_with_len}
use Rattle.std.proofs.lemmas.List.{append_assoc}
use Rattle.usuba_cells.proofs.Numbered.{range-more}
use Rattle.usuba_cells.proofs.picking.append_range.Goals as goal

pub loop-number-preserved : goal.loop-number-preserved
loop-number-preserved c =
    let n = c.loop-number.number in
    c.in_ok-push.ensures.items
    ∙ ap (λ l. l ++ n ∷ []) c.loop-number.invariant
    ∙ append_assoc c.args.numbers.now.items (range_with_len c.args.first (n - c.args.first)) (n ∷ [])
    ∙ ap (λ l. c.args.numbers.now.items ++ l) (sym (range-more c.args.first n (omega arith)))
