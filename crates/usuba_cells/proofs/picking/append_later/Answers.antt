use Rattle.std.proofs.Common.{◌^◌, subst, sym, rules}
use Rattle.usuba_cells.specs.State.Sums.{AllBelow}
use Rattle.usuba_cells.proofs.PartLemmas.{copied-start, copied-within, copied-slice, copied-step}
use Rattle.usuba_cells.proofs.picking.append_later.Goals as goal

pub loop-part-init : goal.loop-part-init
loop-part-init c =
    copied-start c.args.numbers.now.items c.args.stride c.args.start c.args.end c.args.parts.first c.args.parts.last c.requires.first

pub append_raised-requires-clause-within : goal.append_raised-requires-clause-within
append_raised-requires-clause-within c =
    copied-within c.args.numbers.now.items c.args.stride c.args.start c.args.end _ _ _ c.loop-part.numbers.items c.requires.within c.loop-part.invariant

pub append_raised-requires-clause-small : goal.append_raised-requires-clause-small
append_raised-requires-clause-small c =
    subst (AllBelow (2 ^ 31))
    (sym (copied-slice c.args.numbers.now.items c.args.stride c.args.start c.args.end _ _ _ c.loop-part.numbers.items c.requires.order c.requires.within c.loop-part.invariant))
    c.requires.small

pub loop-part-preserved : goal.loop-part-preserved
loop-part-preserved c =
    copied-step c.args.numbers.now.items c.args.stride c.args.start c.args.end c.args.parts.first c.args.parts.last c.loop-part.part _ c.loop-part.numbers.items _
    c.requires.order c.requires.within (search rules) c.requires.last c.next_part-part.ensures c.in_ok-append_raised.ensures c.loop-part.invariant
