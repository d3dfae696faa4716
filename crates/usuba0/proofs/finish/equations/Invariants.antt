use Rattle.std.proofs.Common.{◌≡◌, take}
use Rattle.usuba0.specs.CoreOfTerms.{equations_of, register_of}
use Rattle.usuba0.specs.State.Walk.{all_terms, terms_in}
use Rattle.usuba0.proofs.finish.equations.Given as goal

abbrev pub invariant-loop-term : goal.invariant-loop-term
invariant-loop-term l =
    l.equations.items
    ≡ equations_of (register_of l.inputs (terms_in (all_terms l.inputs l.heads) l.walk.order.items)) (terms_in (all_terms l.inputs l.heads) (take l.term-index l.walk.order.items))
