use Rattle.gf2_span.specs.Basis.{row_sets}
use Rattle.tightprove.proofs.Closures.{hull_keeps}
use Rattle.tightprove.proofs.growth.within_hull.Goals as goal

pub returns-clause-leaks : goal.returns-clause-leaks
returns-clause-leaks c =
    hull_keeps c.args.classes.now.list.items (row_sets c.args.candidates.now) (row_sets c.in_ok-hull.hull) (row_sets c.in_ok-less.less) c.in_ok-hull.ensures.hull c.in_ok-less.ensures.members
