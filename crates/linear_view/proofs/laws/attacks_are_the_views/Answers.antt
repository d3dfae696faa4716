use Rattle.linear_view.proofs.AttackLemmas.{attacks_are_the_views}
use Rattle.linear_view.proofs.laws.attacks_are_the_views.Goals as goal

pub returns : goal.returns
returns c = attacks_are_the_views c.renaming_keeps_attacks.ensures c.renaming_keeps_attacks-2.ensures
