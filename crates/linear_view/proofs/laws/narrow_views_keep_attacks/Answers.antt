use Rattle.linear_view.proofs.NarrowAttackLemmas.{narrow_views_keep_attacks}
use Rattle.linear_view.proofs.laws.narrow_views_keep_attacks.Goals as goal

pub returns : goal.returns
returns c = narrow_views_keep_attacks c.renaming_keeps_attacks.ensures c.renaming_keeps_attacks-2.ensures
