use Rattle.std.proofs.Common.{List, subst}
use Rattle.linear_view.specs.Alike.{AreAlike}
use Rattle.linear_view.specs.View.{Operands}
use Rattle.linear_view.proofs.view.View.new.Goals as goal

pub invariant_of-result : goal.invariant_of-result
invariant_of-result c =
    (c.requires, subst (λ (products : List Operands). AreAlike products c.in_ok-alike.alike.items) c.as_slice.ensures.value c.in_ok-alike.ensures)
