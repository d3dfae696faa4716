use Rattle.std.proofs.Common.{◌≡◌, ◌*◌, length, All}
use Rattle.linear_view.specs.Alike.{AreAlike, IsOperand}
use Rattle.linear_view.proofs.alike.alike_operands.Given as goal

abbrev pub invariant-loop-product : goal.invariant-loop-product
invariant-loop-product l =
    record {
      count : length l.alike.items ≡ 2 * l.product;
      alike : AreAlike l.products l.alike.items;
      firsts : All (IsOperand l.products) l.firsts.items;
    }
