use Rattle.std.proofs.Common.{◌≡◌, ◌-◌, length}
use Rattle.c_trees.specs.State.Making as making
use Rattle.c_trees.proofs.Looping.{joined}
use Rattle.c_trees.proofs.calls.calls.Given as goal

abbrev pub invariant-loop : goal.invariant-loop
invariant-loop l = record {
  so_far : joined l.made (making.items_of making.closes making.call_of (length l.text - l.counter) l.rest) ≡ making.calls_of l.text;
  end : l.end ≡ length l.text;
}
