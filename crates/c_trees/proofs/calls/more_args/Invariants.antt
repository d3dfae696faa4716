use Rattle.std.proofs.Common.{◌≡◌, ◌-◌, length}
use Rattle.c_trees.specs.State.Making as making
use Rattle.c_trees.proofs.Looping.{joined}
use Rattle.c_trees.proofs.calls.more_args.Given as goal

abbrev pub invariant-loop : goal.invariant-loop
invariant-loop l = record {
  so_far : joined l.made (making.items_of making.ends_list making.next_arg (length l.text - l.counter) l.rest) ≡ making.with_first l.fn.first (making.more_args l.fn.text);
  end : l.end ≡ length l.text;
}
