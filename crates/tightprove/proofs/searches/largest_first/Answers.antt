use Rattle.std.proofs.Common.{◌<◌, inl, inr, length, arith}
use Rattle.std.proofs.lemmas.Bool.{cases_lt}
use Rattle.std.proofs.lemmas.List.Sorted.{Contains-permutation, All-permutation}
use Rattle.tightprove.proofs.Gathering.{all_push, contains_more, contains_new}
use Rattle.tightprove.proofs.searches.largest_first.Goals as goal

pub loop-i-preserved : goal.loop-i-preserved
loop-i-preserved c = record {
  all = rw c.in_ok-push.ensures.items (λ k h. elim (cases_lt k c.loop-i.i) [
    | inl old ↦ contains_more c.loop-i.order.items c.loop-i.i k (c.loop-i.invariant.all k old)
    | inr here ↦ contains_new c.loop-i.order.items c.loop-i.i k (omega arith)
  ]);
  numbers = rw c.in_ok-push.ensures.items (all_push (length c.args.classes.now.list.items) c.loop-i.order.items c.loop-i.i c.loop-i.invariant.numbers (omega arith));
}

pub returns-clause-all : goal.returns-clause-all
returns-clause-all c i h = Contains-permutation c.loop-i.order.items c.sort_by_key.new.self.items i c.in_ok-sort_by_key.ensures.permutation (c.loop-i.invariant.all i (omega arith))

pub returns-clause-numbers : goal.returns-clause-numbers
returns-clause-numbers c = All-permutation (λ i. i < length c.args.classes.now.list.items) c.loop-i.order.items c.sort_by_key.new.self.items c.in_ok-sort_by_key.ensures.permutation c.loop-i.invariant.numbers
