use Rattle.std.proofs.Common.{◌<◌, ◌≤◌, ◌-◌, List, ℕ}
use Rattle.span_model.specs.Attack.{Product, HasAttack}
use Rattle.span_model.specs.Refresh.{left_out}
use Rattle.tightprove.specs.Private.Gathered.{marks_of, beyond, rows_in, HasNoLeak, IsGatheredOf, IsReady, HasSameRows}
use Rattle.tightprove.proofs.bounds.reach_exactly.Given as goal

abbrev pub invariant-halve : goal.invariant-halve
invariant-halve l =
    record {
      ready : IsReady l.gathered;
      rows : HasSameRows l.fn.gathered l.gathered;
      low : l.fn.low ≤ l.low;
      some : l.low < l.high;
      high : l.high ≤ l.fn.high;
      reach : (products : List (Product ℕ)) → IsGatheredOf products l.fn.gathered
          → HasNoLeak products (beyond (marks_of l.set) l.fn.low) (rows_in l.fn.gathered l.i)
          → HasAttack (left_out (beyond (marks_of l.set) l.fn.high) products)
          → HasNoLeak products (beyond (marks_of l.set) l.low) (rows_in l.fn.gathered l.i)
          × HasAttack (left_out (beyond (marks_of l.set) l.high) products);
    }

abbrev pub decreases-halve : goal.decreases-halve
decreases-halve l = l.high - l.low
