use Rattle.std.proofs.Common.{◌≡◌, ◌<◌, ◌≤◌, ◌+◌, List, ℕ, length, get_or}
use Rattle.span_model.specs.Attack.{Product, HasAttack}
use Rattle.span_model.specs.Refresh.{left_out}
use Rattle.tightprove.specs.Private.Gathered.{marks_of, beyond, IsGatheredOf, IsReady, HasSameRows}
use Rattle.tightprove.specs.Private.Bounds.{AreBounds, IsCleanTo, AreStuck}
use Rattle.tightprove.proofs.bounds.raise_rest.Given as goal

abbrev pub invariant-loop-i : goal.invariant-loop-i
invariant-loop-i l =
    record {
      ready : IsReady l.gathered;
      rows : HasSameRows l.fn.gathered l.gathered;
      behind : (k : ℕ) → l.i ≤ k → get_or l.bounds k 0 ≡ get_or l.fn.bounds k 0;
      bounds : (products : List (Product ℕ)) → IsGatheredOf products l.fn.gathered
          → IsCleanTo products (marks_of l.set) l.fn.gathered l.m → AreStuck products (marks_of l.set) l.fn.gathered l.m (length l.set) l.fn.bounds
          → AreBounds products (marks_of l.set) l.fn.gathered l.fn.bounds → AreBounds products (marks_of l.set) l.fn.gathered l.bounds;
      stuck : (products : List (Product ℕ)) → IsGatheredOf products l.fn.gathered
          → IsCleanTo products (marks_of l.set) l.fn.gathered l.m → AreStuck products (marks_of l.set) l.fn.gathered l.m (length l.set) l.fn.bounds
          → (k : ℕ) → k < l.i → get_or l.bounds k 0 ≤ l.m → HasAttack (left_out (beyond (marks_of l.set) (l.m + 1)) products);
    }
