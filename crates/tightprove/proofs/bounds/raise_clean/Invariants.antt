use Rattle.std.proofs.Common.{◌<◌, ◌≤◌, List, ℕ, length, get_or}
use Rattle.span_model.specs.Attack.{Product, HasAttack}
use Rattle.span_model.specs.Refresh.{left_out}
use Rattle.tightprove.specs.Growth.{AreKnown}
use Rattle.tightprove.specs.Private.Gathered.{marks_of, beyond, IsGatheredOf}
use Rattle.tightprove.specs.Private.Bounds.{AreBounds}
use Rattle.tightprove.proofs.bounds.raise_clean.Given as goal

abbrev pub invariant-loop-i : goal.invariant-loop-i
invariant-loop-i l =
    record {
      known : AreKnown l.gathered.classes.list.items l.gathered.classes.columns l.known.spans.items;
      bounds : (products : List (Product ℕ)) → IsGatheredOf products l.fn.gathered
          → AreBounds products (marks_of l.set) l.fn.gathered l.fn.bounds → AreBounds products (marks_of l.set) l.fn.gathered l.bounds;
      stuck : (products : List (Product ℕ)) → IsGatheredOf products l.fn.gathered → l.m < length l.set
          → (k : ℕ) → k < l.i → get_or l.bounds k 0 ≤ l.m → HasAttack (left_out (beyond (marks_of l.set) (length l.set)) products);
    }
