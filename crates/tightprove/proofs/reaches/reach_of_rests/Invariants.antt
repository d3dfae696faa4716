use Rattle.std.proofs.Common.{◌<◌, ◌≤◌, ℕ, List}
use Rattle.span_model.specs.Attack.{Product}
use Rattle.tightprove.specs.Private.Gathered.{marks_of, beyond, rows_in, HasNoLeak, IsGatheredOf}
use Rattle.tightprove.specs.Private.Affine.{AreRests}
use Rattle.tightprove.proofs.reaches.reach_of_rests.Given as goal

abbrev pub invariant-rounds : goal.invariant-rounds
invariant-rounds l =
    record {
      rests : AreRests l.gathered.classes.list.items l.rests;
      low : l.low ≤ l.told;
      high : l.told < l.high;
      clean : (products : List (Product ℕ)) → IsGatheredOf products l.gathered
          → HasNoLeak products (beyond (marks_of l.set) l.low) (rows_in l.gathered l.i)
          → HasNoLeak products (beyond (marks_of l.set) l.told) (rows_in l.gathered l.i);
    }
