use Rattle.std.proofs.Common.{◌≡◌, List, ℕ}
use Rattle.span_model.specs.Attack.{Product}
use Rattle.span_model.specs.Refresh.{left_out}
use Rattle.tightprove.specs.Classes.{class_at, AreClasses, AreStepsOf}
use Rattle.tightprove.specs.Private.Gathered.{marks_of, beyond, IsGatheredOf, HasSameRows}
use Rattle.tightprove.proofs.gathered.Gathered.leave_out.Given as goal

abbrev pub invariant-loop-k : goal.invariant-loop-k
invariant-loop-k l =
    record {
      rows : HasSameRows l.fn.self l.self;
      lists : (k : ℕ) → (class_at l.self.classes.list.items k).rows ≡ (class_at l.fn.self.classes.list.items k).rows;
      by_lead : l.self.classes.by_lead ≡ l.fn.self.classes.by_lead;
      classes : AreClasses l.self.classes.columns l.self.classes.list.items;
      steps : (products : List (Product ℕ)) → IsGatheredOf products l.fn.self
          → AreStepsOf l.k (left_out (beyond (marks_of l.set) l.bound) products) l.self.classes.list.items;
    }
