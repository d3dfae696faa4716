use Rattle.std.proofs.Common.{◌≡◌, length}
use Rattle.linear_view.specs.View.{products_of}
use Rattle.tightprove.specs.Private.Gathered.{marks_of, IsReady, HasSameRows}
use Rattle.tightprove.specs.Private.Bounds.{class_count, IsLeastOf, IsSettled}
use Rattle.tightprove.proofs.leaving_out.least_left_out.Given as goal

abbrev pub invariant-loop-m : goal.invariant-loop-m
invariant-loop-m l =
    record {
      ready : IsReady l.gathered;
      rows : HasSameRows l.initial.gathered l.gathered;
      count : length l.bounds.items ≡ class_count l.gathered;
      marks : length l.set.items ≡ length l.gathered.places.items;
      least : IsLeastOf l.bounds.items (length l.set.items) l.least;
      settled : IsSettled (products_of l.view) l.initial.gathered l.m (marks_of l.set.items) l.bounds.items;
    }
