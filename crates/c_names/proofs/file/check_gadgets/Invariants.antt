use Rattle.std.proofs.Common.{◌≡◌, [], drop, take}
use Rattle.c_names.specs.Names.{gadgets_names}
use Rattle.c_names.specs.State.Answers.{passed}
use Rattle.c_names.specs.State.Gadgets.{Finds}
use Rattle.c_names.proofs.file.check_gadgets.Given as goal

abbrev pub invariant-loop-gadget : goal.invariant-loop-gadget
invariant-loop-gadget l =
    let k = l.gadget-index in
    record {
      names : passed (gadgets_names (take k l.gadgets) (drop k l.gadgets)) l.places.left.now ≡ passed (gadgets_names [] l.gadgets) l.fn.places.left.now;
      found : Finds l.found (take k l.gadgets);
    }
