use Rattle.std.proofs.Common.{Bool, [], ◌∷◌, subst}
use Rattle.c_names.specs.Names as spec
use Rattle.c_names.specs.State.Answers.{IsPassed, passed}
use Rattle.c_names.proofs.Passing.{then_passed}
use Rattle.c_names.proofs.gadget.check_gadget.Goals as goal

pub returns : goal.returns
returns c =
    let left = c.check_inner.new.places.left.now in
    let inner = spec.inner_names c.args.gadget.now in
    subst (λ (b : Bool). IsPassed (passed (b ∷ inner) c.args.places.now.left.now) c.check_inner.result left) c.is_new_gadget.ensures
    (then_passed (c.is_new_gadget.result ∷ []) inner c.args.places.now.left.now c.pass.new.self.left.now left c.check_inner.result c.in_ok-pass.ensures c.check_inner.ensures)
