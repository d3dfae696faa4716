use Rattle.std.proofs.Common.{◌≡◌, drop}
use Rattle.usuba_types.specs.Sizes.{callees_in}
use Rattle.usuba_types.specs.State.Adding.{after_calls}
use Rattle.usuba_types.proofs.sizes.with_code.Given as goal

abbrev pub invariant-loop-operation : goal.invariant-loop-operation
invariant-loop-operation l =
    after_calls l.known l.size (callees_in (drop l.operation-index l.code)) ≡ after_calls l.known l.fn.size (callees_in l.code)
