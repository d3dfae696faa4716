use Rattle.std.proofs.Common.{◌≡◌, drop, map}
use Rattle.c_names.specs.Names.{all_checked, parameter_checked}
use Rattle.c_names.specs.State.Answers.{passed}
use Rattle.c_names.proofs.gadget.check_parameters.Given as goal

abbrev pub invariant-loop-parameter : goal.invariant-loop-parameter
invariant-loop-parameter l =
    let left = all_checked (map parameter_checked (drop l.parameter-index l.parameters)) l.scope in
    let all = all_checked (map parameter_checked l.parameters) l.fn.scope in
    record { names : passed left.names l.places.left.now ≡ passed all.names l.fn.places.left.now; scope : left.scope ≡ all.scope }
