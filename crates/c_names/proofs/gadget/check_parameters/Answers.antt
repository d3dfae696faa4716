use Rattle.std.proofs.Common.{◌∙◌}
use Rattle.c_names.proofs.Turns.{turn_names, turn_scope}
use Rattle.c_names.specs.Names.{parameter_checked}
use Rattle.c_names.proofs.gadget.check_parameters.Goals as goal

pub loop-parameter-preserved : goal.loop-parameter-preserved
loop-parameter-preserved c =
    let xs = c.args.parameters.now in
    let i = c.loop-parameter.parameter-index in
    let before = c.loop-parameter.scope in
    let after = c.check_parameter.new.scope in
    record {
      names =
          turn_names parameter_checked xs i c.parameter-item.result before after c.loop-parameter.places.left.now c.check_parameter.new.places.left.now c.loop-parameter-test.true
          c.parameter-item.is c.in_ok-check_parameter.ensures.names c.in_ok-check_parameter.ensures.scope
          ∙ c.loop-parameter.invariant.names;
      scope =
          turn_scope parameter_checked xs i c.parameter-item.result before after c.loop-parameter-test.true c.parameter-item.is c.in_ok-check_parameter.ensures.scope
          ∙ c.loop-parameter.invariant.scope;
    }
