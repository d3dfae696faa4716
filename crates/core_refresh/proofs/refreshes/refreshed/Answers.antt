use Rattle.std.proofs.Common.{◌∙◌, sym, subst}
use Rattle.usuba0.specs.Circuit.{Circuit, IsCore}
use Rattle.core_refresh.specs.RefreshedCore.{marked}
use Rattle.core_refresh.proofs.Sizes.{refreshed_is_core}
use Rattle.core_refresh.proofs.Copies.{core_made}
use Rattle.core_refresh.proofs.refreshes.refreshed.Goals as goal

pub new-requires-clause-core : goal.new-requires-clause-core
new-requires-clause-core c =
    subst (λ (core : Circuit). IsCore core)
    (sym (core_made c.args.core.now (marked c.args.set.now) c.in_ok-copied.copied c.width.result c.inputs.result _ _ c.width.ensures.core
    c.in_ok-copied.ensures c.width.ensures.value c.inputs.ensures c.into_equations-equations.ensures c.in_ok-outputs.ensures.numbers))
    (refreshed_is_core c.args.core.now (marked c.args.set.now) c.width.ensures.core)

pub returns : goal.returns
returns c =
    c.new.ensures
    ∙ core_made c.args.core.now (marked c.args.set.now) c.in_ok-copied.copied c.width.result c.inputs.result _ _ c.width.ensures.core
    c.in_ok-copied.ensures c.width.ensures.value c.inputs.ensures c.into_equations-equations.ensures c.in_ok-outputs.ensures.numbers
