use Rattle.std.proofs.Common.{length, refl, ◌∙◌, ap}
use Rattle.usuba0.specs.Circuit.{IsCore}
use Rattle.linear_view.specs.View.{LinearView}
use Rattle.tornado_main.proofs.GenLemmas.{verdict_so}
use Rattle.tornado_main.proofs.commands.generate.report_on.Goals as goal

pub returns : goal.returns
returns c =
    let is_core : IsCore c.in_ok-core.core = rw (← c.core.view_is) c.core.invariant.core in
    record {
      core = c.in_ok-core.core;
      generated = c.in_ok-core.ensures.core;
      seed_is = refl;
      size_is = refl;
      equations_are = c.from.ensures ∙ c.equations.ensures;
      columns_are = c.from-2.ensures ∙ c.columns.ensures.value ∙ ap (λ (v : LinearView). length v.columns) c.in_ok-view.ensures;
      verdict = verdict_so c.attacks_are_the_views.ensures c.in_ok-core.core is_core c.in_ok-view.view c.in_ok-view.ensures c.is_secure.result
          (c.is_secure.ensures _ _ c.in_ok-verdict.ensures);
    }
