use Rattle.std.proofs.Common.{length, subst}
use Rattle.linear_view.specs.View.{products_of}
use Rattle.tightprove.specs.Verdict.{IsVerdictOf}
use Rattle.tightprove.specs.declared.searches.Verdict.{Verdict}
use Rattle.tornado_main.proofs.VerdictLemmas.{none_so, text_of_attack}
use Rattle.tornado_main.proofs.commands.check.attack_on.Goals as goal

pub returns-in-Secure : goal.returns-in-Secure
returns-in-Secure c =
    none_so c.narrow_views_keep_attacks.ensures c.args.core.now c.requires.core c.in_ok-view.view c.in_ok-view.ensures
    (subst (λ (v : Verdict). IsVerdictOf (length c.in_ok-view.view.columns) (products_of c.in_ok-view.view) v) c.in-Secure.is c.in_ok-search.ensures)

pub invariant_of-result : goal.invariant_of-result
invariant_of-result c = record { leak = c.in_ok-attack-in-Leak.ensures.columns }

pub returns-in_ok-attack-in-Leak : goal.returns-in_ok-attack-in-Leak
returns-in_ok-attack-in-Leak c =
    text_of_attack c.narrow_views_keep_attacks.ensures c.renaming_keeps_derivations.ensures c.narrow_texts_are_whole.ensures
    c.args.core.now c.requires.core c.in_ok-view.view c.in_ok-view.ensures c.column_count-columns.result
    c.column_count-columns.ensures c.in_ok-attack-in-Leak.attack c.in_ok-attack-in-Leak.ensures
