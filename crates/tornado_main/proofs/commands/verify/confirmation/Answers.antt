use Rattle.std.proofs.Common.{rules}
use Rattle.span_model.specs.Columns.{set_of}
use Rattle.span_model.specs.Attack.{IsLeak}
use Rattle.linear_view.specs.View.{products_of}
use Rattle.attack_probes.specs.Listings.{Holds}
use Rattle.tornado_main.proofs.VerdictLemmas.{holds_so, fails_so}
use Rattle.tornado_main.proofs.commands.verify.confirmation.Goals as goal

pub returns-then-branch : goal.returns-then-branch
returns-then-branch c = λ core is_core is.
    let does : Holds c.args.view.now c.args.attack.now = search rules in
    let leaks : IsLeak (products_of c.args.view.now) (set_of c.args.attack.now.derivation.leak) = search rules in
    holds_so c.attacks_are_the_views.ensures core is_core c.args.view.now is c.args.attack.now c.requires.leak does leaks

pub returns-else-branch : goal.returns-else-branch
returns-else-branch c = λ core is_core is.
    let not : ¬ Holds c.args.view.now c.args.attack.now = search rules in
    fails_so core c.args.view.now is c.args.attack.now not
