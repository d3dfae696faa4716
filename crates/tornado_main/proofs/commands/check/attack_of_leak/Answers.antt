use Rattle.std.proofs.Common.{◌≡◌, length}
use Rattle.span_model.specs.Columns.{set_of}
use Rattle.span_model.specs.Attack.{IsAttack}
use Rattle.linear_view.specs.View.{products_of}
use Rattle.attack_model.specs.declared.attack.Derivation.{Derivation}
use Rattle.attack_probes.specs.Unfolding.{unfolding_of}
use Rattle.attack_cert.specs.Derivation.{IsDerivation}
use Rattle.tornado_main.proofs.VerdictLemmas.{attack_over, some_so}
use Rattle.tornado_main.proofs.commands.check.attack_of_leak.Goals as goal

pub returns : goal.returns
returns c =
    attack_over c.args.view.now c.args.leak c.in-Some.derivation c.in_ok-listing.listing
    (some_so Derivation _ _ (λ d. d.leak ≡ c.args.leak) c.in-Some.is c.in_ok-derivation.ensures.leak) c.requires.columns
    (some_so Derivation _ _ (λ d. IsDerivation (products_of c.args.view.now) (set_of c.args.leak) d.steps d.root) c.in-Some.is c.in_ok-derivation.ensures.derivation)
    (some_so Derivation _ _
    (λ d. IsAttack (products_of c.args.view.now) (length (unfolding_of d.steps d.root)) (set_of c.args.leak) (unfolding_of d.steps d.root)) c.in-Some.is
    c.in_ok-derivation.ensures.attack)
    c.in_ok-listing.ensures
