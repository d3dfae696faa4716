use Rattle.std.proofs.Common.{◌<◌, ℕ, subst, All}
use Rattle.std.proofs.lemmas.List.{length-map}
use Rattle.span_model.specs.Columns.{set_of}
use Rattle.span_model.proofs.Closing.{attack_closes}
use Rattle.linear_view.specs.View.{products_of, product_of}
use Rattle.attack_model.specs.declared.attack.Step.{Step}
use Rattle.attack_cert.proofs.Selecting.{none_is}
use Rattle.attack_cert.proofs.Consequences.{derived_within, derived_in_order, derived_sound, derived_attack}
use Rattle.attack_cert.proofs.leak.derive.Goals as goal

pub returns-in_ok-steps-in-Some-clause-products : goal.returns-in_ok-steps-in-Some-clause-products
returns-in_ok-steps-in-Some-clause-products c =
    subst (λ (n : ℕ). All (λ (step : Step). step.product < n) c.in_ok-steps-in-Some.field-0.steps) (length-map c.args.view.now.products product_of)
    (derived_within (products_of c.args.view.now) (set_of c.args.leak) c.in_ok-steps-in-Some.field-0.steps c.in_ok-steps-in-Some.field-0.root
    c.in_ok-steps-in-Some.ensures.derivation)

pub returns-in_ok-steps-in-Some-clause-order : goal.returns-in_ok-steps-in-Some-clause-order
returns-in_ok-steps-in-Some-clause-order c =
    derived_in_order (products_of c.args.view.now) (set_of c.args.leak) c.in_ok-steps-in-Some.field-0.steps c.in_ok-steps-in-Some.field-0.root
    c.in_ok-steps-in-Some.ensures.derivation

pub returns-in_ok-steps-in-Some-clause-attack : goal.returns-in_ok-steps-in-Some-clause-attack
returns-in_ok-steps-in-Some-clause-attack c =
    derived_attack (products_of c.args.view.now) (set_of c.args.leak) c.in_ok-steps-in-Some.field-0.steps c.in_ok-steps-in-Some.field-0.root
    c.in_ok-steps-in-Some.ensures.derivation c.unfolding_is_attack.ensures

pub returns-in_ok-steps-in-Some-clause-sound : goal.returns-in_ok-steps-in-Some-clause-sound
returns-in_ok-steps-in-Some-clause-sound c =
    derived_sound (products_of c.args.view.now) (set_of c.args.leak) c.in_ok-steps-in-Some.field-0.steps c.in_ok-steps-in-Some.field-0.root
    c.in_ok-steps-in-Some.ensures.derivation

pub returns-in-None-clause-none : goal.returns-in-None-clause-none
returns-in-None-clause-none c = λ leaks.
    none_is c.in_ok-listed.field-0 _ _ c.in-None.is c.in_ok-listed.ensures.found
    (attack_closes (products_of c.args.view.now) leaks.0 (set_of c.args.leak) leaks.1 leaks.2)
