use Rattle.std.proofs.Common.{◌<◌, ◌≤◌, ℕ, length, subst, All}
use Rattle.std.proofs.lemmas.List.{length-map}
use Rattle.span_model.specs.Columns.{set_of}
use Rattle.linear_view.specs.View.{products_of, product_of}
use Rattle.attack_cert.specs.Derivation.{IsDerivation}
use Rattle.attack_cert.specs.Kept.{AreNumbered}
use Rattle.attack_cert.specs.declared.numbers.Numbered.{Numbered}
use Rattle.attack_cert.proofs.Supporting.{supported}
use Rattle.attack_cert.proofs.Deriving.{is_derivation, no_more_steps}
use Rattle.linear_view.proofs.ListLemmas.{if_ok}
use Rattle.attack_cert.proofs.leak.numbered_steps.Goals as goal

pub co_operand_groups-requires : goal.co_operand_groups-requires
co_operand_groups-requires c =
    subst (λ (n : ℕ). All (λ step. step.operand.product < n) c.args.listed.now) (length-map c.args.view.now.products product_of)
    (supported (products_of c.args.view.now) (set_of c.args.leak.now) c.args.listed.now c.requires.reach).within

pub reached_steps-requires-clause-supported : goal.reached_steps-requires-clause-supported
reached_steps-requires-clause-supported c = supported (products_of c.args.view.now) (set_of c.args.leak.now) c.args.listed.now c.requires.reach

pub returns-clause-derivation : goal.returns-clause-derivation
returns-clause-derivation c =
    let products = products_of c.args.view.now in
    let leak = set_of c.args.leak.now in
    let reached = c.in_ok-reached.reached in
    if_ok c.with_numbers.result (λ (n : Numbered). AreNumbered c.args.listed.now reached.root reached.kept.items n.steps n.root) (λ (n : Numbered). IsDerivation products leak n.steps n.root)
    (λ n m. is_derivation products leak c.args.listed.now reached.root n.root reached.kept.items n.steps c.requires.nonempty c.requires.reach c.in_ok-reached.ensures m)
    c.with_numbers.ensures

pub returns-clause-fewer : goal.returns-clause-fewer
returns-clause-fewer c =
    let products = products_of c.args.view.now in
    let leak = set_of c.args.leak.now in
    let reached = c.in_ok-reached.reached in
    if_ok c.with_numbers.result (λ (n : Numbered). AreNumbered c.args.listed.now reached.root reached.kept.items n.steps n.root) (λ (n : Numbered). length n.steps ≤ length c.args.listed.now)
    (λ n m. no_more_steps products leak c.args.listed.now reached.root n.root reached.kept.items n.steps c.in_ok-reached.ensures m)
    c.with_numbers.ensures
