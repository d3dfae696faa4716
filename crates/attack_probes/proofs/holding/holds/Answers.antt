use Rattle.std.proofs.Common.{Bool, IsTrue, ◌↔◌, IfOk, length, sym, subst}
use Rattle.std.specs.Bool.{OnTrue}
use Rattle.std.proofs.lemmas.List.{length-map}
use Rattle.std.proofs.lemmas.Result.{IfOk-weaker}
use Rattle.span_model.specs.Columns.{set_of}
use Rattle.span_model.specs.Attack.{IsLeak}
use Rattle.linear_view.specs.View.{product_of, products_of}
use Rattle.attack_model.specs.declared.attack.Listing.{Listing}
use Rattle.attack_model.specs.declared.attack.Listing.TheVariants.{Large}
use Rattle.attack_probes.specs.Derivations.{IsSound}
use Rattle.attack_probes.specs.Listings.{HoldsBy}
use Rattle.attack_model.specs.Ranges.{probe_of, IsListing}
use Rattle.attack_probes.proofs.Verdicts.{on_true, holds_leak}
use Rattle.attack_probes.proofs.holding.holds.Goals as goal

pub probes_hold-requires-clause-within : goal.probes_hold-requires-clause-within
probes_hold-requires-clause-within c =
    rw c.as_slice.ensures (subst (IsListing c.args.view.now) c.in-Probes.is c.requires.listing).1

pub derivation_holds-requires-clause-products : goal.derivation_holds-requires-clause-products
derivation_holds-requires-clause-products c = c.requires.products

pub derivation_holds-requires-clause-order : goal.derivation_holds-requires-clause-order
derivation_holds-requires-clause-order c = c.requires.order

pub returns-in-Probes-clause-answer : goal.returns-in-Probes-clause-answer
returns-in-Probes-clause-answer c =
    let derivation = c.args.attack.now.derivation in
    subst (λ (x : Listing). IfOk c.probes_hold.result (λ (answer : Bool). IsTrue answer ↔ HoldsBy (products_of c.args.view.now) (set_of derivation.leak) derivation x))
    (sym c.in-Probes.is) (rw c.as_slice.ensures at c.probes_hold.ensures)

pub returns-in-Large-clause-answer : goal.returns-in-Large-clause-answer
returns-in-Large-clause-answer c =
    let derivation = c.args.attack.now.derivation in
    subst (λ (x : Listing). IfOk c.derivation_holds.result (λ (answer : Bool). IsTrue answer ↔ HoldsBy (products_of c.args.view.now) (set_of derivation.leak) derivation x))
    (sym c.in-Large.is) c.derivation_holds.ensures

pub returns-in-Large-clause-leak : goal.returns-in-Large-clause-leak
returns-in-Large-clause-leak c =
    let derivation = c.args.attack.now.derivation in
    let products = products_of c.args.view.now in
    let leak = set_of derivation.leak in
    IfOk-weaker c.derivation_holds.result
    (λ (answer : Bool). IsTrue answer ↔ IsSound products leak derivation.steps derivation.root)
    (λ (answer : Bool). OnTrue answer (IsLeak products leak))
    (λ answer h. on_true (IsSound products leak derivation.steps derivation.root) (IsLeak products leak) answer
    (holds_leak products leak derivation Large (length c.args.view.now.products) (length-map c.args.view.now.products product_of)
    c.requires.products c.requires.order) h)
    c.derivation_holds.ensures
