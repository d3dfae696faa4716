use Rattle.std.proofs.Common.{◌≡◌, Some, None, sym, ap, ◌∙◌, rules, arith}
use Rattle.usuba_model.specs.Numbers.{callee_number}
use Rattle.usuba_model.specs.Walk.{Signature, signature_of}
use Rattle.usuba_walk.specs.declared.definitions.Known.{Known}
use Rattle.usuba_walk.specs.Signatures.{latest_first, place_of}
use Rattle.usuba_walk.proofs.Signatures.{known-at, not_found}
use Rattle.usuba_walk.proofs.definitions.Definitions.find.Goals as goal

pub index-known-requires : goal.index-known-requires
index-known-requires c =
    let d : Known = record { name = c.args.name; inputs = 0; outputs = 0 } in
    let found : place_of (latest_first c.self.inside.known.items) c.args.name.now ≡ Some c.in-Some.number = sym (c.self.invariant c.args.name.now) ∙ search rules in
    let known = known-at c.self.inside.known.items c.args.name.now c.in-Some.number d found in
    omega (arith, known.0)

pub returns-in-Some-clause-number : goal.returns-in-Some-clause-number
returns-in-Some-clause-number c =
    let d : Known = record { name = c.args.name; inputs = 0; outputs = 0 } in
    let found : place_of (latest_first c.self.inside.known.items) c.args.name.now ≡ Some c.in-Some.number = sym (c.self.invariant c.args.name.now) ∙ search rules in
    (known-at c.self.inside.known.items c.args.name.now c.in-Some.number d found).1
    ∙ ap (λ l. callee_number l c.args.name.now) c.self.view_is

pub returns-in-Some-clause-inputs : goal.returns-in-Some-clause-inputs
returns-in-Some-clause-inputs c =
    let d = c.index-known.result.now in
    let found : place_of (latest_first c.self.inside.known.items) c.args.name.now ≡ Some c.in-Some.number = sym (c.self.invariant c.args.name.now) ∙ search rules in
    ap (λ (k : Known). k.inputs) c.index-known.ensures
    ∙ ap (λ (s : Signature). s.inputs) ((known-at c.self.inside.known.items c.args.name.now c.in-Some.number d found).2
    ∙ ap (λ l. signature_of l c.args.name.now) c.self.view_is)

pub returns-in-Some-clause-outputs : goal.returns-in-Some-clause-outputs
returns-in-Some-clause-outputs c =
    let d = c.index-known.result.now in
    let found : place_of (latest_first c.self.inside.known.items) c.args.name.now ≡ Some c.in-Some.number = sym (c.self.invariant c.args.name.now) ∙ search rules in
    ap (λ (k : Known). k.outputs) c.index-known.ensures
    ∙ ap (λ (s : Signature). s.outputs) ((known-at c.self.inside.known.items c.args.name.now c.in-Some.number d found).2
    ∙ ap (λ l. signature_of l c.args.name.now) c.self.view_is)

pub returns-in-None-clause-number : goal.returns-in-None-clause-number
returns-in-None-clause-number c =
    let none : place_of (latest_first c.self.inside.known.items) c.args.name.now ≡ None = sym (c.self.invariant c.args.name.now) ∙ search rules in
    sym (not_found (latest_first c.self.inside.known.items) c.args.name.now none).0 ∙ ap (λ l. callee_number l c.args.name.now) c.self.view_is

pub returns-in-None-clause-inputs : goal.returns-in-None-clause-inputs
returns-in-None-clause-inputs c =
    let none : place_of (latest_first c.self.inside.known.items) c.args.name.now ≡ None = sym (c.self.invariant c.args.name.now) ∙ search rules in
    sym (not_found (latest_first c.self.inside.known.items) c.args.name.now none).1 ∙ ap (λ l. (signature_of l c.args.name.now).inputs) c.self.view_is

pub returns-in-None-clause-outputs : goal.returns-in-None-clause-outputs
returns-in-None-clause-outputs c =
    let none : place_of (latest_first c.self.inside.known.items) c.args.name.now ≡ None = sym (c.self.invariant c.args.name.now) ∙ search rules in
    sym (not_found (latest_first c.self.inside.known.items) c.args.name.now none).2 ∙ ap (λ l. (signature_of l c.args.name.now).outputs) c.self.view_is
