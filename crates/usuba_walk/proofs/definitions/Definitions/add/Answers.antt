use Rattle.std.proofs.Common.{◌≡◌, [], ◌∷◌, ◌++◌, length, Some, sym, ap, ◌∙◌, arith}
use Rattle.std.specs.Prelude.{if◌then◌else◌, bytes_eq}
use Rattle.std.specs.HashMap.{get_by}
use Rattle.std.proofs.lemmas.Map.Text.{hash_map_updates_str}
use Rattle.usuba_walk.specs.declared.definitions.Known.{Known}
use Rattle.usuba_walk.specs.Signatures.{latest_first, place_of}
use Rattle.usuba_walk.proofs.Signatures.{places-added}
use Rattle.usuba_walk.proofs.definitions.Definitions.add.Goals as goal

pub invariant_of-self-in-Ok : goal.invariant_of-self-in-Ok
invariant_of-self-in-Ok c = λ name.
    let next : Known = record { name = c.args.name; inputs = c.args.inputs; outputs = c.args.outputs } in
    let items : c.push.new.self.items ≡ c.self.inside.known.items ++ next ∷ [] = grind arith in
    let place : c.in_ok-place.place ≡ length c.self.inside.known.items = grind arith in
    places-added c.self.inside.known.items next
    (λ n. get_by (λ key. bytes_eq n key.now) c.self.inside.places) (λ n. get_by (λ key. bytes_eq n key.now) c.insert.new.self)
    c.self.invariant
    (λ n. hash_map_updates_str c.args.name.now c.self.inside.places c.insert.new.self _ c.in-Ok.ensures.updates n
    ∙ ap (λ p. if bytes_eq c.args.name.now n then Some p else get_by (λ key. bytes_eq n key.now) c.self.inside.places) place)
    name
    ∙ ap (λ l. place_of (latest_first l) name) (sym items)
