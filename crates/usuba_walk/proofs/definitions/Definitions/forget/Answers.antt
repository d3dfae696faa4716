use Rattle.std.proofs.Common.{◌≡◌, [], ◌∷◌, ◌++◌, sym, ap, ◌∙◌, subst, rules}
use Rattle.std.specs.Prelude.{bytes_eq}
use Rattle.std.specs.HashMap.{get_by}
use Rattle.std.proofs.lemmas.Map.Text.{hash_map_updates_str}
use Rattle.usuba_walk.specs.Signatures.{latest_first, HasOwnName, place_of}
use Rattle.usuba_walk.proofs.Signatures.{places-forgotten}
use Rattle.usuba_walk.proofs.definitions.Definitions.forget.Goals as goal

pub invariant_of-self : goal.invariant_of-self
invariant_of-self c = λ name.
    let items : c.self.inside.known.items ≡ c.pop.new.self.items ++ c.in-Some.latest ∷ [] = search rules in
    places-forgotten c.pop.new.self.items c.in-Some.latest
    (λ n. get_by (λ key. bytes_eq n key.now) c.self.inside.places) (λ n. get_by (λ key. bytes_eq n key.now) c.remove.new.self)
    (λ n. c.self.invariant n ∙ ap (λ l. place_of (latest_first l) n) items)
    (λ n. hash_map_updates_str c.in-Some.latest.name.now c.self.inside.places c.remove.new.self _ c.remove.ensures.updates n)
    (subst (λ l. HasOwnName (latest_first l)) items (subst HasOwnName (sym c.self.view_is) c.requires))
    name
