use Rattle.std.proofs.Common.{◌≡◌, [], ◌∷◌, ◌++◌, length, Some, sym, ap, ◌∙◌, arith}
use Rattle.std.specs.Prelude.{if◌then◌else◌, bytes_eq}
use Rattle.std.proofs.lemmas.List.{length-map, map-append}
use Rattle.std.proofs.lemmas.Map.Text.{hash_map_updates_str}
use Rattle.c_names.specs.State.Scopes.{found_at, found_from, known_of, scope_of}
use Rattle.c_names.specs.declared.scope.Known.{Known}
use Rattle.c_names.proofs.Scopes.{found-added, found-known}
use Rattle.c_names.proofs.scope.Scope.add.Goals as goal

pub invariant_of-self-then-contains_key : goal.invariant_of-self-then-contains_key
invariant_of-self-then-contains_key c = λ name.
    let next : Known = record { name = c.as_str-name.result; role = c.args.role } in
    let items : c.push.new.self.items ≡ c.self.inside.known.items ++ next ∷ [] = grind arith in
    let before = found_at c.self.inside.first in
    found-known (scope_of c.self.inside.known.items) (known_of next) before before c.self.invariant
    (sym c.contains_key.ensures ∙ c.if-contains_key.true) name
    ∙ ap (λ l. found_from 0 l name) (sym (map-append known_of c.self.inside.known.items (next ∷ [])))
    ∙ ap (λ l. found_from 0 (scope_of l) name) (sym items)

pub invariant_of-self-in-Ok : goal.invariant_of-self-in-Ok
invariant_of-self-in-Ok c = λ name.
    let next : Known = record { name = c.as_str-name.result; role = c.args.role } in
    let items : c.push.new.self.items ≡ c.self.inside.known.items ++ next ∷ [] = grind arith in
    let before = found_at c.self.inside.first in
    let size : c.len-place.result ≡ length c.self.inside.known.items = grind arith in
    let place : c.len-place.result ≡ length (scope_of c.self.inside.known.items) = size ∙ sym (length-map c.self.inside.known.items known_of) in
    found-added (scope_of c.self.inside.known.items) (known_of next) before (found_at c.insert.new.self) c.self.invariant
    (sym c.contains_key.ensures ∙ c.if-contains_key.false)
    (λ n. hash_map_updates_str c.as_str-name.result.now c.self.inside.first c.insert.new.self _ c.in-Ok.ensures.updates n
    ∙ ap (λ p. if bytes_eq c.as_str-name.result.now n then Some (record { place = p; role = c.args.role }) else before n) place)
    name
    ∙ ap (λ l. found_from 0 l name) (sym (map-append known_of c.self.inside.known.items (next ∷ [])))
    ∙ ap (λ l. found_from 0 (scope_of l) name) (sym items)
