use Rattle.std.proofs.Common.{◌≡◌, [], ◌∷◌, ◌++◌, length, sym, ap, ◌∙◌, rules, arith}
use Rattle.std.proofs.lemmas.List.{length-map, map-append}
use Rattle.std.proofs.lemmas.Map.Text.{hash_map_updates_str}
use Rattle.c_names.specs.State.Scopes.{found_at, found_from, known_of, scope_of, stands_at}
use Rattle.c_names.proofs.Scopes.{found-forgotten, found-kept}
use Rattle.c_names.proofs.scope.Scope.forget_latest.Goals as goal

pub invariant_of-self : goal.invariant_of-self
invariant_of-self c = λ name.
    let items : c.self.inside.known.items ≡ c.pop.new.self.items ++ c.in-Some.latest ∷ [] = search rules in
    let size : length c.pop.new.self.items ≡ c.len.result = grind arith in
    let place : length (scope_of c.pop.new.self.items) ≡ c.len.result = length-map c.pop.new.self.items known_of ∙ size in
    let before = found_at c.self.inside.first in
    found-forgotten (scope_of c.pop.new.self.items) (known_of c.in-Some.latest) before (found_at c.remove.new.self)
    (λ n. c.self.invariant n ∙ ap (λ l. found_from 0 (scope_of l) n) items ∙ ap (λ l. found_from 0 l n) (map-append known_of c.pop.new.self.items (c.in-Some.latest ∷ [])))
    (ap (λ p. stands_at p (before c.in-Some.latest.name.now)) place ∙ sym c.is_first.ensures ∙ c.if-is_first.true)
    (λ n. hash_map_updates_str c.in-Some.latest.name.now c.self.inside.first c.remove.new.self _ c.remove.ensures.updates n)
    name

pub invariant_of-self-else-is_first : goal.invariant_of-self-else-is_first
invariant_of-self-else-is_first c = λ name.
    let items : c.self.inside.known.items ≡ c.pop.new.self.items ++ c.in-Some.latest ∷ [] = search rules in
    let size : length c.pop.new.self.items ≡ c.len.result = grind arith in
    let place : length (scope_of c.pop.new.self.items) ≡ c.len.result = length-map c.pop.new.self.items known_of ∙ size in
    let before = found_at c.self.inside.first in
    found-kept (scope_of c.pop.new.self.items) (known_of c.in-Some.latest) before before
    (λ n. c.self.invariant n ∙ ap (λ l. found_from 0 (scope_of l) n) items ∙ ap (λ l. found_from 0 l n) (map-append known_of c.pop.new.self.items (c.in-Some.latest ∷ [])))
    (ap (λ p. stands_at p (before c.in-Some.latest.name.now)) place ∙ sym c.is_first.ensures ∙ c.if-is_first.false)
    name
