use Rattle.std.proofs.Common.{◌≡◌, None, Some, sym, ap, ◌∙◌, rules}
use Rattle.std.specs.Option.{option_map}
use Rattle.c_names.specs.Scope.{role_of}
use Rattle.c_names.specs.State.Scopes.{found_from, scope_of}
use Rattle.c_names.proofs.Scopes.{role-found}
use Rattle.c_names.proofs.scope.Scope.role_of.Goals as goal

pub returns-in-Some : goal.returns-in-Some
returns-in-Some c =
    let scope = scope_of c.self.inside.known.items in
    let found : found_from 0 scope c.as_str.result.now ≡ Some c.in-Some.found = sym (c.self.invariant c.as_str.result.now) ∙ search rules in
    sym (role-found 0 scope c.as_str.result.now ∙ ap (option_map (λ found. found.role)) found)
    ∙ ap (role_of scope) c.as_str.ensures
    ∙ ap (λ l. role_of l c.args.name.now) c.self.view_is

pub returns-in-None : goal.returns-in-None
returns-in-None c =
    let scope = scope_of c.self.inside.known.items in
    let found : found_from 0 scope c.as_str.result.now ≡ None = sym (c.self.invariant c.as_str.result.now) ∙ search rules in
    sym (role-found 0 scope c.as_str.result.now ∙ ap (option_map (λ found. found.role)) found)
    ∙ ap (role_of scope) c.as_str.ensures
    ∙ ap (λ l. role_of l c.args.name.now) c.self.view_is
