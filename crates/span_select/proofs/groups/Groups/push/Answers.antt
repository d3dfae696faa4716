use Rattle.std.proofs.Common.{◌≡◌, List, Bool, length, map, arith}
use Rattle.std.proofs.lemmas.List.{map_push, length-map}
use Rattle.span_select.specs.declared.groups.Group.{Group}
use Rattle.span_select.proofs.TakingIn.{kept_push}
use Rattle.span_select.proofs.groups.Groups.push.Goals as goal

pub invariant_of-self-2 : goal.invariant_of-self-2
invariant_of-self-2 c =
    let rows_at : Group → List (List Bool) = λ group. group.rows.items in
    let words_at : Group → List (List Bool) = λ group. group.words.items in
    let group : c.len-group.result ≡ length (map {B = List (List Bool)} (λ (group : Group). group.rows.items) c.self.inside.groups.items) =
    omega (arith, c.len-group.ensures, c.self.inside.groups.ok, length-map c.self.inside.groups.items (λ (group : Group). group.rows.items)) in
    rw (
      c.in_ok-push.ensures.items,
      map_push (λ (group : Group). group.rows.items) c.self.inside.groups.items (record { rows = c.in_ok-rows.rows; words = c.in_ok-words.words }),
      map_push (λ (group : Group). group.words.items) c.self.inside.groups.items (record { rows = c.in_ok-rows.rows; words = c.in_ok-words.words }),
      c.in_ok-rows.ensures,
    )
    (kept_push _ _ _ _ _ _ _ _ _ _ c.args.rows.now c.in_ok-words.words.items c.len-group.result c.self.invariant c.if-not-self.false
    c.in_ok-words.ensures.basis_columns group c.in_ok-words.ensures.frame c.in_ok-words.ensures.takes_in c.in_ok-words.ensures.columns)
