use Rattle.std.proofs.Common.{◌≡◌, ◌||◌, ◌++◌, Some, None, OnOk, IfOk, ◌∙◌, ap, sym, subst, arith, rules}
use Rattle.std.specs.List.{list_any}
use Rattle.usuba_model.specs.Cells.{sizes_of, read_of, meets_too_big, pick_outside}
use Rattle.usuba_model.specs.Unrolled.{declarations}
use Rattle.usuba_cells.specs.State.Brackets.{brackets, picked_numbers}
use Rattle.usuba_cells.specs.State.Copies.{raised}
use Rattle.usuba_cells.specs.State.Places.{place_at}
use Rattle.usuba_cells.proofs.PlaceLemmas.{IsFound, place-found, place-missing, cells-found, cells-missing}
use Rattle.usuba_cells.proofs.variables.Variables.read_spot.Goals as goal

pub read_variable-requires : goal.read_variable-requires
read_variable-requires c =
    let name = c.args.spot.now.name.text in
    let at : place_at c.self.inside.places name ≡ Some c.in-Some.variable.now = search rules in
    let found : IsFound (declarations c.self.inside.node.now) 0 name c.in-Some.variable.now =
    place-found 0 (declarations c.self.inside.node.now) name c.in-Some.variable.now (sym (c.self.invariant.found name) ∙ at) in
    omega (arith, found.within, c.self.invariant.few)

pub returns-in-Some-clause-cells : goal.returns-in-Some-clause-cells
returns-in-Some-clause-cells c =
    let name = c.args.spot.now.name.text in
    let variable = c.in-Some.variable.now in
    let at : place_at c.self.inside.places name ≡ Some variable = search rules in
    let found : IsFound c.args.self.now 0 name variable =
    subst (λ declared. IsFound declared 0 name variable) c.self.view_is
    (place-found 0 (declarations c.self.inside.node.now) name variable (sym (c.self.invariant.found name) ∙ at)) in
    subst (λ l. OnOk c.read_variable.result (c.read_variable.new.cells.items ≡ c.args.cells.now.items ++ l))
    (ap (λ p. raised variable.first (picked_numbers variable.sizes (brackets c.args.counters.now p))) c.as_slice-picks.ensures
    ∙ cells-found c.args.self.now name variable (brackets c.args.counters.now c.args.spot.now.picks) found)
    c.read_variable.ensures.cells

pub returns-in-Some-clause-out : goal.returns-in-Some-clause-out
returns-in-Some-clause-out c =
    let name = c.args.spot.now.name.text in
    let variable = c.in-Some.variable.now in
    let at : place_at c.self.inside.places name ≡ Some variable = search rules in
    let found : IsFound c.args.self.now 0 name variable =
    subst (λ declared. IsFound declared 0 name variable) c.self.view_is
    (place-found 0 (declarations c.self.inside.node.now) name variable (sym (c.self.invariant.found name) ∙ at)) in
    let all = brackets c.args.counters.now c.args.spot.now.picks in
    subst (λ b. IfOk c.read_variable.result (λ read. read.index_out ≡ b))
    (ap (λ p. list_any meets_too_big (brackets c.args.counters.now p) || pick_outside variable.sizes (brackets c.args.counters.now p)) c.as_slice-picks.ensures
    ∙ ap (λ o. (read_of name all o).index_out) (sym found.sizes_are))
    c.read_variable.ensures.out

pub returns-in-None-clause-cells : goal.returns-in-None-clause-cells
returns-in-None-clause-cells c =
    let name = c.args.spot.now.name.text in
    let at : place_at c.self.inside.places name ≡ None = search rules in
    let missing : sizes_of c.args.self.now name ≡ None =
    subst (λ declared. sizes_of declared name ≡ None) c.self.view_is
    (place-missing 0 (declarations c.self.inside.node.now) name (sym (c.self.invariant.found name) ∙ at)) in
    cells-missing c.args.self.now name (brackets c.args.counters.now c.args.spot.now.picks) c.args.cells.now.items missing

pub returns-in-None-clause-out : goal.returns-in-None-clause-out
returns-in-None-clause-out c =
    let name = c.args.spot.now.name.text in
    let at : place_at c.self.inside.places name ≡ None = search rules in
    let missing : sizes_of c.args.self.now name ≡ None =
    subst (λ declared. sizes_of declared name ≡ None) c.self.view_is
    (place-missing 0 (declarations c.self.inside.node.now) name (sym (c.self.invariant.found name) ∙ at)) in
    c.read_undeclared.ensures.out ∙ ap (λ o. (read_of name (brackets c.args.counters.now c.args.spot.now.picks) o).index_out) (sym missing)
