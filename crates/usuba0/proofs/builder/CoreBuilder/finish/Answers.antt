use Rattle.std.proofs.Common.{◌≡◌, ◌+◌, ◌<◌, List, length, get_or, map, IfOk, subst, sym, arith}
use Rattle.usuba0.specs.declared.limit.TheConstants.{MAX_COLUMNS, MAX_WEIGHT}
use Rattle.usuba0.specs.declared.builder.Head.{Head}
use Rattle.usuba0.specs.declared.circuit.Reg.{Reg}
use Rattle.usuba0.specs.Circuit.{IsSmall, weight, columns}
use Rattle.usuba0.specs.CoreOfTerms.{core_of_terms}
use Rattle.usuba0.specs.Term.{Input}
use Rattle.usuba0.specs.State.Walk.{all_terms}
use Rattle.usuba0.proofs.KeepLemmas.{length_of_terms}
use Rattle.usuba0.proofs.builder.CoreBuilder.finish.Goals as goal

pub of-requires-clause-held : goal.of-requires-clause-held
of-requires-clause-held c k d h =
    let l = length_of_terms c.self.inside.inputs c.self.inside.heads.keys in
    let held = rw (← c.self.view_is) at c.requires.held in
    subst (λ (hs : List Head). (get_or c.args.outputs.now k d).0 < c.self.inside.inputs + length hs) (sym c.as_slice.ensures.keys) (omega (arith, held k d h))

pub close-requires-clause-held : goal.close-requires-clause-held
close-requires-clause-held c k d h =
    let l = length_of_terms c.self.inside.inputs c.self.inside.heads.keys in
    let held = rw (← c.self.view_is) at c.requires.held in
    subst (λ (hs : List Head). (get_or c.args.outputs.now k d).0 < c.self.inside.inputs + length hs) (sym c.as_slice-2.ensures.keys) (omega (arith, held k d h))

pub returns-clause-core : goal.returns-clause-core
returns-clause-core c =
    rw (← c.self.view_is)
    (subst
    (λ (hs : List Head). IfOk c.close.result (λ core. core ≡ core_of_terms c.self.inside.width c.self.inside.inputs (map (λ (r : Reg). get_or (all_terms c.self.inside.inputs hs) r.0 (Input 0)) c.args.outputs.now)))
    c.as_slice-2.ensures.keys c.close.ensures.core)

pub returns-clause-too_large : goal.returns-clause-too_large
returns-clause-too_large c =
    rw (← c.self.view_is)
    (λ e. subst
    (λ (hs : List Head). MAX_WEIGHT < weight (core_of_terms c.self.inside.width c.self.inside.inputs (map (λ (r : Reg). get_or (all_terms c.self.inside.inputs hs) r.0 (Input 0)) c.args.outputs.now)))
    c.as_slice-2.ensures.keys (c.close.ensures.too_large e))

pub returns-clause-too_many : goal.returns-clause-too_many
returns-clause-too_many c =
    rw (← c.self.view_is)
    (λ e. subst
    (λ (hs : List Head).
    let core = core_of_terms c.self.inside.width c.self.inside.inputs (map (λ (r : Reg). get_or (all_terms c.self.inside.inputs hs) r.0 (Input 0)) c.args.outputs.now) in
    IsSmall core × (MAX_COLUMNS < columns core))
    c.as_slice-2.ensures.keys (c.close.ensures.too_many e))
