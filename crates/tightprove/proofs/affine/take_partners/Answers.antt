use Rattle.std.proofs.Common.{◌<◌, length, get_or, arith}
use Rattle.std.proofs.lemmas.List.Elements.{Contains-get_or, All-push}
use Rattle.tightprove.specs.Classes.{IsPartner}
use Rattle.tightprove.proofs.Clearing.{mapped_none, mapped_twice}
use Rattle.tightprove.proofs.affine.take_partners.Goals as goal
use Rattle.tightprove.proofs.affine.take_partners.Goals.{then-rest-ne0+in_ok-push, else-rest-ne0}

pub bounds-rests-j : goal.bounds-rests-j
bounds-rests-j c =
    let lt : get_or c.args.partners.now c.loop-j.j-index 0 < length c.args.rests.now =
    c.requires (get_or c.args.partners.now c.loop-j.j-index 0) (Contains-get_or c.args.partners.now c.loop-j.j-index 0 c.loop-j-test.true) in
    omega (arith, lt, c.loop-j.auto.rests)

pub offset_bounds-rests-j : goal.offset_bounds-rests-j
offset_bounds-rests-j c =
    let lt : get_or c.args.partners.now c.loop-j.j-index 0 < length c.args.rests.now =
    c.requires (get_or c.args.partners.now c.loop-j.j-index 0) (Contains-get_or c.args.partners.now c.loop-j.j-index 0 c.loop-j-test.true) in
    omega (arith, lt, c.loop-j.auto.rests)

pub loop-j-init : goal.loop-j-init
loop-j-init c = record { mapped = mapped_none c.args.rests.now; steps = λ classes each all. all }

pub loop-j-preserved : goal.loop-j-preserved
loop-j-preserved c = elim c.if-rest-ne0.branch [
  | then-rest-ne0+in_ok-push w ↦ rw w.rests-is (rw w.steps-is (record {
    mapped = mapped_twice c.args.rests.now c.loop-j.rests w.take_rest.new.rests c.loop-j.invariant.mapped w.take_rest.ensures;
    steps = λ classes each all. rw w.in_ok-push.ensures.items
        (All-push (λ step. IsPartner classes step.from step.to) c.loop-j.steps.items (record { from = c.args.from; to = get_or c.args.partners.now c.loop-j.j-index 0 })
        (c.loop-j.invariant.steps classes each all)
        (each (get_or c.args.partners.now c.loop-j.j-index 0) (Contains-get_or c.args.partners.now c.loop-j.j-index 0 c.loop-j-test.true)));
  }))
  | else-rest-ne0 w ↦ rw w.rests-is (rw w.steps-is c.loop-j.invariant)
]
