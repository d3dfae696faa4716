use Rattle.std.proofs.Common.{◌≡◌, ◌<◌, ◌++◌, ℕ, List, length, get_or, take, drop, sym, ap, subst, ◌∙◌, arith}
use Rattle.std.proofs.lemmas.List.{get_or_default, take_at}
use Rattle.tightprove.specs.Private.Affine.{AreMapped, AreRests, HasEnded}
use Rattle.tightprove.specs.declared.class.Class.{Class}
use Rattle.tightprove.proofs.Calls.{of_true}
use Rattle.tightprove.proofs.Clearing.{rests_start, rests_mapped, rests_length, rests_clean}
use Rattle.tightprove.proofs.affine.is_apart_by_rests.Goals as goal

pub rounds-init : goal.rounds-init
rounds-init c = record {
  rests = rests_start c.args.classes.now.list.items c.args.images.now c.extend_from_slice.new.self.items c.requires.images
      (c.in_ok-extend_from_slice.ensures.items ∙ ap (λ (xs : List ℕ). xs ++ c.as_slice.result.now) c.new-rests.ensures.items ∙ c.as_slice.ensures.value);
  steps = c.requires.steps;
}

pub returns-then-have_ended-clause-apart : goal.returns-then-have_ended-clause-apart
returns-then-have_ended-clause-apart c =
    let classes : List Class = c.args.classes.now.list.items in
    let rests : List ℕ = c.rounds.rests.items in
    let within : c.args.i < length c.rounds.rests.items = omega (arith, rests_length classes rests c.rounds.invariant.rests, c.requires.i) in
    let is : c.index.result.now ≡ get_or c.rounds.rests.items c.args.i 0 =
    c.index.ensures ∙ get_or_default c.rounds.rests.items c.args.i c.index.result.now 0 within in
    rests_clean classes c.args.i rests c.rounds.invariant.rests c.requires.classes.classes.partners c.requires.i
    (subst (λ (xs : List ℕ). (k : ℕ) → k < length xs → HasEnded classes xs c.args.i k) c.as_slice-in-rounds.ensures.value
    (of_true c.have_ended.result _ c.if-have_ended.true c.have_ended.ensures))
    (omega arith)

pub rounds-preserved : goal.rounds-preserved
rounds-preserved c =
    let classes : List Class = c.args.classes.now.list.items in
    let new : List ℕ = c.take_all.new.rests in
    let written : take c.rounds.rests.len (c.take_all.new.rests ++ drop (length c.take_all.new.rests) c.rounds.rests.items) ≡ c.take_all.new.rests =
    take_at c.take_all.new.rests _ c.rounds.rests.len (omega (arith, c.take_all.auto.rests, c.as_mut_slice.ensures.len)) in
    record {
      rests = subst (λ (xs : List ℕ). AreRests c.args.classes.now.list.items xs) (sym written)
          (rests_mapped classes c.rounds.rests.items new c.rounds.invariant.rests
          (subst (λ (xs : List ℕ). AreMapped xs c.take_all.new.rests) c.as_mut_slice.ensures.value c.in_ok-take_all.ensures.mapped));
      steps = c.in_ok-take_all.ensures.steps;
    }
