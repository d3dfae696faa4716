use Rattle.std.proofs.Common.{◌≡◌, ◌+◌, ◌<◌, ◌++◌, [], ◌∷◌, List, ℕ, length, get_or, set, take, ap, sym, subst, ◌∙◌, arith}
use Rattle.std.proofs.lemmas.List.{get_or_default, length-set}
use Rattle.tightprove.specs.Classes.{HasInLanes}
use Rattle.tightprove.proofs.Gathering.{lanes_more}
use Rattle.tightprove.proofs.classes.add_to_lanes.Goals as goal

pub loop-lead-preserved : goal.loop-lead-preserved
loop-lead-preserved c =
    let lead : ℕ = get_or c.args.leads.now c.loop-lead.lead-index 0 in
    let lt : c.loop-lead.lead-index < length c.args.leads.now = c.loop-lead-test.true in
    let at : lead < length c.args.table.now.items = c.requires c.loop-lead.lead-index 0 lt in
    let within : lead < length c.loop-lead.table.items = omega (arith, at, c.loop-lead.invariant.width) in
    let was : c.index_mut.result.now ≡ get_or c.loop-lead.table.items lead [] = c.index_mut.ensures.value ∙ get_or_default c.loop-lead.table.items lead c.index_mut.result.now [] within in
    let e : c.push.new.self ≡ get_or c.loop-lead.table.items lead [] ++ c.args.n ∷ [] = c.in_ok-push.ensures.ok ∙ ap (λ (x : List ℕ). x ++ c.args.n ∷ []) was in
    let P : List ℕ → Type 0 = λ x. HasInLanes (take (c.loop-lead.lead-index + 1) c.args.leads.now) c.args.n c.args.table.now.items (set c.loop-lead.table.items lead x) in
    record {
      width = length-set c.loop-lead.table.items lead c.push.new.self ∙ c.loop-lead.invariant.width;
      lanes = subst P (sym e) (lanes_more c.args.leads.now c.loop-lead.lead-index lead c.args.n c.args.table.now.items c.loop-lead.table.items lt
          (get_or_default c.args.leads.now c.loop-lead.lead-index 0 lead lt) within c.loop-lead.invariant.lanes);
    }
