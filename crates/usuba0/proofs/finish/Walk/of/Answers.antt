use Rattle.std.proofs.Common.{List, get_or, ap, ◌∙◌}
use Rattle.usuba0.specs.declared.circuit.Reg.{Reg}
use Rattle.usuba0.specs.Term.{Term, Input}
use Rattle.usuba0.specs.CoreOfTerms.{first_places, postorder}
use Rattle.usuba0.specs.State.Walk.{all_terms}
use Rattle.usuba0.proofs.AdvanceLemmas.{outputs_more}
use Rattle.usuba0.proofs.finish.Walk.of.Goals as goal

pub loop-output-preserved : goal.loop-output-preserved
loop-output-preserved c =
    let ts = all_terms c.args.inputs c.args.heads.now in
    let rs = c.args.outputs.now in
    let i = c.loop-output.output-index in
    let zero : Reg = record { 0 = 0 } in
    record {
      stands = c.in_ok-visit.ensures.walk;
      same =
          c.in_ok-visit.ensures.order
          ∙ ap (λ (found : List Term). first_places found (postorder (get_or ts (get_or rs i zero).0 (Input 0)))) c.loop-output.invariant.same
          ∙ outputs_more (λ r. get_or ts r.0 (Input 0)) rs i zero c.loop-output-test.true;
    }
