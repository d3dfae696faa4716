use Rattle.std.proofs.Common.{◌≡◌, ◌<◌, ◌++◌, List, ℕ, Bool, get_or, sym, subst, ◌∙◌}
use Rattle.gf2_span.specs.Basis.{row_sets}
use Rattle.tightprove.specs.Classes.{AreNear}
use Rattle.tightprove.specs.Growth.{HoldsNoMore, left_over}
use Rattle.tightprove.specs.declared.growth.Growth.{Growth}
use Rattle.tightprove.proofs.Passes.{GrowPassed, grow_takes, grow_skips, grow_ends}
use Rattle.tightprove.proofs.Taking.{when_true, when_false}
use Rattle.tightprove.proofs.growth.grow_pass.Goals as goal
use Rattle.tightprove.proofs.growth.grow_pass.Goals.{then-branch, else-branch}

pub loop-i-preserved : goal.loop-i-preserved
loop-i-preserved c =
    let near : List ℕ = c.deref-i-items.result.now in
    let took : Bool = c.in_ok-take_if_holds.field-0 in
    let More : Type 0 = left_over c.take_if_holds.new.growth < left_over c.loop-i.growth in
    let Same : Type 0 = (c.take_if_holds.new.growth ≡ c.loop-i.growth) × HoldsNoMore c.args.classes.now.list.items c.args.candidates.now c.take_if_holds.new.growth (get_or near c.loop-i.i-index 0) in
    record {
      growth = c.in_ok-take_if_holds.ensures.growth;
      grown = c.in_ok-take_if_holds.ensures.grown;
      columns = c.in_ok-take_if_holds.ensures.scratch ∙ c.loop-i.invariant.columns;
      passed = elim c.if-branch.branch [
        | then-branch w ↦ rw w.grew-is (grow_takes c.args.classes.now.list.items c.args.candidates.now near c.loop-i.i-index c.args.growth.now c.loop-i.growth c.take_if_holds.new.growth c.loop-i.grew
            c.loop-i.invariant.passed (when_true took More Same w.if-branch.true c.in_ok-take_if_holds.ensures.answer))
        | else-branch w ↦
            let one : Same = when_false took More Same w.if-branch.false c.in_ok-take_if_holds.ensures.answer in
            let P : Growth → Type 0 = λ g. GrowPassed c.args.classes.now.list.items c.args.candidates.now near c.loop-i.i-index c.args.growth.now c.loop-i.grew g in
            rw w.grew-is (grow_skips c.args.classes.now.list.items c.args.candidates.now near c.loop-i.i-index c.args.growth.now c.take_if_holds.new.growth c.loop-i.grew
            (subst P (sym one.0) c.loop-i.invariant.passed) one.1)
      ];
    }

pub returns-clause-answer : goal.returns-clause-answer
returns-clause-answer c =
    let P : List ℕ → Type 0 = λ xs. AreNear c.args.classes.now.list.items (row_sets c.args.growth.now.rest ++ row_sets c.args.growth.now.span) (row_sets c.args.growth.now.span) xs in
    grow_ends c.args.classes.now.list.items c.args.candidates.now c.deref-i-items.result.now c.loop-i.i-index c.args.growth.now c.loop-i.growth c.loop-i.grew c.loop-i.invariant.passed c.loop-i-test.false
    c.loop-i.invariant.growth (subst P (sym c.deref-i-items.ensures.value) c.in_ok-near.ensures) c.requires.outside
