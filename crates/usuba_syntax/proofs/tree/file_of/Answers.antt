use Rattle.std.proofs.Common.{◌≡◌, length, arith}
use Rattle.usuba_syntax.proofs.Evaluation.{midway_at_first, ready_next, done_next, file_at_last, empty_by, is_file_on_top, file_on_top}
use Rattle.usuba_syntax.proofs.tree.file_of.Goals as goal

pub loop-step-init : goal.loop-step-init
loop-step-init c = rw c.new-parts.ensures (midway_at_first c.args.steps.items c.args.tokens c.requires.derives)

pub do_step-requires : goal.do_step-requires
do_step-requires c =
    let moved = rw c.in-Some.ensures.items at c.loop-step.invariant in
    ready_next c.args.steps.items c.args.tokens c.requires.derives c.pop.new.self.items c.in-Some.step c.loop-step.before c.loop-step.parts c.requires.valued moved

pub loop-step-preserved : goal.loop-step-preserved
loop-step-preserved c =
    let moved = rw c.in-Some.ensures.items at c.loop-step.invariant in
    done_next c.args.steps.items c.args.tokens c.requires.derives c.pop.new.self.items c.in-Some.step c.loop-step.before c.do_step.new.tokens c.loop-step.parts c.do_step.new.parts moved c.in_ok-do_step.ensures

-- all steps are done, so the part that is left is the file
pub pop_file-requires : goal.pop_file-requires
pop_file-requires c =
    let n : 0 ≡ length c.loop-step.left.items = omega (arith, c.loop-step.left.ok.0, c.in_default.ensures.cases.0) in
    let none = empty_by c.loop-step.left.items n in
    let last = rw none at c.loop-step.invariant in
    let r = file_at_last c.args.steps.items c.args.tokens c.requires.derives c.loop-step.before c.loop-step.parts last in
    is_file_on_top c.loop-step.parts r.0 r.2

pub returns : goal.returns
returns c =
    let n : 0 ≡ length c.loop-step.left.items = omega (arith, c.loop-step.left.ok.0, c.in_default.ensures.cases.0) in
    let none = empty_by c.loop-step.left.items n in
    let last = rw none at c.loop-step.invariant in
    let r = file_at_last c.args.steps.items c.args.tokens c.requires.derives c.loop-step.before c.loop-step.parts last in
    file_on_top c.args.tokens c.loop-step.parts c.pop_file.new.self r.0 c.pop_file.result r.1 r.2 c.pop_file.ensures
