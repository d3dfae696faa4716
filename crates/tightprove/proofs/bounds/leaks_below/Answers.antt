use Rattle.tightprove.specs.Private.Gathered.{marks_of, beyond}
use Rattle.tightprove.proofs.Leaving.{below_answer}
use Rattle.tightprove.proofs.bounds.leaks_below.Goals as goal

pub returns-clause-answer : goal.returns-clause-answer
returns-clause-answer c products is =
    below_answer c.leaks_are_closed.ensures products c.args.gathered.now c.leave_out.new.self (beyond (marks_of c.args.set.now) c.args.bound) c.args.i c.in_ok-leaks.leaks
    (c.in_ok-leave_out.ensures.products products is) c.in_ok-leave_out.ensures.rows c.in_ok-leaks.ensures.answer
