use Rattle.tightprove.specs.Classes.{class_rows}
use Rattle.tightprove.proofs.Leaving.{found_answer}
use Rattle.tightprove.proofs.gathered.Gathered.leaks_in.Goals as goal

pub returns-clause-answer : goal.returns-clause-answer
returns-clause-answer c =
    let classes = c.args.self.now.classes.list.items in
    found_answer classes c.args.i c.args.self.now.classes.columns (class_rows classes c.args.i) (class_rows classes c.args.i) c.in_ok-leak.leak c.is_some.result
    c.is_some.ensures c.in_ok-leak.ensures.answer (λ clean. clean)
