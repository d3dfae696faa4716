use Rattle.std.proofs.Common.{◌≡◌, ◌++◌, [], ◌∷◌, List, length, subst, arith}
use Rattle.span_model.specs.Columns.{set_of}
use Rattle.gf2_span.specs.Basis.{row_sets}
use Rattle.tightprove.specs.Classes.{IsLeakOf}
use Rattle.tightprove.specs.Tasks.{IsDone, LeaksArePending}
use Rattle.tightprove.specs.declared.tasks.Task.{Task}
use Rattle.tightprove.proofs.Calls.{none_then, empty_list}
use Rattle.tightprove.proofs.tasks.leak_among.Goals as goal

pub loop-task-preserved : goal.loop-task-preserved
loop-task-preserved c =
    let Done : Type 0 = IsDone c.args.classes.now.list.items c.args.classes.now.columns (c.pop.new.self.items ++ c.in-Some.task ∷ []) c.do_task.new.tasks.items in
    let done : Done = none_then c.in_ok-found.found c.is_some.result Done (λ leak. (length leak ≡ c.args.classes.now.columns) × IsLeakOf c.args.classes.now.list.items (set_of leak)) c.is_some.ensures c.if-is_some.false c.in_ok-found.ensures.answer in
    let P : List Task → Type 0 = λ t. LeaksArePending c.args.classes.now.list.items (row_sets c.args.candidates) t in
    record {
      columns = c.in_ok-found.ensures.scratch;
      known = c.in_ok-found.ensures.known;
      tasks = done.columns;
      order = done.order;
      pending = done.pending (row_sets c.args.candidates) (subst P c.in-Some.ensures.items c.loop-task.invariant.pending);
    }

pub returns-clause-answer : goal.returns-clause-answer
returns-clause-answer c =
    let P : List Task → Type 0 = λ t. LeaksArePending c.args.classes.now.list.items (row_sets c.args.candidates) t in
    let none : c.loop-task.tasks.items ≡ [] = empty_list c.loop-task.tasks.items (omega (arith, c.in_default.ensures.cases.0)) in
    subst P none c.loop-task.invariant.pending
