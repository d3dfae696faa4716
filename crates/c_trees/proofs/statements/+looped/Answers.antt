use Rattle.std.proofs.Common.{◌≡◌, ◌-◌, length, refl, sym, ◌∙◌, subst, arith}
use Rattle.std.specs.Prelude.{IfOk}
use Rattle.c_trees.proofs.Choosing.{by_word, by_for, by_other, goes_on, is_closed}
use Rattle.c_trees.proofs.Looping.{step, stop}
use Rattle.c_trees.specs.State.Making.{closes, stmt_of}
use Rattle.c_trees.proofs.statements.+looped.Goals as goal

pub statement-returns-in-Word : goal.statement-returns-in-Word
statement-returns-in-Word t c =
    let same = by_word c.args.loops c.args.text.now (sym c.first_of.ensures ∙ c.in-Word.is) in
    subst (λ x. IfOk c.declaration.result (λ made. (made.0, made.1.now) ≡ x)) same c.declaration.ensures

pub statement-returns-else-loops-eq0 : goal.statement-returns-else-loops-eq0
statement-returns-else-loops-eq0 t c =
    let same = by_for c.args.loops c.args.text.now (omega (arith, c.if-loops-eq0.false)) (sym c.first_of.ensures ∙ c.in-For.is) in
    subst (λ x. IfOk c.inner.result (λ made. (made.0, made.1.now) ≡ x)) same c.inner.ensures

pub statement-returns-in_default : goal.statement-returns-in_default
statement-returns-in_default t c =
    let same = by_other c.args.loops c.args.text.now c.first_of.result c.first_of.ensures c.in_default.not-Word c.in_default.not-For in
    subst (λ x. IfOk c.assignment.result (λ made. (made.0, made.1.now) ≡ x)) same c.assignment.ensures

pub statements-returns-in-Close : goal.statements-returns-in-Close
statements-returns-in-Close t c =
    stop closes (stmt_of c.args.loops) (length c.args.text.now - c.loop.counter) c.loop.made c.loop.rest.now _
    (is_closed c.loop.rest.now c.first_of.result c.first_of.ensures c.in-Close.is) c.loop.invariant.so_far

pub statements-loop-preserved : goal.statements-loop-preserved
statements-loop-preserved t c = record {
  so_far = step closes (stmt_of c.args.loops) (length c.args.text.now) c.loop.counter c.loop.made c.push.new.self c.loop.rest.now
      c.in_ok-item.behind.now c.in_ok-item.item _ c.loop-test.true
      (goes_on c.loop.rest.now c.first_of.result c.first_of.ensures c.in_default.not-Close) c.in_ok-item.ensures c.in_ok-push.ensures.ok
      c.loop.invariant.so_far;
  end = refl;
}
