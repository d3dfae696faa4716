use Rattle.std.proofs.Common.{◌≡◌, ◌+◌, ◌-◌, reverse, sym, ◌∙◌, arith}
use Rattle.std.proofs.lemmas.Bool.{cond-true, cond-false}
use Rattle.ll_reader.specs.Derivation.{places}
use Rattle.ll_reader.proofs.Opened.{item_more, item_all}
use Rattle.ll_reader.proofs.reader.open.Goals as goal
use Rattle.ll_reader.proofs.reader.open.Goals.{then-production, else-production}

pub loop-at-preserved : goal.loop-at-preserved
loop-at-preserved c =
    let p = c.args.production.now in
    let next : c.loop-at.at ≡ (c.loop-at.at - 1) + 1 = omega (arith, c.loop-at-test.true) in
    item_more (places p.body) c.places-items.result p.length c.loop-at.at (c.loop-at.at - 1) c.if-production.inside _ c.loop-at.due.items c.push.new.self.items (reverse c.args.due.now.items) c.places-items.ensures next c.loop-at.auto.at c.requires.length c.loop-at.invariant c.in_ok-push.ensures.items

pub returns : goal.returns
returns c =
    let p = c.args.production.now in
    let none : c.loop-at.at ≡ 0 = omega (arith, c.loop-at-test.false) in
    item_all p c.args.depth c.if-production.inside c.loop-at.at c.loop-at.due.items (reverse c.args.due.now.items)
    (elim c.if-production.branch [
      | then-production w ↦ w.inside-is ∙ sym (cond-true p.deep (c.args.depth + 1) c.args.depth w.if-production.true)
      | else-production w ↦ w.inside-is ∙ sym (cond-false p.deep (c.args.depth + 1) c.args.depth w.if-production.false)
    ]) none c.loop-at.invariant
