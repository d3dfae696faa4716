use Rattle.std.proofs.Common.{◌≡◌, [], get_or, take, reverse, sym, ◌∙◌}
use Rattle.std.proofs.lemmas.List.{nil_from_length}
use Rattle.ll_reader.specs.declared.grammar.Item.TheVariants.{Token, Rule}
use Rattle.ll_reader.proofs.Reading.{no_memory, few, number_inside, short, starts, popped, popped_none, opened, less, fault_at_end, fault_at_token, fault_at_rule, fault_of_depth, taken, entered, finished}
use Rattle.ll_reader.proofs.reader.read.Goals as goal

pub first_of_rules-starts-requires : goal.first_of_rules-starts-requires
first_of_rules-starts-requires g c = few c.args.table.now c.args.frame g.facts c.requires.0

pub chosen-requires-clause-few : goal.chosen-requires-clause-few
chosen-requires-clause-few g c = few c.args.table.now c.args.frame g.facts c.requires.0

pub loop-at-init : goal.loop-at-init
loop-at-init g c =
    starts c.args.table.now c.args.frame g.facts c.requires.0 c.new-steps.result.items c.new-due.result.items c.push.new.self.items c.push-2.new.self.items c.new-steps.ensures.items c.new-due.ensures.items c.in_ok-push.ensures.items c.in_ok-push-2.ensures.items

pub loop-item-init : goal.loop-item-init
loop-item-init g c =
    entered c.args.table.now c.args.frame g.facts c.requires.0 c.args.classes.now c.loop-at.at c.loop-at-test.true c.loop-at.steps.items (reverse c.loop-at.due.items) c.loop-at.invariant

pub returns-in_err-push-clause-fault : goal.returns-in_err-push-clause-fault
returns-in_err-push-clause-fault g c =
    no_memory c.args.table.now c.args.frame c.args.classes.now c.from_residual.result c.from_residual.ensures.1

pub returns-in_err-push-2-clause-fault : goal.returns-in_err-push-2-clause-fault
returns-in_err-push-2-clause-fault g c =
    no_memory c.args.table.now c.args.frame c.args.classes.now c.from_residual-in_err-push-2.result c.from_residual-in_err-push-2.ensures.1

pub returns-in_err-push-in-Token-clause-fault : goal.returns-in_err-push-in-Token-clause-fault
returns-in_err-push-in-Token-clause-fault g c =
    no_memory c.args.table.now c.args.frame c.args.classes.now c.from_residual-in_err-push-in-Token.result c.from_residual-in_err-push-in-Token.ensures.1

pub returns-in_err-push-in-Rule-clause-fault : goal.returns-in_err-push-in-Rule-clause-fault
returns-in_err-push-in-Rule-clause-fault g c =
    no_memory c.args.table.now c.args.frame c.args.classes.now c.from_residual-in_err-push-in-Rule.result c.from_residual-in_err-push-in-Rule.ensures.1

pub returns-in_err-open-in-Rule-clause-fault : goal.returns-in_err-open-in-Rule-clause-fault
returns-in_err-open-in-Rule-clause-fault g c =
    no_memory c.args.table.now c.args.frame c.args.classes.now c.from_residual-in_err-open-in-Rule.result c.from_residual-in_err-open-in-Rule.ensures.1

pub returns-in_default-clause-fault : goal.returns-in_default-clause-fault
returns-in_default-clause-fault g c =
    let none : c.loop-item.due.items ≡ [] = nil_from_length c.loop-item.due.items (sym c.loop-item.due.ok.0 ∙ c.in_default.ensures.cases.0) in
    fault_at_end c.args.table.now c.args.frame g.facts c.requires.0 c.args.classes.now c.loop-at.at c.loop-at-test.true c.loop-item.steps.items
    (popped_none c.args.table.now c.args.frame g.facts c.requires.0 (get_or c.args.classes.now c.loop-at.at 0) (take c.loop-at.at c.args.classes.now) c.loop-item.steps.items c.loop-item.due.items none c.loop-item.invariant)

pub returns-then-wanted-class-clause-fault : goal.returns-then-wanted-class-clause-fault
returns-then-wanted-class-clause-fault g c =
    fault_at_token c.args.table.now c.args.frame g.facts c.requires.0 c.args.classes.now c.loop-at.at c.loop-at-test.true c.loop-item.steps.items c.in-Token.wanted c.in-Some.depth (reverse c.pop.new.self.items) c.if-wanted-class.true
    (popped c.args.table.now c.args.frame g.facts c.requires.0 (get_or c.args.classes.now c.loop-at.at 0) (take c.loop-at.at c.args.classes.now) c.loop-item.steps.items c.loop-item.due.items c.pop.new.self.items c.in-Some.item (Token c.in-Token.wanted) c.in-Some.depth c.in-Some.ensures.items c.in-Token.is c.loop-item.invariant)

pub returns-in_default-chosen-clause-fault : goal.returns-in_default-chosen-clause-fault
returns-in_default-chosen-clause-fault g c =
    fault_at_rule c.args.table.now c.args.frame g.facts c.requires.0 c.args.classes.now c.loop-at.at c.loop-at-test.true c.loop-item.steps.items c.in-Rule.rule c.in-Some.depth (reverse c.pop.new.self.items) c.in_default-chosen.ensures.none
    (popped c.args.table.now c.args.frame g.facts c.requires.0 (get_or c.args.classes.now c.loop-at.at 0) (take c.loop-at.at c.args.classes.now) c.loop-item.steps.items c.loop-item.due.items c.pop.new.self.items c.in-Some.item (Rule c.in-Rule.rule) c.in-Some.depth c.in-Some.ensures.items c.in-Rule.is c.loop-item.invariant)

pub bounds-table-k : goal.bounds-table-k
bounds-table-k g c =
    number_inside c.args.table.now c.args.frame g.facts c.requires.0 c.in-Rule.rule (get_or c.args.classes.now c.loop-at.at 0) c.in-Some-chosen.k c.in-Some-chosen.ensures.some

pub open-requires-clause-length : goal.open-requires-clause-length
open-requires-clause-length g c =
    short c.args.table.now c.args.frame g.facts c.requires.0 c.in-Rule.rule (get_or c.args.classes.now c.loop-at.at 0) c.in-Some-chosen.k _ c.in-Some-chosen.ensures.some

pub loop-item-smaller : goal.loop-item-smaller
loop-item-smaller g c =
    less c.args.table.now c.args.frame g.facts c.requires.0 (get_or c.args.classes.now c.loop-at.at 0) c.in-Rule.rule c.in-Some.depth c.in-Some-chosen.k _ c.loop-item.due.items c.pop.new.self.items c.open.new.due.items c.in-Some.item c.in-Some-chosen.ensures.some c.in-Some.ensures.items c.in-Rule.is c.in_ok-open-in-Rule.ensures

pub loop-item-preserved : goal.loop-item-preserved
loop-item-preserved g c =
    opened c.args.table.now c.args.frame g.facts c.requires.0 (get_or c.args.classes.now c.loop-at.at 0) (take c.loop-at.at c.args.classes.now) c.loop-item.steps.items c.push-in-Rule.new.self.items c.in-Rule.rule c.in-Some.depth c.in-Some-chosen.k _ (reverse c.pop.new.self.items) c.open.new.due.items c.in-Some-chosen.ensures.some c.in_ok-push-in-Rule.ensures.items c.in_ok-open-in-Rule.ensures
    (popped c.args.table.now c.args.frame g.facts c.requires.0 (get_or c.args.classes.now c.loop-at.at 0) (take c.loop-at.at c.args.classes.now) c.loop-item.steps.items c.loop-item.due.items c.pop.new.self.items c.in-Some.item (Rule c.in-Rule.rule) c.in-Some.depth c.in-Some.ensures.items c.in-Rule.is c.loop-item.invariant)

pub returns-then-depth-frame-clause-fault : goal.returns-then-depth-frame-clause-fault
returns-then-depth-frame-clause-fault g c =
    fault_of_depth c.args.table.now c.args.frame g.facts c.requires.0 c.args.classes.now c.loop-at.at c.loop-at-test.true c.loop-item.steps.items c.in-Token.wanted c.in-Some.depth (reverse c.pop.new.self.items) c.if-wanted-class.false c.if-depth-frame.true
    (popped c.args.table.now c.args.frame g.facts c.requires.0 (get_or c.args.classes.now c.loop-at.at 0) (take c.loop-at.at c.args.classes.now) c.loop-item.steps.items c.loop-item.due.items c.pop.new.self.items c.in-Some.item (Token c.in-Token.wanted) c.in-Some.depth c.in-Some.ensures.items c.in-Token.is c.loop-item.invariant)

pub loop-at-preserved : goal.loop-at-preserved
loop-at-preserved g c =
    taken c.args.table.now c.args.frame g.facts c.requires.0 c.args.classes.now c.loop-at.at c.loop-at-test.true c.loop-item.steps.items c.push-in-Token.new.self.items c.in-Token.wanted c.in-Some.depth (reverse c.pop.new.self.items) c.if-wanted-class.false c.if-depth-frame.false c.in_ok-push-in-Token.ensures.items
    (popped c.args.table.now c.args.frame g.facts c.requires.0 (get_or c.args.classes.now c.loop-at.at 0) (take c.loop-at.at c.args.classes.now) c.loop-item.steps.items c.loop-item.due.items c.pop.new.self.items c.in-Some.item (Token c.in-Token.wanted) c.in-Some.depth c.in-Some.ensures.items c.in-Token.is c.loop-item.invariant)

pub returns-clause-text : goal.returns-clause-text
returns-clause-text g c =
    (finished c.args.table.now c.args.frame g.facts c.requires.0 c.args.classes.now c.requires.1.0 c.loop-at.at c.loop-at.steps.items (reverse c.loop-at.due.items) c.requires.1.1 c.loop-at-test.false c.loop-at.invariant).text

pub returns-clause-shallow : goal.returns-clause-shallow
returns-clause-shallow g c =
    (finished c.args.table.now c.args.frame g.facts c.requires.0 c.args.classes.now c.requires.1.0 c.loop-at.at c.loop-at.steps.items (reverse c.loop-at.due.items) c.requires.1.1 c.loop-at-test.false c.loop-at.invariant).shallow
