use Rattle.std.proofs.Common.{◌≡◌, ◌<◌, ◌+◌, ◌-◌, [], ◌∷◌, ◌++◌, length, arith, rules}
use Rattle.usuba_planner.proofs.Planning.{own_name, sound_next, number_next, planned_next, planned_all}
use Rattle.usuba_planner.proofs.Sounding.{sound_few}
use Rattle.usuba_planner.proofs.file.plan_backwards.Goals as goal

pub all_definitions-requires : goal.all_definitions-requires
all_definitions-requires c = sound_few c.args.width c.args.defs.now c.requires.sound

pub forget-requires : goal.forget-requires
forget-requires c =
    let number = c.loop-number.number - 1 in
    let next : c.loop-number.number ≡ number + 1 = omega (arith, c.loop-number-test.true) in
    let less : number < length c.args.defs.now = omega (arith, c.loop-number-test.true, c.loop-number.invariant.within) in
    own_name c.args.width c.args.defs.now c.loop-number.number number c.loop-number.earlier next less c.requires.sound c.loop-number.invariant.before

pub plan_marked-requires-clause-sound : goal.plan_marked-requires-clause-sound
plan_marked-requires-clause-sound c =
    let number = c.loop-number.number - 1 in
    let next : c.loop-number.number ≡ number + 1 = omega (arith, c.loop-number-test.true) in
    let less : number < length c.args.defs.now = omega (arith, c.loop-number-test.true, c.loop-number.invariant.within) in
    sound_next c.args.width c.args.defs.now c.loop-number.number number c.loop-number.earlier c.forget.new.self c.index-defs-number.result
    next less c.index-defs-number.is c.requires.sound c.loop-number.invariant.before c.forget.ensures

pub plan_marked-requires-clause-number : goal.plan_marked-requires-clause-number
plan_marked-requires-clause-number c =
    let number = c.loop-number.number - 1 in
    let next : c.loop-number.number ≡ number + 1 = omega (arith, c.loop-number-test.true) in
    let less : number < length c.args.defs.now = omega (arith, c.loop-number-test.true, c.loop-number.invariant.within) in
    number_next c.args.defs.now c.loop-number.number number c.loop-number.earlier c.forget.new.self c.index-defs-number.result next less
    c.index-defs-number.is c.loop-number.invariant.before c.forget.ensures

pub loop-number-preserved : goal.loop-number-preserved
loop-number-preserved c =
    let number = c.loop-number.number - 1 in
    let next : c.loop-number.number ≡ number + 1 = omega (arith, c.loop-number-test.true) in
    let less : number < length c.args.defs.now = omega (arith, c.loop-number-test.true, c.loop-number.invariant.within) in
    let pushed : c.push.new.self.items ≡ c.loop-number.plans.items ++ c.in_ok-plan.plan ∷ [] = search rules in
    planned_next c.args.width c.args.defs.now c.args.entry c.loop-number.number number c.loop-number.earlier c.forget.new.self
    c.loop-number.marks.items c.plan_marked.new.marks.items c.loop-number.plans.items c.push.new.self.items c.index-defs-number.result
    c.in_ok-plan.plan next less c.index-defs-number.is c.requires.sound c.loop-number.invariant c.forget.ensures c.in_ok-plan.ensures pushed

pub returns : goal.returns
returns c =
    let none : c.loop-number.number ≡ 0 = omega (arith, c.loop-number-test.false) in
    planned_all c.args.defs.now c.args.entry c.loop-number.number c.loop-number.earlier c.loop-number.marks.items c.loop-number.plans.items
    none c.loop-number.invariant
