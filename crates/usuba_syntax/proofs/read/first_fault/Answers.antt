use Rattle.std.proofs.Common.{ap, arith}
use Rattle.usuba_syntax.proofs.Faults.{syntax_told, deep_told, first_big, first_syntax, first_deep, same_first_fault}
use Rattle.usuba_syntax.specs.declared.read.ReadFault.TheVariants as error
use Rattle.usuba_syntax.proofs.read.first_fault.Goals as goal

pub returns-in-Some : goal.returns-in-Some
returns-in-Some c =
    let s = syntax_told c.args.tokens.now c.args.ending c.args.error c.in-Syntax.at c.requires c.in-Syntax.is in
    let within = c.in-Some.ensures.within in
    same_first_fault c.args.tokens.now c.args.ending c.too_big_at.ensures
    (first_big c.args.tokens.now c.args.ending c.in-Some.big (λ j h. s.sound j (omega arith)) c.in-Some.ensures.first c.in-Some.ensures.some)

pub returns-in-None : goal.returns-in-None
returns-in-None c =
    let s = syntax_told c.args.tokens.now c.args.ending c.args.error c.in-Syntax.at c.requires c.in-Syntax.is in
    same_first_fault c.args.tokens.now c.args.ending (ap error.Syntax c.place_at.ensures)
    (first_syntax c.args.tokens.now c.args.ending c.in-Syntax.at s c.in-None.ensures.none)

pub returns-in-Some-too_big_up_to : goal.returns-in-Some-too_big_up_to
returns-in-Some-too_big_up_to c =
    let s = deep_told c.args.tokens.now c.args.ending c.args.error c.in-TooDeep.at c.requires c.in-TooDeep.is in
    let within = c.in-Some-too_big_up_to.ensures.within in
    same_first_fault c.args.tokens.now c.args.ending c.too_big_at-in-Some-too_big_up_to.ensures
    (first_big c.args.tokens.now c.args.ending c.in-Some-too_big_up_to.big (λ j h. s.sound j (omega arith)) c.in-Some-too_big_up_to.ensures.first c.in-Some-too_big_up_to.ensures.some)

pub returns-in-None-too_big_up_to : goal.returns-in-None-too_big_up_to
returns-in-None-too_big_up_to c =
    let s = deep_told c.args.tokens.now c.args.ending c.args.error c.in-TooDeep.at c.requires c.in-TooDeep.is in
    same_first_fault c.args.tokens.now c.args.ending (ap error.TooDeep c.place_at-in-None-too_big_up_to.ensures)
    (first_deep c.args.tokens.now c.args.ending c.in-TooDeep.at s c.in-None-too_big_up_to.ensures.none)
