use Rattle.std.proofs.Common.{◌<◌, length, arith}
use Rattle.tightprove.proofs.Gathering.{classes_paired, steps_more}
use Rattle.tightprove.proofs.gathered.pair.Goals as goal

pub returns-clause-classes : goal.returns-clause-classes
returns-clause-classes c columns are =
    let old = c.args.list.now.items in
    let mid = c.add_partner.new.list.items in
    let inside : c.args.place.left < length mid = omega (arith, c.requires.left, c.in_ok-add_partner.ensures.length) in
    classes_paired columns mid c.add_partner-2.new.list.items c.args.place.right c.args.place.left
    (classes_paired columns old mid c.args.place.left c.args.place.right are c.in_ok-add_partner.ensures.partners c.requires.right
    c.in_ok-add_partner.ensures.length c.in_ok-add_partner.ensures.rows)
    c.in_ok-add_partner-2.ensures.partners inside c.in_ok-add_partner-2.ensures.length c.in_ok-add_partner-2.ensures.rows

pub returns-clause-steps : goal.returns-clause-steps
returns-clause-steps c n products left right steps =
    steps_more n products c.args.list.now.items c.add_partner.new.list.items c.add_partner-2.new.list.items c.args.place.left c.args.place.right steps
    c.in_ok-add_partner.ensures.partners c.in_ok-add_partner-2.ensures.partners c.in_ok-add_partner.ensures.rows c.in_ok-add_partner-2.ensures.rows left right
