use Rattle.std.proofs.Common.{◌<◌, length, refl, subst, arith}
use Rattle.span_model.specs.Span.{SameSpan}
use Rattle.span_model.specs.Attack.{product_at}
use Rattle.span_model.specs.Closure.{operand}
use Rattle.linear_view.specs.Sides.{step_of}
use Rattle.linear_view.specs.declared.operand.Operand.{Operand}
use Rattle.linear_view.specs.View.{products_of}
use Rattle.tightprove.specs.Classes.{class_rows, AreClasses, AreByLead, ArePlaced}
use Rattle.tightprove.proofs.Gathering.{product_added, classes_paired, lanes_paired}
use Rattle.tightprove.proofs.Placing.{placed_paired}
use Rattle.tightprove.proofs.classes.add_numbered.Goals as goal

pub returns-clause-steps : goal.returns-clause-steps
returns-clause-steps c steps =
    let products = products_of c.args.view.now in
    let one = product_at products c.args.k in
    product_added c.args.k (length c.args.view.now.columns) products c.args.list.now.items c.place_operand.new.list.items c.place_operand-2.new.list.items c.add_partner.new.list.items c.add_partner-2.new.list.items c.in_ok-i.i c.in_ok-j.j one.left one.right
    c.requires.classes c.in_ok-i.ensures.kept c.in_ok-i.ensures.classes c.in_ok-j.ensures.kept c.in_ok-i.ensures.number.0 c.in_ok-i.ensures.number.1
    (subst (λ (o : Operand). SameSpan (class_rows c.place_operand-2.new.list.items c.in_ok-j.j) (operand products (step_of o))) c.other.ensures
    c.in_ok-j.ensures.number.1)
    c.in_ok-add_partner.ensures.partners c.in_ok-add_partner-2.ensures.partners c.in_ok-add_partner.ensures.rows c.in_ok-add_partner-2.ensures.rows refl steps

pub returns-clause-classes : goal.returns-clause-classes
returns-clause-classes c =
    let columns = length c.args.view.now.columns in
    let three : AreClasses columns c.add_partner.new.list.items =
    classes_paired columns c.place_operand-2.new.list.items c.add_partner.new.list.items c.in_ok-i.i c.in_ok-j.j c.in_ok-j.ensures.classes c.in_ok-add_partner.ensures.partners c.in_ok-j.ensures.number.0 c.in_ok-add_partner.ensures.length c.in_ok-add_partner.ensures.rows in
    let at : c.in_ok-i.i < length c.add_partner.new.list.items = omega (arith, c.in_ok-i.ensures.number.0, c.in_ok-j.ensures.kept.count, c.in_ok-add_partner.ensures.length) in
    classes_paired columns c.add_partner.new.list.items c.add_partner-2.new.list.items c.in_ok-j.j c.in_ok-i.i three c.in_ok-add_partner-2.ensures.partners at c.in_ok-add_partner-2.ensures.length c.in_ok-add_partner-2.ensures.rows

pub returns-clause-by_lead : goal.returns-clause-by_lead
returns-clause-by_lead c =
    let three : AreByLead c.add_partner.new.list.items c.place_operand-2.new.by_lead.items =
    lanes_paired c.place_operand-2.new.list.items c.add_partner.new.list.items c.place_operand-2.new.by_lead.items c.in_ok-j.ensures.by_lead c.in_ok-add_partner.ensures.length c.in_ok-add_partner.ensures.rows in
    lanes_paired c.add_partner.new.list.items c.add_partner-2.new.list.items c.place_operand-2.new.by_lead.items three c.in_ok-add_partner-2.ensures.length c.in_ok-add_partner-2.ensures.rows

pub returns-clause-placed : goal.returns-clause-placed
returns-clause-placed c =
    let products = products_of c.args.view.now in
    let placed = c.place_operand-2.new.placed.items in
    let three : ArePlaced products c.add_partner.new.list.items placed =
    placed_paired products c.place_operand-2.new.list.items c.add_partner.new.list.items placed c.in_ok-add_partner.ensures.length c.in_ok-add_partner.ensures.rows c.in_ok-j.ensures.placed in
    placed_paired products c.add_partner.new.list.items c.add_partner-2.new.list.items placed c.in_ok-add_partner-2.ensures.length c.in_ok-add_partner-2.ensures.rows three
