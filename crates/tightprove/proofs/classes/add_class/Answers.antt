use Rattle.std.proofs.Common.{◌≡◌, ◌<◌, ◌++◌, [], ◌∷◌, List, ℕ, Bool, length, get_or, ap, sym, subst, ◌∙◌, arith}
use Rattle.std.specs.List.{Contains}
use Rattle.span_model.specs.Columns.{set_of}
use Rattle.gf2_span.specs.Rows.{IsLast}
use Rattle.tightprove.specs.Classes.{AreClasses, AreByLead, HasInLanes}
use Rattle.tightprove.specs.declared.class.Class.{Class}
use Rattle.tightprove.proofs.Gathering.{class_added, lanes_added, class_of}
use Rattle.tightprove.proofs.classes.add_class.Goals as goal

pub returns-clause-classes : goal.returns-clause-classes
returns-clause-classes c =
    let e : c.push.new.self.items ≡ c.args.list.now.items ++ class_of c.args.span.rows [] ∷ [] =
    c.in_ok-push.ensures.items ∙ ap (λ (r : List (List Bool)). c.args.list.now.items ++ class_of r c.new-2.result ∷ []) (c.in_ok-rows.ensures ∙ c.from_vec.ensures ∙ c.into_rows.ensures)
    ∙ ap (λ (p : List ℕ). c.args.list.now.items ++ class_of c.args.span.rows p ∷ []) c.new-2.ensures in
    let P : List Class → Type 0 = λ l. AreClasses c.args.span.columns l in
    subst P (sym e) (class_added c.args.span.columns c.args.list.now.items c.args.span.rows c.requires.classes c.in_ok-leads_of.ensures.wide c.in_ok-leads_of.ensures.own)

pub returns-clause-by_lead : goal.returns-clause-by_lead
returns-clause-by_lead c =
    let e : c.push.new.self.items ≡ c.args.list.now.items ++ class_of c.args.span.rows [] ∷ [] =
    c.in_ok-push.ensures.items ∙ ap (λ (r : List (List Bool)). c.args.list.now.items ++ class_of r c.new-2.result ∷ []) (c.in_ok-rows.ensures ∙ c.from_vec.ensures ∙ c.into_rows.ensures)
    ∙ ap (λ (p : List ℕ). c.args.list.now.items ++ class_of c.args.span.rows p ∷ []) c.new-2.ensures in
    let P : List Class → Type 0 = λ l. AreByLead l c.add_to_lanes.new.table.items in
    let Q : List ℕ → Type 0 = λ xs. (k n : ℕ) → k < length c.args.span.rows → IsLast (set_of (get_or c.args.span.rows k [])) n → Contains xs n in
    let R : ℕ → Type 0 = λ n. HasInLanes c.deref.result.now n c.args.by_lead.now.items c.add_to_lanes.new.table.items in
    let count : c.len.result ≡ length c.args.list.now.items = omega (arith, c.len.ensures) in
    subst P (sym e) (lanes_added c.args.list.now.items c.args.span.rows c.deref.result.now c.args.by_lead.now.items c.add_to_lanes.new.table.items c.requires.by_lead
    (subst R count c.in_ok-add_to_lanes.ensures.lanes) (subst Q (sym c.deref.ensures.value) c.in_ok-leads_of.ensures.leads))
