use Rattle.std.proofs.Common.{◌≡◌, ◌++◌, [], ◌∷◌, List, ℕ, Bool, length, ap, sym, subst, ◌∙◌, arith}
use Rattle.tightprove.specs.Classes.{AreClasses, AreByLead, HasInLanes}
use Rattle.tightprove.specs.declared.class.Class.{Class}
use Rattle.tightprove.proofs.Gathering.{class_added, lanes_added, class_of}
use Rattle.tightprove.proofs.Alone.{single_wide, single_leads, single_listed}
use Rattle.tightprove.proofs.classes.add_row.Goals as goal

pub returns-clause-classes : goal.returns-clause-classes
returns-clause-classes c =
    let row = c.args.row.now in
    let rows : c.in_ok-shared.shared ≡ row ∷ [] = c.in_ok-shared.ensures ∙ c.requires.alone in
    let e : c.push.new.self.items ≡ c.args.list.now.items ++ class_of (row ∷ []) [] ∷ [] =
    c.in_ok-push.ensures.items ∙ ap (λ (r : List (List Bool)). c.args.list.now.items ++ class_of r c.new.result ∷ []) rows
    ∙ ap (λ (p : List ℕ). c.args.list.now.items ++ class_of (row ∷ []) p ∷ []) c.new.ensures in
    let P : List Class → Type 0 = λ l. AreClasses (length row) l in
    subst P (sym e) (class_added (length row) c.args.list.now.items (row ∷ []) c.requires.classes (single_wide row) (single_leads row c.args.lead c.requires.lead.1))

pub returns-clause-by_lead : goal.returns-clause-by_lead
returns-clause-by_lead c =
    let row = c.args.row.now in
    let rows : c.in_ok-shared.shared ≡ row ∷ [] = c.in_ok-shared.ensures ∙ c.requires.alone in
    let e : c.push.new.self.items ≡ c.args.list.now.items ++ class_of (row ∷ []) [] ∷ [] =
    c.in_ok-push.ensures.items ∙ ap (λ (r : List (List Bool)). c.args.list.now.items ++ class_of r c.new.result ∷ []) rows
    ∙ ap (λ (p : List ℕ). c.args.list.now.items ++ class_of (row ∷ []) p ∷ []) c.new.ensures in
    let P : List Class → Type 0 = λ l. AreByLead l c.add_to_lanes.new.table.items in
    let R : ℕ → Type 0 = λ n. HasInLanes (c.args.lead ∷ []) n c.args.by_lead.now.items c.add_to_lanes.new.table.items in
    let count : c.len.result ≡ length c.args.list.now.items = omega (arith, c.len.ensures) in
    subst P (sym e) (lanes_added c.args.list.now.items (row ∷ []) (c.args.lead ∷ []) c.args.by_lead.now.items c.add_to_lanes.new.table.items c.requires.by_lead
    (subst R count c.in_ok-add_to_lanes.ensures.lanes) (single_listed row c.args.lead c.requires.lead.1))
