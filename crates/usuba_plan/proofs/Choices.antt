-- The plan of a definition that can be run, by its kind.
use Rattle.std.proofs.Common.{◌≡◌, ℕ, ◌+◌, ◌*◌, ◌^◌, ◌<◌, ◌≤◌, List, length, get_or, Option, Some, Result, Ok, Err, sym, ap, ◌∙◌, subst}
use Rattle.std.specs.Prelude.{slice_get, IsSome, IfOk, OnOk, is_ok, if◌then◌else◌}
use Rattle.std.proofs.lemmas.Option.{get_or_from_slice_get, slice_get_within}
use Rattle.usuba_trees.specs.declared.Def.{Def}
use Rattle.usuba_model.specs.Rounds.{looked_up, permuted}
use Rattle.usuba_model.specs.Walk.{signature}
use Rattle.usuba_plan.specs.Fit.{inputs_of, TableFits, PlanFits}
use Rattle.usuba_plan.specs.Made.{entries_of, made_by, made_by_node, made_below, plan_outcome}
use Rattle.usuba_plan.specs.Room.{order_room, room_by, room_of, room_below, plan_room}
use Rattle.usuba_plan.specs.Running.{CanRun}
use Rattle.usuba_plan.specs.State.Runs.{CanRunNode}
use Rattle.usuba_plan.specs.Store.{Store, meanings}
use Rattle.usuba_plan.specs.declared.plans.NodePlan.{NodePlan}
use Rattle.usuba_plan.specs.declared.plans.Plan.{Plan}
use Rattle.usuba_plan.specs.declared.plans.Plan.TheVariants as plan
use Rattle.usuba_plan.proofs.Callees.{made_there}
use Rattle.usuba_plan.proofs.Picking.{false_true}

-- what holds of a value that is there, from what holds of it
pub if_ok : {T E : Type 0} (r : Result T E) (P Q : T → Type 0) → ((x : T) → P x → Q x) → IfOk r P → IfOk r Q
if_ok (Ok x) P Q f p = f x p
if_ok (Err e) P Q f p = p

pub if_extended : {T E A : Type 0} (r : Result T E) (items a b : A) (P : A → Type 0) → items ≡ (if is_ok r then a else b) → P a → OnOk r (P items)
if_extended (Ok x) items a b P is p = subst P (sym is) p
if_extended (Err e) items a b P is p = tt

module _ {H V : Type 0} (s : Store H V) (defs : List Def) (plans : List Plan) (number : ℕ) (inputs : List H) (can : CanRun s defs plans number inputs)
    (r : Plan) (r_is : r ≡ get_or plans number r) where
  -- the plan and the definition at the number
  pub record Chosen : Type 0 where
    pub d : Def
    pub of_plans : slice_get plans number ≡ Some r
    pub of_defs : slice_get defs number ≡ Some d
    pub outcome : plan_outcome s.operators defs plans number (meanings s inputs)
        ≡ made_by s.operators (made_below s.operators defs plans number) r d (meanings s inputs)
    pub room : plan_room defs plans number ≡ room_by (room_below defs plans number) r d
    pub fits : PlanFits s.width defs r d
    pub count : length inputs ≡ (signature d).inputs

  pub chosen : Chosen
  chosen =
      let there = made_there defs plans s.operators (meanings s inputs) number can.makes in
      let same : there.0 ≡ r = sym (get_or_from_slice_get plans number there.0 r there.2) ∙ sym r_is in
      let of_plans : slice_get plans number ≡ Some r = there.2 ∙ ap (λ (p : Plan). Some p) same in
      record {
        d = there.1;
        of_plans = of_plans;
        of_defs = there.3;
        outcome = there.4 ∙ ap (λ (p : Plan). made_by s.operators (made_below s.operators defs plans number) p there.1 (meanings s inputs)) same;
        room =
            ap (λ (o : Option Plan). room_of (room_below defs plans number) o (slice_get defs number)) of_plans
            ∙ ap (λ (o : Option Def). room_of (room_below defs plans number) (Some r) o) there.3;
        fits = can.fits number r there.1 of_plans there.3;
        count = can.count ∙ ap (λ (o : Option Def). inputs_of o) there.3;
      }

  pub defs_within : number < length defs
  defs_within = slice_get_within defs number chosen.d chosen.of_defs

  pub def_is : (d : Def) → d ≡ get_or defs number d → chosen.d ≡ d
  def_is d is = sym (get_or_from_slice_get defs number chosen.d d chosen.of_defs) ∙ sym is

  pub can_node : (node : NodePlan) → r ≡ plan.Node node → CanRunNode s defs plans number node inputs
  can_node node is = record {
    fits = can.fits;
    node_fits = subst (λ (p : Plan). PlanFits s.width defs p chosen.d) is chosen.fits;
    held = can.held;
    room = subst (λ (n : ℕ). n ≤ s.room) (chosen.room ∙ ap (λ (p : Plan). room_by (room_below defs plans number) p chosen.d) is) can.room;
    makes = subst (λ (o : Option (List V)). IsSome o)
        (chosen.outcome ∙ ap (λ (p : Plan). made_by s.operators (made_below s.operators defs plans number) p chosen.d (meanings s inputs)) is) can.makes;
  }

  pub node_outcome : (node : NodePlan) → r ≡ plan.Node node
      → plan_outcome s.operators defs plans number (meanings s inputs)
      ≡ made_by_node s.operators (made_below s.operators defs plans number) node (meanings s inputs)
  node_outcome node is =
      chosen.outcome ∙ ap (λ (p : Plan). made_by s.operators (made_below s.operators defs plans number) p chosen.d (meanings s inputs)) is

  pub node_room : (node : NodePlan) → r ≡ plan.Node node
      → order_room (room_below defs plans number) node.table.done node.order.items ≡ plan_room defs plans number
  node_room node is = sym (chosen.room ∙ ap (λ (p : Plan). room_by (room_below defs plans number) p chosen.d) is)

  pub table_room : (outputs : ℕ) → r ≡ plan.Table outputs → 2 ^ length inputs * (outputs + 1) ≡ plan_room defs plans number
  table_room outputs is =
      ap (λ (n : ℕ). 2 ^ n * (outputs + 1)) chosen.count
      ∙ sym (chosen.room ∙ ap (λ (p : Plan). room_by (room_below defs plans number) p chosen.d) is)

  pub table_enough : (outputs : ℕ) → r ≡ plan.Table outputs → 2 ^ length inputs * (outputs + 1) ≤ s.room
  table_enough outputs is = subst (λ (n : ℕ). n ≤ s.room) (sym (table_room outputs is)) can.room

  pub table_fits : (outputs : ℕ) → r ≡ plan.Table outputs → (d : Def) → d ≡ get_or defs number d → (entries : List ℕ) → entries ≡ entries_of d
      → TableFits (length inputs) outputs entries
  table_fits outputs is d d_is entries e =
      subst (λ (n : ℕ). TableFits n outputs entries) (sym chosen.count)
      (subst (λ (es : List ℕ). TableFits (signature chosen.d).inputs outputs es) (ap entries_of (def_is d d_is) ∙ sym e)
      (subst (λ (p : Plan). PlanFits s.width defs p chosen.d) is chosen.fits))

  pub table_outcome : (outputs : ℕ) → r ≡ plan.Table outputs → (d : Def) → d ≡ get_or defs number d → (entries : List ℕ) → entries ≡ entries_of d
      → plan_outcome s.operators defs plans number (meanings s inputs) ≡ Some (looked_up s.operators outputs entries (meanings s inputs))
  table_outcome outputs is d d_is entries e =
      chosen.outcome ∙ ap (λ (p : Plan). made_by s.operators (made_below s.operators defs plans number) p chosen.d (meanings s inputs)) is
      ∙ ap (λ (es : List ℕ). Some (looked_up s.operators outputs es (meanings s inputs))) (ap entries_of (def_is d d_is) ∙ sym e)

  pub permutation_outcome : r ≡ plan.Permutation → (d : Def) → d ≡ get_or defs number d → (entries : List ℕ) → entries ≡ entries_of d
      → plan_outcome s.operators defs plans number (meanings s inputs) ≡ permuted entries (meanings s inputs)
  permutation_outcome is d d_is entries e =
      chosen.outcome ∙ ap (λ (p : Plan). made_by s.operators (made_below s.operators defs plans number) p chosen.d (meanings s inputs)) is
      ∙ ap (λ (es : List ℕ). permuted es (meanings s inputs)) (ap entries_of (def_is d d_is) ∙ sym e)

  pub not_absent : r ≡ plan.Absent → ⊥
  not_absent is = false_true (subst (λ (o : Option (List V)). IsSome o)
      (chosen.outcome ∙ ap (λ (p : Plan). made_by s.operators (made_below s.operators defs plans number) p chosen.d (meanings s inputs)) is) can.makes)
