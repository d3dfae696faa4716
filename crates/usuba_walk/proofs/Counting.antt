-- A node has no more instances than its walk counts operations.
use Rattle.std.proofs.Common.{◌≡◌, ℕ, ◌+◌, ◌≤◌, Bool, true, false, List, [], ◌∷◌, ◌++◌, length, map, Option, Some, None, refl, sym, arith}
use Rattle.std.specs.Prelude.{ℤ, nat_lt, if◌then◌else◌}
use Rattle.std.proofs.lemmas.Bool.{ltb-false}
use Rattle.std.proofs.lemmas.List.{length-append, length-map}
use Rattle.std.proofs.lemmas.Option.{none-some}
use Rattle.tor_edge.specs.declared.place.Place.{Place}
use Rattle.usuba_trees.specs.declared.Decl.{Decl}
use Rattle.usuba_trees.specs.declared.Def.{Def}
use Rattle.usuba_trees.specs.declared.Def.TheVariants as def
use Rattle.usuba_trees.specs.declared.Item.{Item, map-Item}
use Rattle.usuba_trees.specs.declared.Item.TheOpen.{Item-F}
use Rattle.usuba_model.specs.declared.fault.Fault.{Fault}
use Rattle.usuba_model.specs.declared.fault.FaultKind.{FaultKind}
use Rattle.usuba_model.specs.declared.fault.FaultKind.TheVariants.{TooManyOps}
use Rattle.usuba_model.specs.Indexes.{Counter, computed}
use Rattle.usuba_model.specs.Unrolled.{Instance, Instances, of_each, of_loop, item_level, unrolled_item, counter_values, declarations, unrolled}
use Rattle.usuba_model.specs.Walk.{Step, Signature, most_operations, step_fault, walk_fault, count_of, Steps, steps_of_each, instance_steps, bounds_step, item_steps_level, item_steps, definition_steps}
use Rattle.usuba_model.proofs.ItemFolds.{items_related}
use Rattle.usuba_code.specs.Code.{coded}
use Rattle.usuba_walk.specs.Walking.{coded_definition}
use Rattle.usuba_walk.proofs.Faulting.{count_of-append}

-- a step without a fault keeps the count within its limit
step_few : (place : Place) (f : Option FaultKind) (count : ℕ) (later : Option Fault) → step_fault place f count later ≡ None
    → (count ≤ most_operations) × (later ≡ None)
step_few place (Some kind) count later e = absurd (none-some _ (sym e))
step_few place None count later e = by (nat_lt most_operations count) (ltb-false most_operations count) e
  where
    by : (b : Bool) → (b ≡ false → count ≤ most_operations) → (if b then Some (record { kind = TooManyOps; place = place }) else later) ≡ None
        → (count ≤ most_operations) × (later ≡ None)
    by true within e = absurd (none-some _ (sym e))
    by false within e = (within refl, e)

-- a walk without a fault counts no more than the limit
walk_few : (steps : List Step) (count : ℕ) → count ≤ most_operations → walk_fault count steps ≡ None → count + count_of steps ≤ most_operations
walk_few [] count few e = omega (arith, few)
walk_few (step ∷ steps) count few e =
    let parts = step_few step.place step.fault (count + step.adds) (walk_fault (count + step.adds) steps) e in
    let rest = walk_few steps (count + step.adds) parts.0 parts.1 in
    omega (arith, rest)

module _ (w : ℕ) (signatures : List Signature) (declared : List Decl) where
  -- there are no more instances than the steps count operations
  abbrev Counts : Steps → Instances → Type 0
  Counts steps instances = (counters : List Counter) → length (instances counters) ≤ count_of (steps counters)

  abbrev Part : Type 0
  Part = (steps : Steps) × (instances : Instances) × Counts steps instances

  abbrev PartLoop : Type 0
  PartLoop = (steps : Steps) × (instances : Instances) × Counts steps instances

  joined_few : (a b : List Instance) (p q : List Step) → length a ≤ count_of p → length b ≤ count_of q → length (a ++ b) ≤ count_of (p ++ q)
  joined_few a b p q first second = omega (arith, length-append a b, count_of-append p q, first, second)

  each_counts : (parts : List Part) → Counts (steps_of_each (map (λ p. p.0) parts)) (of_each (map (λ p. p.1) parts))
  each_counts [] counters = omega arith
  each_counts (part ∷ parts) counters =
      joined_few (part.1 counters) (of_each (map (λ p. p.1) parts) counters) (part.0 counters) (steps_of_each (map (λ p. p.0) parts) counters)
      (part.2 counters) (each_counts parts counters)

  loop_counts : (place : Place) (name : List ℕ) (values : List ℤ) (steps : Steps) (instances : Instances) → Counts steps instances
      → Counts (instance_steps place name values steps) (of_loop name values instances)
  loop_counts place name [] steps instances counts counters = omega arith
  loop_counts place name (value ∷ values) steps instances counts counters =
      let inside : List Counter = record { name = name; value = value } ∷ counters in
      let both = joined_few (instances inside) (of_loop name values instances counters) (steps inside) (instance_steps place name values steps counters)
      (counts inside) (loop_counts place name values steps instances counts counters) in
      omega (arith, both)

  level_counts : (y : Item-F Part PartLoop)
      → Counts (item_steps_level w signatures declared (map-Item Part PartLoop Steps Steps (λ p. p.0) (λ p. p.0) y))
      (item_level declared (map-Item Part PartLoop Instances Instances (λ p. p.1) (λ p. p.1) y))
  level_counts (Item-F.Equation equation) counters = omega arith
  level_counts (Item-F.Loop loop) counters = loop.2 counters

  item_counts : (item : Item) → Counts (item_steps w signatures declared item) (unrolled_item declared item)
  item_counts =
      items_related (item_steps_level w signatures declared)
      (λ loop counters.
      bounds_step loop.place (computed loop.low counters) (computed loop.high counters)
      ∷ instance_steps loop.place loop.counter.text (counter_values counters loop.low loop.high) (steps_of_each loop.items) counters)
      (item_level declared)
      (λ loop counters. of_loop loop.counter.text (counter_values counters loop.low loop.high) (of_each loop.items) counters)
      Counts Counts level_counts
      (λ y counters.
      let counted = loop_counts y.place y.counter.text (counter_values counters y.low y.high)
      (steps_of_each (map (λ p. p.0) y.items)) (of_each (map (λ p. p.1) y.items)) (each_counts y.items) counters in
      omega (arith, counted))

  items_count : (items : List Item) → Counts (steps_of_each (map (item_steps w signatures declared) items)) (of_each (map (unrolled_item declared) items))
  items_count [] counters = omega arith
  items_count (item ∷ items) counters =
      joined_few (unrolled_item declared item counters) (of_each (map (unrolled_item declared) items) counters)
      (item_steps w signatures declared item counters) (steps_of_each (map (item_steps w signatures declared) items) counters)
      (item_counts item counters) (items_count items counters)

-- a definition that is walked without a fault has no more instances than a source may have operations
pub few_instances : (w : ℕ) (signatures : List Signature) (d : Def) → walk_fault 0 (definition_steps w signatures d) ≡ None
    → length (coded_definition signatures d) ≤ most_operations
few_instances w signatures (def.Node node) clean =
    let declared = declarations node in
    let counted = items_count w signatures declared node.items [] in
    let all = walk_few (definition_steps w signatures (def.Node node)) 0 (omega arith) clean in
    let mapped = length-map (unrolled node) (coded signatures declared) in
    omega (arith, mapped, counted, all)
few_instances w signatures (def.Table grid) clean = omega arith
few_instances w signatures (def.Perm grid) clean = omega arith
