-- The instances of a node whose walk has no fault, and whose names are known, are well sized.
use Rattle.std.proofs.Common.{◌≡◌, ◌+◌, ◌<◌, ℕ, Bool, true, false, not, List, [], ◌∷◌, ◌++◌, length, map, Option, Some, None, refl, sym, ap, ◌∙◌, subst}
use Rattle.std.specs.Prelude.{ℤ, nat_lt, if◌then◌else◌, ◌==◌}
use Rattle.std.proofs.lemmas.Option.{none-some}
use Rattle.tor_edge.specs.declared.place.Place.{Place}
use Rattle.usuba_trees.specs.declared.Decl.{Decl}
use Rattle.usuba_trees.specs.declared.Equation.{Equation}
use Rattle.usuba_trees.specs.declared.Item.{Item, map-Item}
use Rattle.usuba_trees.specs.declared.Item.TheOpen.{Item-F}
use Rattle.usuba_trees.specs.declared.Node.{Node}
use Rattle.usuba_model.specs.declared.fault.Fault.{Fault}
use Rattle.usuba_model.specs.declared.fault.FaultKind.{FaultKind}
use Rattle.usuba_model.specs.declared.fault.FaultKind.TheVariants.{SizeMismatch, TooManyOps}
use Rattle.usuba_model.specs.Faults.{when}
use Rattle.usuba_model.specs.Indexes.{Counter, computed}
use Rattle.usuba_model.specs.Unrolled.{Instance, left_cells, target_cells, targets_of, instance_of, Instances, of_each, of_loop, item_level, unrolled_item, counter_values, declarations, unrolled}
use Rattle.usuba_model.specs.Walk.{Step, Signature, size_of, most_operations, step_fault, walk_fault, walk_of, left_steps, equation_steps, Steps, steps_of_each, instance_steps, bounds_step, item_steps_level, item_steps, node_steps}
use Rattle.usuba_model.proofs.ItemFolds.{items_related}
use Rattle.usuba_model.proofs.Sizing.{AreClean, IsSized, clean_first, clean_second, no_fault, same, walked_sized}
use Rattle.usuba_model.proofs.WalkLemmas.{walk_unrolls}

-- a step is clean where neither it nor a later one has a fault
step_clean : (place : Place) (f : Option FaultKind) (count : ℕ) (later : Option Fault) → step_fault place f count later ≡ None
    → (f ≡ None) × (later ≡ None)
step_clean place (Some kind) count later e = absurd (none-some _ (sym e))
step_clean place None count later e = (refl, within (nat_lt most_operations count) e)
  where
    within : (b : Bool) → (if b then Some (record { kind = TooManyOps; place = place }) else later) ≡ None → later ≡ None
    within true e = absurd (none-some _ (sym e))
    within false e = e

-- a walk without a fault has clean steps
pub walk_clean : (steps : List Step) (count : ℕ) → walk_fault count steps ≡ None → AreClean steps
walk_clean [] count e = tt
walk_clean (step ∷ steps) count e =
    let parts = step_clean step.place step.fault (count + step.adds) (walk_fault (count + step.adds) steps) e in
    (parts.0, walk_clean steps (count + step.adds) parts.1)

module _ (w : ℕ) (some_width : 0 < w) (signatures : List Signature) (declared : List Decl) where
  -- an instance whose right side is well sized and has as many elements as its left side
  abbrev pub Fits : Instance → Type 0
  Fits i = IsSized w signatures i.right × (length (left_cells i) ≡ size_of signatures i.right)

  abbrev pub AllFits : List Instance → Type 0
  AllFits [] = Unit {0}
  AllFits (i ∷ instances) = Fits i × AllFits instances

  fits_append : (a b : List Instance) → AllFits a → AllFits b → AllFits (a ++ b)
  fits_append [] b f g = g
  fits_append (i ∷ a) b f g = (f.0, fits_append a b f.1 g)

  -- where the steps are clean, the instances fit
  abbrev Tells : Steps → Instances → Type 0
  Tells steps instances = (counters : List Counter) → AreClean (steps counters) → AllFits (instances counters)

  abbrev Part : Type 0
  Part = (steps : Steps) × (instances : Instances) × Tells steps instances

  each_tells : (parts : List Part) → Tells (steps_of_each (map (λ p. p.0) parts)) (of_each (map (λ p. p.1) parts))
  each_tells [] counters clean = tt
  each_tells (part ∷ parts) counters clean =
      let here = part.0 counters in
      let rest = steps_of_each (map (λ p. p.0) parts) counters in
      fits_append (part.1 counters) (of_each (map (λ p. p.1) parts) counters)
      (part.2 counters (clean_first here rest clean)) (each_tells parts counters (clean_second here rest clean))

  loop_tells : (place : Place) (name : List ℕ) (values : List ℤ) (steps : Steps) (instances : Instances) → Tells steps instances
      → Tells (instance_steps place name values steps) (of_loop name values instances)
  loop_tells place name [] steps instances tells counters clean = tt
  loop_tells place name (value ∷ values) steps instances tells counters clean =
      let inside : List Counter = record { name = name; value = value } ∷ counters in
      fits_append (instances inside) (of_loop name values instances counters)
      (tells inside (clean_first (steps inside) (instance_steps place name values steps counters) clean.1))
      (loop_tells place name values steps instances tells counters
      (clean_second (steps inside) (instance_steps place name values steps counters) clean.1))

  equation_tells : (equation : Equation) → Tells (λ counters. equation_steps w signatures declared counters equation)
      (λ counters. instance_of declared counters equation ∷ [])
  equation_tells equation counters clean =
      let right = walk_of w signatures declared equation.right counters in
      let size = length (target_cells (targets_of declared counters equation.left)) in
      let last : Step = record { place = equation.equal; adds = 0; fault = when (not (size == size_of signatures right.is)) SizeMismatch } in
      let left = left_steps declared counters equation.left in
      let both = clean_first (left ++ right.steps) (last ∷ []) clean.1 in
      let sizes = same size (size_of signatures right.is) (no_fault _ SizeMismatch (clean_second (left ++ right.steps) (last ∷ []) clean.1).0) in
      let is = walk_unrolls w signatures declared equation.right counters in (
        (
          subst (IsSized w signatures) is (walked_sized w some_width signatures declared equation.right counters (clean_second left right.steps both)),
          sizes ∙ ap (size_of signatures) is,
        ),
        tt,
      )

  -- of a loop: its bounds stand before its instances
  abbrev TellsLoop : Steps → Instances → Type 0
  TellsLoop = Tells

  abbrev PartLoop : Type 0
  PartLoop = (steps : Steps) × (instances : Instances) × TellsLoop steps instances

  level_tells : (y : Item-F Part PartLoop)
      → Tells (item_steps_level w signatures declared (map-Item Part PartLoop Steps Steps (λ p. p.0) (λ p. p.0) y))
      (item_level declared (map-Item Part PartLoop Instances Instances (λ p. p.1) (λ p. p.1) y))
  level_tells (Item-F.Equation equation) counters clean = equation_tells equation counters clean
  level_tells (Item-F.Loop loop) counters clean = loop.2 counters clean

  -- the items of a node
  pub items_tell : (item : Item) → Tells (item_steps w signatures declared item) (unrolled_item declared item)
  items_tell =
      items_related (item_steps_level w signatures declared)
      (λ loop counters.
      bounds_step loop.place (computed loop.low counters) (computed loop.high counters)
      ∷ instance_steps loop.place loop.counter.text (counter_values counters loop.low loop.high) (steps_of_each loop.items) counters)
      (item_level declared)
      (λ loop counters. of_loop loop.counter.text (counter_values counters loop.low loop.high) (of_each loop.items) counters)
      Tells TellsLoop level_tells
      (λ y counters clean. loop_tells y.place y.counter.text (counter_values counters y.low y.high)
      (steps_of_each (map (λ p. p.0) y.items)) (of_each (map (λ p. p.1) y.items)) (each_tells y.items) counters clean.1)

  pub all_items_tell : (items : List Item)
      → Tells (steps_of_each (map (item_steps w signatures declared) items)) (of_each (map (unrolled_item declared) items))
  all_items_tell [] counters clean = tt
  all_items_tell (item ∷ items) counters clean =
      let here = item_steps w signatures declared item counters in
      let rest = steps_of_each (map (item_steps w signatures declared) items) counters in
      fits_append (unrolled_item declared item counters) (of_each (map (unrolled_item declared) items) counters)
      (items_tell item counters (clean_first here rest clean)) (all_items_tell items counters (clean_second here rest clean))

-- the instances of a node that is walked without a fault fit
pub node_fits : (w : ℕ) (some_width : 0 < w) (signatures : List Signature) (node : Node) (count : ℕ)
    → walk_fault count (node_steps w signatures node) ≡ None → AllFits w some_width signatures (declarations node) (unrolled node)
node_fits w some_width signatures node count e =
    all_items_tell w some_width signatures (declarations node) node.items [] (walk_clean (node_steps w signatures node) count e).1
