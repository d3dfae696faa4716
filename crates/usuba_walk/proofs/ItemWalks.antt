-- Items are walked one after another, and the instances of loops.
use Rattle.std.proofs.Common.{◌≡◌, ℕ, List, [], ◌∷◌, ◌++◌, map, reverse, Some, None, refl, sym, ap, ◌∙◌, subst}
use Rattle.std.proofs.lemmas.List.{map-append, reverse-append}
use Rattle.std.specs.Prelude.{ℤ}
use Rattle.usuba_trees.specs.declared.Decl.{Decl}
use Rattle.usuba_trees.specs.declared.Equation.{Equation}
use Rattle.usuba_trees.specs.declared.Item.{Item}
use Rattle.usuba_trees.specs.declared.Item.TheVariants as i
use Rattle.usuba_trees.specs.declared.Loop.{Loop}
use Rattle.usuba_cells.specs.declared.computing.Counter as given
use Rattle.usuba_cells.specs.Counters.{counter_of, around}
use Rattle.usuba_model.specs.declared.fault.Fault.{Fault}
use Rattle.usuba_model.specs.Indexes.{Counter, computed}
use Rattle.usuba_model.specs.Unrolled.{instance_of, of_each, of_loop, unrolled_item, counter_values}
use Rattle.usuba_model.specs.Walk.{Step, Signature, equation_steps, steps_of_each, item_steps, bounds_step, instance_steps, walk_fault}
use Rattle.usuba_code.specs.Code.{Coded, coded}
use Rattle.usuba_walk.specs.declared.progress.Progress.{Progress}
use Rattle.usuba_walk.specs.State.Progress.{with_instances, Takes}
use Rattle.usuba_walk.proofs.ItemTrees.{steps-equation, steps-loop, unrolled-equation, unrolled-loop}
use Rattle.usuba_walk.proofs.Taking.{Leads, leads-instances, leads-end, leads-fault}

-- a counter that is added is that of the innermost loop
pub around-pushed : (counters : List given.Counter) (counter : given.Counter) → around (counters ++ counter ∷ []) ≡ counter_of counter ∷ around counters
around-pushed counters counter =
    ap reverse (map-append counter_of counters (counter ∷ []))
    ∙ reverse-append (map counter_of counters) (counter_of counter ∷ [])

module _ (w : ℕ) (signatures : List Signature) (declared : List Decl) (counters : List Counter) where
  -- the steps of items
  abbrev pub steps : List Item → List Step
  steps items = steps_of_each (map (item_steps w signatures declared) items) counters

  -- their instances over numbered cells
  abbrev pub made : List Item → List Coded
  made items = map (coded signatures declared) (of_each (map (unrolled_item declared) items) counters)

  abbrev pub one_steps : Item → List Step
  one_steps item = item_steps w signatures declared item counters

  abbrev pub one_made : Item → List Coded
  one_made item = map (coded signatures declared) (unrolled_item declared item counters)

  made-next : (item : Item) (items : List Item) → made (item ∷ items) ≡ one_made item ++ made items
  made-next item items =
      map-append (coded signatures declared) (unrolled_item declared item counters) (of_each (map (unrolled_item declared) items) counters)

  -- items, of which some are left
  abbrev pub ItemsSoFar : Progress → Progress → List Item → List Item → Type 0
  ItemsSoFar first now all rest = Leads first now (steps all) (steps rest) (with_instances first.table (made all)) (with_instances now.table (made rest))

  -- one more item is walked
  pub items-step : (first now next : Progress) (all left rest : List Item) (item : Item) → ItemsSoFar first now all left → left ≡ item ∷ rest
      → Takes now next (one_steps item) (with_instances now.table (one_made item)) → ItemsSoFar first next all rest
  items-step first now next all left rest item so is takes =
      let here : ItemsSoFar first now all (item ∷ rest) = subst (ItemsSoFar first now all) is so in
      leads-instances first now next (steps all) (one_steps item) (steps rest) (with_instances first.table (made all)) (one_made item) (made rest)
      (subst (λ c. Leads first now (steps all) (steps (item ∷ rest)) (with_instances first.table (made all)) (with_instances now.table c)) (made-next item rest) here)
      takes

  -- a fault in the next item
  pub items-fault : (first now : Progress) (all left rest : List Item) (item : Item) (fault : Fault) → ItemsSoFar first now all left → left ≡ item ∷ rest
      → walk_fault now.count (one_steps item) ≡ Some fault → walk_fault first.count (steps all) ≡ Some fault
  items-fault first now all left rest item fault so is known =
      leads-fault first now (steps all) (one_steps item) (steps rest) (with_instances first.table (made all)) (with_instances now.table (made (item ∷ rest)))
      fault (subst (ItemsSoFar first now all) is so) known

  -- all items are walked
  pub items-end : (first now : Progress) (all left : List Item) → ItemsSoFar first now all left → left ≡ []
      → Takes first now (steps all) (with_instances first.table (made all))
  items-end first now all left so is =
      leads-end first now (steps all) (with_instances first.table (made all)) (with_instances now.table []) (subst (ItemsSoFar first now all) is so) refl

module _ (w : ℕ) (signatures : List Signature) (declared : List Decl) (counters : List Counter) (loop : Loop) where
  abbrev inside : ℤ → List Counter
  inside value = record { name = loop.counter.text; value = value } ∷ counters

  -- the steps of the instances for some values
  abbrev pub values_steps : List ℤ → List Step
  values_steps values = instance_steps loop.place loop.counter.text values (steps_of_each (map (item_steps w signatures declared) loop.items)) counters

  abbrev pub values_made : List ℤ → List Coded
  values_made values = map (coded signatures declared) (of_loop loop.counter.text values (of_each (map (unrolled_item declared) loop.items)) counters)

  abbrev begin : Step
  begin = record { place = loop.place; adds = 1; fault = None }

  -- the steps of the instance for a value
  abbrev pub value_steps : ℤ → List Step
  value_steps value = begin ∷ steps w signatures declared (inside value) loop.items

  abbrev pub value_made : ℤ → List Coded
  value_made value = made w signatures declared (inside value) loop.items

  values_made-next : (value : ℤ) (values : List ℤ) → values_made (value ∷ values) ≡ value_made value ++ values_made values
  values_made-next value values =
      map-append (coded signatures declared) (of_each (map (unrolled_item declared) loop.items) (inside value))
      (of_loop loop.counter.text values (of_each (map (unrolled_item declared) loop.items)) counters)

  -- values, of which some are left
  abbrev pub ValuesSoFar : Progress → Progress → List ℤ → List ℤ → Type 0
  ValuesSoFar first now all rest =
      Leads first now (values_steps all) (values_steps rest) (with_instances first.table (values_made all)) (with_instances now.table (values_made rest))

  -- one more instance is walked
  pub values-step : (first now next : Progress) (all left rest : List ℤ) (value : ℤ) → ValuesSoFar first now all left → left ≡ value ∷ rest
      → Takes now next (value_steps value) (with_instances now.table (value_made value)) → ValuesSoFar first next all rest
  values-step first now next all left rest value so is takes =
      let here : ValuesSoFar first now all (value ∷ rest) = subst (ValuesSoFar first now all) is so in
      leads-instances first now next (values_steps all) (value_steps value) (values_steps rest) (with_instances first.table (values_made all)) (value_made value) (values_made rest)
      (subst (λ c. Leads first now (values_steps all) (values_steps (value ∷ rest)) (with_instances first.table (values_made all)) (with_instances now.table c)) (values_made-next value rest) here)
      takes

  -- a fault in the next instance
  pub values-fault : (first now : Progress) (all left rest : List ℤ) (value : ℤ) (fault : Fault) → ValuesSoFar first now all left → left ≡ value ∷ rest
      → walk_fault now.count (value_steps value) ≡ Some fault → walk_fault first.count (values_steps all) ≡ Some fault
  values-fault first now all left rest value fault so is known =
      leads-fault first now (values_steps all) (value_steps value) (values_steps rest) (with_instances first.table (values_made all))
      (with_instances now.table (values_made (value ∷ rest))) fault (subst (ValuesSoFar first now all) is so) known

  -- all instances are walked
  pub values-end : (first now : Progress) (all left : List ℤ) → ValuesSoFar first now all left → left ≡ []
      → Takes first now (values_steps all) (with_instances first.table (values_made all))
  values-end first now all left so is =
      leads-end first now (values_steps all) (with_instances first.table (values_made all)) (with_instances now.table []) (subst (ValuesSoFar first now all) is so) refl

-- an item by its variant
module _ (w : ℕ) (signatures : List Signature) (declared : List Decl) (counters : List Counter) where
  pub steps-as_equation : (item : Item) (equation : Equation) → item ≡ i.Equation equation
      → one_steps w signatures declared counters item ≡ equation_steps w signatures declared counters equation
  steps-as_equation item equation is =
      ap (one_steps w signatures declared counters) is ∙ steps-equation w signatures declared equation counters

  pub made-as_equation : (item : Item) (equation : Equation) → item ≡ i.Equation equation
      → one_made w signatures declared counters item ≡ coded signatures declared (instance_of declared counters equation) ∷ []
  made-as_equation item equation is =
      ap (one_made w signatures declared counters) is ∙ ap (map (coded signatures declared)) (unrolled-equation declared equation counters)

  pub steps-as_loop : (item : Item) (loop : Loop) → item ≡ i.Loop loop
      → one_steps w signatures declared counters item
      ≡ bounds_step loop.place (computed loop.low counters) (computed loop.high counters)
      ∷ values_steps w signatures declared counters loop (counter_values counters loop.low loop.high)
  steps-as_loop item loop is =
      ap (one_steps w signatures declared counters) is ∙ steps-loop w signatures declared loop counters

  pub made-as_loop : (item : Item) (loop : Loop) → item ≡ i.Loop loop
      → one_made w signatures declared counters item ≡ values_made w signatures declared counters loop (counter_values counters loop.low loop.high)
  made-as_loop item loop is =
      ap (one_made w signatures declared counters) is ∙ ap (map (coded signatures declared)) (unrolled-loop declared loop counters)

-- an item that is walked is known by its variant
pub takes-as : (first last : Progress) (steps same : List Step) (instances others : List Coded) → steps ≡ same → instances ≡ others
    → Takes first last same (with_instances first.table others) → Takes first last steps (with_instances first.table instances)
takes-as first last steps same instances others is too takes =
    subst (λ s. Takes first last s (with_instances first.table instances)) (sym is)
    (subst (λ c. Takes first last same (with_instances first.table c)) (sym too) takes)

module _ (w : ℕ) (signatures : List Signature) (declared : List Decl) (slice counters : List given.Counter) (item : Item) (equation : Equation) where
  abbrev item_steps_here : List given.Counter → List Step
  item_steps_here cs = equation_steps w signatures declared (around cs) equation

  abbrev item_made_here : List given.Counter → List Coded
  item_made_here cs = coded signatures declared (instance_of declared (around cs) equation) ∷ []

  -- an item that is an equation is walked as the equation is
  pub item-equation_takes : (first last : Progress) → Takes first last (item_steps_here slice) (with_instances first.table (item_made_here slice))
      → slice ≡ counters → item ≡ i.Equation equation
      → Takes first last (one_steps w signatures declared (around counters) item) (with_instances first.table (one_made w signatures declared (around counters) item))
  item-equation_takes first last takes same is =
      takes-as first last (one_steps w signatures declared (around counters) item) (item_steps_here counters)
      (one_made w signatures declared (around counters) item) (item_made_here counters)
      (steps-as_equation w signatures declared (around counters) item equation is) (made-as_equation w signatures declared (around counters) item equation is)
      (subst (λ cs. Takes first last (item_steps_here cs) (with_instances first.table (item_made_here cs))) same takes)

  pub item-equation_fault : (count : ℕ) (fault : Fault) → walk_fault count (item_steps_here slice) ≡ Some fault
      → slice ≡ counters → item ≡ i.Equation equation → walk_fault count (one_steps w signatures declared (around counters) item) ≡ Some fault
  item-equation_fault count fault known same is =
      ap (walk_fault count) (steps-as_equation w signatures declared (around counters) item equation is ∙ ap item_steps_here (sym same)) ∙ known
