-- The steps and the instances of an item, variant by variant.
use Rattle.std.proofs.Common.{◌≡◌, ℕ, List, [], ◌∷◌, map, sym, ap, ◌∙◌}
use Rattle.usuba_trees.specs.declared.Decl.{Decl}
use Rattle.usuba_trees.specs.declared.Equation.{Equation}
use Rattle.usuba_trees.specs.declared.Item.{Item, fold-Item, fold-roll-Item, roll-Item, map-Item}
use Rattle.usuba_trees.specs.declared.Item.TheOpen.{Item-F}
use Rattle.usuba_trees.specs.declared.Item.TheVariants as i
use Rattle.usuba_trees.specs.declared.Loop.{Loop, Loop-F, fold-Loop, fold_out-Loop}
use Rattle.usuba_model.specs.Indexes.{Counter, computed}
use Rattle.usuba_model.specs.Unrolled.{instance_of, Instances, of_each, of_loop, item_level, unrolled_item, counter_values}
use Rattle.usuba_model.specs.Walk.{Signature, equation_steps, Steps, steps_of_each, bounds_step, instance_steps, item_steps_level, item_steps}

module _ (w : ℕ) (signatures : List Signature) (declared : List Decl) where
  abbrev steps_level : Item-F Steps Steps → Steps
  steps_level = item_steps_level w signatures declared

  abbrev steps_loop : Loop-F Steps Steps → Steps
  steps_loop loop counters =
      bounds_step loop.place (computed loop.low counters) (computed loop.high counters)
      ∷ instance_steps loop.place loop.counter.text (counter_values counters loop.low loop.high) (steps_of_each loop.items) counters

  steps-layer : (layer : Item-F Item Loop) (item : Item) → roll-Item layer ≡ item
      → item_steps w signatures declared item
      ≡ steps_level (map-Item Item Loop Steps Steps (fold-Item Steps Steps steps_level steps_loop) (fold-Loop Steps Steps steps_level steps_loop) layer)
  steps-layer layer item rolls =
      ap (item_steps w signatures declared) (sym rolls) ∙ fold-roll-Item Steps Steps steps_level steps_loop layer

  -- the steps of an equation
  pub steps-equation : (equation : Equation) (counters : List Counter)
      → item_steps w signatures declared (i.Equation equation) counters ≡ equation_steps w signatures declared counters equation
  steps-equation equation counters =
      ap (λ (steps : Steps). steps counters) (steps-layer (Item-F.Equation equation) (i.Equation equation) (i.rolls-Equation equation))

  -- the steps of a loop: its bounds, then its instances
  pub steps-loop : (loop : Loop) (counters : List Counter)
      → item_steps w signatures declared (i.Loop loop) counters
      ≡ bounds_step loop.place (computed loop.low counters) (computed loop.high counters)
      ∷ instance_steps loop.place loop.counter.text (counter_values counters loop.low loop.high)
      (steps_of_each (map (item_steps w signatures declared) loop.items)) counters
  steps-loop loop counters =
      ap (λ (steps : Steps). steps counters)
      (steps-layer (Item-F.Loop loop) (i.Loop loop) (i.rolls-Loop loop) ∙ fold_out-Loop Steps Steps steps_level steps_loop loop)

module _ (declared : List Decl) where
  abbrev unrolled_loop : Loop-F Instances Instances → Instances
  unrolled_loop loop counters = of_loop loop.counter.text (counter_values counters loop.low loop.high) (of_each loop.items) counters

  unrolled-layer : (layer : Item-F Item Loop) (item : Item) → roll-Item layer ≡ item
      → unrolled_item declared item
      ≡ item_level declared (map-Item Item Loop Instances Instances (fold-Item Instances Instances (item_level declared) unrolled_loop)
      (fold-Loop Instances Instances (item_level declared) unrolled_loop) layer)
  unrolled-layer layer item rolls =
      ap (unrolled_item declared) (sym rolls) ∙ fold-roll-Item Instances Instances (item_level declared) unrolled_loop layer

  -- the instance of an equation
  pub unrolled-equation : (equation : Equation) (counters : List Counter)
      → unrolled_item declared (i.Equation equation) counters ≡ instance_of declared counters equation ∷ []
  unrolled-equation equation counters =
      ap (λ (made : Instances). made counters) (unrolled-layer (Item-F.Equation equation) (i.Equation equation) (i.rolls-Equation equation))

  -- the instances of a loop
  pub unrolled-loop : (loop : Loop) (counters : List Counter)
      → unrolled_item declared (i.Loop loop) counters
      ≡ of_loop loop.counter.text (counter_values counters loop.low loop.high) (of_each (map (unrolled_item declared) loop.items)) counters
  unrolled-loop loop counters =
      ap (λ (made : Instances). made counters)
      (unrolled-layer (Item-F.Loop loop) (i.Loop loop) (i.rolls-Loop loop) ∙ fold_out-Loop Instances Instances (item_level declared) unrolled_loop loop)
