-- The findings of a tree, variant by variant.
use Rattle.std.proofs.Common.{◌≡◌, ℕ, List, [], ◌∷◌, ◌++◌, map, sym, ap, ◌∙◌}
use Rattle.std.specs.Prelude.{flat_map}
use mathlib.Core.Path.{fun_ext}
use Rattle.tor_edge.specs.declared.place.Place.{Place}
use Rattle.usuba_trees.specs.declared.BitOp.{BitOp}
use Rattle.usuba_trees.specs.declared.Equation.{Equation}
use Rattle.usuba_trees.specs.declared.Expr.{Expr, fold-roll-Expr, roll-Expr, map-Expr}
use Rattle.usuba_trees.specs.declared.Expr.TheVariants as e
use Rattle.usuba_trees.specs.declared.Expr.TheOpen.{Expr-F}
use Rattle.usuba_trees.specs.declared.Index.{Index, fold-roll-Index, roll-Index, map-Index}
use Rattle.usuba_trees.specs.declared.Index.TheVariants as index
use Rattle.usuba_trees.specs.declared.Index.TheOpen.{Index-F}
use Rattle.usuba_trees.specs.declared.IndexLink.{IndexLink, IndexLink-F, fold-IndexLink, fold_out-IndexLink}
use Rattle.usuba_trees.specs.declared.Item.{Item, fold-roll-Item, roll-Item, map-Item}
use Rattle.usuba_trees.specs.declared.Item.TheVariants as item
use Rattle.usuba_trees.specs.declared.Item.TheOpen.{Item-F}
use Rattle.usuba_trees.specs.declared.Link.{Link, Link-F, fold-Link, fold_out-Link}
use Rattle.usuba_trees.specs.declared.Loop.{Loop, Loop-F, fold-Loop, fold_out-Loop}
use Rattle.usuba_trees.specs.declared.ShiftLink.{ShiftLink}
use Rattle.usuba_trees.specs.declared.Spot.{Spot}
use Rattle.usuba_trees.specs.declared.Word.{Word}
use Rattle.usuba_model.specs.Faults.{Finding}
use Rattle.usuba_model.specs.Names.{Findings, findings_of, repeated, repeated_level, repeated_counters, unknown}
use Rattle.usuba_model.specs.Names.{unknown_index_level, unknown_in_index, unknown_in_spot, unknown_level}
use Rattle.usuba_model.specs.Names.{unknown_in_expression, unknown_in_equation, unknown_item_level, unknown_in_item}
use Rattle.usuba_phases.specs.State.Names.{unknown_in_move}
use Rattle.usuba_phases.proofs.Firsts.{flat_map-map}

-- indexes

abbrev of_link : IndexLink → Findings
of_link = fold-IndexLink Findings Findings unknown_index_level (λ (link : IndexLink-F Findings Findings). link.operand)

index-layer : (layer : Index-F Index IndexLink) (a : Index) → roll-Index layer ≡ a
    → unknown_in_index a
    ≡ unknown_index_level (map-Index Index IndexLink Findings Findings unknown_in_index of_link layer)
index-layer layer a rolls =
    ap unknown_in_index (sym rolls)
    ∙ fold-roll-Index Findings Findings unknown_index_level (λ (link : IndexLink-F Findings Findings). link.operand)
    layer

-- the names in a further operand of an index chain
abbrev pub index_operand : List (List ℕ) → IndexLink → List Finding
index_operand counters link = unknown_in_index link.operand counters

-- a number has no name
pub index-number : (a : Index) (n : ℕ) (counters : List (List ℕ)) → a ≡ index.Number n
    → unknown_in_index a counters ≡ []
index-number a n counters is = ap (λ f. f counters) (index-layer (Index-F.Number n) a (index.rolls-Number n ∙ sym is))

-- a counter is a name
pub index-counter : (a : Index) (name : Word) (counters : List (List ℕ)) → a ≡ index.Counter name
    → unknown_in_index a counters ≡ unknown counters name ∷ []
index-counter a name counters is =
    ap (λ f. f counters) (index-layer (Index-F.Counter name) a (index.rolls-Counter name ∙ sym is))

-- a chain has the names of its operands
pub index-chain : (a first : Index) (rest : List IndexLink) (counters : List (List ℕ)) → a ≡ index.Chain first rest
    → unknown_in_index a counters ≡ unknown_in_index first counters ++ flat_map (index_operand counters) rest
index-chain a first rest counters is =
    ap (λ f. f counters) (index-layer (Index-F.Chain first rest) a (index.rolls-Chain first rest ∙ sym is))
    ∙ ap (λ findings. unknown_in_index first counters ++ findings)
    (flat_map-map (λ (part : Findings). part counters) of_link rest
    ∙ ap (λ f. flat_map f rest) (fun_ext (λ (link : IndexLink). ap (λ (f : Findings). f counters)
    (fold_out-IndexLink Findings Findings unknown_index_level (λ (link : IndexLink-F Findings Findings). link.operand)
    link))))

-- expressions

module _ (defined declared : List (List ℕ)) where
  abbrev of_operand : Link → Findings
  of_operand =
      fold-Link Findings Findings (unknown_level defined declared) (λ (link : Link-F Findings Findings). link.operand)

  expression-layer : (layer : Expr-F Expr Link) (a : Expr) → roll-Expr layer ≡ a
      → unknown_in_expression defined declared a
      ≡ unknown_level defined declared
      (map-Expr Expr Link Findings Findings (unknown_in_expression defined declared) of_operand layer)
  expression-layer layer a rolls =
      ap (unknown_in_expression defined declared) (sym rolls)
      ∙ fold-roll-Expr Findings Findings (unknown_level defined declared)
      (λ (link : Link-F Findings Findings). link.operand) layer

  -- the names in a part of an expression
  abbrev pub part_of : List (List ℕ) → Expr → List Finding
  part_of counters part = unknown_in_expression defined declared part counters

  -- the names in a further operand of a chain
  abbrev pub operand_of : List (List ℕ) → Link → List Finding
  operand_of counters link = unknown_in_expression defined declared link.operand counters

  -- a number has no name
  pub expression-number : (a : Expr) (place : Place) (value : ℕ) (counters : List (List ℕ)) → a ≡ e.Number place value
      → part_of counters a ≡ []
  expression-number a place value counters is =
      ap (λ f. f counters) (expression-layer (Expr-F.Number place value) a (e.rolls-Number place value ∙ sym is))

  -- a spot has its own names
  pub expression-spot : (a : Expr) (spot : Spot) (counters : List (List ℕ)) → a ≡ e.Spot spot
      → part_of counters a ≡ unknown_in_spot declared counters spot
  expression-spot a spot counters is =
      ap (λ f. f counters) (expression-layer (Expr-F.Spot spot) a (e.rolls-Spot spot ∙ sym is))

  parts-are : (parts : List Expr) (counters : List (List ℕ))
      → findings_of (map (unknown_in_expression defined declared) parts) counters ≡ flat_map (part_of counters) parts
  parts-are parts counters =
      flat_map-map (λ (part : Findings). part counters) (unknown_in_expression defined declared) parts

  -- a tuple has the names of its parts
  pub expression-tuple : (a : Expr) (parts : List Expr) (counters : List (List ℕ)) → a ≡ e.Tuple parts
      → part_of counters a ≡ flat_map (part_of counters) parts
  expression-tuple a parts counters is =
      ap (λ f. f counters) (expression-layer (Expr-F.Tuple parts) a (e.rolls-Tuple parts ∙ sym is))
      ∙ parts-are parts counters

  -- a call has the name of the callee, and those of its arguments
  pub expression-call : (a : Expr) (name : Word) (args : List Expr) (counters : List (List ℕ)) → a ≡ e.Call name args
      → part_of counters a ≡ (unknown defined name ∷ []) ++ flat_map (part_of counters) args
  expression-call a name args counters is =
      ap (λ f. f counters) (expression-layer (Expr-F.Call name args) a (e.rolls-Call name args ∙ sym is))
      ∙ ap (λ findings. unknown defined name ∷ findings) (parts-are args counters)

  -- a complement has the names of its operand
  pub expression-not : (a : Expr) (place : Place) (inner : Expr) (counters : List (List ℕ)) → a ≡ e.Not place inner
      → part_of counters a ≡ part_of counters inner
  expression-not a place inner counters is =
      ap (λ f. f counters) (expression-layer (Expr-F.Not place inner) a (e.rolls-Not place inner ∙ sym is))

  -- a chain has the names of its operands
  pub expression-chain : (a : Expr) (op : BitOp) (first : Expr) (rest : List Link) (counters : List (List ℕ))
      → a ≡ e.Chain op first rest
      → part_of counters a ≡ part_of counters first ++ flat_map (operand_of counters) rest
  expression-chain a op first rest counters is =
      ap (λ f. f counters) (expression-layer (Expr-F.Chain op first rest) a (e.rolls-Chain op first rest ∙ sym is))
      ∙ ap (λ findings. part_of counters first ++ findings)
      (flat_map-map (λ (part : Findings). part counters) of_operand rest
      ∙ ap (λ f. flat_map f rest) (fun_ext (λ (link : Link). ap (λ (f : Findings). f counters)
      (fold_out-Link Findings Findings (unknown_level defined declared)
      (λ (link : Link-F Findings Findings). link.operand) link))))

  -- shifts have the names of the operand and of their amounts
  pub expression-shift : (a first : Expr) (moves : List ShiftLink) (counters : List (List ℕ)) → a ≡ e.Shift first moves
      → part_of counters a ≡ part_of counters first ++ flat_map (unknown_in_move counters) moves
  expression-shift a first moves counters is =
      ap (λ f. f counters) (expression-layer (Expr-F.Shift first moves) a (e.rolls-Shift first moves ∙ sym is))

  -- a refresh has the names of its operand and of its number
  pub expression-refresh : (a : Expr) (place : Place) (inner : Expr) (number : Index) (counters : List (List ℕ))
      → a ≡ e.Refresh place inner number
      → part_of counters a ≡ part_of counters inner ++ unknown_in_index number counters
  expression-refresh a place inner number counters is =
      ap (λ f. f counters)
      (expression-layer (Expr-F.Refresh place inner number) a (e.rolls-Refresh place inner number ∙ sym is))

-- counters of items

abbrev counter_level : List (List ℕ) → Loop-F Findings Findings → Findings
counter_level taken loop counters =
    repeated (taken ++ counters) loop.counter ∷ findings_of loop.items (loop.counter.text ∷ counters)

counters-layer : (taken : List (List ℕ)) (layer : Item-F Item Loop) (a : Item) → roll-Item layer ≡ a
    → repeated_counters taken a
    ≡ repeated_level (map-Item Item Loop Findings Findings (repeated_counters taken)
    (fold-Loop Findings Findings repeated_level (counter_level taken)) layer)
counters-layer taken layer a rolls =
    ap (repeated_counters taken) (sym rolls)
    ∙ fold-roll-Item Findings Findings repeated_level (counter_level taken) layer

-- the counters of an item of a loop
abbrev pub counters_of_item : List (List ℕ) → List (List ℕ) → Item → List Finding
counters_of_item taken counters a = repeated_counters taken a counters

-- an equation has no counter
pub counters-equation : (taken : List (List ℕ)) (a : Item) (equation : Equation) (counters : List (List ℕ))
    → a ≡ item.Equation equation
    → repeated_counters taken a counters ≡ []
counters-equation taken a equation counters is =
    ap (λ f. f counters) (counters-layer taken (Item-F.Equation equation) a (item.rolls-Equation equation ∙ sym is))

-- a loop has its own counter, and those of its items
pub counters-loop : (taken : List (List ℕ)) (a : Item) (loop : Loop) (counters : List (List ℕ)) → a ≡ item.Loop loop
    → repeated_counters taken a counters
    ≡ (repeated (taken ++ counters) loop.counter ∷ [])
    ++ flat_map (counters_of_item taken (loop.counter.text ∷ counters)) loop.items
counters-loop taken a loop counters is =
    ap (λ f. f counters) (counters-layer taken (Item-F.Loop loop) a (item.rolls-Loop loop ∙ sym is))
    ∙ ap (λ (f : Findings). f counters) (fold_out-Loop Findings Findings repeated_level (counter_level taken) loop)
    ∙ ap (λ findings. repeated (taken ++ counters) loop.counter ∷ findings)
    (flat_map-map (λ (part : Findings). part (loop.counter.text ∷ counters)) (repeated_counters taken) loop.items)

-- names in items

module _ (defined declared : List (List ℕ)) where
  abbrev loop_level : Loop-F Findings Findings → Findings
  loop_level loop counters =
      unknown_in_index loop.low counters ++ unknown_in_index loop.high counters ++ findings_of loop.items
      (loop.counter.text ∷ counters)

  item-layer : (layer : Item-F Item Loop) (a : Item) → roll-Item layer ≡ a
      → unknown_in_item defined declared a
      ≡ unknown_item_level defined declared
      (map-Item Item Loop Findings Findings (unknown_in_item defined declared)
      (fold-Loop Findings Findings (unknown_item_level defined declared) loop_level) layer)
  item-layer layer a rolls =
      ap (unknown_in_item defined declared) (sym rolls)
      ∙ fold-roll-Item Findings Findings (unknown_item_level defined declared) loop_level layer

  -- the names in an item of a loop
  abbrev pub item_of : List (List ℕ) → Item → List Finding
  item_of counters a = unknown_in_item defined declared a counters

  -- an equation has its own names
  pub item-equation : (a : Item) (equation : Equation) (counters : List (List ℕ)) → a ≡ item.Equation equation
      → item_of counters a ≡ unknown_in_equation defined declared equation counters
  item-equation a equation counters is =
      ap (λ f. f counters) (item-layer (Item-F.Equation equation) a (item.rolls-Equation equation ∙ sym is))

  -- a loop has the names of its bounds and of its items
  pub item-loop : (a : Item) (loop : Loop) (counters : List (List ℕ)) → a ≡ item.Loop loop
      → item_of counters a
      ≡ (unknown_in_index loop.low counters ++ unknown_in_index loop.high counters)
      ++ flat_map (item_of (loop.counter.text ∷ counters)) loop.items
  item-loop a loop counters is =
      ap (λ f. f counters) (item-layer (Item-F.Loop loop) a (item.rolls-Loop loop ∙ sym is))
      ∙ ap (λ (f : Findings). f counters)
      (fold_out-Loop Findings Findings (unknown_item_level defined declared) loop_level loop)
      ∙ ap (λ findings. (unknown_in_index loop.low counters ++ unknown_in_index loop.high counters) ++ findings)
      (flat_map-map (λ (part : Findings). part (loop.counter.text ∷ counters)) (unknown_in_item defined declared)
      loop.items)
