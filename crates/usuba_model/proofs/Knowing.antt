-- What the instances of a node call is defined earlier, where the file has no unknown name.
use Rattle.std.proofs.Common.{◌≡◌, ℕ, Bool, true, false, not, List, [], ◌∷◌, ◌++◌, map, flat_map, Option, Some, None, refl, sym, subst}
use Rattle.std.specs.Prelude.{ℤ, if◌then◌else◌}
use Rattle.std.proofs.lemmas.Option.{none-some}
use Rattle.usuba_trees.specs.declared.BitOp.{BitOp}
use Rattle.usuba_trees.specs.declared.Decl.{Decl}
use Rattle.usuba_trees.specs.declared.Expr.{Expr, map-Expr}
use Rattle.usuba_trees.specs.declared.Expr.TheOpen.{Expr-F}
use Rattle.usuba_trees.specs.declared.Item.{Item, map-Item}
use Rattle.usuba_trees.specs.declared.Item.TheOpen.{Item-F}
use Rattle.usuba_trees.specs.declared.Node.{Node}
use Rattle.usuba_trees.specs.declared.ShiftLink.{ShiftLink}
use Rattle.usuba_model.specs.declared.fault.Fault.{Fault}
use Rattle.usuba_model.specs.declared.fault.FaultKind.{FaultKind}
use Rattle.usuba_model.specs.Faults.{Finding, first_of}
use Rattle.usuba_model.specs.Indexes.{Counter, computed}
use Rattle.usuba_model.specs.Names.{names_of, Findings, findings_of, unknown_in_index, unknown_in_spot, unknown_level, unknown_in_expression, unknown_item_level, unknown_in_item}
use Rattle.usuba_model.specs.Operations.{calls_of}
use Rattle.usuba_model.specs.Unrolled.{Expression, operation, shift, natural, Instance, joined_all, chained, shifted, each_at, Unrolled, expression_level, unrolled_expression, Instances, of_each, of_loop, item_level, unrolled_item, counter_values, declarations, unrolled}
use Rattle.usuba_model.proofs.Folds.{exprs_related}
use Rattle.usuba_model.proofs.ItemFolds.{items_related}
use Rattle.usuba_model.proofs.Valuing.{AreKnown}

-- none of some findings holds
abbrev pub NoneHold : List Finding → Type 0
NoneHold [] = Unit {0}
NoneHold (finding ∷ findings) = (finding.holds ≡ false) × NoneHold findings

pub none_hold : (kind : FaultKind) (findings : List Finding) → first_of kind findings ≡ None → NoneHold findings
none_hold kind [] e = tt
none_hold kind (finding ∷ findings) e =
    let parts = at_first finding.holds (first_of kind findings) e in (parts.0, none_hold kind findings parts.1)
  where
    at_first : (b : Bool) (later : Option Fault) → (if b then Some (record { kind = kind; place = finding.place }) else later) ≡ None
        → (b ≡ false) × (later ≡ None)
    at_first true later e = absurd (none-some _ (sym e))
    at_first false later e = (refl, e)

pub none_first : (a b : List Finding) → NoneHold (a ++ b) → NoneHold a
none_first [] b n = tt
none_first (f ∷ a) b n = (n.0, none_first a b n.1)

pub none_second : (a b : List Finding) → NoneHold (a ++ b) → NoneHold b
none_second [] b n = n
none_second (f ∷ a) b n = none_second a b n.1

known_append : (known a b : List (List ℕ)) → AreKnown known a → AreKnown known b → AreKnown known (a ++ b)
known_append known [] b k l = l
known_append known (name ∷ a) b k l = (k.0, known_append known a b k.1 l)

not_false : (b : Bool) → not b ≡ false → b ≡ true
not_false true e = refl
not_false false e = absurd (subst (λ (b : Bool). elim b as (λ _. Type 0) [ true ↦ Unit {0} | false ↦ ⊥ ]) e tt)

module _ (defined names : List (List ℕ)) (declared : List Decl) where
  -- where no finding of an expression holds, what it calls is defined
  abbrev Knows : Findings → Unrolled → Type 0
  Knows findings unrolled = (around : List (List ℕ)) (counters : List Counter) → NoneHold (findings around) → AreKnown defined (calls_of (unrolled counters))

  abbrev Part : Type 0
  Part = (findings : Findings) × (unrolled : Unrolled) × Knows findings unrolled

  parts_know : (parts : List Part) (around : List (List ℕ)) (counters : List Counter) → NoneHold (findings_of (map (λ p. p.0) parts) around)
      → AreKnown defined (calls_of (joined_all (each_at counters (map (λ p. p.1) parts))))
  parts_know [] around counters none = tt
  parts_know (part ∷ []) around counters none = part.2 around counters (none_first (part.0 around) [] none)
  parts_know (part ∷ second ∷ rest) around counters none =
      let others = findings_of (map (λ p. p.0) (second ∷ rest)) around in
      known_append defined (calls_of (part.1 counters)) (calls_of (joined_all (each_at counters (map (λ p. p.1) (second ∷ rest)))))
      (part.2 around counters (none_first (part.0 around) others none))
      (parts_know (second ∷ rest) around counters (none_second (part.0 around) others none))

  chain_knows : (op : BitOp) (first : Expression) → AreKnown defined (calls_of first) → (rest : List Part) (around : List (List ℕ)) (counters : List Counter)
      → NoneHold (findings_of (map (λ p. p.0) rest) around)
      → AreKnown defined (calls_of (chained op first (each_at counters (map (λ p. p.1) rest))))
  chain_knows op first k [] around counters none = k
  chain_knows op first k (part ∷ rest) around counters none =
      let others = findings_of (map (λ p. p.0) rest) around in
      chain_knows op (operation op first (part.1 counters))
      (known_append defined (calls_of first) (calls_of (part.1 counters)) k (part.2 around counters (none_first (part.0 around) others none)))
      rest around counters (none_second (part.0 around) others none)

  shifts_know : (counters : List Counter) (first : Expression) → AreKnown defined (calls_of first) → (moves : List ShiftLink)
      → AreKnown defined (calls_of (shifted counters first moves))
  shifts_know counters first k [] = k
  shifts_know counters first k (move ∷ moves) =
      shifts_know counters (shift move.kind (natural (computed move.amount counters).value) first) k moves

  level_knows : (y : Expr-F Part Part)
      → Knows (unknown_level defined names (map-Expr Part Part Findings Findings (λ p. p.0) (λ p. p.0) y))
      (expression_level declared (map-Expr Part Part Unrolled Unrolled (λ p. p.1) (λ p. p.1) y))
  level_knows (Expr-F.Number place value) around counters none = tt
  level_knows (Expr-F.Spot spot) around counters none = tt
  level_knows (Expr-F.Tuple parts) around counters none = parts_know parts around counters none
  level_knows (Expr-F.Call name args) around counters none = (not_false _ none.0, parts_know args around counters none.1)
  level_knows (Expr-F.Not place inner) around counters none = inner.2 around counters none
  level_knows (Expr-F.Chain op first rest) around counters none =
      let others = findings_of (map (λ p. p.0) rest) around in
      chain_knows op (first.1 counters) (first.2 around counters (none_first (first.0 around) others none)) rest around counters
      (none_second (first.0 around) others none)
  level_knows (Expr-F.Shift first moves) around counters none =
      shifts_know counters (first.1 counters) (first.2 around counters (none_first (first.0 around) _ none)) moves
  level_knows (Expr-F.Refresh place inner k) around counters none = inner.2 around counters (none_first (inner.0 around) _ none)

  expression_knows : (e : Expr) → Knows (unknown_in_expression defined names e) (unrolled_expression declared e)
  expression_knows =
      exprs_related (unknown_level defined names) (λ link. link.operand) (expression_level declared) (λ link. link.operand)
      Knows Knows level_knows (λ y. y.operand.2)

  -- what some instances call is defined
  abbrev pub AllKnow : List Instance → Type 0
  AllKnow [] = Unit {0}
  AllKnow (i ∷ instances) = AreKnown defined (calls_of i.right) × AllKnow instances

  know_append : (a b : List Instance) → AllKnow a → AllKnow b → AllKnow (a ++ b)
  know_append [] b k l = l
  know_append (i ∷ a) b k l = (k.0, know_append a b k.1 l)

  abbrev ItemKnows : Findings → Instances → Type 0
  ItemKnows findings instances = (around : List (List ℕ)) (counters : List Counter) → NoneHold (findings around) → AllKnow (instances counters)

  abbrev ItemPart : Type 0
  ItemPart = (findings : Findings) × (instances : Instances) × ItemKnows findings instances

  each_knows : (parts : List ItemPart) → ItemKnows (findings_of (map (λ p. p.0) parts)) (of_each (map (λ p. p.1) parts))
  each_knows [] around counters none = tt
  each_knows (part ∷ parts) around counters none =
      let others = findings_of (map (λ p. p.0) parts) around in
      know_append (part.1 counters) (of_each (map (λ p. p.1) parts) counters)
      (part.2 around counters (none_first (part.0 around) others none))
      (each_knows parts around counters (none_second (part.0 around) others none))

  loop_knows : (name : List ℕ) (values : List ℤ) (findings : Findings) (instances : Instances) → ItemKnows findings instances
      → (around : List (List ℕ)) (counters : List Counter) → NoneHold (findings around) → AllKnow (of_loop name values instances counters)
  loop_knows name [] findings instances knows around counters none = tt
  loop_knows name (value ∷ values) findings instances knows around counters none =
      know_append (instances (record { name = name; value = value } ∷ counters)) (of_loop name values instances counters)
      (knows around (record { name = name; value = value } ∷ counters) none)
      (loop_knows name values findings instances knows around counters none)

  item_level_knows : (y : Item-F ItemPart ItemPart)
      → ItemKnows (unknown_item_level defined names (map-Item ItemPart ItemPart Findings Findings (λ p. p.0) (λ p. p.0) y))
      (item_level declared (map-Item ItemPart ItemPart Instances Instances (λ p. p.1) (λ p. p.1) y))
  item_level_knows (Item-F.Equation equation) around counters none =
      (expression_knows equation.right around counters (none_second (flat_map (unknown_in_spot names around) equation.left) _ none), tt)
  item_level_knows (Item-F.Loop loop) around counters none = loop.2 around counters none

  item_knows : (item : Item) → ItemKnows (unknown_in_item defined names item) (unrolled_item declared item)
  item_knows =
      items_related (unknown_item_level defined names)
      (λ loop counters.
      unknown_in_index loop.low counters ++ unknown_in_index loop.high counters
      ++ findings_of loop.items (loop.counter.text ∷ counters))
      (item_level declared)
      (λ loop counters. of_loop loop.counter.text (counter_values counters loop.low loop.high) (of_each loop.items) counters)
      ItemKnows ItemKnows item_level_knows
      (λ y around counters none. loop_knows y.counter.text (counter_values counters y.low y.high)
      (findings_of (map (λ p. p.0) y.items)) (of_each (map (λ p. p.1) y.items)) (each_knows y.items)
      (y.counter.text ∷ around) counters
      (none_second (unknown_in_index y.low around ++ unknown_in_index y.high around) _ none))

  pub items_know : (items : List Item) (around : List (List ℕ)) (counters : List Counter)
      → NoneHold (findings_of (map (unknown_in_item defined names) items) around) → AllKnow (of_each (map (unrolled_item declared) items) counters)
  items_know [] around counters none = tt
  items_know (item ∷ items) around counters none =
      let others = findings_of (map (unknown_in_item defined names) items) around in
      know_append (unrolled_item declared item counters) (of_each (map (unrolled_item declared) items) counters)
      (item_knows item around counters (none_first (unknown_in_item defined names item around) others none))
      (items_know items around counters (none_second (unknown_in_item defined names item around) others none))

-- what a node calls is defined, where no name in it is unknown
pub node_knows : (defined : List (List ℕ)) (node : Node)
    → NoneHold (findings_of (map (unknown_in_item defined (names_of (declarations node))) node.items) [])
    → AllKnow defined (names_of (declarations node)) (declarations node) (unrolled node)
node_knows defined node none = items_know defined (names_of (declarations node)) (declarations node) node.items [] [] none
