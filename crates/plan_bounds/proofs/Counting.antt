-- What the operators of a node make is within the count of its walk.
use Rattle.std.proofs.Common.{◌≡◌, ◌+◌, ◌*◌, ◌≤◌, ℕ, List, [], ◌∷◌, ◌++◌, map, None, subst, arith}
use Rattle.std.specs.Prelude.{ℤ, length, not, ◌==◌}
use Rattle.tor_edge.specs.declared.place.Place.{Place}
use Rattle.usuba_trees.specs.declared.BitOp.{BitOp}
use Rattle.usuba_trees.specs.declared.Decl.{Decl}
use Rattle.usuba_trees.specs.declared.Equation.{Equation}
use Rattle.usuba_trees.specs.declared.Expr.{Expr, map-Expr}
use Rattle.usuba_trees.specs.declared.Expr.TheOpen.{Expr-F}
use Rattle.usuba_trees.specs.declared.Item.{Item, map-Item}
use Rattle.usuba_trees.specs.declared.Item.TheOpen.{Item-F}
use Rattle.usuba_trees.specs.declared.Node.{Node}
use Rattle.usuba_trees.specs.declared.ShiftLink.{ShiftLink}
use Rattle.usuba_model.specs.declared.fault.FaultKind.TheVariants.{SizeMismatch}
use Rattle.usuba_model.specs.Faults.{when}
use Rattle.usuba_model.specs.Indexes.{Counter, computed}
use Rattle.usuba_model.specs.Unrolled.{Expression, cells, number, nothing, joined, call, complement, operation, shift, refresh, Instance, instance_of, target_cells, targets_of, Instances, of_each, of_loop, item_level, unrolled_item, counter_values, declarations, unrolled}
use Rattle.usuba_model.specs.Shapes.{all_elements}
use Rattle.usuba_model.specs.Walk.{Step, Signature, signature_of, size_of, weight, call_step, operator_step, shift_step, refresh_step, Walked, Walk, WalkedLink, walked_at, walked_parts, walked_operation, walked_chain, walked_shift, walked_shifts, walk_level, walk_of, left_steps, equation_steps, Steps, steps_of_each, instance_steps, bounds_step, item_steps_level, item_steps, node_steps, count_of}
use Rattle.usuba_model.proofs.Folds.{expr_holds}
use Rattle.usuba_model.proofs.ItemFolds.{items_related}
use Rattle.usuba_model.proofs.WalkLemmas.{walk_unrolls}

-- what the operators of an expression make
abbrev pub own_room : List Signature → Expression → ℕ
own_room signatures (number value) = 1
own_room signatures (cells read) = 0
own_room signatures nothing = 0
own_room signatures (joined a b) = own_room signatures a + own_room signatures b
own_room signatures (call name args) = own_room signatures args
own_room signatures (complement a) = own_room signatures a + size_of signatures a
own_room signatures (operation op a b) = own_room signatures a + own_room signatures b + weight op * size_of signatures a
own_room signatures (shift kind k a) = own_room signatures a + 1
own_room signatures (refresh k a) = own_room signatures a + size_of signatures a

-- what those of some instances make
abbrev pub own_rooms : List Signature → List Instance → ℕ
own_rooms signatures [] = 0
own_rooms signatures (i ∷ instances) = own_room signatures i.right + own_rooms signatures instances

pub count_append : (a b : List Step) → count_of (a ++ b) ≡ count_of a + count_of b
count_append [] b = omega arith
count_append (step ∷ a) b = let later = count_append a b in omega (arith, later)

own_append : (signatures : List Signature) (a b : List Instance) → own_rooms signatures (a ++ b) ≡ own_rooms signatures a + own_rooms signatures b
own_append signatures [] b = omega arith
own_append signatures (i ∷ a) b = let later = own_append signatures a b in omega (arith, later)

two_parts : (a b c d all : ℕ) → all ≡ c + d → a ≤ c → b ≤ d → a + b ≤ all
two_parts a b c d all e p q = omega (arith, e, p, q)

with_sign : (a x c all : ℕ) → all ≡ c + (x + 0) → a ≤ c → a + x ≤ all
with_sign a x c all e p = omega (arith, e, p)

with_more : (a x c all : ℕ) → all ≡ c + x → a ≤ c → a ≤ all
with_more a x c all e p = omega (arith, e, p)

two_with_sign : (a b x c d inner all : ℕ) → all ≡ inner + (x + 0) → inner ≡ c + d → a ≤ c → b ≤ d → a + b + x ≤ all
two_with_sign a b x c d inner all e f p q = omega (arith, e, f, p, q)

module _ (w : ℕ) (signatures : List Signature) where
  -- what the operators make is counted
  abbrev IsCounted : Walked → Type 0
  IsCounted walked = own_room signatures walked.is ≤ count_of walked.steps

  abbrev IsCountedWalk : Walk → Type 0
  IsCountedWalk walk = (counters : List Counter) → IsCounted (walk counters)

  abbrev IsCountedLink : WalkedLink → Type 0
  IsCountedLink link = IsCountedWalk link.operand

  abbrev CountedPart : Type 0
  CountedPart = (walk : Walk) × IsCountedWalk walk

  abbrev CountedLink : Type 0
  CountedLink = (link : WalkedLink) × IsCountedLink link

  counted_parts : (counters : List Counter) (parts : List CountedPart) → IsCounted (walked_parts (walked_at counters (map (λ h. h.0) parts)))
  counted_parts counters [] = omega arith
  counted_parts counters (part ∷ []) =
      with_more (own_room signatures (part.0 counters).is) 0 (count_of (part.0 counters).steps) _
      (count_append (part.0 counters).steps []) (part.1 counters)
  counted_parts counters (part ∷ second ∷ rest) =
      let others = walked_parts (walked_at counters (map (λ h. h.0) (second ∷ rest))) in
      two_parts (own_room signatures (part.0 counters).is) (own_room signatures others.is)
      (count_of (part.0 counters).steps) (count_of others.steps) _
      (count_append (part.0 counters).steps others.steps) (part.1 counters) (counted_parts counters (second ∷ rest))

  counted_operation : (op : BitOp) (left : Walked) (place : Place) (right : Walked) → IsCounted left → IsCounted right
      → IsCounted (walked_operation signatures op left place right)
  counted_operation op left place right counted counted' =
      let sign = operator_step op place (size_of signatures left.is) (size_of signatures right.is) in
      two_with_sign (own_room signatures left.is) (own_room signatures right.is) (weight op * size_of signatures left.is)
      (count_of left.steps) (count_of right.steps) (count_of (left.steps ++ right.steps)) _
      (count_append (left.steps ++ right.steps) (sign ∷ [])) (count_append left.steps right.steps) counted counted'

  counted_chain : (counters : List Counter) (op : BitOp) (first : Walked) → IsCounted first → (rest : List CountedLink)
      → IsCounted (walked_chain signatures counters op first (map (λ h. h.0) rest))
  counted_chain counters op first counted [] = counted
  counted_chain counters op first counted (next ∷ rest) =
      counted_chain counters op (walked_operation signatures op first next.0.place (next.0.operand counters))
      (counted_operation op first next.0.place (next.0.operand counters) counted (next.1 counters)) rest

  counted_shift : (counters : List Counter) (operand : Walked) → IsCounted operand → (move : ShiftLink)
      → IsCounted (walked_shift w signatures counters operand move)
  counted_shift counters operand counted move =
      let step = shift_step w move.place (size_of signatures operand.is) (computed move.amount counters) in
      with_sign (own_room signatures operand.is) 1 (count_of operand.steps) _ (count_append operand.steps (step ∷ [])) counted

  counted_shifts : (counters : List Counter) (first : Walked) → IsCounted first → (moves : List ShiftLink)
      → IsCounted (walked_shifts w signatures counters first moves)
  counted_shifts counters first counted [] = counted
  counted_shifts counters first counted (move ∷ moves) =
      counted_shifts counters (walked_shift w signatures counters first move) (counted_shift counters first counted move) moves

  counted_level : (declared : List Decl) (y : Expr-F CountedPart CountedLink)
      → IsCountedWalk (walk_level w signatures declared (map-Expr CountedPart CountedLink Walk WalkedLink (λ h. h.0) (λ h. h.0) y))
  counted_level declared (Expr-F.Number place value) counters = omega arith
  counted_level declared (Expr-F.Spot spot) counters = omega arith
  counted_level declared (Expr-F.Tuple parts) counters = counted_parts counters parts
  counted_level declared (Expr-F.Call name args) counters =
      let walked = walked_parts (walked_at counters (map (λ h. h.0) args)) in
      let step = call_step name.place (signature_of signatures name.text) (size_of signatures walked.is) in
      with_more (own_room signatures walked.is) (count_of (step ∷ [])) (count_of walked.steps) _
      (count_append walked.steps (step ∷ [])) (counted_parts counters args)
  counted_level declared (Expr-F.Not place inner) counters =
      with_sign (own_room signatures (inner.0 counters).is) (size_of signatures (inner.0 counters).is) (count_of (inner.0 counters).steps) _
      (count_append (inner.0 counters).steps (record { place = place; adds = size_of signatures (inner.0 counters).is; fault = None } ∷ []))
      (inner.1 counters)
  counted_level declared (Expr-F.Chain op first rest) counters =
      counted_chain counters op (first.0 counters) (first.1 counters) rest
  counted_level declared (Expr-F.Shift first moves) counters =
      counted_shifts counters (first.0 counters) (first.1 counters) moves
  counted_level declared (Expr-F.Refresh place inner k) counters =
      let step = refresh_step place (size_of signatures (inner.0 counters).is) (computed k counters) in
      with_sign (own_room signatures (inner.0 counters).is) (size_of signatures (inner.0 counters).is) (count_of (inner.0 counters).steps) _
      (count_append (inner.0 counters).steps (step ∷ [])) (inner.1 counters)

  walked_counted : (declared : List Decl) (e : Expr) → IsCountedWalk (walk_of w signatures declared e)
  walked_counted declared =
      expr_holds (walk_level w signatures declared) (λ link. record { place = link.place; operand = link.operand })
      IsCountedWalk IsCountedLink (counted_level declared) (λ y. y.operand.1)

  module _ (declared : List Decl) where
    -- the steps count what the operators of the instances make
    abbrev Counts : Steps → Instances → Type 0
    Counts steps instances = (counters : List Counter) → own_rooms signatures (instances counters) ≤ count_of (steps counters)

    abbrev Part : Type 0
    Part = (steps : Steps) × (instances : Instances) × Counts steps instances

    joined_counts : (a b : List Instance) (s t : List Step) → own_rooms signatures a ≤ count_of s → own_rooms signatures b ≤ count_of t
        → own_rooms signatures (a ++ b) ≤ count_of (s ++ t)
    joined_counts a b s t p q =
        let here = own_append signatures a b in let there = count_append s t in omega (arith, here, there, p, q)

    each_counts : (parts : List Part) → Counts (steps_of_each (map (λ p. p.0) parts)) (of_each (map (λ p. p.1) parts))
    each_counts [] counters = omega arith
    each_counts (part ∷ parts) counters =
        joined_counts (part.1 counters) (of_each (map (λ p. p.1) parts) counters) (part.0 counters)
        (steps_of_each (map (λ p. p.0) parts) counters) (part.2 counters) (each_counts parts counters)

    loop_counts : (place : Place) (name : List ℕ) (values : List ℤ) (steps : Steps) (instances : Instances) → Counts steps instances
        → Counts (instance_steps place name values steps) (of_loop name values instances)
    loop_counts place name [] steps instances counts counters = omega arith
    loop_counts place name (value ∷ values) steps instances counts counters =
        let inside : List Counter = record { name = name; value = value } ∷ counters in
        one_more (own_rooms signatures (instances inside ++ of_loop name values instances counters))
        (count_of (steps inside ++ instance_steps place name values steps counters))
        (joined_counts (instances inside) (of_loop name values instances counters) (steps inside)
        (instance_steps place name values steps counters) (counts inside) (loop_counts place name values steps instances counts counters))
      where
        one_more : (a b : ℕ) → a ≤ b → a ≤ 1 + b
        one_more a b p = omega (arith, p)

    equation_counts : (equation : Equation) → Counts (λ counters. equation_steps w signatures declared counters equation)
        (λ counters. instance_of declared counters equation ∷ [])
    equation_counts equation counters =
        let right = walk_of w signatures declared equation.right counters in
        let size = length (target_cells (targets_of declared counters equation.left)) in
        let last : Step = record { place = equation.equal; adds = 0; fault = when (not (size == size_of signatures right.is)) SizeMismatch } in
        let left = left_steps declared counters equation.left in
        among (own_room signatures (instance_of declared counters equation).right) (count_of left) (count_of right.steps)
        (count_of (left ++ right.steps)) (count_of (last ∷ [])) (count_of (left ++ right.steps ++ last ∷ []))
        (count_append left right.steps) (count_append (left ++ right.steps) (last ∷ []))
        (subst (λ (e : Expression). own_room signatures e ≤ count_of right.steps) (walk_unrolls w signatures declared equation.right counters)
        (walked_counted declared equation.right counters))
      where
        among : (a l r lr x all : ℕ) → lr ≡ l + r → all ≡ lr + x → a ≤ r → a + 0 ≤ 1 + all
        among a l r lr x all e f p = omega (arith, e, f, p)

    level_counts : (y : Item-F Part Part)
        → Counts (item_steps_level w signatures declared (map-Item Part Part Steps Steps (λ p. p.0) (λ p. p.0) y))
        (item_level declared (map-Item Part Part Instances Instances (λ p. p.1) (λ p. p.1) y))
    level_counts (Item-F.Equation equation) counters = equation_counts equation counters
    level_counts (Item-F.Loop loop) counters = loop.2 counters

    item_counts : (item : Item) → Counts (item_steps w signatures declared item) (unrolled_item declared item)
    item_counts =
        items_related (item_steps_level w signatures declared)
        (λ loop counters.
        bounds_step loop.place (computed loop.low counters) (computed loop.high counters)
        ∷ instance_steps loop.place loop.counter.text (counter_values counters loop.low loop.high) (steps_of_each loop.items) counters)
        (item_level declared)
        (λ loop counters. of_loop loop.counter.text (counter_values counters loop.low loop.high) (of_each loop.items) counters)
        Counts Counts level_counts
        (λ y counters. after_bounds _ _ (loop_counts y.place y.counter.text (counter_values counters y.low y.high)
        (steps_of_each (map (λ p. p.0) y.items)) (of_each (map (λ p. p.1) y.items)) (each_counts y.items) counters))
      where
        after_bounds : (a b : ℕ) → a ≤ b → a ≤ 0 + b
        after_bounds a b p = omega (arith, p)

    items_count : (items : List Item) → Counts (steps_of_each (map (item_steps w signatures declared) items)) (of_each (map (unrolled_item declared) items))
    items_count [] counters = omega arith
    items_count (item ∷ items) counters =
        joined_counts (unrolled_item declared item counters) (of_each (map (unrolled_item declared) items) counters)
        (item_steps w signatures declared item counters) (steps_of_each (map (item_steps w signatures declared) items) counters)
        (item_counts item counters) (items_count items counters)

-- the walk of a node counts what its operators make
pub node_counted : (w : ℕ) (signatures : List Signature) (node : Node)
    → own_rooms signatures (unrolled node) ≤ count_of (node_steps w signatures node)
node_counted w signatures node =
    below (all_elements (declarations node)) _ _ (items_count w signatures (declarations node) node.items [])
  where
    below : (x a b : ℕ) → a ≤ b → a ≤ x + b
    below x a b p = omega (arith, p)
