-- The cells of each node's instances are elements of its declared variables: what is not declared, or picks past a size, has none.
use Rattle.std.proofs.Common.{◌≡◌, ◌<◌, ◌≤◌, ◌+◌, ◌-◌, ◌*◌, ℕ, suc, Bool, true, false, ◌||◌, List, [], ◌∷◌, ◌++◌, length, map, reverse, get_or, refl, sym, ◌∙◌, subst, arith, Option, Some, None, mul-le-mul_right, suc-mul}
use Rattle.std.specs.Prelude.{ℤ, pos, negsuc, nat_le, nat_lt, if◌then◌else◌, bytes_eq, flat_map}
use Rattle.std.specs.List.{list_any, list_all, range_with_len}
use Rattle.std.proofs.lemmas.Bool.{and_from, and_parts, leb-true, leb-false, lt-ltb}
use Rattle.std.proofs.lemmas.List.{length-reverse, get_or-reverse}
use Rattle.std.proofs.lemmas.List.Folds.{list_all-append}
use Rattle.std.proofs.lemmas.Option.{none-some, same_Some}
use Rattle.std.proofs.lemmas.List.FromFn.{length-range_with_len, get_or-range_with_len}
use Rattle.usuba_trees.specs.declared.BitOp.{BitOp}
use Rattle.usuba_trees.specs.declared.Decl.{Decl}
use Rattle.usuba_trees.specs.declared.Expr.{Expr, map-Expr}
use Rattle.usuba_trees.specs.declared.Expr.TheOpen.{Expr-F}
use Rattle.usuba_trees.specs.declared.Item.{Item, map-Item}
use Rattle.usuba_trees.specs.declared.Item.TheOpen.{Item-F}
use Rattle.usuba_trees.specs.declared.Loop.{Loop-F}
use Rattle.usuba_trees.specs.declared.Node.{Node}
use Rattle.usuba_trees.specs.declared.ShiftLink.{ShiftLink}
use Rattle.usuba_trees.specs.declared.Spot.{Spot}
use Rattle.usuba_model.specs.Assignments.{cells_read, assigned_cells, read_cells}
use Rattle.usuba_model.specs.Cells.{Cell, cells_of, sizes_of, from_to, parts_between, is_outside, Picked, picks_outside, pick_outside, picked, divides_by_zero, meets_too_big, picked_elements, read_of, spot_read}
use Rattle.usuba_model.specs.Indexes.{Counter, computed}
use Rattle.usuba_model.specs.Numbers.{is_declared}
use Rattle.usuba_model.specs.Shapes.{sizes, product, elements}
use Rattle.usuba_model.specs.Unrolled.{Expression, operation, shift, natural, Instance, target_cells, left_cells, joined_all, chained, shifted, each_at, Unrolled, expression_level, unrolled_expression, targets_of, Instances, of_each, of_loop, item_level, unrolled_item, counter_values, declarations, unrolled}
use Rattle.usuba_model.proofs.Folds.{expr_holds}
use Rattle.usuba_model.proofs.ItemFolds.{items_related}
use Rattle.ready_order.proofs.Among.{false_true}
use Rattle.ready_order.proofs.CodedNumbers.{AreDeclared}

-- NUMBERS OF ELEMENTS

-- each of some numbers is below a bound
abbrev AreLess : ℕ → List ℕ → Type 0
AreLess n [] = Unit {0}
AreLess n (x ∷ xs) = (x < n) × AreLess n xs

less_append : (n : ℕ) (a b : List ℕ) → AreLess n a → AreLess n b → AreLess n (a ++ b)
less_append n [] b p q = q
less_append n (x ∷ a) b p q = (p.0, less_append n a b p.1 q)

less_from : (n : ℕ) (xs : List ℕ) → ((k : ℕ) → k < length xs → get_or xs k 0 < n) → AreLess n xs
less_from n [] each = tt
less_from n (x ∷ xs) each = (each 0 (omega arith), less_from n xs (λ k h. each (suc k) (omega (arith, h))))

range_less : (n a m : ℕ) → a + m ≤ n → AreLess n (range_with_len a m)
range_less n a m h =
    less_from n (range_with_len a m)
    (λ k lt. let within : k < m = let len = length-range_with_len a m in omega (arith, lt, len) in
    let at = get_or-range_with_len a m k 0 within in omega (arith, at, within, h))

reversed_less : (n a m : ℕ) → a + m ≤ n → AreLess n (reverse (range_with_len a m))
reversed_less n a m h =
    less_from n (reverse (range_with_len a m))
    (λ k lt.
    let len = length-range_with_len a m in
    let turned = length-reverse (range_with_len a m) in
    let below : k < length (range_with_len a m) = omega (arith, lt, turned) in
    let within : length (range_with_len a m) - 1 - k < m = omega (arith, below, len) in
    let at = get_or-reverse (range_with_len a m) k 0 below in
    let here = get_or-range_with_len a m (length (range_with_len a m) - 1 - k) 0 within in
    omega (arith, at, here, within, h))

-- the parts between two indexes within a size
from_to_less : (size first last : ℕ) → first < size → last < size → AreLess size (from_to first last)
from_to_less size first last f l = of_it (nat_le first last) refl
  where
    of_it : (b : Bool) → nat_le first last ≡ b
        → AreLess size (if b then range_with_len first (last - first + 1) else reverse (range_with_len last (first - last + 1)))
    of_it true e = let le = leb-true first last e in range_less size first (last - first + 1) (omega (arith, le, l))
    of_it false e = let lt = leb-false first last e in reversed_less size last (first - last + 1) (omega (arith, lt, f))

neither : (a b : Bool) → (a || b) ≡ false → (a ≡ false) × (b ≡ false)
neither true b e = false_true (sym e)
neither false b e = (refl, e)

parts_less : (size : ℕ) (first last : Option ℤ) → is_outside size first ≡ false → is_outside size last ≡ false
    → AreLess size (parts_between first last)
parts_less size (Some (pos first)) (Some (pos last)) p q = from_to_less size first last (leb-false size first p) (leb-false size last q)
parts_less size (Some (pos first)) (Some (negsuc last)) p q = tt
parts_less size (Some (negsuc first)) last p q = tt
parts_less size (Some (pos first)) None p q = tt
parts_less size None last p q = tt

part_less : (size count part : ℕ) (es : List ℕ) → part < size → AreLess count es → AreLess (size * count) (map (λ element. part * count + element) es)
part_less size count part [] h p = tt
part_less size count part (e ∷ es) h p =
    let more : suc part ≤ size = omega (arith, h) in
    let whole : suc part * count ≤ size * count = mul-le-mul_right count more in
    let one : suc part * count ≡ part * count + count = suc-mul part count in
    let here = p.0 in
    (omega (arith, whole, one, here), part_less size count part es h p.1)

all_parts_less : (size count : ℕ) (es parts : List ℕ) → AreLess count es → AreLess size parts
    → AreLess (size * count) (flat_map (λ part. map (λ element. part * count + element) es) parts)
all_parts_less size count es [] p q = tt
all_parts_less size count es (part ∷ parts) p q =
    less_append (size * count) (map (λ element. part * count + element) es) (flat_map (λ part. map (λ element. part * count + element) es) parts)
    (part_less size count part es q.0 p) (all_parts_less size count es parts p q.1)

-- the elements that brackets pick within sizes are there
picked_less : (dims : List ℕ) (brackets : List Picked) → pick_outside dims brackets ≡ false → AreLess (product dims) (picked_elements dims brackets)
picked_less [] brackets e = (omega arith, tt)
picked_less (size ∷ dims) [] e =
    all_parts_less size (product dims) (picked_elements dims []) (range_with_len 0 size) (picked_less dims [] (none_outside dims)) (range_less size 0 size (omega arith))
  where
    none_outside : (ds : List ℕ) → pick_outside ds [] ≡ false
    none_outside [] = refl
    none_outside (d ∷ ds) = refl
picked_less (size ∷ dims) (bracket ∷ brackets) e =
    let parts = neither (picks_outside size bracket) (pick_outside dims brackets) e in
    let ends = neither (is_outside size bracket.first.value) (is_outside size bracket.last.value) parts.0 in
    all_parts_less size (product dims) (picked_elements dims brackets) (parts_between bracket.first.value bracket.last.value)
    (picked_less dims brackets parts.1) (parts_less size bracket.first.value bracket.last.value ends.0 ends.1)

-- CELLS OF SPOTS

-- each of some cells is an element of a declared variable
abbrev pub AllDeclared : List Decl → List Cell → Type 0
AllDeclared declared cells = list_all (is_declared declared) cells ≡ true

pub all_join : (declared : List Decl) (a b : List Cell) → AllDeclared declared a → AllDeclared declared b → AllDeclared declared (a ++ b)
all_join declared a b p q =
    list_all-append (is_declared declared) a b ∙ and_from (list_all (is_declared declared) a) (list_all (is_declared declared) b) p q

-- an element within the sizes of a name is declared
element_declared : (declared : List Decl) (name : List ℕ) (dims : List ℕ) → sizes_of declared name ≡ Some dims → (e : ℕ) → e < product dims
    → is_declared declared (record { name = name; element = e }) ≡ true
element_declared [] name dims s e h = absurd (none-some dims s)
element_declared (d ∷ rest) name dims s e h =
    of_it (bytes_eq d.name.text name) s (λ t. element_declared rest name dims t e h)
  where
    of_it : (b : Bool) → (if b then Some (sizes d.shape) else sizes_of rest name) ≡ Some dims
        → (sizes_of rest name ≡ Some dims → is_declared rest (record { name = name; element = e }) ≡ true)
        → (if b then nat_lt e (elements d) else is_declared rest (record { name = name; element = e })) ≡ true
    of_it true s later =
        lt-ltb e (elements d) (subst (λ (ds : List ℕ). e < product ds) (sym (same_Some (sizes d.shape) dims s)) h)
    of_it false s later = later s

cells_declared : (declared : List Decl) (name : List ℕ) (dims : List ℕ) → sizes_of declared name ≡ Some dims → (es : List ℕ) → AreLess (product dims) es
    → AllDeclared declared (cells_of name es)
cells_declared declared name dims s [] p = refl
cells_declared declared name dims s (e ∷ es) p =
    and_from (is_declared declared (record { name = name; element = e })) (list_all (is_declared declared) (cells_of name es))
    (element_declared declared name dims s e p.0) (cells_declared declared name dims s es p.1)

pub spot_declared : (declared : List Decl) (counters : List Counter) (spot : Spot) → AllDeclared declared (spot_read declared counters spot).cells
spot_declared declared counters spot = of_sizes (sizes_of declared spot.name.text) refl
  where
    brackets : List Picked
    brackets = map (picked counters) spot.picks

    at_fault : (zero_divisor too_big out : Bool) (dims : List ℕ) → sizes_of declared spot.name.text ≡ Some dims → pick_outside dims brackets ≡ out
        → AllDeclared declared (if zero_divisor || (too_big || out) then [] else cells_of spot.name.text (picked_elements dims brackets))
    at_fault true too_big out dims s e = refl
    at_fault false true out dims s e = refl
    at_fault false false true dims s e = refl
    at_fault false false false dims s e =
        cells_declared declared spot.name.text dims s (picked_elements dims brackets) (picked_less dims brackets e)

    of_sizes : (o : Option (List ℕ)) → sizes_of declared spot.name.text ≡ o → AllDeclared declared (read_of spot.name.text brackets o).cells
    of_sizes None s = refl
    of_sizes (Some dims) s = at_fault (list_any divides_by_zero brackets) (list_any meets_too_big brackets) (pick_outside dims brackets) dims s refl

-- EXPRESSIONS

module _ (declared : List Decl) where
  -- an expression reads elements of declared variables
  abbrev Reads : Unrolled → Type 0
  Reads part = (counters : List Counter) → AllDeclared declared (cells_read (part counters))

  abbrev Part : Type 0
  Part = (part : Unrolled) × Reads part

  parts_read : (parts : List Part) (counters : List Counter) → AllDeclared declared (cells_read (joined_all (each_at counters (map (λ h. h.0) parts))))
  parts_read [] counters = refl
  parts_read (part ∷ []) counters = part.1 counters
  parts_read (part ∷ second ∷ rest) counters =
      all_join declared (cells_read (part.0 counters)) (cells_read (joined_all (each_at counters (map (λ h. h.0) (second ∷ rest)))))
      (part.1 counters) (parts_read (second ∷ rest) counters)

  chain_reads : (op : BitOp) (first : Expression) → AllDeclared declared (cells_read first) → (rest : List Part) (counters : List Counter)
      → AllDeclared declared (cells_read (chained op first (each_at counters (map (λ h. h.0) rest))))
  chain_reads op first p [] counters = p
  chain_reads op first p (part ∷ rest) counters =
      chain_reads op (operation op first (part.0 counters))
      (all_join declared (cells_read first) (cells_read (part.0 counters)) p (part.1 counters)) rest counters

  shifts_read : (counters : List Counter) (first : Expression) → AllDeclared declared (cells_read first) → (moves : List ShiftLink)
      → AllDeclared declared (cells_read (shifted counters first moves))
  shifts_read counters first p [] = p
  shifts_read counters first p (move ∷ moves) =
      shifts_read counters (shift move.kind (natural (computed move.amount counters).value) first) p moves

  level_reads : (y : Expr-F Part Part) → Reads (expression_level declared (map-Expr Part Part Unrolled Unrolled (λ h. h.0) (λ h. h.0) y))
  level_reads (Expr-F.Number place value) counters = refl
  level_reads (Expr-F.Spot spot) counters = spot_declared declared counters spot
  level_reads (Expr-F.Tuple parts) counters = parts_read parts counters
  level_reads (Expr-F.Call name args) counters = parts_read args counters
  level_reads (Expr-F.Not place inner) counters = inner.1 counters
  level_reads (Expr-F.Chain op first rest) counters = chain_reads op (first.0 counters) (first.1 counters) rest counters
  level_reads (Expr-F.Shift first moves) counters = shifts_read counters (first.0 counters) (first.1 counters) moves
  level_reads (Expr-F.Refresh place inner k) counters = inner.1 counters

  expression_reads : (e : Expr) → Reads (unrolled_expression declared e)
  expression_reads = expr_holds (expression_level declared) (λ link. link.operand) Reads Reads level_reads (λ y. y.operand.1)

  -- INSTANCES

  abbrev BothDeclared : List Instance → Type 0
  BothDeclared instances = AllDeclared declared (assigned_cells instances) × AllDeclared declared (read_cells instances)

  both_append : (a b : List Instance) → BothDeclared a → BothDeclared b → BothDeclared (a ++ b)
  both_append [] b p q = q
  both_append (i ∷ a) b p q =
      let lefts = cut (left_cells i) (assigned_cells a) p.0 in
      let reads = cut (cells_read i.right) (read_cells a) p.1 in
      let rest = both_append a b (lefts.1, reads.1) q in (
        all_join declared (left_cells i) (assigned_cells (a ++ b)) lefts.0 rest.0,
        all_join declared (cells_read i.right) (read_cells (a ++ b)) reads.0 rest.1,
      )
    where
      cut : (xs ys : List Cell) → AllDeclared declared (xs ++ ys) → AllDeclared declared xs × AllDeclared declared ys
      cut xs ys e =
          and_parts (list_all (is_declared declared) xs) (list_all (is_declared declared) ys) (sym (list_all-append (is_declared declared) xs ys) ∙ e)

  targets_declared : (counters : List Counter) (spots : List Spot) → AllDeclared declared (target_cells (targets_of declared counters spots))
  targets_declared counters [] = refl
  targets_declared counters (spot ∷ spots) =
      all_join declared (spot_read declared counters spot).cells (target_cells (targets_of declared counters spots))
      (spot_declared declared counters spot) (targets_declared counters spots)

  -- the instances of an item, for each value of the counters around it
  abbrev ItemDeclared : Instances → Type 0
  ItemDeclared instances = (counters : List Counter) → BothDeclared (instances counters)

  abbrev ItemPart : Type 0
  ItemPart = (none : Unit {0}) × (instances : Instances) × ItemDeclared instances

  each_declared : (parts : List ItemPart) → ItemDeclared (of_each (map (λ p. p.1) parts))
  each_declared [] counters = (refl, refl)
  each_declared (part ∷ parts) counters =
      both_append (part.1 counters) (of_each (map (λ p. p.1) parts) counters) (part.2 counters) (each_declared parts counters)

  loop_declared : (name : List ℕ) (values : List ℤ) (instances : Instances) → ItemDeclared instances → (counters : List Counter)
      → BothDeclared (of_loop name values instances counters)
  loop_declared name [] instances all counters = (refl, refl)
  loop_declared name (value ∷ values) instances all counters =
      both_append (instances (record { name = name; value = value } ∷ counters)) (of_loop name values instances counters)
      (all (record { name = name; value = value } ∷ counters)) (loop_declared name values instances all counters)

  item_level_declared : (y : Item-F ItemPart ItemPart) → ItemDeclared (item_level declared (map-Item ItemPart ItemPart Instances Instances (λ p. p.1) (λ p. p.1) y))
  item_level_declared (Item-F.Equation equation) counters = (
    all_join declared (target_cells (targets_of declared counters equation.left)) [] (targets_declared counters equation.left) refl,
    all_join declared (cells_read (unrolled_expression declared equation.right counters)) [] (expression_reads equation.right counters) refl,
  )
  item_level_declared (Item-F.Loop loop) counters = loop.2 counters

  abbrev no_item : Item-F (Unit {0}) (Unit {0}) → Unit {0}
  no_item y = tt

  abbrev no_loop : Loop-F (Unit {0}) (Unit {0}) → Unit {0}
  no_loop y = tt

  abbrev SecondDeclared : Unit {0} → Instances → Type 0
  SecondDeclared none instances = ItemDeclared instances

  item_declared : (item : Item) → ItemDeclared (unrolled_item declared item)
  item_declared =
      items_related no_item no_loop (item_level declared)
      (λ loop counters. of_loop loop.counter.text (counter_values counters loop.low loop.high) (of_each loop.items) counters)
      SecondDeclared SecondDeclared item_level_declared
      (λ y counters. loop_declared y.counter.text (counter_values counters y.low y.high) (of_each (map (λ p. p.1) y.items))
      (each_declared y.items) counters)

  items_declared : (items : List Item) (counters : List Counter) → BothDeclared (of_each (map (unrolled_item declared) items) counters)
  items_declared [] counters = (refl, refl)
  items_declared (item ∷ items) counters =
      both_append (unrolled_item declared item counters) (of_each (map (unrolled_item declared) items) counters)
      (item_declared item counters) (items_declared items counters)

-- the instances of each node assign and read elements of its declared variables
pub node_declared : (node : Node) → AreDeclared (declarations node) (unrolled node)
node_declared node =
    let both = items_declared (declarations node) node.items [] in record { assigned = both.0; read = both.1 }
