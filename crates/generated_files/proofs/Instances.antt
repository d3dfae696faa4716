-- The equation instances of generated lines, the steps of the walk through them, and the names in them.
use Rattle.std.proofs.Common.{◌≡◌, ℕ, ◌+◌, ◌*◌, ◌<◌, ◌≤◌, ◌∙◌, Bool, true, false, not, List, [], ◌∷◌, ◌++◌, length, map, Option, Some, None, refl, sym, ap, subst, arith}
use Rattle.std.specs.Prelude.{if◌then◌else◌, nat_lt, ◌==◌}
use Rattle.std.proofs.lemmas.Bool.Decides.{nat_tests}
use Rattle.tor_edge.specs.declared.place.Place.{Place}
use Rattle.source_gen.specs.declared.operands.Operands.{Operands}
use Rattle.usuba_trees.specs.Made.{name}
use Rattle.usuba_trees.specs.declared.BitOp.TheVariants as op
use Rattle.usuba_trees.specs.declared.Index.TheVariants as index
use Rattle.usuba_trees.specs.declared.Item.TheVariants as item
use Rattle.usuba_trees.specs.declared.Loop.{Loop-F}
use Rattle.usuba_model.specs.declared.fault.Fault.{Fault}
use Rattle.usuba_model.specs.declared.fault.FaultKind.{FaultKind}
use Rattle.usuba_model.specs.declared.fault.FaultKind.TheVariants.{SizeMismatch, TooManyOps}
use Rattle.usuba_model.specs.Cells.{SpotRead, spot_read}
use Rattle.usuba_model.specs.Faults.{Finding, first_of, when}
use Rattle.usuba_model.specs.Indexes.{computed}
use Rattle.usuba_model.specs.Names.{Findings, findings_of, is_name_among, repeated, repeated_level, repeated_counters, unknown_index_level, unknown_in_index, unknown_in_spot, unknown_level, unknown_in_expression, unknown_in_equation, unknown_item_level, unknown_in_item}
use Rattle.usuba_model.specs.Unrolled.{Expression, cells, operation, Instance, Unrolled, expression_level, unrolled_expression, Instances, of_each, of_loop, item_level, unrolled_item, counter_values}
use Rattle.usuba_model.specs.Walk.{Step, Walk, WalkedLink, Walked, Steps, most_operations, spot_step, operator_step, walk_level, walk_of, size_of, steps_of_each, bounds_step, instance_steps, item_steps_level, item_steps, walk_fault, count_of}
use Rattle.usuba_model.proofs.Knowing.{NoneHold}
use Rattle.generated_files.proofs.Lines.{AreBelow, letter, element, LinePlaces, spot_of, right_of, equation_of, items_of}
use Rattle.generated_files.proofs.Spelling.{AllBelow}
use Rattle.generated_files.proofs.Readings.{index_number, item_equation, folded_right, cell, one_cell, variables, output_read, operand_read}

-- instances

-- a right side, from what its spots come to
abbrev right_with : SpotRead → SpotRead → SpotRead → Expression
right_with a b c = operation op.And (operation op.Xor (cells a.cells) (cells b.cells)) (cells c.cells)

-- the right side of a line over cells
abbrev pub right_read : Operands → Expression
right_read o =
    right_with (one_cell (letter o.first) (element o.first)) (one_cell (letter o.second) (element o.second))
    (one_cell (letter o.third) (element o.third))

-- line k as an equation instance
abbrev pub instance_at : ℕ → Operands → LinePlaces → Instance
instance_at k o at = record {
  targets = record { name = name (122 ∷ []) at.left; cells = cell 122 k ∷ [] } ∷ [];
  right = right_read o;
}

-- the instances of the lines from k on
abbrev pub instances_from : (ℕ → Operands) → ℕ → List LinePlaces → List Instance
instances_from operands k [] = []
instances_from operands k (at ∷ places) = instance_at k (operands k) at ∷ instances_from operands (k + 1) places

-- where a line reads from declared variables, and what its three spots come to
abbrev Reads : ℕ → ℕ → Operands → Type 0
Reads size k o = AreBelow (8 + k) o × (k < size) × (size ≤ 4096)

unrolled_right : (size k : ℕ) (o : Operands) (at : LinePlaces) → Reads size k o
    → unrolled_expression (variables size) (right_of o at) [] ≡ right_read o
unrolled_right size k o at reads =
    let declared = variables size in
    let few : k ≤ size = let less = reads.1 in omega (arith, less) in
    let s = λ (j : ℕ) (place : Place). spot_of (letter j) (element j) place in
    let a = spot_read declared [] (s o.first at.first) in
    let b = spot_read declared [] (s o.second at.second) in
    let c = spot_read declared [] (s o.third at.third) in
    let opened : unrolled_expression declared (right_of o at) [] ≡ right_with a b c
    = ap (λ (f : Unrolled). f [])
    (folded_right {A = Unrolled} {B = Unrolled} (expression_level declared) (λ part. part.operand)
    (s o.first at.first) (s o.second at.second)
    (s o.third at.third) at.caret at.ampersand) in
    opened
    ∙ ap (λ (r : SpotRead). right_with r b c) (operand_read size k o.first at.first [] reads.0.first few reads.2)
    ∙ ap (λ (r : SpotRead). right_with (one_cell (letter o.first) (element o.first)) r c)
    (operand_read size k o.second at.second [] reads.0.second few reads.2)
    ∙ ap (λ (r : SpotRead). right_with (one_cell (letter o.first) (element o.first))
    (one_cell (letter o.second) (element o.second)) r)
    (operand_read size k o.third at.third [] reads.0.third few reads.2)

abbrev unrolled_loop : Loop-F Instances Instances → Instances
unrolled_loop loop counters = of_loop loop.counter.text (counter_values counters loop.low loop.high)
    (of_each loop.items) counters

-- a line has one instance
instance_is : (size k : ℕ) (o : Operands) (at : LinePlaces) → Reads size k o
    → unrolled_item (variables size) (item.Equation (equation_of k o at)) [] ≡ instance_at k o at ∷ []
instance_is size k o at reads =
    let declared = variables size in
    let left = spot_read declared [] (spot_of 122 k at.left) in
    let made : SpotRead → Expression → List Instance
    = λ r right. record { targets = record { name = name (122 ∷ []) at.left; cells = r.cells } ∷ []; right = right }
    ∷ [] in
    let opened : unrolled_item declared (item.Equation (equation_of k o at)) [] ≡ made left
    (unrolled_expression declared (right_of o at) [])
    = ap (λ (f : Instances). f []) (item_equation {A = Instances} {B = Instances} (item_level declared) unrolled_loop
    (equation_of k o at)) in
    opened ∙ ap (λ (r : SpotRead). made r (unrolled_expression declared (right_of o at) []))
    (output_read size k at.left [] reads.1 reads.2)
    ∙ ap (made (one_cell 122 k)) (unrolled_right size k o at reads)

pub instances_are : (operands : ℕ → Operands) → AllBelow operands → (size : ℕ) → size ≤ 4096
    → (places : List LinePlaces) (k : ℕ) → k + length places ≤ size
    → of_each (map (unrolled_item (variables size)) (items_of operands k places)) [] ≡ instances_from operands k places
instances_are operands below size few [] k within = refl
instances_are operands below size few (at ∷ places) k within =
    let here = instance_is size k (operands k) at (below k, omega arith, few) in
    let later = instances_are operands below size few places (k + 1) (omega arith) in
    ap (λ (is : List Instance). is ++ of_each (map (unrolled_item (variables size))
    (items_of operands (k + 1) places)) []) here
    ∙ ap (λ (is : List Instance). instance_at k (operands k) at ∷ is) later

-- steps

-- a step without a fault of its own
abbrev plain : Place → ℕ → Step
plain at adds = record { place = at; adds = adds; fault = None }

-- the steps of a line
abbrev line_steps : LinePlaces → List Step
line_steps at =
    plain at.left 1 ∷ plain at.left 1 ∷ plain at.first 1 ∷ plain at.second 1 ∷ plain at.caret 1 ∷ plain at.third 1
    ∷ plain at.ampersand 1
    ∷ plain at.equal 0 ∷ []

-- those of some lines
abbrev pub lines_steps : List LinePlaces → List Step
lines_steps [] = []
lines_steps (at ∷ places) = line_steps at ++ lines_steps places

-- the walk through a right side, from what its spots come to
abbrev walked_with : LinePlaces → SpotRead → SpotRead → SpotRead → Walked
walked_with at a b c = record {
  is = right_with a b c;
  steps = spot_step at.first a ∷ spot_step at.second b
      ∷ operator_step op.Xor at.caret (length a.cells) (length b.cells) ∷ spot_step at.third c
      ∷ operator_step op.And at.ampersand (length a.cells) (length c.cells) ∷ [];
}

walked_right : (size k : ℕ) (o : Operands) (at : LinePlaces) → Reads size k o
    → walk_of 1 [] (variables size) (right_of o at) []
    ≡ walked_with at (one_cell (letter o.first) (element o.first)) (one_cell (letter o.second) (element o.second))
    (one_cell (letter o.third) (element o.third))
walked_right size k o at reads =
    let declared = variables size in
    let few : k ≤ size = let less = reads.1 in omega (arith, less) in
    let s = λ (j : ℕ) (place : Place). spot_of (letter j) (element j) place in
    let a = spot_read declared [] (s o.first at.first) in
    let b = spot_read declared [] (s o.second at.second) in
    let c = spot_read declared [] (s o.third at.third) in
    let opened : walk_of 1 [] declared (right_of o at) [] ≡ walked_with at a b c
    = ap (λ (f : Walk). f [])
    (folded_right {A = Walk} {B = WalkedLink} (walk_level 1 [] declared)
    (λ part. record { place = part.place; operand = part.operand })
    (s o.first at.first) (s o.second at.second) (s o.third at.third) at.caret at.ampersand) in
    opened
    ∙ ap (λ (r : SpotRead). walked_with at r b c) (operand_read size k o.first at.first [] reads.0.first few reads.2)
    ∙ ap (λ (r : SpotRead). walked_with at (one_cell (letter o.first) (element o.first)) r c)
    (operand_read size k o.second at.second [] reads.0.second few reads.2)
    ∙ ap (λ (r : SpotRead). walked_with at (one_cell (letter o.first) (element o.first))
    (one_cell (letter o.second) (element o.second)) r)
    (operand_read size k o.third at.third [] reads.0.third few reads.2)

abbrev steps_with : LinePlaces → SpotRead → Walked → List Step
steps_with at left right =
    plain at.left 1 ∷ (spot_step at.left left ∷ []) ++ right.steps
    ++ record {
      place = at.equal;
      adds = 0;
      fault = when (not (length (left.cells ++ []) == size_of [] right.is))
          SizeMismatch;
    } ∷ []

abbrev steps_loop : Loop-F Steps Steps → Steps
steps_loop loop counters =
    bounds_step loop.place (computed loop.low counters) (computed loop.high counters)
    ∷ instance_steps loop.place loop.counter.text (counter_values counters loop.low loop.high)
    (steps_of_each loop.items) counters

steps_are_of : (size k : ℕ) (o : Operands) (at : LinePlaces) → Reads size k o
    → item_steps 1 [] (variables size) (item.Equation (equation_of k o at)) [] ≡ line_steps at
steps_are_of size k o at reads =
    let declared = variables size in
    let left = spot_read declared [] (spot_of 122 k at.left) in
    let right = walk_of 1 [] declared (right_of o at) [] in
    let opened : item_steps 1 [] declared (item.Equation (equation_of k o at)) [] ≡ steps_with at left right
    = ap (λ (f : Steps). f []) (item_equation {A = Steps} {B = Steps} (item_steps_level 1 [] declared) steps_loop
    (equation_of k o at)) in
    opened ∙ ap (λ (r : SpotRead). steps_with at r right) (output_read size k at.left [] reads.1 reads.2)
    ∙ ap (steps_with at (one_cell 122 k)) (walked_right size k o at reads)

pub steps_are : (operands : ℕ → Operands) → AllBelow operands → (size : ℕ) → size ≤ 4096
    → (places : List LinePlaces) (k : ℕ) → k + length places ≤ size
    → steps_of_each (map (item_steps 1 [] (variables size)) (items_of operands k places)) [] ≡ lines_steps places
steps_are operands below size few [] k within = refl
steps_are operands below size few (at ∷ places) k within =
    let here = steps_are_of size k (operands k) at (below k, omega arith, few) in
    let later = steps_are operands below size few places (k + 1) (omega arith) in
    ap (λ (is : List Step). is ++ steps_of_each (map (item_steps 1 [] (variables size))
    (items_of operands (k + 1) places)) []) here
    ∙ ap (λ (is : List Step). line_steps at ++ is) later

-- a step without a fault is passed where the count stays within its limit
pub step_passed : (at : Place) (adds count : ℕ) (steps : List Step) → count + adds ≤ most_operations
    → walk_fault (count + adds) steps ≡ None
    → walk_fault count (record { place = at; adds = adds; fault = None } ∷ steps) ≡ None
step_passed at adds count steps within later =
    let small : nat_lt most_operations (count + adds) ≡ false = grind (arith, nat_tests) in
    ap (λ (b : Bool). step_of b) small ∙ later
  where
    step_of : Bool → Option Fault
    step_of b = if b then Some (record { kind = TooManyOps; place = at }) else walk_fault (count + adds) steps

pub lines_passed : (places : List LinePlaces) (count : ℕ) → count + 7 * length places ≤ most_operations
    → walk_fault count (lines_steps places) ≡ None
lines_passed [] count within = refl
lines_passed (at ∷ places) count within =
    let room : count + 7 + 7 * length places ≤ most_operations = omega (arith, within) in
    let last : List Step = plain at.equal 0 ∷ lines_steps places in
    let product : List Step = plain at.ampersand 1 ∷ last in
    let third : List Step = plain at.third 1 ∷ product in
    let sum : List Step = plain at.caret 1 ∷ third in
    let second : List Step = plain at.second 1 ∷ sum in
    let first : List Step = plain at.first 1 ∷ second in
    let left : List Step = plain at.left 1 ∷ first in
    step_passed at.left 1 count left (omega (arith, room))
    (step_passed at.left 1 (count + 1) first (omega (arith, room))
    (step_passed at.first 1 (count + 1 + 1) second (omega (arith, room))
    (step_passed at.second 1 (count + 1 + 1 + 1) sum (omega (arith, room))
    (step_passed at.caret 1 (count + 1 + 1 + 1 + 1) third (omega (arith, room))
    (step_passed at.third 1 (count + 1 + 1 + 1 + 1 + 1) product (omega (arith, room))
    (step_passed at.ampersand 1 (count + 1 + 1 + 1 + 1 + 1 + 1) last (omega (arith, room))
    (step_passed at.equal 0 (count + 1 + 1 + 1 + 1 + 1 + 1 + 1) (lines_steps places) (omega (arith, room))
    (lines_passed places (count + 1 + 1 + 1 + 1 + 1 + 1 + 1 + 0) (omega (arith, room))))))))))

pub lines_count : (places : List LinePlaces) → count_of (lines_steps places) ≡ 7 * length places
lines_count [] = refl
lines_count (at ∷ places) = let later = lines_count places in omega (arith, later)

-- names

pub none_append : (a b : List Finding) → NoneHold a → NoneHold b → NoneHold (a ++ b)
none_append [] b p q = q
none_append (f ∷ a) b p q = (p.0, none_append a b p.1 q)

pub first_none : (kind : FaultKind) (findings : List Finding) → NoneHold findings → first_of kind findings ≡ None
first_none kind [] none = refl
first_none kind (f ∷ findings) none =
    ap (λ (b : Bool). if b then Some (record { kind = kind; place = f.place }) else first_of kind findings) none.0
    ∙ first_none kind findings none.1

abbrev counters_loop : List (List ℕ) → Loop-F Findings Findings → Findings
counters_loop taken loop counters = repeated (taken ++ counters) loop.counter
    ∷ findings_of loop.items (loop.counter.text ∷ counters)

-- lines have no counters
pub no_counters : (operands : ℕ → Operands) (taken : List (List ℕ)) (places : List LinePlaces) (k : ℕ)
    → NoneHold (findings_of (map (repeated_counters taken) (items_of operands k places)) [])
no_counters operands taken [] k = tt
no_counters operands taken (at ∷ places) k =
    let none : repeated_counters taken (item.Equation (equation_of k (operands k) at)) [] ≡ []
    = ap (λ (f : Findings). f []) (item_equation {A = Findings} {B = Findings} repeated_level (counters_loop taken)
    (equation_of k (operands k) at)) in
    none_append (repeated_counters taken (item.Equation (equation_of k (operands k) at)) []) _
    (subst NoneHold (sym none) tt) (no_counters operands taken places (k + 1))

-- the declared names of a generated node
abbrev pub declared_names : List (List ℕ)
declared_names = (120 ∷ []) ∷ (122 ∷ []) ∷ []

spot_known : (v n : ℕ) (at : Place) → is_name_among declared_names (v ∷ []) ≡ true
    → NoneHold (unknown_in_spot declared_names [] (spot_of v n at))
spot_known v n at known =
    let none : unknown_in_index (index.Number n) [] ≡ []
    = ap (λ (f : Findings). f []) (index_number {A = Findings} {B = Findings} unknown_index_level
    (λ part. part.operand) n) in
    (ap not known, subst (λ (fs : List Finding). NoneHold (fs ++ [])) (sym none) tt)

letter_known : (j : ℕ) → is_name_among declared_names (letter j ∷ []) ≡ true
letter_known j = by_test (nat_lt j 8)
  where
    by_test : (b : Bool) → is_name_among declared_names ((if b then 120 else 122) ∷ []) ≡ true
    by_test true = refl
    by_test false = refl

abbrev unknown_loop : Loop-F Findings Findings → Findings
unknown_loop loop counters =
    unknown_in_index loop.low counters ++ unknown_in_index loop.high counters
    ++ findings_of loop.items (loop.counter.text ∷ counters)

right_known : (o : Operands) (at : LinePlaces) → NoneHold (unknown_in_expression [] declared_names (right_of o at) [])
right_known o at =
    let a = unknown_in_spot declared_names [] (spot_of (letter o.first) (element o.first) at.first) in
    let b = unknown_in_spot declared_names [] (spot_of (letter o.second) (element o.second) at.second) in
    let c = unknown_in_spot declared_names [] (spot_of (letter o.third) (element o.third) at.third) in
    let spot : (j : ℕ) (place : Place) → NoneHold (unknown_in_spot declared_names []
    (spot_of (letter j) (element j) place))
    = λ j place. spot_known (letter j) (element j) place (letter_known j) in
    let opened : unknown_in_expression [] declared_names (right_of o at) [] ≡ ((a ++ (b ++ [])) ++ []) ++ (c ++ [])
    = ap (λ (f : Findings). f [])
    (folded_right {A = Findings} {B = Findings} (unknown_level [] declared_names) (λ part. part.operand)
    (spot_of (letter o.first) (element o.first) at.first) (spot_of (letter o.second) (element o.second) at.second)
    (spot_of (letter o.third) (element o.third) at.third) at.caret at.ampersand) in
    let sum = none_append a (b ++ []) (spot o.first at.first) (none_append b [] (spot o.second at.second) tt) in
    subst NoneHold (sym opened)
    (none_append ((a ++ (b ++ [])) ++ []) (c ++ []) (none_append (a ++ (b ++ [])) [] sum tt)
    (none_append c [] (spot o.third at.third) tt))

-- the names in lines are known
pub all_known : (operands : ℕ → Operands) (places : List LinePlaces) (k : ℕ)
    → NoneHold (findings_of (map (unknown_in_item [] declared_names) (items_of operands k places)) [])
all_known operands [] k = tt
all_known operands (at ∷ places) k =
    let equation = equation_of k (operands k) at in
    let opened : unknown_in_item [] declared_names (item.Equation equation) [] ≡ unknown_in_equation [] declared_names
    equation []
    = ap (λ (f : Findings). f []) (item_equation {A = Findings} {B = Findings} (unknown_item_level [] declared_names)
    unknown_loop equation) in
    let first = unknown_in_spot declared_names [] (spot_of 122 k at.left) in
    let left = none_append first [] (spot_known 122 k at.left refl) tt in
    let right = unknown_in_expression [] declared_names (right_of (operands k) at) [] in
    none_append (unknown_in_item [] declared_names (item.Equation equation) []) _
    (subst NoneHold (sym opened) (none_append (first ++ []) right left (right_known (operands k) at)))
    (all_known operands places (k + 1))
