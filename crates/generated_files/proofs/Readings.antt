-- What the trees of generated lines are read to: the folds over a line, and the cells of its spots.
use Rattle.std.proofs.Common.{◌≡◌, ℕ, ◌+◌, ◌-◌, ◌*◌, ◌<◌, ◌≤◌, ◌^◌, ◌∙◌, Bool, true, false, ◌||◌, List, [], ◌∷◌, map, flat_map, reverse, Some, None, refl, sym, ap, arith}
use Rattle.std.specs.Prelude.{if◌then◌else◌, nat_lt, nat_le, pos}
use Rattle.std.specs.List.{range_with_len}
use Rattle.std.proofs.lemmas.Bool.Decides.{nat_tests}
use Rattle.tor_edge.specs.declared.place.Place.{Place}
use Rattle.usuba_trees.specs.Made.{link}
use Rattle.usuba_trees.specs.declared.BitOp.{BitOp}
use Rattle.usuba_trees.specs.declared.BitOp.TheVariants as op
use Rattle.usuba_trees.specs.declared.Equation.{Equation}
use Rattle.usuba_trees.specs.declared.Expr.{Expr, fold-Expr, fold-roll-Expr}
use Rattle.usuba_trees.specs.declared.Expr.TheOpen.{Expr-F}
use Rattle.usuba_trees.specs.declared.Expr.TheVariants as tree
use Rattle.usuba_trees.specs.declared.Index.{fold-Index, fold-roll-Index}
use Rattle.usuba_trees.specs.declared.Index.TheOpen.{Index-F}
use Rattle.usuba_trees.specs.declared.Index.TheVariants as index
use Rattle.usuba_trees.specs.declared.IndexLink.{IndexLink-F}
use Rattle.usuba_trees.specs.declared.Item.{fold-Item, fold-roll-Item}
use Rattle.usuba_trees.specs.declared.Item.TheOpen.{Item-F}
use Rattle.usuba_trees.specs.declared.Item.TheVariants as item
use Rattle.usuba_trees.specs.declared.Link.{Link-F, fold-roll-Link}
use Rattle.usuba_trees.specs.declared.Loop.{Loop-F}
use Rattle.usuba_trees.specs.declared.Spot.{Spot}
use Rattle.usuba_trees.specs.declared.Decl.{Decl}
use Rattle.usuba_model.specs.Cells.{Cell, cells_of, from_to, sizes_of, SpotRead, read_with, read_of, spot_read}
use Rattle.usuba_model.specs.Indexes.{Counter, Computed, IndexPart, index_level, computed}
use Rattle.generated_files.proofs.Lines.{letter, element, spot_of}
use Rattle.generated_files.proofs.Spelling.{input_of, output_of}

-- a number in an index, in each fold
pub index_number : {A B : Type 0} (level : Index-F A B → A) (part : IndexLink-F A B → B) (n : ℕ)
    → fold-Index A B level part (index.Number n) ≡ level (Index-F.Number n)
index_number {A} {B} level part n =
    ap (fold-Index A B level part) (sym (index.rolls-Number n)) ∙ fold-roll-Index A B level part (Index-F.Number n)

-- an equation among items, in each fold
pub item_equation : {A B : Type 0} (level : Item-F A B → A) (loop : Loop-F A B → B) (e : Equation)
    → fold-Item A B level loop (item.Equation e) ≡ level (Item-F.Equation e)
item_equation {A} {B} level loop e =
    ap (fold-Item A B level loop) (sym (item.rolls-Equation e)) ∙ fold-roll-Item A B level loop (Item-F.Equation e)

module _ {A B : Type 0} (level : Expr-F A B → A) (part : Link-F A B → B) where
  abbrev folded : Expr → A
  folded = fold-Expr A B level part

  -- what the fold makes of one spot, of brackets, and of an operator on two operands
  abbrev pub of_spot : Spot → A
  of_spot s = level (Expr-F.Spot s)

  abbrev pub of_bracket : A → A
  of_bracket a = level (Expr-F.Tuple (a ∷ []))

  abbrev pub of_two : BitOp → A → Place → A → A
  of_two o first at second = level (Expr-F.Chain o first (part (record { place = at; operand = second }) ∷ []))

  folded_spot : (s : Spot) → folded (tree.Spot s) ≡ of_spot s
  folded_spot s = ap folded (sym (tree.rolls-Spot s)) ∙ fold-roll-Expr A B level part (Expr-F.Spot s)

  folded_bracket : (e : Expr) → folded (tree.Tuple (e ∷ [])) ≡ of_bracket (folded e)
  folded_bracket e = ap folded (sym (tree.rolls-Tuple (e ∷ []))) ∙ fold-roll-Expr A B level part (Expr-F.Tuple (e ∷ []))

  folded_two : (o : BitOp) (first second : Expr) (at : Place)
      → folded (tree.Chain o first (link at second ∷ [])) ≡ of_two o (folded first) at (folded second)
  folded_two o first second at =
      ap folded (sym (tree.rolls-Chain o first (link at second ∷ [])))
      ∙ fold-roll-Expr A B level part (Expr-F.Chain o first (link at second ∷ []))
      ∙ ap (λ (b : B). level (Expr-F.Chain o (folded first) (b ∷ [])))
      (fold-roll-Link A B level part (record { place = at; operand = second }))

  -- the fold over the right side of a line
  abbrev pub of_right : Spot → Place → Spot → Place → Spot → A
  of_right first caret second ampersand third =
      of_two op.And (of_bracket (of_two op.Xor (of_spot first) caret (of_spot second))) ampersand (of_spot third)

  pub folded_right : (first second third : Spot) (caret ampersand : Place)
      → folded (tree.Chain op.And (tree.Tuple (tree.Chain op.Xor (tree.Spot first)
      (link caret (tree.Spot second) ∷ []) ∷ []))
      (link ampersand (tree.Spot third) ∷ [])) ≡ of_right first caret second ampersand third
  folded_right first second third caret ampersand =
      let sum : Expr = tree.Chain op.Xor (tree.Spot first) (link caret (tree.Spot second) ∷ []) in
      let in_sum : folded sum ≡ of_two op.Xor (of_spot first) caret (of_spot second)
      = folded_two op.Xor (tree.Spot first) (tree.Spot second) caret
      ∙ ap (λ (a : A). of_two op.Xor a caret (folded (tree.Spot second))) (folded_spot first)
      ∙ ap (λ (a : A). of_two op.Xor (of_spot first) caret a) (folded_spot second) in
      folded_two op.And (tree.Tuple (sum ∷ [])) (tree.Spot third) ampersand
      ∙ ap (λ (a : A). of_two op.And a ampersand (folded (tree.Spot third))) (folded_bracket sum ∙ ap of_bracket in_sum)
      ∙ ap (λ (a : A). of_two op.And (of_bracket (of_two op.Xor (of_spot first) caret (of_spot second))) ampersand a)
      (folded_spot third)

-- indexes and spots

abbrev value_at : ℕ → Computed
value_at n = record { value = Some (pos n); divided_by_zero = false; too_big = false }

index_computed : (n : ℕ) (counters : List Counter) → n < 2 ^ 63 → computed (index.Number n) counters ≡ value_at n
index_computed n counters fits =
    let small : nat_lt n (2 ^ 63) ≡ true = grind (arith, nat_tests) in
    ap (λ (f : List Counter → Computed). f counters)
    (index_number {A = List Counter → Computed} {B = IndexPart} index_level
    (λ part. record { op = part.op; operand = part.operand }) n)
    ∙ ap (λ (b : Bool). if b then value_at n else record { value = None; divided_by_zero = false; too_big = true })
    small

-- a cell of a variable of one letter
abbrev pub cell : ℕ → ℕ → Cell
cell v n = record { name = v ∷ []; element = n }

-- a spot that picks one cell, without a fault
abbrev pub one_cell : ℕ → ℕ → SpotRead
one_cell v n = record { cells = cell v n ∷ []; divided_by_zero = false; index_out = false }

from_to_itself : (n : ℕ) → from_to n n ≡ n ∷ []
from_to_itself n =
    let low : nat_le n n ≡ true = grind (arith, nat_tests) in
    let one : n - n + 1 ≡ 1 = omega arith in
    ap (λ (b : Bool). if b then range_with_len n (n - n + 1) else reverse (range_with_len n (n - n + 1))) low
    ∙ ap (range_with_len n) one

-- what a bracket comes to, from whether it picks outside and from the parts that it picks
abbrev bracket_read : ℕ → Bool → List ℕ → SpotRead
bracket_read v outside parts = record {
  cells = if (outside || outside) || false then [] else cells_of (v ∷ [])
      (flat_map (λ part. map (λ element. part * 1 + element) (0 ∷ [])) parts);
  divided_by_zero = false;
  index_out = (outside || outside) || false;
}

bracket_one : (v n count : ℕ) → n < count
    → read_with (v ∷ []) (record { first = value_at n; last = value_at n } ∷ []) (count ∷ []) ≡ one_cell v n
bracket_one v n count within =
    let inside : nat_le count n ≡ false = grind (arith, nat_tests) in
    let opened : read_with (v ∷ []) (record { first = value_at n; last = value_at n } ∷ [])
    (count ∷ []) ≡ bracket_read v (nat_le count n) (from_to n n)
    = refl in
    let same : n * 1 + 0 ≡ n = omega arith in
    opened ∙ ap (λ (b : Bool). bracket_read v b (from_to n n)) inside ∙ ap (bracket_read v false) (from_to_itself n)
    ∙ ap (one_cell v) same

-- a spot with one number in its bracket picks that element
spot_read_one : (declared : List Decl) (counters : List Counter) (v n count : ℕ) (at : Place)
    → sizes_of declared (v ∷ []) ≡ Some (count ∷ [])
    → n < count → n < 2 ^ 63 → spot_read declared counters (spot_of v n at) ≡ one_cell v n
spot_read_one declared counters v n count at sizes within fits =
    ap (λ (c : Computed). read_of (v ∷ []) (record { first = c; last = c } ∷ []) (sizes_of declared (v ∷ [])))
    (index_computed n counters fits)
    ∙ ap (read_of (v ∷ []) (record { first = value_at n; last = value_at n } ∷ [])) sizes
    ∙ bracket_one v n count within

-- the variables of a generated node
abbrev pub variables : ℕ → List Decl
variables size = input_of ∷ output_of size ∷ []

-- the cell of an operand
abbrev pub operand_cell : ℕ → Cell
operand_cell j = cell (letter j) (element j)

pub output_read : (size k : ℕ) (at : Place) (counters : List Counter) → k < size → size ≤ 4096
    → spot_read (variables size) counters (spot_of 122 k at) ≡ one_cell 122 k
output_read size k at counters within few = spot_read_one (variables size) counters 122 k size at refl
    within (omega (arith, within, few))

pub operand_read : (size k j : ℕ) (at : Place) (counters : List Counter) → j < 8 + k → k ≤ size → size ≤ 4096
    → spot_read (variables size) counters (spot_of (letter j) (element j) at) ≡ one_cell (letter j) (element j)
operand_read size k j at counters below within few = by_test (nat_lt j 8) refl
  where
    by_test : (b : Bool) → nat_lt j 8 ≡ b
        → spot_read (variables size) counters (spot_of (if b then 120 else 122) (if b then j else j - 8) at)
        ≡ one_cell (if b then 120 else 122) (if b then j else j - 8)
    by_test true is =
        let low : j < 8 = grind (arith, nat_tests) in
        spot_read_one (variables size) counters 120 j 8 at refl low (omega (arith, low))
    by_test false is =
        let high : 8 ≤ j = grind (arith, nat_tests) in
        spot_read_one (variables size) counters 122 (j - 8) size at refl (omega (arith, high, below, within))
        (omega (arith, high, below, within, few))
