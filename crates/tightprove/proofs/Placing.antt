-- The classes that are noted of operands.
use Rattle.std.proofs.Common.{◌≡◌, ◌<◌, ℕ, zero, suc, List, length, get_or, set, replicate, refl, sym, ap, ◌∙◌, subst, arith, Option, Some, None, IfSome, ◌⊎◌, inl, inr}
use Rattle.std.proofs.lemmas.Bool.{cases_eq}
use Rattle.std.proofs.lemmas.List.{get_or-set_same, get_or-set_other}
use Rattle.span_model.specs.Columns.{Columns, sets_of}
use Rattle.span_model.specs.Span.{SameSpan}
use Rattle.span_model.specs.Attack.{Product}
use Rattle.span_model.specs.Closure.{operand}
use Rattle.linear_view.specs.Sides.{step_of, place_of}
use Rattle.linear_view.specs.declared.operand.Operand.{Operand}
use Rattle.linear_view.proofs.PlaceLemmas.{same_place}
use Rattle.tightprove.specs.Classes.{class_at, class_rows, HasClassesOf, noted_class, IsPlaced, ArePlaced}
use Rattle.tightprove.specs.declared.class.Class.{Class}

none_there : (n i : ℕ) → get_or (let l : List (Option ℕ) = replicate n None in l) i None ≡ None
none_there zero i = refl
none_there (suc n) zero = refl
none_there (suc n) (suc i) = none_there n i

-- nothing is noted at first
pub none_placed : (products : List (Product ℕ)) (classes : List Class) (placed : List (Option ℕ)) (n : ℕ)
    → placed ≡ replicate n None → ArePlaced products classes placed
none_placed products classes placed n e o =
    subst (λ (x : Option ℕ). IfSome x (IsPlaced products classes o))
    (sym (ap (λ (l : List (Option ℕ)). get_or l (place_of o) None) e ∙ none_there n (place_of o))) tt

pub none_or_some : (y : Option ℕ) → (y ≡ None) ⊎ ((i : ℕ) × (y ≡ Some i))
none_or_some None = inl refl
none_or_some (Some i) = inr (i, refl)

-- the class of one more operand
pub one_placed : (products : List (Product ℕ)) (classes : List Class) (placed : List (Option ℕ)) (o : Operand) (i : ℕ)
    → ArePlaced products classes placed → place_of o < length placed → IsPlaced products classes o i
    → ArePlaced products classes (set placed (place_of o) (Some i))
one_placed products classes placed o i those within is q =
    elim (cases_eq (place_of q) (place_of o)) [
      | inl same ↦
          subst (λ (p : Operand). IfSome (noted_class (set placed (place_of o) (Some i)) p) (IsPlaced products classes p))
          (sym (same_place q o same))
          (subst (λ (x : Option ℕ). IfSome x (IsPlaced products classes o))
          (sym (get_or-set_same placed (place_of o) (Some i) None within)) is)
      | inr other ↦
          subst (λ (x : Option ℕ). IfSome x (IsPlaced products classes q))
          (sym (get_or-set_other placed (place_of o) (place_of q) (Some i) None other)) (those q)
    ]

-- the class of an operand with the same rows
pub placed_alike : (products : List (Product ℕ)) (classes : List Class) (like o : Operand) (i : ℕ)
    → operand products (step_of like) ≡ operand products (step_of o) → IsPlaced products classes like i
    → IsPlaced products classes o i
placed_alike products classes like o i same is =
    (is.0, subst (λ (r : List (Columns ℕ)). SameSpan (class_rows classes i) r) same is.1)

-- what is noted stays so while classes keep their numbers and their rows
each_stays : (products : List (Product ℕ)) (old new : List Class) (o : Operand) (x : Option ℕ)
    → ((i : ℕ) → i < length old → (i < length new) × (class_rows new i ≡ class_rows old i))
    → IfSome x (IsPlaced products old o) → IfSome x (IsPlaced products new o)
each_stays products old new o None stays is = tt
each_stays products old new o (Some i) stays is =
    let there = stays i is.0 in
    (there.0, subst (λ (r : List (Columns ℕ)). SameSpan r (operand products (step_of o))) (sym there.1) is.1)

pub placed_kept : (products : List (Product ℕ)) (old new : List Class) (placed : List (Option ℕ)) → HasClassesOf old new
    → ArePlaced products old placed → ArePlaced products new placed
placed_kept products old new placed kept those o =
    each_stays products old new o (noted_class placed o)
    (λ i below. (omega (arith, below, kept.count), ap (λ (c : Class). sets_of c.rows) (kept.kept i below))) (those o)

pub placed_paired : (products : List (Product ℕ)) (old new : List Class) (placed : List (Option ℕ)) → length new ≡ length old
    → ((k : ℕ) → (class_at new k).rows ≡ (class_at old k).rows) → ArePlaced products old placed → ArePlaced products new placed
placed_paired products old new placed count rows those o =
    each_stays products old new o (noted_class placed o)
    (λ i below. (omega (arith, below, count), ap sets_of (rows i))) (those o)

-- the class of the rows of an operand, and so of one with the same rows
pub placed_by : (products : List (Product ℕ)) (classes : List Class) (o : Operand) (i : ℕ) (rows : List (Columns ℕ))
    → rows ≡ operand products (step_of o) → (i < length classes) × SameSpan (class_rows classes i) rows
    → IsPlaced products classes o i
placed_by products classes o i rows same is =
    (is.0, subst (λ (r : List (Columns ℕ)). SameSpan (class_rows classes i) r) same is.1)

pub placed_as : (products : List (Product ℕ)) (classes : List Class) (like o : Operand) (i : ℕ) (rows : List (Columns ℕ))
    → rows ≡ operand products (step_of like) → operand products (step_of like) ≡ operand products (step_of o)
    → (i < length classes) × SameSpan (class_rows classes i) rows → IsPlaced products classes o i
placed_as products classes like o i rows same alike is =
    placed_alike products classes like o i alike (placed_by products classes like i rows same is)
