-- Where no cell is assigned twice, each order of the instances assigns each cell for the first time.
use Rattle.std.proofs.Common.{◌≡◌, ◌⊎◌, inl, inr, ◌<◌, ℕ, zero, suc, Bool, true, false, ◌||◌, ◌==◌, List, [], ◌∷◌, ◌++◌, length, map, refl, sym, ap, ◌∙◌, arith}
use Rattle.std.specs.Prelude.{flat_map}
use Rattle.std.proofs.lemmas.Bool.{eqb-true, eq-eqb, cases_order}
use Rattle.std.proofs.lemmas.List.Folds.{list_any-append}
use Rattle.usuba_model.specs.Assignments.{holds_again, assigned_again}
use Rattle.usuba_model.specs.Cells.{Cell, same_cell, is_among}
use Rattle.usuba_model.specs.Unrolled.{Target, Instance, target_cells, left_cells}
use Rattle.usuba_model.proofs.CellLemmas.{false_true, same_cells}
use Rattle.usuba_model.proofs.Knowing.{NoneHold}
use Rattle.usuba_model.proofs.Ordering.{IsIn, AreIn, AreFresh}
use Rattle.usuba_code.specs.CodeLaw.{Each}
use Rattle.ready_order.specs.Numbered.{is_one_of}
use Rattle.ready_order.specs.Order.{AreDistinct}
use Rattle.usuba_plan.proofs.Taking.{instance_at}

either_false : (p q : Bool) → (p || q) ≡ false → (p ≡ false) × (q ≡ false)
either_false true q e = false_true (sym e)
either_false false q e = (refl, e)

or_second : (p q : Bool) → q ≡ true → (p || q) ≡ true
or_second true q e = refl
or_second false q e = e

or_cases {ℓ} : {A : Type ℓ} → (a b : Bool) → (a || b) ≡ true → (a ≡ true → A) → (b ≡ true → A) → A
or_cases true b e first second = first refl
or_cases false b e first second = second e

not_true : (b : Bool) → (b ≡ true → ⊥) → b ≡ false
not_true true never = absurd (never refl)
not_true false never = refl

joined_cases {ℓ} : {A : Type ℓ} → (xs ys : List Cell) (c : Cell) → is_among (xs ++ ys) c ≡ true → (is_among xs c ≡ true → A) → (is_among ys c ≡ true → A) → A
joined_cases xs ys c e = or_cases (is_among xs c) (is_among ys c) (sym (list_any-append (same_cell c) xs ys) ∙ e)

joined_first : (xs ys : List Cell) (c : Cell) → is_among xs c ≡ true → is_among (xs ++ ys) c ≡ true
joined_first xs ys c e = list_any-append (same_cell c) xs ys ∙ ap (λ (b : Bool). b || is_among ys c) e

joined_second : (xs ys : List Cell) (c : Cell) → is_among ys c ≡ true → is_among (xs ++ ys) c ≡ true
joined_second xs ys c e = list_any-append (same_cell c) xs ys ∙ or_second (is_among xs c) (is_among ys c) e

joined_none : (xs ys : List Cell) (c : Cell) → is_among (xs ++ ys) c ≡ false → (is_among xs c ≡ false) × (is_among ys c ≡ false)
joined_none xs ys c e = either_false (is_among xs c) (is_among ys c) (sym (list_any-append (same_cell c) xs ys) ∙ e)

-- cells that hold none of some again are none of these
not_again : (taken cs : List Cell) → holds_again taken cs ≡ false → (c : Cell) → is_among cs c ≡ true → is_among taken c ≡ false
not_again taken [] none c m = false_true m
not_again taken (x ∷ cs) none c m =
    let parts = either_false (is_among taken x) (holds_again (x ∷ taken) cs) none in
    or_cases (same_cell c x) (is_among cs c) m
    (λ e. ap (is_among taken) (same_cells c x e) ∙ parts.0)
    (λ e. (either_false (same_cell c x) (is_among taken c) (not_again (x ∷ taken) cs parts.1 c e)).1)

-- left sides that are at no fault after some cells, and what follows them
targets_apart : (taken : List Cell) (a b : List Target) → NoneHold (assigned_again taken (a ++ b))
    → ((c : Cell) → is_among (target_cells a) c ≡ true → is_among taken c ≡ false)
    × ((later : List Cell) × ((c : Cell) → is_among (target_cells a ++ taken) c ≡ true → is_among later c ≡ true) × NoneHold (assigned_again later b))
targets_apart taken [] b none = (λ c m. false_true m, (taken, λ c m. m, none))
targets_apart taken (t ∷ a) b none =
    let rest = targets_apart (t.cells ++ taken) a b none.1 in (
      λ c m. joined_cases t.cells (target_cells a) c m
          (λ e. not_again taken t.cells none.0 c e)
          (λ e. (joined_none t.cells taken c (rest.0 c e)).1),
      (
        rest.1.0,
        λ c m. rest.1.1 c (moved c m),
        rest.1.2,
      ),
    )
  where
    moved : (c : Cell) → is_among (t.cells ++ target_cells a ++ taken) c ≡ true → is_among (target_cells a ++ (t.cells ++ taken)) c ≡ true
    moved c m =
        joined_cases (t.cells ++ target_cells a) taken c m
        (λ e. joined_cases t.cells (target_cells a) c e
        (λ f. joined_second (target_cells a) (t.cells ++ taken) c (joined_first t.cells taken c f))
        (λ f. joined_first (target_cells a) (t.cells ++ taken) c f))
        (λ e. joined_second (target_cells a) (t.cells ++ taken) c (joined_second t.cells taken c e))

-- instances that are at no fault after some cells assign each cell for the first time
pub fresh_in_order : (instances : List Instance) (taken later : List Cell) → ((c : Cell) → is_among taken c ≡ true → is_among later c ≡ true)
    → NoneHold (assigned_again later (flat_map (λ instance. instance.targets) instances)) → AreFresh taken instances
fresh_in_order [] taken later within none = tt
fresh_in_order (i ∷ instances) taken later within none =
    let parts = targets_apart later i.targets (flat_map (λ instance. instance.targets) instances) none in (
      λ c m. not_true (is_among taken c) (λ e. false_true (sym (parts.0 c m) ∙ within c e)),
      fresh_in_order instances (left_cells i ++ taken) parts.1.0
          (λ c m. parts.1.1 c (joined_cases (left_cells i) taken c m
          (λ e. joined_first (target_cells i.targets) later c e)
          (λ e. joined_second (target_cells i.targets) later c (within c e))))
          parts.1.2,
    )

fresh_at : (instances : List Instance) (known : List Cell) → AreFresh known instances → (k : ℕ) → k < length instances
    → (c : Cell) → is_among (left_cells (instance_at instances k)) c ≡ true → is_among known c ≡ false
fresh_at [] known fresh k less c m = absurd (omega (arith, less))
fresh_at (i ∷ instances) known fresh zero less c m = fresh.0 c m
fresh_at (i ∷ instances) known fresh (suc k) less c m =
    (joined_none (left_cells i) known c (fresh_at instances (left_cells i ++ known) fresh.1 k (omega (arith, less)) c m)).1

fresh_two : (instances : List Instance) (known : List Cell) → AreFresh known instances → (j k : ℕ) → j < k → k < length instances
    → (c : Cell) → is_among (left_cells (instance_at instances j)) c ≡ true → is_among (left_cells (instance_at instances k)) c ≡ true → ⊥
fresh_two [] known fresh j k below less c m n = absurd (omega (arith, less))
fresh_two (i ∷ instances) known fresh j zero below less c m n = absurd (omega (arith, below))
fresh_two (i ∷ instances) known fresh zero (suc k) below less c m n =
    false_true (sym (joined_none (left_cells i) known c (fresh_at instances (left_cells i ++ known) fresh.1 k (omega (arith, less)) c n)).0 ∙ m)
fresh_two (i ∷ instances) known fresh (suc j) (suc k) below less c m n =
    fresh_two instances (left_cells i ++ known) fresh.1 j k (omega (arith, below)) (omega (arith, less)) c m n

module _ (instances : List Instance) (inputs : List Cell) (fresh : AreFresh inputs instances) where
  -- a known cell is an input, or an instance that is none of an order assigns it
  abbrev Known : List ℕ → Cell → Type 0
  Known order c = (is_among inputs c ≡ true)
      ⊎ ((j : ℕ) × (is_one_of order j ≡ false) × (j < length instances) × (is_among (left_cells (instance_at instances j)) c ≡ true))

  pub order_fresh : (order : List ℕ) → Each (λ k. k < length instances) order → AreDistinct order → (known : List Cell)
      → ((c : Cell) → is_among known c ≡ true → Known order c) → AreFresh known (map (instance_at instances) order)
  order_fresh [] within distinct known tells = tt
  order_fresh (k ∷ order) within distinct known tells = (
    λ c m. not_true (is_among known c) (λ e. apart c m (tells c e)),
    order_fresh order within.1 distinct.1 (left_cells (instance_at instances k) ++ known)
        (λ c m. joined_cases (left_cells (instance_at instances k)) known c m
        (λ e. inr (k, distinct.0, within.0, e))
        (λ e. later c (tells c e))),
  )
    where
      apart : (c : Cell) → is_among (left_cells (instance_at instances k)) c ≡ true → Known (k ∷ order) c → ⊥
      apart c m (inl input) = false_true (sym (fresh_at instances inputs fresh k within.0 c m) ∙ input)
      apart c m (inr other) = of_order (cases_order other.0 k)
        where
          differs : other.0 ≡ k → ⊥
          differs same = false_true (sym (either_false (other.0 == k) (is_one_of order other.0) other.1).0 ∙ eq-eqb other.0 k same)

          of_order : (other.0 ≡ k) ⊎ ((other.0 < k) ⊎ (k < other.0)) → ⊥
          of_order (inl same) = differs same
          of_order (inr (inl below)) = fresh_two instances inputs fresh other.0 k below within.0 c other.3 m
          of_order (inr (inr above)) = fresh_two instances inputs fresh k other.0 above other.2 c m other.3

      later : (c : Cell) → Known (k ∷ order) c → Known order c
      later c (inl input) = inl input
      later c (inr other) = inr (other.0, (either_false (other.0 == k) (is_one_of order other.0) other.1).1, other.2, other.3)

-- the instance at a number is one of the instances
pub is_in : (instances : List Instance) (k : ℕ) → k < length instances → IsIn (instance_at instances k) instances
is_in [] k less = absurd (omega (arith, less))
is_in (i ∷ instances) zero less = inl refl
is_in (i ∷ instances) (suc k) less = inr (is_in instances k (omega (arith, less)))

pub order_in : (instances : List Instance) (order : List ℕ) → Each (λ k. k < length instances) order → AreIn (map (instance_at instances) order) instances
order_in instances [] within = tt
order_in instances (k ∷ order) within = (is_in instances k within.0, order_in instances order within.1)

one_in : (instances : List Instance) (order : List ℕ) (j : ℕ) → is_one_of order j ≡ true → IsIn (instance_at instances j) (map (instance_at instances) order)
one_in instances [] j m = false_true m
one_in instances (k ∷ order) j m =
    or_cases (j == k) (is_one_of order j) m
    (λ e. inl (ap (instance_at instances) (sym (eqb-true j k e))))
    (λ e. inr (one_in instances order j e))

all_in : (some instances : List Instance) → ((k : ℕ) → k < length some → IsIn (instance_at some k) instances) → AreIn some instances
all_in [] instances each = tt
all_in (i ∷ some) instances each = (each zero (omega arith), all_in some instances (λ k less. each (suc k) (omega (arith, less))))

pub all_ordered : (instances : List Instance) (order : List ℕ) → ((k : ℕ) → k < length instances → is_one_of order k ≡ true)
    → AreIn instances (map (instance_at instances) order)
all_ordered instances order complete = all_in instances (map (instance_at instances) order) (λ k less. one_in instances order k (complete k less))
