-- How many slots there are, and that a core has one list of least slots.
use Rattle.std.proofs.Common.{◌≡◌, ◌≢◌, ℕ, zero, suc, ◌+◌, ◌<◌, ◌≤◌, Bool, true, false, cond, List, [], ◌∷◌, length}
use Rattle.std.proofs.Common.{get_or, map, refl, sym, ap, ◌∙◌, subst, inl, inr, arith}
use Rattle.std.specs.Prelude.{nat_eq}
use Rattle.std.specs.List.{AllByRecursion, IsDistinct, list_any, filter, range_with_len}
use Rattle.std.proofs.lemmas.Bool.{or_cases, or_left, or_right, eqb-true, eq-eqb, ne_eqb, cases_lt, cases_order}
use Rattle.std.proofs.lemmas.List.{ext_get_or, length-map}
use Rattle.std.proofs.lemmas.List.Sums.{length-filter}
use Rattle.std.proofs.lemmas.Map.Keys.{IsDistinct-cons, IsDistinct-from_apart}
use Rattle.std.proofs.lemmas.Map.Steps.{length-le_from_distinct_below, le-length_from_below}
use Rattle.usuba0.specs.Circuit.{Circuit}
use Rattle.c_form.specs.Slots.{is_live, IsHeld, IsLeastFree, AreLeastSlots, slot_count, live_count, most_live}
use Rattle.c_form.specs.Slots.{SlotsAreUnique, SlotsAreFewest}
use Rattle.c_form.proofs.Reading.{is_live-parts}
use Rattle.c_form.proofs.Last.{below-slot_count, slots-apart}

-- values at the numbers of a range that pass a test

module _ (p : ℕ → Bool) (f : ℕ → ℕ) where
  -- the values at those numbers
  abbrev pub picked : ℕ → ℕ → List ℕ
  picked a n = map f (filter p (range_with_len a n))

  -- what holds at each such number holds of each value
  pub picked-all : (P : ℕ → Type 0) (a n : ℕ) → ((j : ℕ) → a ≤ j → j < a + n → p j ≡ true → P (f j))
      → AllByRecursion P (picked a n)
  picked-all P a zero each = tt
  picked-all P a (suc n) each =
      let rest : AllByRecursion P (picked (a + 1) n)
      = picked-all P (a + 1) n (λ j from to. each j (omega arith) (omega arith)) in
      (elim (p a) as (λ v. p a ≡ v
      → AllByRecursion P (map f (cond v (a ∷ filter p (range_with_len (a + 1) n)) (filter p (range_with_len
      (a + 1) n))))) [
        | true ↦ λ passes. (each a (omega arith) (omega arith) passes, rest)
        | false ↦ λ fails. rest
      ]) refl

  -- different values at different numbers are distinct
  pub picked-distinct : (a n : ℕ)
      → ((i j : ℕ) → a ≤ i → i < j → j < a + n → p i ≡ true → p j ≡ true → f i ≢ f j)
      → IsDistinct nat_eq (picked a n)
  picked-distinct a zero apart = IsDistinct-from_apart nat_eq [] (λ i j d before within. absurd (omega arith))
  picked-distinct a (suc n) apart =
      let rest : IsDistinct nat_eq (picked (a + 1) n)
      = picked-distinct (a + 1) n (λ i j from before to. apart i j (omega arith) before (omega arith)) in
      (elim (p a) as (λ v. p a ≡ v
      → IsDistinct nat_eq (map f (cond v (a ∷ filter p (range_with_len (a + 1) n)) (filter p (range_with_len
      (a + 1) n))))) [
        | true ↦ λ passes. IsDistinct-cons nat_eq (f a) (picked (a + 1) n)
            (picked-all (λ y. nat_eq (f a) y ≡ false) (a + 1) n
            (λ j from to other. ne_eqb (f a) (f j) (apart a j (omega arith) (omega arith) (omega arith) passes other)))
            rest
        | false ↦ λ fails. rest
      ]) refl

  -- the value at such a number is there
  pub picked-found : (a n j : ℕ) → a ≤ j → j < a + n → p j ≡ true → list_any (nat_eq (f j)) (picked a n) ≡ true
  picked-found a zero j from to passes = absurd (omega arith)
  picked-found a (suc n) j from to passes =
      elim (cases_lt a j) as (λ v. list_any (nat_eq (f j)) (picked a (suc n)) ≡ true) [
        | inl after ↦
            (let rest : list_any (nat_eq (f j)) (picked (a + 1) n) ≡ true
            = picked-found (a + 1) n j (omega arith) (omega arith) passes in
            elim (p a) as (λ v. list_any (nat_eq (f j))
            (map f (cond v (a ∷ filter p (range_with_len (a + 1) n)) (filter p (range_with_len (a + 1) n)))) ≡ true) [
              | true ↦ or_right (nat_eq (f j) (f a)) (list_any (nat_eq (f j)) (picked (a + 1) n)) rest
              | false ↦ rest
            ])
        | inr here ↦
            (let same : j ≡ a = omega arith in
            let first : p a ≡ true = subst (λ (i : ℕ). p i ≡ true) same passes in
            subst (λ (v : Bool). list_any (nat_eq (f j))
            (map f (cond v (a ∷ filter p (range_with_len (a + 1) n)) (filter p (range_with_len (a + 1) n)))) ≡ true)
            (sym first)
            (or_left (nat_eq (f j) (f a)) (list_any (nat_eq (f j)) (picked (a + 1) n))
            (eq-eqb (f j) (f a) (ap f same))))
      ]

-- a number that is among numbers below a bound is below it
any-below : (m q : ℕ) (xs : List ℕ) → AllByRecursion (λ y. y < m) xs → list_any (nat_eq q) xs ≡ true → q < m
any-below m q [] all found = absurd (cc)
any-below m q (x ∷ xs) all found =
    elim (or_cases (nat_eq q x) (list_any (nat_eq q) xs) found) as (λ v. q < m) [
      | inl here ↦ (let same : q ≡ x = eqb-true q x here in let below : x < m = all.0 in omega arith)
      | inr later ↦ any-below m q xs all.1 later
    ]

module _ (core : Circuit) (slots : List ℕ) where
  -- the slots of the registers that are live at an equation
  abbrev pub live_slots : ℕ → List ℕ
  live_slots k = picked (is_live core k) (λ j. get_or slots j 0) 0 k

  -- they are as many as these registers
  pub length-live_slots : (k : ℕ) → length (live_slots k) ≡ live_count core k
  length-live_slots k =
      length-map (filter (is_live core k) (range_with_len 0 k)) (λ j. get_or slots j 0)
      ∙ length-filter (is_live core k) (range_with_len 0 k)

  -- where the first slots are held at an equation, they are no more than the registers that are live there
  pub held-le-live_count : (k n : ℕ) → ((less : ℕ) → less < n → IsHeld core slots k less) → n ≤ live_count core k
  held-le-live_count k n all =
      subst (λ (m : ℕ). n ≤ m) (length-live_slots k)
      (le-length_from_below (live_slots k) n
      (λ q below.
      let held = all q below in
      let made = (is_live-parts core k held.0 held.1.0).0 in
      subst (λ (s : ℕ). list_any (nat_eq s) (live_slots k) ≡ true) held.1.1
      (picked-found (is_live core k) (λ j. get_or slots j 0) 0 k held.0 (omega arith) (omega arith) held.1.0)))

  -- one more than the registers that are live at an equation are no more than the slots
  pub live_count-lt-slot_count : AreLeastSlots core slots → (k : ℕ) → k < length core.equations
      → live_count core k + 1 ≤ slot_count slots
  live_count-lt-slot_count are k within =
      let own = get_or slots k 0 in
      let long : length slots ≡ length core.equations = are.count in
      let distinct : IsDistinct nat_eq (live_slots k)
      = picked-distinct (is_live core k) (λ j. get_or slots j 0) 0 k
      (λ i j from before to first second.
      slots-apart core slots (length core.equations) k i j are.least before (omega arith) (omega arith) first) in
      let others : AllByRecursion (λ y. nat_eq own y ≡ false) (live_slots k)
      = picked-all (is_live core k) (λ j. get_or slots j 0) (λ y. nat_eq own y ≡ false) 0 k
      (λ j from to live. ne_eqb own (get_or slots j 0) (λ same. (are.least k within).free j live (sym same))) in
      let bounded : AllByRecursion (λ y. y < slot_count slots) (live_slots k)
      = picked-all (is_live core k) (λ j. get_or slots j 0) (λ y. y < slot_count slots) 0 k
      (λ j from to live. below-slot_count slots j (omega arith)) in
      let here : own < slot_count slots = below-slot_count slots k (omega arith) in
      let all : length (own ∷ live_slots k) ≤ slot_count slots
      = length-le_from_distinct_below (own ∷ live_slots k) (slot_count slots)
      (IsDistinct-cons nat_eq own (live_slots k) others distinct)
      (λ q found. any-below (slot_count slots) q (own ∷ live_slots k) (here, bounded) found) in
      let count = length-live_slots k in
      omega arith

-- the number of slots is the least that is above each
slot_count-le : (slots : List ℕ) (m : ℕ) → ((k : ℕ) → k < length slots → get_or slots k 0 < m) → slot_count slots ≤ m
slot_count-le [] m each = omega arith
slot_count-le (slot ∷ slots) m each =
    let first : slot < m = each 0 (omega arith) in
    let rest : slot_count slots ≤ m = slot_count-le slots m (λ k within. each (suc k) (omega arith)) in
    omega arith

-- the registers that are live at an equation are fewer than the most
live_count-lt-most_live : (core : Circuit) (n k : ℕ) → k < n → live_count core k < most_live core n
live_count-lt-most_live core zero k below = absurd (omega arith)
live_count-lt-most_live core (suc n) k below =
    elim (cases_lt k n) as (λ v. live_count core k < most_live core (suc n)) [
      | inl before ↦ (let rest = live_count-lt-most_live core n k before in omega arith)
      | inr at ↦
          (let same : n ≡ k = omega arith in
          subst (λ (i : ℕ). live_count core i < most_live core (suc n)) same (omega arith))
    ]

-- and the most is the least number above each
most_live-le : (core : Circuit) (n m : ℕ) → ((k : ℕ) → k < n → live_count core k + 1 ≤ m) → most_live core n ≤ m
most_live-le core zero m each = omega arith
most_live-le core (suc n) m each =
    let last : live_count core n + 1 ≤ m = each n (omega arith) in
    let rest : most_live core n ≤ m = most_live-le core n m (λ k below. each k (omega arith)) in
    omega arith

-- the slots are as few as can be
pub slots-fewest : SlotsAreFewest
slots-fewest core slots are =
    let n = length core.equations in
    let long : length slots ≡ n = are.count in
    let above : slot_count slots ≤ most_live core n
    = slot_count-le slots (most_live core n)
    (λ k within.
    let own = held-le-live_count core slots k (get_or slots k 0) (are.least k (omega arith)).least in
    let most = live_count-lt-most_live core n k (omega arith) in
    omega arith) in
    let below : most_live core n ≤ slot_count slots
    = most_live-le core n (slot_count slots) (λ k within. live_count-lt-slot_count core slots are k within) in
    omega arith

-- the least free slot is one, where the slots before are the same
least-unique : (core : Circuit) (first second : List ℕ) (k x y : ℕ)
    → ((j : ℕ) → j < k → get_or first j 0 ≡ get_or second j 0)
    → IsLeastFree core first k x → IsLeastFree core second k y → x ≡ y
least-unique core first second k x y same one two =
    elim (cases_order x y) as (λ v. x ≡ y) [
      | inl equal ↦ equal
      | inr apart ↦ elim apart as (λ v. x ≡ y) [
        | inl less ↦
            (let held = two.least x less in
            let made = (is_live-parts core k held.0 held.1.0).0 in
            absurd (one.free held.0 held.1.0 (same held.0 made ∙ held.1.1)))
        | inr more ↦
            (let held = one.least y more in
            let made = (is_live-parts core k held.0 held.1.0).0 in
            absurd (two.free held.0 held.1.0 (sym (same held.0 made) ∙ held.1.1)))
      ]
    ]

slots-agree : (core : Circuit) (first second : List ℕ) → AreLeastSlots core first → AreLeastSlots core second → (n : ℕ)
    → n ≤ length core.equations → (j : ℕ) → j < n → get_or first j 0 ≡ get_or second j 0
slots-agree core first second one two zero within j below = absurd (omega arith)
slots-agree core first second one two (suc n) within j below =
    elim (cases_lt j n) as (λ v. get_or first j 0 ≡ get_or second j 0) [
      | inl before ↦ slots-agree core first second one two n (omega arith) j before
      | inr at ↦
          (let same : n ≡ j = omega arith in
          subst (λ (i : ℕ). get_or first i 0 ≡ get_or second i 0) same
          (least-unique core first second n (get_or first n 0) (get_or second n 0)
          (slots-agree core first second one two n (omega arith)) (one.least n (omega arith))
          (two.least n (omega arith))))
    ]

-- a core has one list of least slots
pub slots-unique : SlotsAreUnique
slots-unique core first second one two =
    let long : length first ≡ length core.equations = one.count in
    let long_too : length second ≡ length core.equations = two.count in
    ext_get_or 0 first second (long ∙ sym long_too)
    (λ j within. slots-agree core first second one two (length core.equations) (omega arith) j (omega arith))
