-- Each output of a generated node is assigned once, and each of its lines becomes ready.
use Rattle.std.proofs.Common.{◌≡◌, ◌⊎◌, inl, inr, ℕ, zero, suc, ◌+◌, ◌-◌, ◌<◌, ◌≤◌, ◌∙◌, Bool, true, false, not, ◌||◌, ◌&&◌, List, [], ◌∷◌, ◌++◌, length, map, flat_map, refl, sym, ap, subst, arith, append_assoc}
use Rattle.std.specs.Prelude.{if◌then◌else◌, nat_lt}
use Rattle.std.specs.List.{list_any, range_with_len}
use Rattle.std.proofs.lemmas.Bool.Decides.{nat_tests}
use Rattle.std.proofs.lemmas.List.Folds.{list_any-append}
use Rattle.source_gen.specs.declared.operands.Operands.{Operands}
use Rattle.usuba_model.specs.Assignments.{holds_again, assigned_again, assigned_cells, is_ready, made_ready, known_after, first_target}
use Rattle.usuba_model.specs.Cells.{Cell, same_cell, is_among, cells_of}
use Rattle.usuba_model.specs.Unrolled.{Instance}
use Rattle.usuba_model.specs.Operations.{all_calls}
use Rattle.usuba_model.proofs.CellLemmas.{same_cell_itself}
use Rattle.usuba_model.proofs.Knowing.{NoneHold}
use Rattle.generated_files.proofs.Lines.{AreBelow, LinePlaces}
use Rattle.generated_files.proofs.Spelling.{AllBelow}
use Rattle.generated_files.proofs.Readings.{cell, operand_cell}
use Rattle.generated_files.proofs.Instances.{instances_from}

-- cells of the output

pub other_element : (i k : ℕ) → (i ≡ k → ⊥) → same_cell (cell 122 i) (cell 122 k) ≡ false
other_element i k apart = grind (arith, nat_tests)

-- none of the outputs from k on is among these cells
abbrev pub AreFreshFrom : List Cell → ℕ → Type 0
AreFreshFrom taken k = (i : ℕ) → k ≤ i → is_among taken (cell 122 i) ≡ false

pub fresh_next : (taken : List Cell) (k : ℕ) → AreFreshFrom taken k → AreFreshFrom (cell 122 k ∷ taken) (k + 1)
fresh_next taken k fresh i high =
    ap (λ (b : Bool). b || is_among taken (cell 122 i)) (other_element i k (λ (e : i ≡ k). omega (arith, e, high)))
    ∙ fresh i (omega (arith, high))

-- the cells of the input
abbrev pub input_cells : List Cell
input_cells =
    cell 120 0 ∷ cell 120 1 ∷ cell 120 2 ∷ cell 120 3 ∷ cell 120 4 ∷ cell 120 5 ∷ cell 120 6 ∷ cell 120 7 ∷ []

pub inputs_fresh : AreFreshFrom input_cells 0
inputs_fresh i high = refl

-- no line assigns what is taken, or what a line before it assigns
pub none_twice : (operands : ℕ → Operands) (places : List LinePlaces) (k : ℕ) (taken : List Cell) → AreFreshFrom taken k
    → NoneHold (assigned_again taken (flat_map (λ (i : Instance). i.targets) (instances_from operands k places)))
none_twice operands [] k taken fresh = tt
none_twice operands (at ∷ places) k taken fresh =
    let here : holds_again taken (cell 122 k ∷ []) ≡ false = ap (λ (b : Bool). b || false) (fresh k (omega arith)) in
    (here, none_twice operands places (k + 1) (cell 122 k ∷ taken) (fresh_next taken k fresh))

-- the lines from k on assign the outputs from k on
pub assigned_are : (operands : ℕ → Operands) (places : List LinePlaces) (k : ℕ)
    → assigned_cells (instances_from operands k places) ≡ cells_of (122 ∷ []) (range_with_len k (length places))
assigned_are operands [] k = refl
assigned_are operands (at ∷ places) k = ap (λ (cs : List Cell). cell 122 k ∷ cs) (assigned_are operands places (k + 1))

-- what is among some cells is among more
pub among_more : (a b : List Cell) (c : Cell) → is_among b c ≡ true → is_among (a ++ b) c ≡ true
among_more a b c there = list_any-append (same_cell c) a b ∙ or_second (is_among a c) there
  where
    or_second : (p : Bool) {q : Bool} → q ≡ true → (p || q) ≡ true
    or_second true e = refl
    or_second false e = e

pub among_front : (a b : List Cell) (c : Cell) → is_among a c ≡ true → is_among (a ++ b) c ≡ true
among_front a b c there = list_any-append (same_cell c) a b ∙ ap (λ (p : Bool). p || is_among b c) there

-- each of some cells is among them
pub none_left : (before cs : List Cell) → list_any (λ (c : Cell). not (is_among (before ++ cs) c)) cs ≡ false
none_left before [] = refl
none_left before (c ∷ cs) =
    let first : is_among (c ∷ cs) c ≡ true = ap (λ (p : Bool). p || is_among cs c) (same_cell_itself c) in
    let here : not (is_among (before ++ c ∷ cs) c) ≡ false = ap not (among_more before (c ∷ cs) c first) in
    let moved : (before ++ c ∷ []) ++ cs ≡ before ++ c ∷ cs = append_assoc before (c ∷ []) cs in
    ap (λ (b : Bool). b || list_any (λ (d : Cell). not (is_among (before ++ c ∷ cs) d)) cs) here
    ∙ ap (λ (all : List Cell). list_any (λ (d : Cell). not (is_among all d)) cs) (sym moved)
    ∙ none_left (before ++ c ∷ []) cs

-- the lines call nothing
pub no_calls : (operands : ℕ → Operands) (places : List LinePlaces) (k : ℕ)
    → all_calls (instances_from operands k places) ≡ []
no_calls operands [] k = refl
no_calls operands (at ∷ places) k = no_calls operands places (k + 1)

-- readiness

-- whether all operands of a line are among some cells
abbrev reads_among : List Cell → Operands → Bool
reads_among known o =
    is_among known (operand_cell o.first) && (is_among known (operand_cell o.second)
    && (is_among known (operand_cell o.third) && true))

-- each input, and each output below r, is among these cells
abbrev pub AreKnown : ℕ → List Cell → Type 0
AreKnown r known = ((i : ℕ) → i < 8 → is_among known (cell 120 i) ≡ true)
    × ((i : ℕ) → i < r → is_among known (cell 122 i) ≡ true)

pub operand_known : (r j : ℕ) (known : List Cell) → AreKnown r known → j < 8 + r
    → is_among known (operand_cell j) ≡ true
operand_known r j known all below = by_test (nat_lt j 8) refl
  where
    by_test : (b : Bool) → nat_lt j 8 ≡ b → is_among known
        (cell (if b then 120 else 122) (if b then j else j - 8)) ≡ true
    by_test true is = all.0 j (grind (arith, nat_tests))
    by_test false is =
        let high : 8 ≤ j = grind (arith, nat_tests) in
        all.1 (j - 8) (omega (arith, high, below))

pub line_ready : (r : ℕ) (o : Operands) (known : List Cell) → AreKnown r known → AreBelow (8 + r) o
    → reads_among known o ≡ true
line_ready r o known all below =
    three (operand_known r o.first known all below.first) (operand_known r o.second known all below.second)
    (operand_known r o.third known all below.third)
  where
    three : {a b c : Bool} → a ≡ true → b ≡ true → c ≡ true → (a && (b && (c && true))) ≡ true
    three {a} {b} {c} p q r = rw (p, q, r) refl

pub more_known : (r s : ℕ) (known : List Cell) → AreKnown r known → s ≤ r → AreKnown s known
more_known r s known all less = (all.0, λ i low. all.1 i (omega (arith, low, less)))

-- what the ready lines assign holds the output of a ready line
made_among : (operands : ℕ → Operands) (known : List Cell) (places : List LinePlaces) (k i : ℕ) → k ≤ i
    → i < k + length places
    → reads_among known (operands i) ≡ true → is_among (made_ready known (instances_from operands k places))
    (cell 122 i) ≡ true
made_among operands known [] k i high low ready = absurd (omega (arith, high, low))
made_among operands known (at ∷ places) k i high low ready =
    of_case (first_or_later k i high) (λ later. made_among operands known places (k + 1) i later (omega (arith, low))
    ready)
  where
    first_or_later : (k i : ℕ) → k ≤ i → (k ≡ i) ⊎ (k + 1 ≤ i)
    first_or_later k i high = by_test (nat_lt k i) refl
      where
        by_test : (b : Bool) → nat_lt k i ≡ b → (k ≡ i) ⊎ (k + 1 ≤ i)
        by_test true is = inr (grind (arith, nat_tests))
        by_test false is = let least : i ≤ k = grind (arith, nat_tests) in inl (omega (arith, least, high))

    either_way : (b : Bool) → is_among (made_ready known (instances_from operands (k + 1) places)) (cell 122 i) ≡ true
        → is_among (if b then (cell 122 k ∷ []) ++ made_ready known (instances_from operands (k + 1) places)
        else made_ready known (instances_from operands (k + 1) places)) (cell 122 i) ≡ true
    either_way true there = among_more (cell 122 k ∷ []) (made_ready known (instances_from operands (k + 1) places))
        (cell 122 i) there
    either_way false there = there

    here : (k ≡ i) → reads_among known (operands k) ≡ true
        → is_among (if reads_among known (operands k) then (cell 122 k ∷ [])
        ++ made_ready known (instances_from operands (k + 1) places)
        else made_ready known (instances_from operands (k + 1) places)) (cell 122 i) ≡ true
    here same ready =
        ap (λ (b : Bool). is_among (if b then (cell 122 k ∷ [])
        ++ made_ready known (instances_from operands (k + 1) places)
        else made_ready known (instances_from operands (k + 1) places)) (cell 122 i)) ready
        ∙ ap (λ (b : Bool). b || is_among (made_ready known (instances_from operands (k + 1) places)) (cell 122 i))
        (ap (λ (n : ℕ). same_cell (cell 122 n) (cell 122 k)) (sym same) ∙ same_cell_itself (cell 122 k))

    of_case : (k ≡ i) ⊎ (k + 1 ≤ i) → (k + 1 ≤ i → is_among
        (made_ready known (instances_from operands (k + 1) places)) (cell 122 i) ≡ true)
        → is_among (made_ready known (instances_from operands k (at ∷ places))) (cell 122 i) ≡ true
    of_case (inl same) rest = here same (subst (λ (n : ℕ). reads_among known (operands n) ≡ true) (sym same) ready)
    of_case (inr later) rest = either_way (reads_among known (operands k)) (rest later)

-- after r rounds the outputs of the first r lines are known
pub known_in_rounds : (operands : ℕ → Operands) → AllBelow operands → (places : List LinePlaces) (r : ℕ)
    → r ≤ length places
    → AreKnown r (known_after (instances_from operands 0 places) r input_cells)
known_in_rounds operands below places zero within = (inputs_known, λ i low. absurd (omega (arith, low)))
  where
    inputs_known : (i : ℕ) → i < 8 → is_among input_cells (cell 120 i) ≡ true
    inputs_known zero low = refl
    inputs_known (suc zero) low = refl
    inputs_known (suc (suc zero)) low = refl
    inputs_known (suc (suc (suc zero))) low = refl
    inputs_known (suc (suc (suc (suc zero)))) low = refl
    inputs_known (suc (suc (suc (suc (suc zero))))) low = refl
    inputs_known (suc (suc (suc (suc (suc (suc zero)))))) low = refl
    inputs_known (suc (suc (suc (suc (suc (suc (suc zero))))))) low = refl
    inputs_known (suc (suc (suc (suc (suc (suc (suc (suc i)))))))) low = absurd (omega (arith, low))
known_in_rounds operands below places (suc r) within =
    let instances = instances_from operands 0 places in
    let before = known_after instances r input_cells in
    let all = known_in_rounds operands below places r (omega (arith, within)) in (
      λ i low. among_more (made_ready before instances) before (cell 120 i) (all.0 i low),
      λ i low. among_front (made_ready before instances) before (cell 122 i)
          (made_among operands before places 0 i (omega arith) (omega (arith, low, within))
          (line_ready i (operands i) before (more_known r i before all (omega (arith, low))) (below i))),
    )

-- where all operands are known, no line is stuck
pub none_stuck : (operands : ℕ → Operands) → AllBelow operands
    → (known : List Cell) (places : List LinePlaces) (k r : ℕ) → k + length places ≤ r → AreKnown r known
    → NoneHold (map (λ (i : Instance). record { place = first_target i.targets; holds = not (is_ready known i) })
    (instances_from operands k places))
none_stuck operands below known [] k r within all = tt
none_stuck operands below known (at ∷ places) k r within all =
    let ready = line_ready k (operands k) known (more_known r k known all (omega (arith, within))) (below k) in
    (ap not ready, none_stuck operands below known places (k + 1) r (omega (arith, within)) all)
