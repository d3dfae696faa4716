-- The parts between two indexes.
use Rattle.std.proofs.Common.{◌≡◌, ◌≢◌, refl, sym, ap, ◌∙◌, subst, ℕ, suc, ◌+◌, ◌-◌, ◌*◌, ◌<◌, ◌≤◌, ◌==◌, Bool, false, List, [], ◌∷◌, ◌++◌, reverse, ℤ, pos, negsuc, Option, Some, None, inl, inr, ◌⊎◌, length, take, drop, slice_range, append_assoc, append-nil, length-append, mul-le-mul_right, arith, eq-eqb, ne_eqb, lt-ltb, le-ltb, le-leb}
use Rattle.std.specs.Prelude.{if◌then◌else◌}
use Rattle.std.specs.List.{range_with_len}
use Rattle.std.proofs.lemmas.Bool.{cases_order, lt-leb, leb-false, or_parts, or_from}
use Rattle.std.proofs.lemmas.List.{reverse-append, drop_at, take-append-le}
use Rattle.usuba_model.specs.Cells.{Picked, from_to, parts_between, is_outside, picks_outside}
use Rattle.usuba_cells.specs.State.Sums.{AllBelow}
use Rattle.usuba_cells.specs.State.Copies.{next_part, later_parts}
use Rattle.usuba_model.specs.Walk.{most_operations}
use Rattle.usuba_cells.specs.State.Copies.{raised, copies}
use Rattle.usuba_cells.proofs.Numbered.{below-range, below-reverse, range-append, slice-append, slice-rest, raised_to}

upwards : (a b : ℕ) → a ≤ b → from_to a b ≡ range_with_len a (b - a + 1)
upwards a b le = ap (λ t. if t then range_with_len a (b - a + 1) else reverse (range_with_len b (a - b + 1))) (le-leb a b le)

downwards : (a b : ℕ) → b < a → from_to a b ≡ reverse (range_with_len b (a - b + 1))
downwards a b lt = ap (λ t. if t then range_with_len a (b - a + 1) else reverse (range_with_len b (a - b + 1))) (lt-leb a b lt)

-- the numbers down to one begin with the greatest
reverse-range : (first count : ℕ) → reverse (range_with_len first (count + 1)) ≡ (first + count) ∷ reverse (range_with_len first count)
reverse-range first count =
    ap reverse (sym (range-append first count 1)) ∙ reverse-append (range_with_len first count) ((first + count) ∷ [])

next-up : (a b : ℕ) → a < b → next_part a b ≡ a + 1
next-up a b lt = ap (λ t. if t then a + 1 else a - 1) (lt-ltb a b lt)

next-down : (a b : ℕ) → b < a → next_part a b ≡ a - 1
next-down a b lt = ap (λ t. if t then a + 1 else a - 1) (le-ltb a b (omega (arith, lt)))

-- the parts after one, unless it is the last
abbrev later_if : ℕ → ℕ → Bool → List ℕ
later_if a b last = if last then [] else from_to (next_part a b) b

-- the parts from one to the last: that one, and the later ones
pub parts-first : (a b : ℕ) → from_to a b ≡ a ∷ later_parts a b
parts-first a b = by_order (cases_order a b)
  where
    below_it : b < a → from_to (a - 1) b ≡ reverse (range_with_len b (a - b))
    below_it down = by_next (cases_order (a - 1) b)
      where
        by_next : (a - 1 ≡ b) ⊎ ((a - 1 < b) ⊎ (b < a - 1)) → from_to (a - 1) b ≡ reverse (range_with_len b (a - b))
        by_next (inl same) =
            let one : b - (a - 1) + 1 ≡ 1 = omega (arith, same) in
            let count : 1 ≡ a - b = omega (arith, same, down) in
            upwards (a - 1) b (omega (arith, same))
            ∙ ap (range_with_len (a - 1)) one
            ∙ ap (λ n. n ∷ []) same
            ∙ ap (λ n. reverse (range_with_len b n)) count
        by_next (inr (inl up)) = absurd (omega (arith, up, down))
        by_next (inr (inr still)) =
            let count : a - 1 - b + 1 ≡ a - b = omega (arith, still, down) in
            downwards (a - 1) b still ∙ ap (λ n. reverse (range_with_len b n)) count

    by_order : (a ≡ b) ⊎ ((a < b) ⊎ (b < a)) → from_to a b ≡ a ∷ later_if a b (a == b)
    by_order (inl same) =
        let one : b - a + 1 ≡ 1 = omega (arith, same) in
        upwards a b (omega (arith, same)) ∙ ap (range_with_len a) one ∙ ap (λ t. a ∷ later_if a b t) (sym (eq-eqb a b same))
    by_order (inr (inl up)) =
        let count : b - a + 1 ≡ suc (b - (a + 1) + 1) = omega (arith, up) in
        upwards a b (omega (arith, up))
        ∙ ap (range_with_len a) count
        ∙ ap (λ l. a ∷ l) (sym (upwards (a + 1) b (omega (arith, up))) ∙ ap (λ n. from_to n b) (sym (next-up a b up)))
        ∙ ap (λ t. a ∷ later_if a b t) (sym (ne_eqb a b (λ e. omega (arith, e, up))))
    by_order (inr (inr down)) =
        let count : b + (a - b) ≡ a = omega (arith, down) in
        downwards a b down
        ∙ reverse-range b (a - b)
        ∙ ap (λ n. n ∷ reverse (range_with_len b (a - b))) count
        ∙ ap (λ l. a ∷ l) (sym (below_it down) ∙ ap (λ n. from_to n b) (sym (next-down a b down)))
        ∙ ap (λ t. a ∷ later_if a b t) (sym (ne_eqb a b (λ e. omega (arith, e, down))))

-- the last part has none after it
pub parts-last : (a b : ℕ) → a ≡ b → later_parts a b ≡ []
parts-last a b same = ap (λ t. if t then [] else from_to (next_part a b) b) (eq-eqb a b same)

-- another has the next one after it
pub parts-next : (a b : ℕ) → a ≢ b → later_parts a b ≡ next_part a b ∷ later_parts (next_part a b) b
parts-next a b other =
    ap (λ t. if t then [] else from_to (next_part a b) b) (ne_eqb a b other) ∙ parts-first (next_part a b) b

from_to-below : (a b n : ℕ) → a < n → b < n → AllBelow n (from_to a b)
from_to-below a b n first last =
    elim (cases_order a b) [
      | inl same ↦ subst (AllBelow n) (sym (upwards a b (omega (arith, same)))) (below-range a (b - a + 1) n (omega (arith, same, first)))
      | inr (inl up) ↦ subst (AllBelow n) (sym (upwards a b (omega (arith, up)))) (below-range a (b - a + 1) n (omega (arith, up, last)))
      | inr (inr down) ↦
          subst (AllBelow n) (sym (downwards a b down)) (below-reverse n (range_with_len b (a - b + 1)) (below-range b (a - b + 1) n (omega (arith, down, first))))
    ]

-- an index that is not outside is below the size
pub inside-below : (size n : ℕ) → is_outside size (Some (pos n)) ≡ false → n < size
inside-below size n inside = leb-false size n inside

-- the parts between indexes that are not outside are below the size
pub parts-below : (size : ℕ) (first last : Option ℤ) → is_outside size first ≡ false → is_outside size last ≡ false → AllBelow size (parts_between first last)
parts-below size (Some (pos a)) (Some (pos b)) p q = from_to-below a b size (leb-false size a p) (leb-false size b q)
parts-below size (Some (pos a)) (Some (negsuc b)) p q = tt
parts-below size (Some (negsuc a)) last p q = tt
parts-below size (Some (pos a)) None p q = tt
parts-below size None last p q = tt

-- what is not outside a size is not outside a greater one
pub inside-more : (size more : ℕ) (index : Option ℤ) → size ≤ more → is_outside size index ≡ false → is_outside more index ≡ false
inside-more size more (Some (pos n)) le inside = lt-leb more n (omega (arith, leb-false size n inside, le))
inside-more size more (Some (negsuc n)) le inside = inside
inside-more size more None le inside = refl

pub picks-inside-more : (size more : ℕ) (bracket : Picked) → size ≤ more → picks_outside size bracket ≡ false → picks_outside more bracket ≡ false
picks-inside-more size more bracket le inside =
    let parts = or_parts (is_outside size bracket.first.value) (is_outside size bracket.last.value) inside in
    or_from (is_outside more bracket.first.value) (is_outside more bracket.last.value)
    (inside-more size more bracket.first.value le parts.0) (inside-more size more bracket.last.value le parts.1)

-- the copies for the parts up to one are appended
pub record Copied (old : List ℕ) (stride start end first last part : ℕ) (numbers : List ℕ) : Type 0 where
  pub done : List ℕ
  pub numbers_are : numbers ≡ old ++ done
  pub rest : done ++ copies stride (slice_range old start end) (later_parts part last) ≡ copies stride (slice_range old start end) (later_parts first last)
  pub few : (part + 1) * stride ≤ most_operations

pub copied-start : (old : List ℕ) (stride start end first last : ℕ) → (first + 1) * stride ≤ most_operations
    → Copied old stride start end first last first old
copied-start old stride start end first last few = record { done = []; numbers_are = sym (append-nil old); rest = refl; few = few }

-- the part of the numbers that is copied stays
pub copied-slice : (old : List ℕ) (stride start end first last part : ℕ) (numbers : List ℕ) → start ≤ end → end ≤ length old
    → Copied old stride start end first last part numbers → slice_range numbers start end ≡ slice_range old start end
copied-slice old stride start end first last part numbers order within so =
    ap (λ l. slice_range l start end) so.numbers_are ∙ slice-append old so.done start end order within

pub copied-within : (old : List ℕ) (stride start end first last part : ℕ) (numbers : List ℕ) → end ≤ length old
    → Copied old stride start end first last part numbers → end ≤ length numbers
copied-within old stride start end first last part numbers within so =
    omega (arith, within, ap length so.numbers_are, length-append old so.done)

next-few : (part last stride next : ℕ) → next ≡ next_part part last → part ≢ last → (part + 1) * stride ≤ most_operations → (last + 1) * stride ≤ most_operations
    → (next + 1) * stride ≤ most_operations
next-few part last stride next is other few last_few =
    by_order (cases_order part last)
  where
    by_order : (part ≡ last) ⊎ ((part < last) ⊎ (last < part)) → (next + 1) * stride ≤ most_operations
    by_order (inl same) = absurd (other same)
    by_order (inr (inl up)) =
        omega (arith, last_few, mul-le-mul_right {m = next + 1} {n = last + 1} stride (omega (arith, is, next-up part last up, up)))
    by_order (inr (inr down)) =
        omega (arith, few, mul-le-mul_right {m = next + 1} {n = part + 1} stride (omega (arith, is, next-down part last down, down)))

-- the copies for the next part are appended
pub copied-step : (old : List ℕ) (stride start end first last part next : ℕ) (numbers after : List ℕ)
    → start ≤ end → end ≤ length old → part ≢ last → (last + 1) * stride ≤ most_operations
    → next ≡ next_part part last → after ≡ numbers ++ raised (next * stride) (slice_range numbers start end)
    → Copied old stride start end first last part numbers → Copied old stride start end first last next after
copied-step old stride start end first last part next numbers after order within other last_few next_is after_is so =
    let slice : List ℕ = slice_range old start end in
    let more : List ℕ = raised (next * stride) slice in
    record {
      done = so.done ++ more;
      numbers_are =
          after_is
          ∙ ap (λ l. numbers ++ raised (next * stride) l) (copied-slice old stride start end first last part numbers order within so)
          ∙ ap (λ l. l ++ more) so.numbers_are
          ∙ append_assoc old so.done more;
      rest =
          append_assoc so.done more (copies stride slice (later_parts next last))
          ∙ ap (λ n. so.done ++ copies stride slice (n ∷ later_parts n last)) next_is
          ∙ ap (λ l. so.done ++ copies stride slice l) (sym (parts-next part last other))
          ∙ so.rest;
      few = next-few part last stride next next_is other so.few last_few;
    }

pub copied-end : (old : List ℕ) (stride start end first last part : ℕ) (numbers : List ℕ) → part ≡ last
    → Copied old stride start end first last part numbers → numbers ≡ old ++ copies stride (slice_range old start end) (later_parts first last)
copied-end old stride start end first last part numbers same so =
    so.numbers_are
    ∙ ap (λ l. old ++ l)
    (sym (append-nil so.done)
    ∙ ap (λ l. so.done ++ copies stride (slice_range old start end) l) (sym (parts-last part last same))
    ∙ so.rest)

-- the copies for all parts, where those for the first stand in place of the numbers
pub copied-all : (old numbers after : List ℕ) (stride start end first last : ℕ) → start ≤ end → end ≡ length old
    → numbers ≡ old ++ copies stride (slice_range old start end) (later_parts first last)
    → after ≡ raised_to (first * stride) numbers start end
    → after ≡ take start old ++ copies stride (drop start old) (from_to first last)
copied-all old numbers after stride start end first last order end_is numbers_are after_is =
    let tail : List ℕ = copies stride (slice_range old start end) (later_parts first last) in
    let slice : slice_range old start end ≡ drop start old = slice-rest old start end end_is in
    after_is
    ∙ ap (λ l. raised_to (first * stride) l start end) numbers_are
    ∙ ap (λ l. (l ++ raised (first * stride) (slice_range (old ++ tail) start end)) ++ drop end (old ++ tail))
    (take-append-le start old tail (omega (arith, order, end_is)))
    ∙ ap (λ l. (take start old ++ raised (first * stride) l) ++ drop end (old ++ tail))
    (slice-append old tail start end order (omega (arith, end_is)))
    ∙ ap (λ l. (take start old ++ raised (first * stride) (slice_range old start end)) ++ l) (drop_at old tail end (sym end_is))
    ∙ append_assoc (take start old) (raised (first * stride) (slice_range old start end)) tail
    ∙ ap (λ l. take start old ++ copies stride l (first ∷ later_parts first last)) slice
    ∙ ap (λ l. take start old ++ copies stride (drop start old) l) (sym (parts-first first last))

-- a part below the size begins below the stride of the size before it
pub part-few : (size stride part bound : ℕ) → part < size → size * stride ≤ bound → (part + 1) * stride ≤ bound
part-few size stride part bound inside few =
    omega (arith, few, mul-le-mul_right {m = part + 1} {n = size} stride (omega (arith, inside)))
