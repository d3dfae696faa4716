-- Numbers below a bound, raised, and in a row.
use Rattle.std.proofs.Common.{◌≡◌, refl, sym, ap, ◌∙◌, ℕ, zero, suc, ◌+◌, ◌*◌, ◌<◌, ◌≤◌, List, [], ◌∷◌, ◌++◌, ◌-◌, reverse, length, take, drop, set, get_or, slice_range, arith, add-mul, zero-mul, suc-mul, length-append, length-take, length-drop}
use mathlib.Core.List.{reverse_aux}
use Rattle.std.specs.List.{range_with_len}
use Rattle.std.proofs.lemmas.List.{drop-drop, get_or-take, get_or-drop, take-append-drop, append_assoc, append-nil, map-append, take_at, drop_at, take_all, drop_all, take-append-le, drop-append-le, get_or_at, set_at, drop_more}
use Rattle.std.proofs.lemmas.List.Edits.{between_more}
use Rattle.usuba_cells.specs.State.Sums.{AllBelow}
use Rattle.usuba_cells.specs.State.Copies.{raised, copies}

pub below-more : (m n : ℕ) (xs : List ℕ) → m ≤ n → AllBelow m xs → AllBelow n xs
below-more m n [] le below = tt
below-more m n (x ∷ xs) le below = (omega (arith, below.0, le), below-more m n xs le below.1)

pub below-append : (n : ℕ) (xs ys : List ℕ) → AllBelow n xs → AllBelow n ys → AllBelow n (xs ++ ys)
below-append n [] ys first second = second
below-append n (x ∷ xs) ys first second = (first.0, below-append n xs ys first.1 second)

pub below-take : (n k : ℕ) (xs : List ℕ) → AllBelow n xs → AllBelow n (take k xs)
below-take n zero xs below = tt
below-take n (suc k) [] below = tt
below-take n (suc k) (x ∷ xs) below = (below.0, below-take n k xs below.1)

pub below-drop : (n k : ℕ) (xs : List ℕ) → AllBelow n xs → AllBelow n (drop k xs)
below-drop n zero xs below = below
below-drop n (suc k) [] below = tt
below-drop n (suc k) (x ∷ xs) below = below-drop n k xs below.1

pub below-raised : (by m n : ℕ) (xs : List ℕ) → by + m ≤ n → AllBelow m xs → AllBelow n (raised by xs)
below-raised by m n [] fits below = tt
below-raised by m n (x ∷ xs) fits below = (omega (arith, below.0, fits), below-raised by m n xs fits below.1)

pub below-range : (first count n : ℕ) → first + count ≤ n → AllBelow n (range_with_len first count)
below-range first zero n fits = tt
below-range first (suc count) n fits = (omega (arith, fits), below-range (first + 1) count n (omega (arith, fits)))

pub below-reverse : (n : ℕ) (xs : List ℕ) → AllBelow n xs → AllBelow n (reverse xs)
below-reverse n xs below = onto xs [] below tt
  where
    onto : (xs ys : List ℕ) → AllBelow n xs → AllBelow n ys → AllBelow n (reverse_aux xs ys)
    onto [] ys first second = second
    onto (x ∷ xs) ys first second = onto xs (x ∷ ys) first.1 (first.0, second)

-- nothing is below 0
pub none-below : (xs : List ℕ) → AllBelow 0 xs → xs ≡ []
none-below [] below = refl
none-below (x ∷ xs) below = absurd (omega (arith, below.0))

cons : {x y : ℕ} {xs ys : List ℕ} → x ≡ y → xs ≡ ys → x ∷ xs ≡ y ∷ ys
cons {y = y} {xs = xs} head tail = ap (λ z. z ∷ xs) head ∙ ap (λ zs. y ∷ zs) tail

-- numbers raised twice, in any order
pub raised-raised : (a b : ℕ) (xs : List ℕ) → raised a (raised b xs) ≡ raised b (raised a xs)
raised-raised a b [] = refl
raised-raised a b (x ∷ xs) = cons (omega arith) (raised-raised a b xs)

-- copies of raised numbers
pub copies-raised : (stride first : ℕ) (elements parts : List ℕ) → copies stride (raised first elements) parts ≡ raised first (copies stride elements parts)
copies-raised stride first elements [] = refl
copies-raised stride first elements (part ∷ parts) =
    ap (λ l. l ++ copies stride (raised first elements) parts) (raised-raised (part * stride) first elements)
    ∙ ap (λ l. raised first (raised (part * stride) elements) ++ l) (copies-raised stride first elements parts)
    ∙ sym (map-append (λ number. first + number) (raised (part * stride) elements) (copies stride elements parts))

-- a raised row
pub raised-range : (by first count : ℕ) → raised by (range_with_len first count) ≡ range_with_len (by + first) count
raised-range by first zero = refl
raised-range by first (suc count) =
    ap (λ l. (by + first) ∷ l) (raised-range by (first + 1) count
    ∙ ap (λ n. range_with_len n count) (omega arith))

-- a row in two parts
pub range-append : (first m n : ℕ) → range_with_len first m ++ range_with_len (first + m) n ≡ range_with_len first (m + n)
range-append first zero n = ap (λ k. range_with_len k n) (omega arith) ∙ ap (range_with_len first) (omega arith)
range-append first (suc m) n =
    let e : suc m + n ≡ suc (m + n) = omega arith in
    ap (λ k. first ∷ (range_with_len (first + 1) m ++ range_with_len k n)) (omega arith)
    ∙ ap (λ l. first ∷ l) (range-append (first + 1) m n)
    ∙ ap (range_with_len first) (sym e)

-- all elements of parts in a row are in a row
pub copies-range : (stride first count : ℕ) → copies stride (range_with_len 0 stride) (range_with_len first count) ≡ range_with_len (first * stride) (count * stride)
copies-range stride first zero = ap (range_with_len (first * stride)) (sym (zero-mul stride))
copies-range stride first (suc count) =
    let next : (first + 1) * stride ≡ first * stride + stride = omega (arith, add-mul first 1 stride) in
    let more : suc count * stride ≡ stride + count * stride = omega (arith, suc-mul count stride) in
    let here : raised (first * stride) (range_with_len 0 stride) ≡ range_with_len (first * stride) stride =
    raised-range (first * stride) 0 stride ∙ ap (λ n. range_with_len n stride) (omega arith) in
    ap (λ l. l ++ copies stride (range_with_len 0 stride) (range_with_len (first + 1) count)) here
    ∙ ap (λ l. range_with_len (first * stride) stride ++ l) (copies-range stride (first + 1) count ∙ ap (λ n. range_with_len n (count * stride)) next)
    ∙ range-append (first * stride) stride (count * stride)
    ∙ ap (range_with_len (first * stride)) (sym more)

-- copies for further parts
pub copies-cons : (stride : ℕ) (elements : List ℕ) (part : ℕ) (parts : List ℕ)
    → copies stride elements (part ∷ parts) ≡ raised (part * stride) elements ++ copies stride elements parts
copies-cons stride elements part parts = refl

-- a row with one more number
pub range-more : (first number : ℕ) → first ≤ number → range_with_len first (number + 1 - first) ≡ range_with_len first (number - first) ++ number ∷ []
range-more first number le =
    ap (range_with_len first) (omega (arith, le))
    ∙ sym (range-append first (number - first) 1)
    ∙ ap (λ n. range_with_len first (number - first) ++ n ∷ []) (omega (arith, le))

-- a part of a list does not see what is appended
pub slice-append : (xs ys : List ℕ) (start end : ℕ) → start ≤ end → end ≤ length xs → slice_range (xs ++ ys) start end ≡ slice_range xs start end
slice-append xs ys start end order within =
    ap (take (end - start)) (drop-append-le start xs ys (omega (arith, order, within)))
    ∙ take-append-le (end - start) (drop start xs) ys (omega (arith, order, within, length-drop start xs))

-- the part of a list up to its end
pub slice-rest : (xs : List ℕ) (start end : ℕ) → end ≡ length xs → slice_range xs start end ≡ drop start xs
slice-rest xs start end last = take_all (end - start) (drop start xs) (omega (arith, last, length-drop start xs))

pub below-slice : (bound : ℕ) (xs : List ℕ) (start end : ℕ) → AllBelow bound (drop start xs) → AllBelow bound (slice_range xs start end)
below-slice bound xs start end below = below-take bound (end - start) (drop start xs) below

length-raised : (by : ℕ) (xs : List ℕ) → length (raised by xs) ≡ length xs
length-raised by [] = refl
length-raised by (x ∷ xs) = ap suc (length-raised by xs)

-- the numbers from `start` to `at` are raised
abbrev pub raised_to : ℕ → List ℕ → ℕ → ℕ → List ℕ
raised_to by xs start at = (take start xs ++ raised by (slice_range xs start at)) ++ drop at xs

length-front : (by : ℕ) (xs : List ℕ) (start at : ℕ) → start ≤ at → at ≤ length xs → length (take start xs ++ raised by (slice_range xs start at)) ≡ at
length-front by xs start at order within =
    omega (
      arith,
      length-append (take start xs) (raised by (slice_range xs start at)),
      length-raised by (slice_range xs start at),
      length-take (at - start) (drop start xs),
      length-drop start xs,
      length-take start xs,
      order,
      within,
    )

-- nothing is raised yet
pub raised-start : (by : ℕ) (xs : List ℕ) (start : ℕ) → xs ≡ raised_to by xs start start
raised-start by xs start =
    let none : 0 ≡ start - start = omega arith in
    sym (take-append-drop start xs)
    ∙ ap (λ l. l ++ drop start xs) (sym (append-nil (take start xs)))
    ∙ ap (λ n. (take start xs ++ raised by (take n (drop start xs))) ++ drop start xs) none

-- what stands at the next number to be raised
pub raised-here : (by : ℕ) (xs numbers : List ℕ) (start at d : ℕ) → start ≤ at → at < length xs → numbers ≡ raised_to by xs start at
    → get_or numbers at d ≡ get_or xs at d
raised-here by xs numbers start at d order within is =
    ap (λ l. get_or l at d) (is ∙ ap (λ l. (take start xs ++ raised by (slice_range xs start at)) ++ l) (drop_more xs at d within))
    ∙ get_or_at (take start xs ++ raised by (slice_range xs start at)) (get_or xs at d) (drop (at + 1) xs) d at
    (length-front by xs start at order (omega (arith, within)))

-- one more number is raised
pub raised-next : (by : ℕ) (xs numbers : List ℕ) (start at : ℕ) → start ≤ at → at < length xs → numbers ≡ raised_to by xs start at
    → set numbers at (get_or numbers at 0 + by) ≡ raised_to by xs start (at + 1)
raised-next by xs numbers start at order within is =
    let front : List ℕ = take start xs ++ raised by (slice_range xs start at) in
    let here : ℕ = get_or xs at 0 in
    let split : numbers ≡ front ++ here ∷ drop (at + 1) xs = is ∙ ap (λ l. front ++ l) (drop_more xs at 0 within) in
    let more : slice_range xs start (at + 1) ≡ slice_range xs start at ++ here ∷ [] = between_more xs start at 0 order within in
    ap (λ n. set numbers at (n + by)) (raised-here by xs numbers start at 0 order within is)
    ∙ ap (λ l. set l at (here + by)) split
    ∙ set_at front here (drop (at + 1) xs) (here + by) at (length-front by xs start at order (omega (arith, within)))
    ∙ ap (λ n. front ++ n ∷ drop (at + 1) xs) (omega arith)
    ∙ sym (append_assoc front (raised by (here ∷ [])) (drop (at + 1) xs))
    ∙ ap (λ l. l ++ drop (at + 1) xs)
    (append_assoc (take start xs) (raised by (slice_range xs start at)) (raised by (here ∷ []))
    ∙ ap (λ l. take start xs ++ l) (sym (map-append (λ number. by + number) (slice_range xs start at) (here ∷ [])))
    ∙ ap (λ l. take start xs ++ raised by l) (sym more))

-- what is read of numbers below a bound is below it
pub below-at : (bound : ℕ) (xs : List ℕ) (k : ℕ) → AllBelow bound xs → k < length xs → get_or xs k 0 < bound
below-at bound [] k below within = absurd (omega (arith, within))
below-at bound (x ∷ xs) zero below within = below.0
below-at bound (x ∷ xs) (suc k) below within = below-at bound xs k below.1 (omega (arith, within))

pub below-in_slice : (bound : ℕ) (xs : List ℕ) (start end at : ℕ) → AllBelow bound (slice_range xs start end) → start ≤ at → at < end → end ≤ length xs
    → get_or xs at 0 < bound
below-in_slice bound xs start end at below order before within =
    let k : ℕ = at - start in
    let there : get_or (slice_range xs start end) k 0 ≡ get_or xs at 0 =
    get_or-take (end - start) (drop start xs) k 0 (omega (arith, order, before))
    ∙ get_or-drop start xs k 0
    ∙ ap (λ n. get_or xs n 0) (omega (arith, order)) in
    let inside : k < length (slice_range xs start end) = omega (arith, order, before, within, length-take (end - start) (drop start xs), length-drop start xs) in
    omega (arith, there, below-at bound (slice_range xs start end) k below inside)

-- appended numbers, raised
pub append-raised : (by : ℕ) (old more numbers : List ℕ) (start end : ℕ) → start ≡ length old → end ≡ length (old ++ more) → numbers ≡ raised_to by (old ++ more) start end
    → numbers ≡ old ++ raised by more
append-raised by old more numbers start end start_is end_is is =
    let slice : slice_range (old ++ more) start end ≡ more =
    slice-rest (old ++ more) start end end_is ∙ drop_at old more start (sym start_is) in
    is
    ∙ ap (λ l. (take start (old ++ more) ++ raised by (slice_range (old ++ more) start end)) ++ l) (drop_all end (old ++ more) (omega (arith, end_is)))
    ∙ append-nil (take start (old ++ more) ++ raised by (slice_range (old ++ more) start end))
    ∙ ap (λ l. l ++ raised by (slice_range (old ++ more) start end)) (take_at old more start (sym start_is))
    ∙ ap (λ l. old ++ raised by l) slice

-- raising changes no length
pub length-raised_to : (by : ℕ) (xs : List ℕ) (start end : ℕ) → start ≤ end → end ≤ length xs → length (raised_to by xs start end) ≡ length xs
length-raised_to by xs start end order within =
    omega (
      arith,
      length-append (take start xs ++ raised by (slice_range xs start end)) (drop end xs),
      length-front by xs start end order within,
      length-drop end xs,
      within,
    )

-- numbers that were written over all of others
pub written-over : (count : ℕ) (xs ys : List ℕ) → count ≡ length xs → length ys ≡ length xs → take count (ys ++ drop (length ys) xs) ≡ ys
written-over count xs ys count_is same =
    ap (λ l. take count (ys ++ l)) (drop_all (length ys) xs (omega (arith, same)))
    ∙ ap (take count) (append-nil ys)
    ∙ take_all count ys (omega (arith, count_is, same))

-- a list that something is appended to
pub longer : (xs ys zs : List ℕ) → xs ≡ ys ++ zs → length ys ≤ length xs
longer xs ys zs is = omega (arith, ap length is, length-append ys zs)

raised-by_0 : (xs : List ℕ) → raised 0 xs ≡ xs
raised-by_0 [] = refl
raised-by_0 (x ∷ xs) = cons (omega arith) (raised-by_0 xs)

in_three : (xs : List ℕ) (start count end : ℕ) → end ≡ start + count → (take start xs ++ take count (drop start xs)) ++ drop end xs ≡ xs
in_three xs start count end is =
    ap (λ n. (take start xs ++ take count (drop start xs)) ++ drop n xs) is
    ∙ ap (λ l. (take start xs ++ take count (drop start xs)) ++ l) (sym (drop-drop count start xs))
    ∙ append_assoc (take start xs) (take count (drop start xs)) (drop count (drop start xs))
    ∙ ap (λ l. take start xs ++ l) (take-append-drop count (drop start xs))
    ∙ take-append-drop start xs

-- to raise by nothing changes nothing
pub raised-none : (by : ℕ) (xs : List ℕ) (start end : ℕ) → start ≤ end → by ≡ 0 → xs ≡ raised_to by xs start end
raised-none by xs start end order none =
    sym (in_three xs start (end - start) end (omega (arith, order)))
    ∙ ap (λ l. (take start xs ++ l) ++ drop end xs) (sym (raised-by_0 (slice_range xs start end)))
    ∙ ap (λ n. raised_to n xs start end) (sym none)
