-- Spans and words, row by row.
use Rattle.std.proofs.Common.{◌≡◌, ◌≢◌, ℕ, ◌+◌, ◌-◌, ◌*◌, ◌<◌, ◌≤◌, ltb, if◌then◌else◌, Bool, true, false, not, List, [], ◌∷◌, ◌++◌, length, get_or, set, map, take, replicate, All, sym, ap, ◌∙◌, subst, inl, inr, arith}
use mathlib.Core.Path.{fun_ext}
use Rattle.std.proofs.lemmas.Bool.{cases_lt, cases_eq}
use Rattle.std.proofs.lemmas.List.{take_all, take_more, get_or-replicate, get_or_past, get_or_append_left, get_or-map, length-map, get_or_push, get_or-set_same, get_or-set_other, length_push, length-replicate, map_push}
use Rattle.span_model.specs.Columns.{Columns, set_of, sets_of}
use Rattle.span_model.specs.Span.{SameSpan}
use Rattle.span_model.proofs.Members.{in_behind, in_front, spans_both}
use Rattle.span_select.specs.Words.{raised, unit}
use Rattle.span_select.proofs.Lasts.{unit_here, unit_other}

-- ---- rows one by one

-- the rows taken, with one more
pub taken_more : (rows : List (List Bool)) (i : ℕ) (row : List Bool) → i < length rows → row ≡ get_or rows i row → sets_of (take (i + 1) rows) ≡ sets_of (take i rows) ++ set_of row ∷ []
taken_more rows i row h is = ap sets_of (take_more rows i row h ∙ ap (λ (r : List Bool). take i rows ++ r ∷ []) (sym is)) ∙ map_push set_of (take i rows) row

pub taken_all : (rows : List (List Bool)) (i : ℕ) → length rows ≤ i → sets_of (take i rows) ≡ sets_of rows
taken_all rows i past = ap sets_of (take_all i rows past)

-- what holds of each row holds of the one that is read
pub read_row : (P : List Bool → Type 0) (rows : List (List Bool)) (i : ℕ) (row : List Bool) → All P rows → i < length rows → row ≡ get_or rows i row → P row
read_row P rows i row all h is = subst P (sym is) (all i row h)

pub all_more : {X : Type 0} (P : X → Type 0) (xs : List X) (x : X) → All P xs → P x → All P (xs ++ x ∷ [])
all_more {X} P xs x all here k d h = elim (cases_lt k (length xs)) [
  | inl less ↦ subst P (sym (get_or_append_left xs (x ∷ []) d k less)) (all k d less)
  | inr past ↦ subst P (sym (get_or_push xs x d k (let e : length xs ≡ k = omega (arith, length_push xs x) in e))) here
]

module _ {C : Type 0} where
  -- a span that grew by rows, with these in front
  pub grown_in_front : (new old taken : List (Columns C)) → SameSpan new (old ++ taken) → SameSpan new (taken ++ old)
  grown_in_front new old taken grown v = (
    λ m. spans_both (taken ++ old) old taken (in_front taken old) (in_behind taken old) v ((grown v).0 m),
    λ m. (grown v).1 (spans_both (old ++ taken) taken old (in_front old taken) (in_behind old taken) v m),
  )

-- ---- a row that is moved up, column by column

pub record IsRaising (columns : ℕ) (row : Columns ℕ) (c : ℕ) (word : Columns ℕ) : Type 0 where
  pub below : (d : ℕ) → d < columns + c → word d ≡ raised columns row d
  pub above : (d : ℕ) → columns + c ≤ d → word d ≡ false

raised_high : (n : ℕ) (row : Columns ℕ) (d : ℕ) → n ≤ d → raised n row d ≡ row (d - n)
raised_high n row d h = ap (λ (b : Bool). if b then false else row (d - n)) (above d n h)
  where
    above : (a b : ℕ) → b ≤ a → ltb a b ≡ false
    above a b h = grind arith

-- one more column of the row
pub raised_one : (columns start c : ℕ) (row : Columns ℕ) (word : List Bool) → IsRaising columns row start (set_of word) → start ≤ c → c < columns
    → length word ≡ 2 * columns → row c ≡ true → ((d : ℕ) → start ≤ d → d < c → row d ≡ false)
    → IsRaising columns row (c + 1) (set_of (set word (columns + c) (not (get_or word (columns + c) false))))
raised_one columns start c row word is from within wide there none =
    let at : ℕ = columns + c in
    let b : Bool = not (get_or word at false) in
    let on : b ≡ true = ap not (is.above at (omega arith)) in
    let inside : at < length word = omega arith in
    let moved : at - columns ≡ c = omega arith in
    record {
      below = λ d h. elim (cases_eq d at) [
        | inl same ↦
            ap (set_of (set word at b)) same ∙ get_or-set_same word at b false inside ∙ on
            ∙ sym (ap (raised columns row) same ∙ raised_high columns row at (omega arith) ∙ ap row moved ∙ there)
        | inr other ↦ get_or-set_other word at d b false other ∙ elim (cases_lt d (columns + start)) [
          | inl old ↦ is.below d old
          | inr past ↦ is.above d past ∙ sym (raised_high columns row d (omega arith) ∙ none (d - columns) (omega arith) (omega arith))
        ]
      ];
      above = λ d h. (let other : d ≢ at = λ e. omega arith in get_or-set_other word at d b false other ∙ is.above d (omega arith));
    }

-- where the row has no more columns, it is moved up
pub raising_ends : (columns start : ℕ) (row word : Columns ℕ) → IsRaising columns row start word → ((d : ℕ) → start ≤ d → row d ≡ false)
    → word ≡ raised columns row
raising_ends columns start row word is none = fun_ext (λ d. elim (cases_lt d (columns + start)) [
  | inl old ↦ is.below d old
  | inr past ↦ is.above d past ∙ sym (raised_high columns row d (omega arith) ∙ none (d - columns) (omega arith))
])

none_set : (n d : ℕ) → set_of (replicate n false) d ≡ false
none_set n d = elim (cases_lt d n) [
  | inl less ↦ get_or-replicate n d false false less
  | inr past ↦ get_or_past (replicate n false) d false (omega (arith, length-replicate {A = Bool} n false))
]

-- ---- the row of one column

pub single_set : (n c : ℕ) → c < n → set_of (set (replicate n false) c (not (get_or (replicate n false) c false))) ≡ unit c
single_set n c h = fun_ext (λ d. elim (cases_eq d c) [
  | inl same ↦
      let inside : c < length (replicate n false) = omega (arith, length-replicate {A = Bool} n false) in
      ap (λ i. set_of (set (replicate n false) c (not (get_or (replicate n false) c false))) i) same
      ∙ get_or-set_same (replicate n false) c (not (get_or (replicate n false) c false)) false inside ∙ ap not (none_set n c) ∙ sym (ap (unit c) same ∙ unit_here c)
  | inr other ↦ get_or-set_other (replicate n false) c d (not (get_or (replicate n false) c false)) false other ∙ none_set n d ∙ sym (unit_other c d other)
])

-- ---- items of lists

pub item_of_map : {X Y : Type 0} (f : X → Y) (items : List X) (i : ℕ) (x : X) (d : Y) → i < length items → x ≡ get_or items i x → get_or (map f items) i d ≡ f x
item_of_map f items i x d h is = get_or-map f items i x d h ∙ ap f (sym is)

pub count_fits : (groups now : List (List (List Bool))) (count : ℕ) → groups ≡ now → count ≤ length now → count ≤ length (map sets_of groups)
count_fits groups now count e h = omega (arith, length-map groups sets_of, ap length e, h)

pub rows_fit : {X Y : Type 0} (f : X → Y) (items : List X) (now : List Y) (count : ℕ) → map f items ≡ now → count ≤ length now → count ≤ length items
rows_fit f items now count e h = omega (arith, length-map items f, ap length e, h)

-- the words of a group as sets
pub sets_at : {X : Type 0} (f : X → List (List Bool)) (items : List X) (i : ℕ) (x : X) → i < length items → x ≡ get_or items i x → get_or (map sets_of (map f items)) i [] ≡ sets_of (f x)
sets_at f items i x h is = get_or-map sets_of (map f items) i [] [] (omega (arith, length-map items f)) ∙ ap sets_of (item_of_map f items i x [] h is)
