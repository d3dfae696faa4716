-- The texts of numbered items, up to one of them and round it, and the text of a row.
use Rattle.std.proofs.Common.{◌≡◌, ℕ, suc, zero, ◌+◌, ◌<◌, ◌≤◌, Bool, true, false, List, [], ◌∷◌, ◌++◌, length, get_or, take, drop, refl, sym, ap, ◌∙◌, arith, append_assoc, append-nil, add-one, drop-cons, codes}
use Rattle.std.proofs.lemmas.List.{take_more, take-append-drop, length-take-le}
use Rattle.std.proofs.Common.{Option, Result, Ok, Err, IsErr}
use Rattle.tor_edge.specs.Written.{Wrote}
use Rattle.tor_edge.specs.declared.sink.PutFault.{PutFault}
use Rattle.tor_edge.proofs.Writing.{Wrote-is, Wrote-then, Wrote-ok, Wrote-stops}
use Rattle.linear_view.specs.declared.column.Column.{Column}
use Rattle.linear_view.specs.RowsText.{texts_from, row_text, column_text}

module _ {X : Type 0} (text : ℕ → X → List ℕ) where
  texts_from-append : (n : ℕ) (xs ys : List X) → texts_from text n (xs ++ ys) ≡ texts_from text n xs ++ texts_from text (n + length xs) ys
  texts_from-append n [] ys = ap (λ (m : ℕ). texts_from text m ys) (omega arith)
  texts_from-append n (x ∷ xs) ys =
      let place : suc n + length xs ≡ n + suc (length xs) = omega arith in
      ap (λ (t : List ℕ). text n x ++ t) (texts_from-append (suc n) xs ys ∙ ap (λ (m : ℕ). texts_from text (suc n) xs ++ texts_from text m ys) place)
      ∙ sym (append_assoc (text n x) (texts_from text (suc n) xs) (texts_from text (n + suc (length xs)) ys))

  pub texts_from-more : (xs : List X) (i : ℕ) (d : X) → i < length xs
      → texts_from text 0 (take i xs) ++ text i (get_or xs i d) ≡ texts_from text 0 (take (i + 1) xs)
  texts_from-more xs i d h =
      let x = get_or xs i d in
      let len : 0 + length (take i xs) ≡ i = omega (arith, length-take-le i xs (omega arith)) in
      sym
      (ap (texts_from text 0) (take_more xs i d h)
      ∙ texts_from-append 0 (take i xs) (x ∷ [])
      ∙ ap (λ (m : ℕ). texts_from text 0 (take i xs) ++ texts_from text m (x ∷ [])) len
      ∙ ap (λ (t : List ℕ). texts_from text 0 (take i xs) ++ t) (append-nil (text i x)))

  pub texts_from-around : (xs : List X) (i : ℕ) (d : X) → i < length xs
      → texts_from text 0 (take i xs) ++ (text i (get_or xs i d) ++ texts_from text (suc i) (drop (i + 1) xs)) ≡ texts_from text 0 xs
  texts_from-around xs i d h =
      let x = get_or xs i d in
      let len : 0 + length (take i xs) ≡ i = omega (arith, length-take-le i xs (omega arith)) in
      let rest : drop i xs ≡ x ∷ drop (i + 1) xs = drop-cons xs i d h ∙ ap (λ (m : ℕ). x ∷ drop m xs) (sym (add-one i)) in
      sym
      (ap (texts_from text 0) (sym (take-append-drop i xs) ∙ ap (λ (l : List X). take i xs ++ l) rest)
      ∙ texts_from-append 0 (take i xs) (x ∷ drop (i + 1) xs)
      ∙ ap (λ (m : ℕ). texts_from text 0 (take i xs) ++ texts_from text m (x ∷ drop (i + 1) xs)) len)

module _ {S : Type 0} {faults : S → ℕ} {written : S → Option (List ℕ)} where
  -- in a loop that writes the text of each item by its number: the next item was written too
  pub Wrote-number : {T U V X : Type 0} {old mid new : S} {x : T} {y : U} (text : ℕ → X → List ℕ) (items : List X) (i : ℕ) (item : X) (z : V) → i < length items
      → item ≡ get_or items i item
      → Wrote faults written old mid (texts_from text 0 (take i items)) (Ok x) → Wrote faults written mid new (text i item) (Ok y)
      → Wrote faults written old new (texts_from text 0 (take (i + 1) items)) (Ok z)
  Wrote-number {y = y} text items i item z within is before wrote =
      Wrote-is (ap (λ (t : List ℕ). texts_from text 0 (take i items) ++ t) (ap (text i) is) ∙ texts_from-more text items i item within)
      (Wrote-then before (Wrote-ok y z wrote))

  -- in such a loop: a fault came in the next item
  pub Wrote-number_stops : {T U V X : Type 0} {old mid new : S} {x : T} {fault : PutFault} {q : Result U PutFault} (text : ℕ → X → List ℕ) (items : List X) (i : ℕ) (item : X)
      → i < length items → item ≡ get_or items i item
      → Wrote faults written old mid (texts_from text 0 (take i items)) (Ok x) → Wrote {T = V} faults written mid new (text i item) (Err fault)
      → IsErr q → Wrote faults written old new (texts_from text 0 items) q
  Wrote-number_stops text items i item within is before wrote fails =
      Wrote-is
      (ap (λ (t : List ℕ). texts_from text 0 (take i items) ++ (t ++ texts_from text (suc i) (drop (i + 1) items))) (ap (text i) is)
      ∙ texts_from-around text items i item within)
      (Wrote-then before (Wrote-stops (texts_from text (suc i) (drop (i + 1) items)) wrote fails))

-- ---- a line and a product

pub line_parts : (a b c d e f g : List ℕ) (row : List ℕ) (h : List ℕ)
    → (a ++ (b ++ (c ++ (d ++ (e ++ (f ++ (g ++ []))))))) ++ (row ++ h) ≡ a ++ b ++ c ++ d ++ e ++ f ++ g ++ row ++ h
line_parts a b c d e f g row h = simp (append_assoc, append-nil)

-- ---- a row

-- the text of a row up to a column
abbrev pub row_to : List Column → List Bool → ℕ → List ℕ
row_to columns row i = row_text (take i columns) (take i row)

-- the text of a row from a column on
abbrev pub row_from : List Column → List Bool → ℕ → List ℕ
row_from columns row i = row_text (drop i columns) (drop i row)

-- a blank and the column
abbrev pub blank_column : Column → List ℕ
blank_column column = codes " " ++ column_text column

pub row_text-none : (columns : List Column) (row : List Bool) → ((c : ℕ) → get_or row c false ≡ false) → row_text columns row ≡ []
row_text-none [] row none = refl
row_text-none (column ∷ columns) [] none = refl
row_text-none (column ∷ columns) (true ∷ row) none = absurd (let e = none 0 in cc)
row_text-none (column ∷ columns) (false ∷ row) none = row_text-none columns row (λ c. none (suc c))

pub row_to-none : (columns : List Column) (row : List Bool) (i : ℕ) → ((c : ℕ) → c < i → get_or row c false ≡ false) → row_to columns row i ≡ []
row_to-none columns row zero none = refl
row_to-none [] row (suc i) none = refl
row_to-none (column ∷ columns) [] (suc i) none = refl
row_to-none (column ∷ columns) (true ∷ row) (suc i) none = absurd (let e = none 0 (omega arith) in cc)
row_to-none (column ∷ columns) (false ∷ row) (suc i) none = row_to-none columns row i (λ c h. none (suc c) (omega arith))

pub row_text-split : (columns : List Column) (row : List Bool) (i : ℕ) → row_to columns row i ++ row_from columns row i ≡ row_text columns row
row_text-split columns row zero = refl
row_text-split [] row (suc i) = refl
row_text-split (column ∷ columns) [] (suc i) = row_text-short (drop i columns)
  where
    row_text-short : (columns : List Column) → row_text columns [] ≡ []
    row_text-short [] = refl
    row_text-short (column ∷ columns) = refl
row_text-split (column ∷ columns) (true ∷ row) (suc i) =
    append_assoc (blank_column column) (row_to columns row i) (row_from columns row i)
    ∙ ap (λ (t : List ℕ). blank_column column ++ t) (row_text-split columns row i)
row_text-split (column ∷ columns) (false ∷ row) (suc i) = row_text-split columns row i

-- one more column
pub row_to-set : (columns : List Column) (row : List Bool) (i : ℕ) (d : Column) → i < length columns → get_or row i false ≡ true
    → row_to columns row i ++ blank_column (get_or columns i d) ≡ row_to columns row (i + 1)
row_to-set columns row i d h e = by columns row i h e ∙ ap (row_to columns row) (sym (add-one i))
  where
    by : (columns : List Column) (row : List Bool) (i : ℕ) → i < length columns → get_or row i false ≡ true
        → row_to columns row i ++ blank_column (get_or columns i d) ≡ row_to columns row (suc i)
    by [] row i h e = absurd (omega arith)
    by (column ∷ columns) [] i h e = absurd (cc)
    by (column ∷ columns) (true ∷ row) zero h e = sym (append-nil (blank_column column))
    by (column ∷ columns) (false ∷ row) zero h e = absurd (cc)
    by (column ∷ columns) (true ∷ row) (suc i) h e =
        append_assoc (blank_column column) (row_to columns row i) (blank_column (get_or columns i d))
        ∙ ap (λ (t : List ℕ). blank_column column ++ t) (by columns row i (omega arith) e)
    by (column ∷ columns) (false ∷ row) (suc i) h e = by columns row i (omega arith) e

pub row_to-clear : (columns : List Column) (row : List Bool) (i : ℕ) → get_or row i false ≡ false
    → row_to columns row i ≡ row_to columns row (i + 1)
row_to-clear columns row i e = by columns row i e ∙ ap (row_to columns row) (sym (add-one i))
  where
    by : (columns : List Column) (row : List Bool) (i : ℕ) → get_or row i false ≡ false → row_to columns row i ≡ row_to columns row (suc i)
    by [] row zero e = refl
    by [] row (suc i) e = refl
    by (column ∷ columns) [] zero e = refl
    by (column ∷ columns) [] (suc i) e = refl
    by (column ∷ columns) (true ∷ row) zero e = absurd (cc)
    by (column ∷ columns) (false ∷ row) zero e = refl
    by (column ∷ columns) (true ∷ row) (suc i) e = ap (λ (t : List ℕ). blank_column column ++ t) (by columns row i e)
    by (column ∷ columns) (false ∷ row) (suc i) e = by columns row i e

-- the text from a set column on
pub row_around : (columns : List Column) (row : List Bool) (i : ℕ) (d : Column) → i < length columns → get_or row i false ≡ true
    → row_to columns row i ++ (blank_column (get_or columns i d) ++ row_from columns row (i + 1)) ≡ row_text columns row
row_around columns row i d h e =
    sym (append_assoc (row_to columns row i) (blank_column (get_or columns i d)) (row_from columns row (i + 1)))
    ∙ ap (λ (t : List ℕ). t ++ row_from columns row (i + 1)) (row_to-set columns row i d h e)
    ∙ row_text-split columns row (i + 1)

pub row_to-all : (columns : List Column) (row : List Bool) (i : ℕ) → length columns ≤ i → row_to columns row i ≡ row_text columns row
row_to-all [] row i h = all_done row i
  where
    all_done : (row : List Bool) (i : ℕ) → row_to [] row i ≡ []
    all_done row zero = refl
    all_done row (suc i) = refl
row_to-all (column ∷ columns) row zero h = absurd (omega arith)
row_to-all (column ∷ columns) [] (suc i) h = refl
row_to-all (column ∷ columns) (true ∷ row) (suc i) h = ap (λ (t : List ℕ). blank_column column ++ t) (row_to-all columns row i (omega arith))
row_to-all (column ∷ columns) (false ∷ row) (suc i) h = row_to-all columns row i (omega arith)
