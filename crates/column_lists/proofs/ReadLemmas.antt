-- The list of a row's columns is read as this row.
use Rattle.std.proofs.Common.{◌≡◌, ℕ, suc, ◌+◌, ◌^◌, ◌<◌, ◌≤◌, Bool, true, false, leb, eqb, not, ◌&&◌, List, [], ◌∷◌, ◌++◌, length, All, Option, None, Some, is_some, refl, sym, ap, ◌∙◌, inl, inr, arith, append_assoc, slice_get, codes, decimal}
use Rattle.std.specs.Char.{is_ascii_digit}
use Rattle.std.specs.List.{slice_split, list_all}
use Rattle.std.specs.Option.{option_map}
use Rattle.std.specs.Str.{bytes_eq}
use Rattle.std.proofs.lemmas.Bool.{false≢true, cases_Bool, and_parts, and_from, cond-true, leb-true, eq-eqb, ne_eqb, eqb-true, not_from_false}
use Rattle.linear_view.specs.RowsText.{kind_text, column_text, row_text}
use Rattle.linear_view.specs.View.{IsSmallName}
use Rattle.linear_view.specs.declared.column.Column.{Column}
use Rattle.linear_view.specs.declared.column.ColumnKind.{ColumnKind}
use Rattle.linear_view.specs.declared.column.ColumnKind.TheVariants.{Input, Product, Refresh}
use Rattle.text_lines.specs.Numbers.{is_number, value_of}
use Rattle.text_lines.specs.Words.{spaced, is_plain, is_plain_word, are_plain_words}
use Rattle.text_lines.proofs.WrittenLemmas.{list_all_weaker, list_all_append, split_word, split_last, decimal_digits, value_of_decimal, is_number_decimal, is_plain_decimal}
use Rattle.column_lists.specs.Names.{column_of_parts, column_of}
use Rattle.column_lists.specs.Rows.{column_words, is_column, named_row}
use Rattle.column_lists.proofs.RowLemmas.{skip_first}

no_dot_digit : (x : ℕ) → is_ascii_digit x ≡ true → not (eqb x 46) ≡ true
no_dot_digit x h =
    let w = and_parts (leb 48 x) (leb x 57) h in
    let low : 48 ≤ x = leb-true 48 x w.0 in
    not_from_false (eqb x 46) (ne_eqb x 46 (λ (e : x ≡ 46). omega arith))

no_dot : (n : ℕ) → n < 2 ^ 64 → list_all (λ byte. not (eqb byte 46)) (decimal n) ≡ true
no_dot n h = list_all_weaker is_ascii_digit (λ byte. not (eqb byte 46)) no_dot_digit (decimal n) (decimal_digits n h)

place_parts : (n b : ℕ) → n < 2 ^ 64 → b < 2 ^ 64 → slice_split (λ byte. eqb byte 46) ((decimal n ++ codes ".") ++ decimal b) ≡ decimal n ∷ decimal b ∷ []
place_parts n b h k =
    ap (slice_split (λ byte. eqb byte 46)) (append_assoc (decimal n) (codes ".") (decimal b))
    ∙ split_word 46 (decimal n) (decimal b) (no_dot n h)
    ∙ ap (λ (ps : List (List ℕ)). decimal n ∷ ps) (split_last 46 (decimal b) (no_dot b k))

parts_back : (kind : ColumnKind) (n b : ℕ) → n < 2 ^ 64 → b < 2 ^ 64 → column_of_parts (Some kind) (decimal n ∷ decimal b ∷ []) ≡ Some (record { kind = kind; number = n; bit = b })
parts_back kind n b h k = rw (is_number_decimal n h, is_number_decimal b k, value_of_decimal n h, value_of_decimal b k) refl

kind_back : (kind : ColumnKind) (n b : ℕ) → n < 2 ^ 64 → b < 2 ^ 64 → column_of (((kind_text kind ++ decimal n) ++ codes ".") ++ decimal b) ≡ Some (record { kind = kind; number = n; bit = b })
kind_back Input n b h k = ap (column_of_parts (Some Input)) (place_parts n b h k) ∙ parts_back Input n b h k
kind_back Product n b h k = ap (column_of_parts (Some Product)) (place_parts n b h k) ∙ parts_back Product n b h k
kind_back Refresh n b h k = ap (column_of_parts (Some Refresh)) (place_parts n b h k) ∙ parts_back Refresh n b h k

-- the word of a column names it
pub column_back : (column : Column) → column.number < 2 ^ 32 → column.bit < 2 ^ 32 → column_of (column_text column) ≡ Some column
column_back column h k = kind_back column.kind column.number column.bit (omega arith) (omega arith)

kind_plain : (kind : ColumnKind) → is_plain_word (kind_text kind) ≡ true
kind_plain Input = refl
kind_plain Product = refl
kind_plain Refresh = refl

column_plain : (column : Column) → column.number < 2 ^ 32 → column.bit < 2 ^ 32 → is_plain_word (column_text column) ≡ true
column_plain column h k =
    list_all_append is_plain ((kind_text column.kind ++ decimal column.number) ++ codes ".") (decimal column.bit)
    (list_all_append is_plain (kind_text column.kind ++ decimal column.number) (codes ".")
    (list_all_append is_plain (kind_text column.kind) (decimal column.number) (kind_plain column.kind) (is_plain_decimal column.number (omega arith))) refl)
    (is_plain_decimal column.bit (omega arith))

same_kind : (kind : ColumnKind) → bytes_eq (kind_text kind) (kind_text kind) ≡ true
same_kind Input = refl
same_kind Product = refl
same_kind Refresh = refl

kinds_are : (a b : ColumnKind) → bytes_eq (kind_text a) (kind_text b) ≡ true → a ≡ b
kinds_are Input Input h = refl
kinds_are Input Product h = absurd (false≢true h)
kinds_are Input Refresh h = absurd (false≢true h)
kinds_are Product Input h = absurd (false≢true h)
kinds_are Product Product h = refl
kinds_are Product Refresh h = absurd (false≢true h)
kinds_are Refresh Input h = absurd (false≢true h)
kinds_are Refresh Product h = absurd (false≢true h)
kinds_are Refresh Refresh h = refl

-- a column is itself
pub column_is_itself : (column : Column) → is_column (Some column) column ≡ true
column_is_itself column =
    and_from (bytes_eq (kind_text column.kind) (kind_text column.kind) && eqb column.number column.number) (eqb column.bit column.bit)
    (and_from (bytes_eq (kind_text column.kind) (kind_text column.kind)) (eqb column.number column.number) (same_kind column.kind) (eq-eqb column.number column.number refl))
    (eq-eqb column.bit column.bit refl)

-- a column that is named as another is this other
pub columns_are : (a b : Column) → is_column (Some a) b ≡ true → a ≡ b
columns_are a b h =
    let w = and_parts (bytes_eq (kind_text a.kind) (kind_text b.kind) && eqb a.number b.number) (eqb a.bit b.bit) h in
    let v = and_parts (bytes_eq (kind_text a.kind) (kind_text b.kind)) (eqb a.number b.number) w.0 in
    let made : ColumnKind → ℕ → ℕ → Column = λ k n m. record { kind = k; number = n; bit = m } in
    ap (λ (k : ColumnKind). made k a.number a.bit) (kinds_are a.kind b.kind v.0)
    ∙ ap (λ (n : ℕ). made b.kind n a.bit) (eqb-true a.number b.number v.1)
    ∙ ap (λ (m : ℕ). made b.kind b.number m) (eqb-true a.bit b.bit w.1)

-- columns with small names
abbrev pub AreSmall : List Column → Type 0
AreSmall columns = All IsSmallName columns

-- the first of columns with small names, and the others
pub small_parts : (column : Column) (columns : List Column) → AreSmall (column ∷ columns) → (column.number < 2 ^ 32) × (column.bit < 2 ^ 32) × AreSmall columns
small_parts column columns small =
    let first : IsSmallName column = small 0 column (omega arith) in
    (first.0, first.1, λ k d within. small (suc k) d (omega arith))

-- columns of different names
abbrev pub Differ : List Column → Type 0
Differ columns = (b c : ℕ) (name : Column) → slice_get columns b ≡ Some name → slice_get columns c ≡ Some name → b ≡ c

later_differ : (column : Column) (columns : List Column) → Differ (column ∷ columns) → Differ columns
later_differ column columns differ b c name e f = let same : suc b ≡ suc c = differ (suc b) (suc c) name e f in omega arith

-- another column than the first has another name
pub first_differs : (column : Column) (columns : List Column) → Differ (column ∷ columns) → (j : ℕ) (other : Column) → slice_get columns j ≡ Some other → is_column (Some other) column ≡ false
first_differs column columns differ j other e =
    elim (cases_Bool (is_column (Some other) column)) [
      | inl same ↦
          (let is : other ≡ column = columns_are other column same in
          let clash : suc j ≡ 0 = differ (suc j) 0 column (e ∙ ap (λ (x : Column). Some x) is) refl in
          absurd (omega arith))
      | inr differs ↦ differs
    ]

none_first : (word : List ℕ) (more : List (List ℕ)) → [] ≡ word ∷ more → ⊥
none_first word more e = cc

heads_are : (a b : List ℕ) (xs ys : List (List ℕ)) → a ∷ xs ≡ b ∷ ys → a ≡ b
heads_are a b xs ys e = cc

first_other : (columns : List Column) (row : List Bool) (column : Column) → ((j : ℕ) (other : Column) → slice_get columns j ≡ Some other → is_column (Some other) column ≡ false)
    → AreSmall columns → (word : List ℕ) (more : List (List ℕ)) → column_words columns row ≡ word ∷ more → is_column (column_of word) column ≡ false
first_other [] row column others small word more e = absurd (none_first word more e)
first_other (next ∷ columns) [] column others small word more e = absurd (none_first word more e)
first_other (next ∷ columns) (true ∷ row) column others small word more e =
    let w = small_parts next columns small in
    let heads : column_text next ≡ word = heads_are (column_text next) word (column_words columns row) more e in
    ap (λ (x : List ℕ). is_column (column_of x) column) (sym heads) ∙ ap (λ (o : Option Column). is_column o column) (column_back next w.0 w.1) ∙ others 0 next refl
first_other (next ∷ columns) (false ∷ row) column others small word more e =
    first_other columns row column (λ j other f. others (suc j) other f) (small_parts next columns small).2 word more e

-- the words of a row stand for this row
pub row_back : (columns : List Column) (row : List Bool) → Differ columns → AreSmall columns → length row ≡ length columns → named_row columns (column_words columns row) ≡ Some row
row_back [] [] differ small size = refl
row_back [] (bit ∷ row) differ small size = absurd (omega arith)
row_back (column ∷ columns) [] differ small size = absurd (omega arith)
row_back (column ∷ columns) (true ∷ row) differ small size =
    let w = small_parts column columns small in
    let words : List (List ℕ) = column_words columns row in
    let named : is_column (column_of (column_text column)) column ≡ true = ap (λ (o : Option Column). is_column o column) (column_back column w.0 w.1) ∙ column_is_itself column in
    cond-true (is_column (column_of (column_text column)) column) (option_map (λ bits. true ∷ bits) (named_row columns words))
    (option_map (λ bits. false ∷ bits) (named_row columns (column_text column ∷ words))) named
    ∙ ap (option_map (λ bits. true ∷ bits)) (row_back columns row (later_differ column columns differ) w.2 (omega arith))
row_back (column ∷ columns) (false ∷ row) differ small size =
    let w = small_parts column columns small in
    skip_first column columns (column_words columns row) (first_other columns row column (first_differs column columns differ) w.2)
    ∙ ap (option_map (λ bits. false ∷ bits)) (row_back columns row (later_differ column columns differ) w.2 (omega arith))

-- and name columns
pub row_columns : (columns : List Column) (row : List Bool) → AreSmall columns → list_all (λ word. is_some (column_of word)) (column_words columns row) ≡ true
row_columns [] row small = refl
row_columns (column ∷ columns) [] small = refl
row_columns (column ∷ columns) (true ∷ row) small =
    let w = small_parts column columns small in
    and_from (is_some (column_of (column_text column))) (list_all (λ word. is_some (column_of word)) (column_words columns row)) (ap is_some (column_back column w.0 w.1)) (row_columns columns row w.2)
row_columns (column ∷ columns) (false ∷ row) small = row_columns columns row (small_parts column columns small).2

-- and have no blank and no LF
pub row_plain : (columns : List Column) (row : List Bool) → AreSmall columns → are_plain_words (column_words columns row) ≡ true
row_plain [] row small = refl
row_plain (column ∷ columns) [] small = refl
row_plain (column ∷ columns) (true ∷ row) small =
    let w = small_parts column columns small in
    and_from (is_plain_word (column_text column)) (are_plain_words (column_words columns row)) (column_plain column w.0 w.1) (row_plain columns row w.2)
row_plain (column ∷ columns) (false ∷ row) small = row_plain columns row (small_parts column columns small).2

-- what is written of a row is its words, each after a blank
pub spaced_words : (columns : List Column) (row : List Bool) → spaced (column_words columns row) ≡ row_text columns row
spaced_words [] row = refl
spaced_words (column ∷ columns) [] = refl
spaced_words (column ∷ columns) (true ∷ row) = ap (λ (rest : List ℕ). (codes " " ++ column_text column) ++ rest) (spaced_words columns row)
spaced_words (column ∷ columns) (false ∷ row) = spaced_words columns row
