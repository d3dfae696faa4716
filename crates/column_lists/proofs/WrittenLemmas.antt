-- Words that stand for a row are those of its columns.
use Rattle.std.proofs.Common.{◌≡◌, ℕ, ◌+◌, ◌^◌, ◌<◌, Bool, true, false, eqb, ◌&&◌, if◌then◌else◌, List, [], ◌∷◌, ◌++◌, Option, None, Some, refl, sym, ap, ◌∙◌, inl, inr, arith, append_assoc, codes, decimal}
use Rattle.std.specs.List.{slice_split, join_with_byte}
use Rattle.std.specs.Option.{option_map}
use Rattle.std.proofs.lemmas.Bool.{false≢true, cases_Bool, and_parts, eqb-true}
use Rattle.std.proofs.lemmas.List.Splits.{join_with_byte-slice_split}
use Rattle.linear_view.specs.RowsText.{kind_text, column_text}
use Rattle.linear_view.specs.declared.column.Column.{Column}
use Rattle.linear_view.specs.declared.column.ColumnKind.{ColumnKind}
use Rattle.linear_view.specs.declared.column.ColumnKind.TheVariants.{Input, Product, Refresh}
use Rattle.text_lines.specs.Numbers.{is_number, value_of}
use Rattle.text_lines.proofs.SpelledLemmas.{number_word}
use Rattle.column_lists.specs.Names.{kind_of, column_of_parts, column_of}
use Rattle.column_lists.specs.Rows.{column_words, is_column, named_row}
use Rattle.column_lists.proofs.ReadLemmas.{AreSmall, small_parts, columns_are}

-- none is not some
pub none_some : {X : Type 0} (x : X) → None ≡ Some x → ⊥
none_some x e = cc

-- what two that are equal hold is equal
pub some_is : {X : Type 0} (x y : X) → Some x ≡ Some y → x ≡ y
some_is x y e = cc

-- a choice that is some was made
pub pick_some : {X : Type 0} (b : Bool) (said x : X) → (if b then Some said else None) ≡ Some x → (b ≡ true) × (said ≡ x)
pick_some true said x e = (refl, some_is said x e)
pick_some false said x e = absurd (none_some x e)

kind_letter : (letter : ℕ) (kind : ColumnKind) → kind_of letter ≡ Some kind → letter ∷ [] ≡ kind_text kind
kind_letter letter kind e =
    elim (cases_Bool (eqb letter 105)) [
      | inl i ↦
          (let f : Some Input ≡ Some kind = sym (rw i refl) ∙ e in
          ap (λ (l : ℕ). l ∷ []) (eqb-true letter 105 i) ∙ ap kind_text (some_is Input kind f))
      | inr no_i ↦
          (elim (cases_Bool (eqb letter 112)) [
            | inl p ↦
                (let f : Some Product ≡ Some kind = sym (rw (no_i, p) refl) ∙ e in
                ap (λ (l : ℕ). l ∷ []) (eqb-true letter 112 p) ∙ ap kind_text (some_is Product kind f))
            | inr no_p ↦
                (elim (cases_Bool (eqb letter 102)) [
                  | inl r ↦
                      (let f : Some Refresh ≡ Some kind = sym (rw (no_i, no_p, r) refl) ∙ e in
                      ap (λ (l : ℕ). l ∷ []) (eqb-true letter 102 r) ∙ ap kind_text (some_is Refresh kind f))
                  | inr no_r ↦ (let f : None ≡ Some kind = sym (rw (no_i, no_p, no_r) refl) ∙ e in absurd (none_some kind f))
                ])
          ])
    ]

place_text : (letter : ℕ) (kind : ColumnKind) (n b : ℕ) → letter ∷ [] ≡ kind_text kind
    → letter ∷ (decimal n ++ 46 ∷ decimal b) ≡ ((kind_text kind ++ decimal n) ++ codes ".") ++ decimal b
place_text letter kind n b e =
    ap (λ (k : List ℕ). (k ++ decimal n) ++ 46 ∷ decimal b) e ∙ sym (append_assoc (kind_text kind ++ decimal n) (codes ".") (decimal b))

parts_name : (letter : ℕ) (place : List ℕ) (kind : Option ColumnKind) (parts : List (List ℕ)) (column : Column) → kind_of letter ≡ kind
    → slice_split (λ byte. eqb byte 46) place ≡ parts → column_of_parts kind parts ≡ Some column → column.number < 2 ^ 64 → column.bit < 2 ^ 64
    → letter ∷ place ≡ column_text column
parts_name letter place None parts column k s e hn hb = absurd (none_some column e)
parts_name letter place (Some kind) [] column k s e hn hb = absurd (none_some column e)
parts_name letter place (Some kind) (a ∷ []) column k s e hn hb = absurd (none_some column e)
parts_name letter place (Some kind) (a ∷ b ∷ c ∷ more) column k s e hn hb = absurd (none_some column e)
parts_name letter place (Some kind) (a ∷ b ∷ []) column k s e hn hb =
    let made : Column = record { kind = kind; number = value_of a; bit = value_of b } in
    let w = pick_some (is_number a && is_number b) made column e in
    let v = and_parts (is_number a) (is_number b) w.0 in
    let kinds : kind ≡ column.kind = ap (λ (c : Column). c.kind) w.1 in
    let numbers : value_of a ≡ column.number = ap (λ (c : Column). c.number) w.1 in
    let bits : value_of b ≡ column.bit = ap (λ (c : Column). c.bit) w.1 in
    let cut : place ≡ a ++ 46 ∷ b = sym (join_with_byte-slice_split 46 place) ∙ ap (join_with_byte 46) s in
    ap (λ (p : List ℕ). letter ∷ p) cut
    ∙ ap (λ (x : List ℕ). letter ∷ (x ++ 46 ∷ b)) (number_word a column.number v.0 numbers hn)
    ∙ ap (λ (x : List ℕ). letter ∷ (decimal column.number ++ 46 ∷ x)) (number_word b column.bit v.1 bits hb)
    ∙ place_text letter column.kind column.number column.bit (kind_letter letter kind k ∙ ap kind_text kinds)

-- a word that names a column is the column's
pub column_word : (word : List ℕ) (column : Column) → column_of word ≡ Some column → column.number < 2 ^ 64 → column.bit < 2 ^ 64 → word ≡ column_text column
column_word [] column e hn hb = absurd (none_some column e)
column_word (letter ∷ place) column e hn hb =
    parts_name letter place (kind_of letter) (slice_split (λ byte. eqb byte 46) place) column refl refl e hn hb

-- what is named as a column is this column
pub named_is : (named : Option Column) (column : Column) → is_column named column ≡ true → named ≡ Some column
named_is None column h = absurd (false≢true h)
named_is (Some named) column h = ap (λ (c : Column). Some c) (columns_are named column h)

-- a row that begins with a bit
pub mapped_from : (bit : Bool) (found : Option (List Bool)) (row : List Bool) → option_map (λ more. bit ∷ more) found ≡ Some row
    → (more : List Bool) × (found ≡ Some more) × (bit ∷ more ≡ row)
mapped_from bit None row e = absurd (none_some row e)
mapped_from bit (Some more) row e = (more, refl, some_is (bit ∷ more) row e)

-- the words are those of the row's columns
pub words_are : (columns : List Column) (words : List (List ℕ)) (row : List Bool) → AreSmall columns → named_row columns words ≡ Some row → words ≡ column_words columns row
words_are [] [] row small e = refl
words_are [] (word ∷ words) row small e = absurd (none_some row e)
words_are (column ∷ columns) [] row small e =
    let w = mapped_from false (named_row columns []) row e in
    words_are columns [] w.0 (small_parts column columns small).2 w.1 ∙ ap (column_words (column ∷ columns)) w.2
words_are (column ∷ columns) (word ∷ words) row small e =
    let s = small_parts column columns small in
    elim (cases_Bool (is_column (column_of word) column)) [
      | inl named ↦
          (let f : option_map (λ more. true ∷ more) (named_row columns words) ≡ Some row = sym (rw named refl) ∙ e in
          let w = mapped_from true (named_row columns words) row f in
          let here : word ≡ column_text column = column_word word column (named_is (column_of word) column named) (omega (arith, s.0)) (omega (arith, s.1)) in
          ap (λ (x : List ℕ). x ∷ words) here
          ∙ ap (λ (xs : List (List ℕ)). column_text column ∷ xs) (words_are columns words w.0 s.2 w.1)
          ∙ ap (column_words (column ∷ columns)) w.2)
      | inr other ↦
          (let f : option_map (λ more. false ∷ more) (named_row columns (word ∷ words)) ≡ Some row = sym (rw other refl) ∙ e in
          let w = mapped_from false (named_row columns (word ∷ words)) row f in
          words_are columns (word ∷ words) w.0 s.2 w.1 ∙ ap (column_words (column ∷ columns)) w.2)
    ]
