-- An attack over some of a core's columns, in order, is written as the same attack over all of them.
use Rattle.std.proofs.Common.{◌≡◌, ℕ, Bool, true, false, ◌&&◌, ◌||◌, List, [], ◌∷◌, ◌++◌, codes, length, map, refl, sym, ap, ◌∙◌, arith, true≢false}
use Rattle.std.specs.List.{list_any}
use Rattle.std.proofs.lemmas.List.{length-map}
use Rattle.linear_view.specs.declared.column.Column.{Column}
use Rattle.linear_view.specs.Names.{same_column, core_columns}
use Rattle.linear_view.specs.Rows.{core_products, operands_over}
use Rattle.linear_view.specs.AttackLaw.{set_in}
use Rattle.linear_view.specs.NarrowView.{AreSomeOf, none, taken, left_out}
use Rattle.linear_view.specs.NarrowLaw.{widened}
use Rattle.linear_view.proofs.ListLemmas.{cons_same}
use Rattle.linear_view.proofs.NameLemmas.{same_column-itself, same_column-same}
use Rattle.linear_view.proofs.ColumnLemmas.{IsAbsent}
use Rattle.linear_view.proofs.ApartLemmas.{AreApart, apart_core}
use Rattle.column_lists.specs.Rows.{column_words}
use Rattle.attack_text.specs.AttackText.{head_text, counted_steps_text, root_text, listing_text}
use Rattle.attack_text.specs.NarrowTextLaw.{NarrowTextsAreWhole}
use Rattle.text_lines.specs.Words.{line_text}

none_of_two : (x y : Bool) → (x || y) ≡ false → (x ≡ false) × (y ≡ false)
none_of_two true y e = absurd (cc)
none_of_two false y e = (refl, e)

other_way : (a b : Column) → same_column a b ≡ false → same_column b a ≡ false
other_way a b e = by (same_column b a) refl
  where
    by : (same : Bool) → same_column b a ≡ same → same_column b a ≡ false
    by false h = h
    by true h = absurd (true≢false (sym (same_column-itself a) ∙ ap (same_column a) (sym (same_column-same b a h)) ∙ e))

-- a name that is none of all is none of some
absent_among_some : (name : Column) {some all : List Column} → AreSomeOf some all → IsAbsent name all
    → IsAbsent name some
absent_among_some name none absent = refl
absent_among_some name (taken {column} {some} {all} rest) absent =
    let both = none_of_two (same_column name column) (list_any (same_column name) all) absent in
    ap (λ (same : Bool). same || list_any (same_column name) some) both.0 ∙ absent_among_some name rest both.1
absent_among_some name (left_out {column} {some} {all} rest) absent =
    absent_among_some name rest (none_of_two (same_column name column) (list_any (same_column name) all) absent).1

-- a column that is none of the columns is not in the set that a row makes
not_set : (names : List Column) (row : List Bool) (column : Column) → IsAbsent column names
    → set_in names row column ≡ false
not_set [] row column absent = refl
not_set (name ∷ names) [] column absent = refl
not_set (name ∷ names) (bit ∷ row) column absent =
    let both = none_of_two (same_column column name) (list_any (same_column column) names) absent in
    first bit (same_column name column) (other_way column name both.0) ∙ not_set names row column both.1
  where
    first : (b same : Bool) → same ≡ false
        → ((b && same) || set_in names row column) ≡ set_in names row column
    first true true e = absurd (true≢false e)
    first true false e = refl
    first false same e = refl

-- a column before the others does not change their bits
bits_behind : (name : Column) (bit : Bool) (row : List Bool) (names more : List Column) → IsAbsent name more
    → map (set_in (name ∷ names) (bit ∷ row)) more ≡ map (set_in names row) more
bits_behind name bit row names [] absent = refl
bits_behind name bit row names (column ∷ more) absent =
    let both = none_of_two (same_column name column) (list_any (same_column name) more) absent in
    cons_same (first bit (same_column name column) both.0) (bits_behind name bit row names more both.1)
  where
    first : (b same : Bool) → same ≡ false
        → ((b && same) || set_in names row column) ≡ set_in names row column
    first true true e = absurd (true≢false e)
    first true false e = refl
    first false same e = refl

-- the bit of the first column
first_bit : (name : Column) (names : List Column) (bit : Bool) (row : List Bool) → IsAbsent name names
    → set_in (name ∷ names) (bit ∷ row) name ≡ bit
first_bit name names bit row absent = by bit (same_column name name) (same_column-itself name) (not_set names row name absent)
  where
    by : (b same : Bool) → same ≡ true → set_in names row name ≡ false → ((b && same) || set_in names row name) ≡ b
    by true true e not_there = refl
    by true false e not_there = absurd (true≢false (sym e))
    by false same e not_there = not_there

-- the words of a column by its bit, and of the columns behind it
same_words : (column : Column) (bit : Bool) (some all : List Column) (row more : List Bool)
    → column_words all more ≡ column_words some row
    → column_words (column ∷ all) (bit ∷ more) ≡ column_words (column ∷ some) (bit ∷ row)
same_words column true some all row more e = cons_same refl e
same_words column false some all row more e = e

-- a row over some of the columns has the words of the row over all of them that names the same columns
words_among_all : {some all : List Column} → AreSomeOf some all → AreApart all → (row : List Bool)
    → length row ≡ length some → column_words all (map (set_in some row) all) ≡ column_words some row
words_among_all none apart row e = refl
words_among_all (taken {column} {some} {all} rest) apart [] e = absurd (omega arith)
words_among_all (taken {column} {some} {all} rest) apart (bit ∷ row) e =
    ap (column_words (column ∷ all))
    (cons_same (first_bit column some bit row (absent_among_some column rest apart.0))
    (bits_behind column bit row some all apart.0))
    ∙ same_words column bit some all row (map (set_in some row) all) (words_among_all rest apart.1 row (omega arith))
words_among_all (left_out {column} {some} {all} rest) apart row e =
    ap (λ (bit : Bool). column_words (column ∷ all) (bit ∷ map (set_in some row) all))
    (not_set some row column (absent_among_some column rest apart.0))
    ∙ words_among_all rest apart.1 row e

pub narrow_texts_are_whole : NarrowTextsAreWhole
narrow_texts_are_whole core is view narrow attack e =
    let columns = length (core_columns core) in
    let text : ℕ → List (List ℕ) → List ℕ =
    λ products words. head_text columns products ++ (line_text (codes "leak" ∷ words)
    ++ (counted_steps_text attack.derivation.steps
    ++ (root_text attack.derivation.root ++ listing_text attack.listing))) in
    let leak = attack.derivation.leak in
    ap (λ (products : ℕ). text products (column_words (core_columns core) (widened core view leak)))
    (length-map (core_products core) (operands_over (core_columns core))
    ∙ sym (ap length narrow.products ∙ length-map (core_products core) (operands_over view.columns)))
    ∙ ap (text (length view.products)) (words_among_all narrow.columns (apart_core core) leak e)
