-- Words stand for a row exactly where they name columns in order, and then for the row of these columns.
use Rattle.std.proofs.Common.{◌≡◌, ◌↔◌, ℕ, zero, suc, ◌+◌, ◌-◌, ◌<◌, ◌≤◌, Bool, true, false, List, [], ◌∷◌, length, map, drop, get_or, All, Option, None, Some, refl, sym, ap, ◌∙◌, subst, inl, inr, arith, slice_get, add-one, drop-cons}
use native.Mathlib.Nat.{le_of_suc-le-suc}
use Rattle.std.specs.Bool.{⊤}
use Rattle.std.specs.List.{Contains}
use Rattle.std.specs.List.Sorted.{IsStrictlyIncreasing}
use Rattle.std.specs.Option.{option_map}
use Rattle.std.proofs.lemmas.Bool.{cases_Bool, cases_lt, false≢true}
use Rattle.std.proofs.lemmas.Option.{slice_get-get_or}
use Rattle.std.proofs.Math.ListN.{drop_of_length-le}
use Rattle.linear_view.specs.View.{LinearView, IsView}
use Rattle.linear_view.specs.declared.column.Column.{Column}
use Rattle.linear_view.specs.declared.column.ColumnKind.TheVariants.{Input}
use Rattle.column_lists.specs.Names.{column_of}
use Rattle.column_lists.specs.Rows.{is_column, named_row}
use Rattle.column_lists.specs.RowLaws.{NameInOrder, HasBitsAt}
use Rattle.column_lists.proofs.ReadLemmas.{Differ, column_is_itself, columns_are}
use Rattle.column_lists.proofs.RowLemmas.{skip_first}
use Rattle.column_lists.proofs.WrittenLemmas.{none_some, named_is, mapped_from}

-- places that rise from a number on
abbrev pub RiseFrom : ℕ → List ℕ → Type 0
RiseFrom least [] = ⊤
RiseFrom least (place ∷ places) = (least ≤ place) × RiseFrom (suc place) places

rise_increases : (least : ℕ) (places : List ℕ) → RiseFrom least places → IsStrictlyIncreasing places
rise_increases least [] rise k h = absurd (omega arith)
rise_increases least (p ∷ []) rise k h = absurd (omega arith)
rise_increases least (p ∷ q ∷ places) rise zero h = let next = rise.1.0 in omega arith
rise_increases least (p ∷ q ∷ places) rise (suc k) h =
    let later : get_or (q ∷ places) k 0 < get_or (q ∷ places) (k + 1) 0 = rise_increases (suc p) (q ∷ places) rise.1 k (omega arith) in
    let place : suc k + 1 ≡ suc (k + 1) = omega arith in
    subst (λ (m : ℕ). get_or (q ∷ places) k 0 < get_or (p ∷ q ∷ places) m 0) (sym place) later

increasing_rises : (least : ℕ) (places : List ℕ) → (0 < length places → least ≤ get_or places 0 0) → IsStrictlyIncreasing places → RiseFrom least places
increasing_rises least [] first rise = tt
increasing_rises least (p ∷ []) first rise = (first (omega arith), tt)
increasing_rises least (p ∷ q ∷ places) first rise = (
  first (omega arith),
  increasing_rises (suc p) (q ∷ places) (λ lt. let next : p < q = rise 0 (omega arith) in omega arith)
      (λ k lt.
      let place : suc k + 1 ≡ suc (k + 1) = omega arith in
      subst (λ (m : ℕ). get_or (q ∷ places) k 0 < get_or (p ∷ q ∷ places) m 0) place (rise (suc k) (omega arith))),
)

-- the places of the bits that are set, where the first bit has the number n
abbrev pub set_places : ℕ → List Bool → List ℕ
set_places n [] = []
set_places n (true ∷ row) = n ∷ set_places (suc n) row
set_places n (false ∷ row) = set_places (suc n) row

places_within : (n : ℕ) (row : List Bool) → All (λ p. (n ≤ p) × (p < n + length row)) (set_places n row)
places_within n [] k d h = absurd (omega arith)
places_within n (true ∷ row) zero d h = (omega arith, omega arith)
places_within n (true ∷ row) (suc k) d h =
    let w = places_within (suc n) row k d (le_of_suc-le-suc h) in (omega (arith, w.0), omega (arith, w.1))
places_within n (false ∷ row) k d h = let w = places_within (suc n) row k d h in (omega (arith, w.0), omega (arith, w.1))

places_rise : (least n : ℕ) (row : List Bool) → least ≤ n → RiseFrom least (set_places n row)
places_rise least n [] h = tt
places_rise least n (true ∷ row) h = (h, places_rise (suc n) (suc n) row (omega arith))
places_rise least n (false ∷ row) h = places_rise least (suc n) row (omega arith)

-- a set bit has its place among them
set_has_place : (n : ℕ) (row : List Bool) (c : ℕ) → get_or row c false ≡ true → Contains (set_places n row) (n + c)
set_has_place n [] c e = absurd (false≢true e)
set_has_place n (true ∷ row) zero e = (0, omega arith, (let same : n ≡ n + 0 = omega arith in same))
set_has_place n (true ∷ row) (suc c) e =
    let w = set_has_place (suc n) row c e in
    let same : suc n + c ≡ n + suc c = omega arith in
    let there : Contains (set_places (suc n) row) (n + suc c) = subst (λ (x : ℕ). Contains (set_places (suc n) row) x) same w in
    (suc there.0, omega (arith, there.1), there.2)
set_has_place n (false ∷ row) zero e = absurd (false≢true e)
set_has_place n (false ∷ row) (suc c) e =
    let same : suc n + c ≡ n + suc c = omega arith in
    subst (λ (x : ℕ). Contains (set_places (suc n) row) x) same (set_has_place (suc n) row c e)

-- and the bit at a place among them is set
place_is_set : (n : ℕ) (row : List Bool) (c k : ℕ) → k < length (set_places n row) → get_or (set_places n row) k (n + c) ≡ n + c → get_or row c false ≡ true
place_is_set n [] c k h e = absurd (omega arith)
place_is_set n (true ∷ row) zero k h e = refl
place_is_set n (true ∷ row) (suc c) zero h e = absurd (omega arith)
place_is_set n (true ∷ row) (suc c) (suc k) h e =
    let same : n + suc c ≡ suc n + c = omega arith in
    place_is_set (suc n) row c k (le_of_suc-le-suc h) (subst (λ (x : ℕ). get_or (set_places (suc n) row) k x ≡ x) same e)
place_is_set n (false ∷ row) zero k h e =
    let low = (places_within (suc n) row k (n + 0) h).0 in
    absurd (omega (arith, low, e))
place_is_set n (false ∷ row) (suc c) k h e =
    let same : n + suc c ≡ suc n + c = omega arith in
    place_is_set (suc n) row c k h (subst (λ (x : ℕ). get_or (set_places (suc n) row) k x ≡ x) same e)

pub places_are_bits : (row : List Bool) (c : ℕ) → (get_or row c false ≡ true) ↔ Contains (set_places 0 row) c
places_are_bits row c =
    let first : 0 + c ≡ c = omega arith in (
      λ e. subst (λ (x : ℕ). Contains (set_places 0 row) x) first (set_has_place 0 row c e),
      λ there. place_is_set 0 row c there.0 there.1 (subst (λ (x : ℕ). get_or (set_places 0 row) there.0 x ≡ x) (sym first) there.2),
    )

-- the row that words stand for has the columns that they name, at the places of its bits
no_column : Column
no_column = record { kind = Input; number = 0; bit = 0 }

named_found : (columns : List Column) (n : ℕ) (d : Column) → n < length columns → slice_get columns n ≡ Some (get_or columns n d)
named_found columns n d h = slice_get-get_or columns n d h

dropped : (columns : List Column) (n : ℕ) (d : Column) → n < length columns → drop n columns ≡ get_or columns n d ∷ drop (suc n) columns
dropped columns n d h = drop-cons columns n d h

-- the row of words has so many bits, and its set bits, from number n on, stand at the places of what the words name
abbrev pub NamedFrom : List Column → ℕ → ℕ → List (List ℕ) → List Bool → Type 0
NamedFrom columns many n words row = (length row ≡ many) × (map column_of words ≡ map (slice_get columns) (set_places n row))

no_more : (columns : List Column) (n : ℕ) (words : List (List ℕ)) (row : List Bool) → named_row [] words ≡ Some row → NamedFrom columns 0 n words row
no_more columns n [] row e = let is : [] ≡ row = cc in subst (NamedFrom columns 0 n []) is (refl, refl)
no_more columns n (word ∷ words) row e = absurd (none_some row e)

-- the next column is not named
not_named : (columns : List Column) (many n : ℕ) (words : List (List ℕ)) (row : List Bool)
    → ((more : List Bool) → named_row (drop (suc n) columns) words ≡ Some more → NamedFrom columns many (suc n) words more)
    → option_map (λ bits. false ∷ bits) (named_row (drop (suc n) columns) words) ≡ Some row → NamedFrom columns (suc many) n words row
not_named columns many n words row later e =
    let w = mapped_from false (named_row (drop (suc n) columns) words) row e in
    let rest = later w.0 w.1 in
    subst (NamedFrom columns (suc many) n words) w.2 (omega (arith, rest.0), rest.1)

-- the next column is named, or not
next_named : (columns : List Column) (many n : ℕ) (column : Column) (words : List (List ℕ)) (row : List Bool) → slice_get columns n ≡ Some column
    → ((others : List (List ℕ)) (more : List Bool) → named_row (drop (suc n) columns) others ≡ Some more → NamedFrom columns many (suc n) others more)
    → named_row (column ∷ drop (suc n) columns) words ≡ Some row → NamedFrom columns (suc many) n words row
next_named columns many n column [] row here later e = not_named columns many n [] row (later []) e
next_named columns many n column (word ∷ words) row here later e =
    elim (cases_Bool (is_column (column_of word) column)) [
      | inl hit ↦
          (let f : option_map (λ bits. true ∷ bits) (named_row (drop (suc n) columns) words) ≡ Some row = sym (rw hit refl) ∙ e in
          let w = mapped_from true (named_row (drop (suc n) columns) words) row f in
          let rest = later words w.0 w.1 in
          let is : column_of word ≡ slice_get columns n = named_is (column_of word) column hit ∙ sym here in
          subst (NamedFrom columns (suc many) n (word ∷ words)) w.2
          (omega (arith, rest.0), ap (λ (o : Option Column). o ∷ map column_of words) is ∙ ap (λ (os : List (Option Column)). slice_get columns n ∷ os) rest.1))
      | inr miss ↦ not_named columns many n (word ∷ words) row (later (word ∷ words)) (sym (rw miss refl) ∙ e)
    ]

-- what words name from column n on
named_from : (columns : List Column) (many n : ℕ) (words : List (List ℕ)) (row : List Bool) → n + many ≡ length columns
    → named_row (drop n columns) words ≡ Some row → NamedFrom columns many n words row
named_from columns zero n words row size e =
    let none : drop n columns ≡ [] = drop_of_length-le columns (omega arith) in
    no_more columns n words row (sym (ap (λ (cs : List Column). named_row cs words) none) ∙ e)
named_from columns (suc many) n words row size e =
    let column : Column = get_or columns n no_column in
    let more : drop n columns ≡ column ∷ drop (suc n) columns = dropped columns n no_column (omega arith) in
    next_named columns many n column words row (named_found columns n no_column (omega arith))
    (λ others bits f. named_from columns many (suc n) others bits (omega arith) f)
    (sym (ap (λ (cs : List Column). named_row cs words) more) ∙ e)

-- the row that words stand for is that of the columns that they name, which stand in order
pub row_is_named : (columns : List Column) (words : List (List ℕ)) (row : List Bool) → named_row columns words ≡ Some row
    → (places : List ℕ) × NameInOrder columns words places × HasBitsAt places (length columns) row
row_is_named columns words row e =
    let w = named_from columns (length columns) 0 words row (omega arith) e in
    let within : All (λ p. p < length columns) (set_places 0 row) =
    λ k d h. let v = (places_within 0 row k d h).1 in let size = w.0 in omega arith in (
      set_places 0 row,
      record { have = within; named = w.1; rise = rise_increases 0 (set_places 0 row) (places_rise 0 0 row (omega arith)) },
      record { size = w.0; set = places_are_bits row },
    )

-- words that name columns in order stand for a row

-- the row that words stand for from column n on, with the bits at these places
record FoundFrom (columns : List Column) (n : ℕ) (words : List (List ℕ)) (places : List ℕ) : Type 0 where
  row : List Bool
  found : named_row (drop n columns) words ≡ Some row
  size : n + length row ≡ length columns
  set : set_places n row ≡ places

-- places that are left from column n on
record LeftFrom (columns : List Column) (n : ℕ) (words : List (List ℕ)) (places : List ℕ) : Type 0 where
  have : All (λ p. p < length columns) places
  named : map column_of words ≡ map (slice_get columns) places
  rise : RiseFrom n places

module _ (columns : List Column) (differ : Differ columns) where
  found_clear : (n : ℕ) (column : Column) (words : List (List ℕ)) (places : List ℕ) → drop n columns ≡ column ∷ drop (suc n) columns
      → ((word : List ℕ) (more : List (List ℕ)) → words ≡ word ∷ more → is_column (column_of word) column ≡ false)
      → FoundFrom columns (suc n) words places → FoundFrom columns n words places
  found_clear n column words places more other f = record {
    row = false ∷ f.row;
    found =
        ap (λ (cs : List Column). named_row cs words) more
        ∙ skip_first column (drop (suc n) columns) words other
        ∙ ap (option_map (λ bits. false ∷ bits)) f.found;
    size = omega (arith, f.size);
    set = f.set;
  }

  found_set : (n : ℕ) (column : Column) (word : List ℕ) (words : List (List ℕ)) (places : List ℕ) → drop n columns ≡ column ∷ drop (suc n) columns
      → is_column (column_of word) column ≡ true → FoundFrom columns (suc n) words places → FoundFrom columns n (word ∷ words) (n ∷ places)
  found_set n column word words places more hit f = record {
    row = true ∷ f.row;
    found =
        ap (λ (cs : List Column). named_row cs (word ∷ words)) more
        ∙ rw hit refl
        ∙ ap (option_map (λ bits. true ∷ bits)) f.found;
    size = omega (arith, f.size);
    set = ap (λ (ps : List ℕ). n ∷ ps) f.set;
  }

  no_word : (word : List ℕ) (words : List (List ℕ)) → map column_of (word ∷ words) ≡ [] → ⊥
  no_word word words e = cc

  no_place : (place : ℕ) (places : List ℕ) → [] ≡ map (slice_get columns) (place ∷ places) → ⊥
  no_place place places e = cc

  first_named : (word : List ℕ) (words : List (List ℕ)) (place : ℕ) (places : List ℕ) → map column_of (word ∷ words) ≡ map (slice_get columns) (place ∷ places)
      → column_of word ≡ slice_get columns place
  first_named word words place places e = cc

  others_named : (word : List ℕ) (words : List (List ℕ)) (place : ℕ) (places : List ℕ) → map column_of (word ∷ words) ≡ map (slice_get columns) (place ∷ places)
      → map column_of words ≡ map (slice_get columns) places
  others_named word words place places e = cc

  -- a word that names a later column does not name this one
  later_named : (n place : ℕ) (word : List ℕ) → n < place → place < length columns → column_of word ≡ slice_get columns place
      → is_column (column_of word) (get_or columns n no_column) ≡ false
  later_named n place word lt h e =
      elim (cases_Bool (is_column (column_of word) (get_or columns n no_column))) [
        | inl same ↦
            (let is : column_of word ≡ Some (get_or columns n no_column) = named_is (column_of word) (get_or columns n no_column) same in
            let clash : n ≡ place =
            differ n place (get_or columns n no_column) (named_found columns n no_column (omega arith)) (sym e ∙ is) in
            absurd (omega arith))
        | inr other ↦ other
      ]

  found_from : (many n : ℕ) (words : List (List ℕ)) (places : List ℕ) → n + many ≡ length columns → LeftFrom columns n words places → FoundFrom columns n words places
  found_from zero n [] [] size left = record {
    row = [];
    found = ap (λ (cs : List Column). named_row cs []) (drop_of_length-le columns (omega arith));
    size = omega arith;
    set = refl;
  }
  found_from zero n (word ∷ words) [] size left = absurd (no_word word words left.named)
  found_from zero n words (place ∷ places) size left =
      let low : n ≤ place = left.rise.0 in
      let high : place < length columns = left.have 0 0 (omega arith) in
      absurd (omega arith)
  found_from (suc many) n (word ∷ words) [] size left = absurd (no_word word words left.named)
  found_from (suc many) n [] (place ∷ places) size left = absurd (no_place place places left.named)
  found_from (suc many) n [] [] size left =
      found_clear n (get_or columns n no_column) [] [] (dropped columns n no_column (omega arith)) (λ word more e. cc)
      (found_from many (suc n) [] [] (omega arith) (record { have = left.have; named = left.named; rise = tt }))
  found_from (suc many) n (word ∷ words) (place ∷ places) size left =
      let column : Column = get_or columns n no_column in
      let more : drop n columns ≡ column ∷ drop (suc n) columns = dropped columns n no_column (omega arith) in
      let low : n ≤ place = left.rise.0 in
      let high : place < length columns = left.have 0 0 (omega arith) in
      let named : column_of word ≡ slice_get columns place = first_named word words place places left.named in
      elim (cases_lt n place) [
        | inl lt ↦
            found_clear n column (word ∷ words) (place ∷ places) more
            (λ w ws e. let same : word ≡ w = cc in ap (λ (x : List ℕ). is_column (column_of x) column) (sym same) ∙ later_named n place word lt high named)
            (found_from many (suc n) (word ∷ words) (place ∷ places) (omega arith)
            (record { have = left.have; named = left.named; rise = (lt, left.rise.1) }))
        | inr ge ↦
            (let at : place ≡ n = omega arith in
            let is : column_of word ≡ Some column = named ∙ ap (slice_get columns) at ∙ named_found columns n no_column (omega arith) in
            let hit : is_column (column_of word) column ≡ true = ap (λ (o : Option Column). is_column o column) is ∙ column_is_itself column in
            subst (λ (p : ℕ). FoundFrom columns n (word ∷ words) (p ∷ places)) (sym at)
            (found_set n column word words places more hit
            (found_from many (suc n) words places (omega arith) (record {
              have = λ k d h. left.have (suc k) d (omega arith);
              named = others_named word words place places left.named;
              rise = subst (λ (p : ℕ). RiseFrom (suc p) places) at left.rise.1;
            }))))
      ]

-- words that name columns in order stand for the row of these columns
pub named_is_row : (view : LinearView) (words : List (List ℕ)) (places : List ℕ) → IsView view → NameInOrder view.columns words places
    → (row : List Bool) × (named_row view.columns words ≡ Some row) × HasBitsAt places (length view.columns) row
named_is_row view words places is_view in_order =
    let found = found_from view.columns is_view.names_differ (length view.columns) 0 words places (omega arith) (record {
      have = in_order.have;
      named = in_order.named;
      rise = increasing_rises 0 places (λ some. omega arith) in_order.rise;
    }) in (
      found.row,
      found.found,
      record {
        size = omega (arith, found.size);
        set = λ c. subst (λ (ps : List ℕ). (get_or found.row c false ≡ true) ↔ Contains ps c) found.set (places_are_bits found.row c);
      },
    )
