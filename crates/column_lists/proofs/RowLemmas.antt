-- The row that words stand for, column by column.
use Rattle.std.proofs.Common.{◌≡◌, ℕ, suc, ◌+◌, ◌-◌, ◌<◌, ◌≤◌, Bool, true, false, not, List, [], ◌∷◌, ◌++◌, length, get_or, take, drop, set, Option, None, Some, refl, sym, ap, ◌∙◌, subst, arith, append_assoc, append-nil, add-one, drop-cons, replicate, MatchOption, slice_get, unwrap_or, inl, inr}
use Rattle.std.specs.Option.{option_map}
use Rattle.std.proofs.lemmas.Bool.{cases_Bool}
use Rattle.std.proofs.lemmas.Option.{get_or_from_slice_get, slice_get-get_or}
use Rattle.std.proofs.lemmas.List.{take_more, take_all, length-take-le, length-replicate, get_or-replicate, drop-set-lt, length-set}
use Rattle.std.proofs.Math.ListN.{drop_of_length-le}
use Rattle.std.proofs.Math.Seq.{take-suc-set}
use Rattle.linear_view.specs.declared.column.Column.{Column}
use Rattle.column_lists.specs.Names.{column_of}
use Rattle.column_lists.specs.Rows.{is_column, named_row}
use Rattle.column_lists.specs.Reading.{named_of}
use Rattle.column_lists.specs.declared.named.Named.{Named}

-- before column c: the words that are left, what is named next, and the row so far
pub record RowState (columns : List Column) (words : List (List ℕ)) (c : ℕ) (row : List Bool) (next : Option Named) (rest : List (List ℕ)) : Type 0 where
  pub left : List (List ℕ)
  pub named : MatchOption next ((left ≡ []) × (rest ≡ [])) (λ named. (word : List ℕ) × (left ≡ word ∷ rest) × (named ≡ named_of word))
  pub so_far : named_row columns words ≡ option_map (λ more. take c row ++ more) (named_row (drop c columns) left)
  pub clear : drop c row ≡ drop c (replicate (length columns) false)
  pub size : length row ≡ length columns

map_id : (o : Option (List Bool)) → o ≡ option_map (λ more. [] ++ more) o
map_id None = refl
map_id (Some more) = refl

pub row_start : (columns : List Column) (words : List (List ℕ)) (row : List Bool) (next : Option Named) (rest : List (List ℕ))
    → row ≡ replicate (length columns) false
    → MatchOption next ((words ≡ []) × (rest ≡ [])) (λ named. (word : List ℕ) × (words ≡ word ∷ rest) × (named ≡ named_of word))
    → RowState columns words 0 row next rest
row_start columns words row next rest unset named = record {
  left = words;
  named = named;
  so_far = map_id (named_row columns words);
  clear = ap (drop 0) unset;
  size = ap length unset ∙ length-replicate (length columns) false;
}

map_step : (front : List Bool) (bit : Bool) (longer : List Bool) (o : Option (List Bool)) → longer ≡ front ++ bit ∷ []
    → option_map (λ more. front ++ more) (option_map (λ more. bit ∷ more) o) ≡ option_map (λ more. longer ++ more) o
map_step front bit longer None e = refl
map_step front bit longer (Some more) e = ap (λ (m : List Bool). Some m) (sym (append_assoc front (bit ∷ []) more) ∙ ap (λ (f : List Bool). f ++ more) (sym e))

pub skip_first : (column : Column) (columns : List Column) (left : List (List ℕ))
    → ((word : List ℕ) (more : List (List ℕ)) → left ≡ word ∷ more → is_column (column_of word) column ≡ false)
    → named_row (column ∷ columns) left ≡ option_map (λ more. false ∷ more) (named_row columns left)
skip_first column columns [] other = refl
skip_first column columns (word ∷ words) other = rw (other word words refl) refl

-- the bit of a column that is not named next is clear
row_skip : (columns : List Column) (c : ℕ) (column : Column) (left : List (List ℕ)) → c < length columns → get_or columns c column ≡ column
    → ((word : List ℕ) (more : List (List ℕ)) → left ≡ word ∷ more → is_column (column_of word) column ≡ false)
    → named_row (drop c columns) left ≡ option_map (λ more. false ∷ more) (named_row (drop (c + 1) columns) left)
row_skip columns c column left h here other =
    let rest : drop c columns ≡ column ∷ drop (c + 1) columns =
    drop-cons columns c column h ∙ ap (λ (x : Column). x ∷ drop (suc c) columns) here ∙ ap (λ (n : ℕ). column ∷ drop n columns) (sym (add-one c)) in
    ap (λ (cs : List Column). named_row cs left) rest ∙ skip_first column (drop (c + 1) columns) left other

-- the bit of a column that is named next is set
row_take : (columns : List Column) (c : ℕ) (column : Column) (word : List ℕ) (words : List (List ℕ)) → c < length columns → get_or columns c column ≡ column
    → is_column (column_of word) column ≡ true
    → named_row (drop c columns) (word ∷ words) ≡ option_map (λ more. true ∷ more) (named_row (drop (c + 1) columns) words)
row_take columns c column word words h here hit =
    let rest : drop c columns ≡ column ∷ drop (c + 1) columns =
    drop-cons columns c column h ∙ ap (λ (x : Column). x ∷ drop (suc c) columns) here ∙ ap (λ (n : ℕ). column ∷ drop n columns) (sym (add-one c)) in
    ap (λ (cs : List Column). named_row cs (word ∷ words)) rest ∙ rw hit refl

-- the bit at c is still clear, and so are those after it
clear_at : (row : List Bool) (n c : ℕ) → length row ≡ n → c < n → drop c row ≡ drop c (replicate n false)
    → (get_or row c false ≡ false) × (drop (c + 1) row ≡ drop (c + 1) (replicate n false))
clear_at row n c size h clear =
    let a : drop c row ≡ get_or row c false ∷ drop (suc c) row = drop-cons row c false (omega arith) in
    let b : drop c (replicate n false) ≡ get_or (replicate n false) c false ∷ drop (suc c) (replicate n false) =
    drop-cons (replicate n false) c false (simp length-replicate (omega arith)) in
    let zero_bit : get_or (replicate n false) c false ≡ false = get_or-replicate n c false false h in
    let same : get_or row c false ∷ drop (suc c) row ≡ get_or (replicate n false) c false ∷ drop (suc c) (replicate n false) = sym a ∙ clear ∙ b in
    let tails : drop (suc c) row ≡ drop (suc c) (replicate n false) = cc in
    let heads : get_or row c false ≡ get_or (replicate n false) c false = cc in
    (heads ∙ zero_bit, ap (λ (m : ℕ). drop m row) (add-one c) ∙ tails ∙ ap (λ (m : ℕ). drop m (replicate n false)) (sym (add-one c)))

not_next : (next : Option Named) (rest : List (List ℕ)) (column : Column) (left : List (List ℕ))
    → MatchOption next ((left ≡ []) × (rest ≡ [])) (λ named. (word : List ℕ) × (left ≡ word ∷ rest) × (named ≡ named_of word))
    → ((word : List ℕ) → next ≡ Some (named_of word) → is_column (column_of word) column ≡ false)
    → (word : List ℕ) (more : List (List ℕ)) → left ≡ word ∷ more → is_column (column_of word) column ≡ false
not_next None rest column left named other word more e = let none : [] ≡ word ∷ more = sym named.0 ∙ e in cc
not_next (Some given) rest column left named other word more e =
    let same : named.0 ∷ rest ≡ word ∷ more = sym named.1 ∙ e in
    let first : named.0 ≡ word = cc in
    other word (ap (λ (n : Named). Some n) (named.2 ∙ ap named_of first))

pub row_passes : (columns : List Column) (words : List (List ℕ)) (c : ℕ) (row : List Bool) (next : Option Named) (rest : List (List ℕ)) (column : Column)
    → RowState columns words c row next rest → c < length columns → get_or columns c column ≡ column
    → ((word : List ℕ) → next ≡ Some (named_of word) → is_column (column_of word) column ≡ false)
    → RowState columns words (c + 1) row next rest
row_passes columns words c row next rest column state h here other =
    let bits = clear_at row (length columns) c state.size h state.clear in
    record {
      left = state.left;
      named = state.named;
      so_far =
          state.so_far
          ∙ ap (option_map (λ more. take c row ++ more)) (row_skip columns c column state.left h here (not_next next rest column state.left state.named other))
          ∙ map_step (take c row) false (take (c + 1) row) (named_row (drop (c + 1) columns) state.left)
          (take_more row c false (omega (arith, state.size)) ∙ ap (λ (b : Bool). take c row ++ b ∷ []) bits.0);
      clear = bits.1;
      size = state.size;
    }

pub row_takes : (columns : List Column) (words : List (List ℕ)) (c : ℕ) (row : List Bool) (next : Option Named) (rest : List (List ℕ)) (column : Column)
    (later : Option Named) (after : List (List ℕ))
    → RowState columns words c row next rest → c < length columns → get_or columns c column ≡ column
    → (next ≡ None → ⊥)
    → ((word : List ℕ) → next ≡ Some (named_of word) → is_column (column_of word) column ≡ true)
    → MatchOption later ((rest ≡ []) × (after ≡ [])) (λ named. (word : List ℕ) × (rest ≡ word ∷ after) × (named ≡ named_of word))
    → RowState columns words (c + 1) (set row c true) later after
row_takes columns words c row None rest column later after state h here some hit more = absurd (some refl)
row_takes columns words c row (Some given) rest column later after state h here some hit more =
    let word : List ℕ = state.named.0 in
    let left : state.left ≡ word ∷ rest = state.named.1 in
    let yes_next : is_column (column_of word) column ≡ true = hit word (ap (λ (n : Named). Some n) state.named.2) in
    let bits = clear_at row (length columns) c state.size h state.clear in
    record {
      left = rest;
      named = more;
      so_far =
          state.so_far
          ∙ ap (λ (ws : List (List ℕ)). option_map (λ more. take c row ++ more) (named_row (drop c columns) ws)) left
          ∙ ap (option_map (λ more. take c row ++ more)) (row_take columns c column word rest h here yes_next)
          ∙ map_step (take c row) true (take (c + 1) (set row c true)) (named_row (drop (c + 1) columns) rest)
          (ap (λ (n : ℕ). take n (set row c true)) (add-one c) ∙ take-suc-set row c true (omega (arith, state.size)));
      clear = drop-set-lt (c + 1) row c true (omega arith) ∙ bits.1;
      size = length-set row c true ∙ state.size;
    }

pub row_ends_well : (columns : List Column) (words : List (List ℕ)) (c : ℕ) (row : List Bool) (rest : List (List ℕ))
    → RowState columns words c row None rest → length columns ≤ c → Some row ≡ named_row columns words
row_ends_well columns words c row rest state h =
    sym
    (state.so_far
    ∙ ap (λ (cs : List Column). option_map (λ more. take c row ++ more) (named_row cs state.left)) (drop_of_length-le columns h)
    ∙ ap (λ (ws : List (List ℕ)). option_map (λ more. take c row ++ more) (named_row [] ws)) state.named.0
    ∙ ap (λ (bits : List Bool). Some bits) (append-nil (take c row) ∙ take_all c row (omega (arith, state.size))))

pub row_ends_badly : (columns : List Column) (words : List (List ℕ)) (c : ℕ) (row : List Bool) (next : Named) (rest : List (List ℕ))
    → RowState columns words c row (Some next) rest → length columns ≤ c → None ≡ named_row columns words
row_ends_badly columns words c row next rest state h =
    sym
    (state.so_far
    ∙ ap (λ (cs : List Column). option_map (λ more. take c row ++ more) (named_row cs state.left)) (drop_of_length-le columns h)
    ∙ ap (λ (ws : List (List ℕ)). option_map (λ more. take c row ++ more) (named_row [] ws)) state.named.1)

none_found : (columns : List Column) (c : ℕ) → c < length columns → None ≡ slice_get columns c → ⊥
none_found [] c h e = absurd (omega arith)
none_found (column ∷ columns) c h e = let found : slice_get (column ∷ columns) c ≡ Some (get_or (column ∷ columns) c column) = slice_get-get_or (column ∷ columns) c column h in cc

-- the same state in other words
state_is : (columns : List Column) (words : List (List ℕ)) (c : ℕ) (row more : List Bool) (next later : Option Named) (rest after : List (List ℕ))
    → more ≡ row → later ≡ next → after ≡ rest → RowState columns words c row next rest → RowState columns words c more later after
state_is columns words c row more next later rest after el en er state =
    subst (λ (l : List Bool). RowState columns words c l later after) (sym el)
    (subst (λ (n : Option Named). RowState columns words c row n after) (sym en)
    (subst (λ (r : List (List ℕ)). RowState columns words c row next r) (sym er) state))

-- after a column that is named next
pub row_after_hit : (columns : List Column) (words : List (List ℕ)) (c : ℕ) (row : List Bool) (next : Option Named) (rest : List (List ℕ)) (found : Option Column) (hit : Bool)
    (flipped : List Bool) (later : Option Named) (after : List (List ℕ)) (row' : List Bool) (next' : Option Named) (rest' : List (List ℕ))
    → RowState columns words c row next rest → c < length columns → found ≡ slice_get columns c
    → ((word : List ℕ) (here : Column) → next ≡ Some (named_of word) → found ≡ Some here → hit ≡ is_column (column_of word) here)
    → (next ≡ None → hit ≡ false) → hit ≡ true → flipped ≡ set row c (not (get_or row c false))
    → MatchOption later ((rest ≡ []) × (after ≡ [])) (λ named. (word : List ℕ) × (rest ≡ word ∷ after) × (named ≡ named_of word))
    → row' ≡ flipped → next' ≡ later → rest' ≡ after
    → RowState columns words (c + 1) row' next' rest'
row_after_hit columns words c row next rest None hit flipped later after row' next' rest' state h here named none yes_hit flips more el en er = absurd (none_found columns c h here)
row_after_hit columns words c row next rest (Some column) hit flipped later after row' next' rest' state h here named none yes_hit flips more el en er =
    let bits = clear_at row (length columns) c state.size h state.clear in
    let is_set : flipped ≡ set row c true = flips ∙ ap (λ (b : Bool). set row c (not b)) bits.0 in
    state_is columns words (c + 1) (set row c true) row' later next' after rest' (el ∙ is_set) en er
    (row_takes columns words c row next rest column later after state h (get_or_from_slice_get columns c column column (sym here))
    (λ e. let off : hit ≡ false = none e in cc) (λ word e. sym (named word column e refl) ∙ yes_hit) more)

-- after a column that is not named next
pub row_after_miss : (columns : List Column) (words : List (List ℕ)) (c : ℕ) (row : List Bool) (next : Option Named) (rest : List (List ℕ)) (found : Option Column) (hit : Bool)
    (row' : List Bool) (next' : Option Named) (rest' : List (List ℕ))
    → RowState columns words c row next rest → c < length columns → found ≡ slice_get columns c
    → ((word : List ℕ) (here : Column) → next ≡ Some (named_of word) → found ≡ Some here → hit ≡ is_column (column_of word) here)
    → hit ≡ false → row' ≡ row → next' ≡ next → rest' ≡ rest
    → RowState columns words (c + 1) row' next' rest'
row_after_miss columns words c row next rest None hit row' next' rest' state h here named miss el en er = absurd (none_found columns c h here)
row_after_miss columns words c row next rest (Some column) hit row' next' rest' state h here named miss el en er =
    state_is columns words (c + 1) row row' next next' rest rest' el en er
    (row_passes columns words c row next rest column state h (get_or_from_slice_get columns c column column (sym here))
    (λ word e. sym (named word column e refl) ∙ miss))

no_some : {X : Type 0} (x : X) → None ≡ Some x → ⊥
no_some x e = cc

mapped_size : (bit : Bool) (o : Option (List Bool)) (row : List Bool) (n : ℕ) → option_map (λ more. bit ∷ more) o ≡ Some row
    → ((more : List Bool) → o ≡ Some more → length more ≡ n) → length row ≡ suc n
mapped_size bit None row n e sizes = absurd (no_some row e)
mapped_size bit (Some more) row n e sizes =
    let same : bit ∷ more ≡ row = ap (λ (o : Option (List Bool)). unwrap_or o (bit ∷ more)) e in
    let size : length more ≡ n = sizes more refl in
    sym (ap length same) ∙ ap suc size

-- a row that words stand for has a bit for each column
pub named_size : (columns : List Column) (words : List (List ℕ)) (row : List Bool) → named_row columns words ≡ Some row → length row ≡ length columns
named_size [] [] row e = let same : [] ≡ row = ap (λ (o : Option (List Bool)). unwrap_or o []) e in sym (ap length same)
named_size [] (word ∷ words) row e = absurd (no_some row e)
named_size (column ∷ columns) [] row e = mapped_size false (named_row columns []) row (length columns) e (named_size columns [])
named_size (column ∷ columns) (word ∷ words) row e =
    elim (cases_Bool (is_column (column_of word) column)) [
      | inl named ↦
          (let f : option_map (λ more. true ∷ more) (named_row columns words) ≡ Some row = sym (rw named refl) ∙ e in
          mapped_size true (named_row columns words) row (length columns) f (named_size columns words))
      | inr other ↦
          (let f : option_map (λ more. false ∷ more) (named_row columns (word ∷ words)) ≡ Some row = sym (rw other refl) ∙ e in
          mapped_size false (named_row columns (word ∷ words)) row (length columns) f (named_size columns (word ∷ words)))
    ]
