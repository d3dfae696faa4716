-- The tokens of a text, one at a time.
use Rattle.std.proofs.Common.{◌≡◌, ℕ, suc, ◌+◌, ◌<◌, ◌≤◌, Bool, true, false, cond, not, ltb, eqb, ◌&&◌, ◌||◌, List, [], ◌∷◌, ◌++◌, length, map, take, drop, None, Some, refl, ap, sym, subst, ◌∙◌, inl, inr, arith, append-nil, true≢false}
use Rattle.std.specs.Prelude.{filter}
use Rattle.std.specs.List.{slice_split, onto_first, list_all, position, position_or_len}
use Rattle.std.proofs.lemmas.Bool.{cases_Bool, eqb-true, ltb-true, ltb-false, lt-ltb}
use Rattle.std.proofs.lemmas.List.{take_all, take-append-drop}
use Rattle.std.proofs.lemmas.List.Splits.{slice_split-cons_yes, slice_split-cons_no, length-slice_split}
use Rattle.data_text.specs.Parts.{is_plain, begins_plain, begins_blank, IsFirstWord}
use Rattle.data_text.specs.Tokens.{Token, is_blank, ends_line, words_of, tokens_of_lines, tokens_from, line_past}

-- a list has a first part
some_part : (p : ℕ → Bool) (xs : List ℕ) → (part : List ℕ) × (parts : List (List ℕ)) × (slice_split p xs ≡ part ∷ parts)
some_part p [] = ([], [], refl)
some_part p (x ∷ xs) =
    elim (cases_Bool (p x)) [
      | inl passes ↦ ([], slice_split p xs, slice_split-cons_yes p x xs passes)
      | inr fails ↦ (let w = some_part p xs in (x ∷ w.0, w.1, slice_split-cons_no p x xs fails ∙ ap (onto_first x) w.2))
    ]

-- ---- blanks

-- an LF ends its line
pub line_ended : (k b : ℕ) (bs : List ℕ) → ends_line b ≡ true → tokens_from k (b ∷ bs) ≡ tokens_from (suc k) bs
line_ended k b bs ends = ap (tokens_of_lines k) (slice_split-cons_yes ends_line b bs ends)

-- any other blank adds no token
pub blank_passed : (k b : ℕ) (bs : List ℕ) → is_blank b ≡ true → ends_line b ≡ false → tokens_from k (b ∷ bs) ≡ tokens_from k bs
blank_passed k b bs blank stays =
    let w = some_part ends_line bs in
    let words : words_of (b ∷ w.0) ≡ words_of w.0 = ap (filter (λ word. ltb 0 (length word))) (slice_split-cons_yes is_blank b w.0 blank) in
    ap (tokens_of_lines k) (slice_split-cons_no ends_line b bs stays ∙ ap (onto_first b) w.2)
    ∙ ap (λ (ws : List (List ℕ)). map (λ word. record { word = word; line = k }) ws ++ tokens_of_lines (suc k) w.1) words
    ∙ sym (ap (tokens_of_lines k) w.2)

pub ended_past : (k b : ℕ) (bs : List ℕ) → ends_line b ≡ true → line_past k (b ∷ bs) ≡ line_past (k + 1) bs
ended_past k b bs ends =
    let one : length (slice_split ends_line (b ∷ bs)) ≡ length ([] ∷ slice_split ends_line bs) = ap length (slice_split-cons_yes ends_line b bs ends) in
    omega (arith, one, length-slice_split ends_line (b ∷ bs), length-slice_split ends_line bs)

pub stayed_past : (k b : ℕ) (bs : List ℕ) → ends_line b ≡ false → line_past k (b ∷ bs) ≡ line_past k bs
stayed_past k b bs stays =
    let w = some_part ends_line bs in
    let same : length (slice_split ends_line (b ∷ bs)) ≡ length ((b ∷ w.0) ∷ w.1) = ap length (slice_split-cons_no ends_line b bs stays ∙ ap (onto_first b) w.2) in
    let before : length (slice_split ends_line bs) ≡ length (w.0 ∷ w.1) = ap length w.2 in
    omega (arith, same, before, length-slice_split ends_line (b ∷ bs), length-slice_split ends_line bs)

-- ---- words

plain_stays : (b : ℕ) → is_plain b ≡ true → (is_blank b ≡ false) × (ends_line b ≡ false)
plain_stays b plain = (first (is_blank b) plain, second (eqb b 32) (eqb b 9) (eqb b 10) (eqb b 13) plain)
  where
    first : (t : Bool) → not t ≡ true → t ≡ false
    first true e = sym e
    first false e = refl

    second : (p q r s : Bool) → not (p || q || r || s) ≡ true → r ≡ false
    second true q r s e = absurd (true≢false (sym e))
    second false true r s e = absurd (true≢false (sym e))
    second false false true s e = absurd (true≢false (sym e))
    second false false false s e = refl

and_parts : (a b : Bool) → (a && b) ≡ true → (a ≡ true) × (b ≡ true)
and_parts true b e = (refl, e)
and_parts false b e = absurd (true≢false (sym e))

-- a word stands on the first of the lines
word_on_line : (word rest part : List ℕ) (parts : List (List ℕ)) → list_all is_plain word ≡ true → slice_split ends_line rest ≡ part ∷ parts
    → slice_split ends_line (word ++ rest) ≡ (word ++ part) ∷ parts
word_on_line [] rest part parts plain e = e
word_on_line (b ∷ bs) rest part parts plain e =
    let p = and_parts (is_plain b) (list_all is_plain bs) plain in
    slice_split-cons_no ends_line b (bs ++ rest) (plain_stays b p.0).1 ∙ ap (onto_first b) (word_on_line bs rest part parts p.1 e)

-- where a blank or the end follows a word it is the first of the line
word_first : (word part : List ℕ) (others : List (List ℕ)) → list_all is_plain word ≡ true → slice_split is_blank part ≡ [] ∷ others → slice_split is_blank (word ++ part) ≡ word ∷ others
word_first [] part others plain e = e
word_first (b ∷ bs) part others plain e =
    let p = and_parts (is_plain b) (list_all is_plain bs) plain in
    slice_split-cons_no is_blank b (bs ++ part) (plain_stays b p.0).0 ∙ ap (onto_first b) (word_first bs part others p.1 e)

no_word_first : (part : List ℕ) → begins_blank part ≡ true → (others : List (List ℕ)) × (slice_split is_blank part ≡ [] ∷ others)
no_word_first [] begins = ([], refl)
no_word_first (b ∷ bs) begins = (slice_split is_blank bs, slice_split-cons_yes is_blank b bs begins)

-- what is left of a line begins with a blank too, or with nothing
rest_of_line : (rest : List ℕ) → begins_blank rest ≡ true → (part : List ℕ) × (parts : List (List ℕ)) × (slice_split ends_line rest ≡ part ∷ parts) × (begins_blank part ≡ true)
rest_of_line [] begins = ([], [], refl, refl)
rest_of_line (b ∷ bs) begins =
    elim (cases_Bool (ends_line b)) [
      | inl ends ↦ ([], slice_split ends_line bs, slice_split-cons_yes ends_line b bs ends, refl)
      | inr stays ↦ (let w = some_part ends_line bs in (b ∷ w.0, w.1, slice_split-cons_no ends_line b bs stays ∙ ap (onto_first b) w.2, begins))
    ]

-- a word is the first token of a text
pub word_taken : (k b : ℕ) (bs rest : List ℕ) → list_all is_plain (b ∷ bs) ≡ true → begins_blank rest ≡ true
    → tokens_from k ((b ∷ bs) ++ rest) ≡ record { word = b ∷ bs; line = k } ∷ tokens_from k rest
word_taken k b bs rest plain begins =
    let word : List ℕ = b ∷ bs in
    let w = rest_of_line rest begins in
    let o = no_word_first w.0 w.3 in
    let some : ltb 0 (length word) ≡ true = lt-ltb 0 (length word) (omega arith) in
    let words : words_of (word ++ w.0) ≡ word ∷ words_of w.0 =
    ap (filter (λ x. ltb 0 (length x))) (word_first word w.0 o.0 plain o.1)
    ∙ kept some (filter (λ x. ltb 0 (length x)) o.0)
    ∙ ap (λ (ws : List (List ℕ)). word ∷ ws) (sym (ap (filter (λ x. ltb 0 (length x))) o.1)) in
    ap (tokens_of_lines k) (word_on_line word rest w.0 w.1 plain w.2)
    ∙ ap (λ (ws : List (List ℕ)). map (λ x. record { word = x; line = k }) ws ++ tokens_of_lines (suc k) w.1) words
    ∙ ap (λ (ts : List Token). record { word = word; line = k } ∷ ts) (sym (ap (tokens_of_lines k) w.2))
  where
    kept : {word : List ℕ} → ltb 0 (length word) ≡ true → (others : List (List ℕ)) → cond (ltb 0 (length word)) (word ∷ others) others ≡ word ∷ others
    kept some others = rw some refl

-- a word stays on its line
pub word_past : (k : ℕ) (word rest : List ℕ) → list_all is_plain word ≡ true → line_past k (word ++ rest) ≡ line_past k rest
word_past k [] rest plain = refl
word_past k (b ∷ bs) rest plain =
    let p = and_parts (is_plain b) (list_all is_plain bs) plain in
    stayed_past k b (bs ++ rest) (plain_stays b p.0).1 ∙ word_past k bs rest p.1

-- ---- the first word

abbrev IsCut : List ℕ → ℕ → Type 0
IsCut bytes n = (list_all is_plain (take n bytes) ≡ true) × (begins_blank (drop n bytes) ≡ true)

cut_at_blank : (bytes : List ℕ) → IsCut bytes (position_or_len is_blank bytes)
cut_at_blank [] = (refl, refl)
cut_at_blank (b ∷ bs) =
    elim (cases_Bool (is_blank b)) [
      | inl blank ↦ (let e : position_or_len is_blank (b ∷ bs) ≡ 0 = rw blank refl in subst (IsCut (b ∷ bs)) (sym e) (refl, blank))
      | inr plain ↦
          (let e : position_or_len is_blank (b ∷ bs) ≡ 1 + position_or_len is_blank bs = rw plain refl in
          let next : suc (position_or_len is_blank bs) ≡ position_or_len is_blank (b ∷ bs) = omega arith in
          let later = cut_at_blank bs in
          let this : is_plain b ≡ true = ap not plain in
          subst (IsCut (b ∷ bs)) next (rw this later.0, later.1))
    ]

pub first_word_at : (bytes : List ℕ) (n : ℕ) → Some n ≡ position is_blank bytes → (n < length bytes) × IsFirstWord bytes (take n bytes) (drop n bytes)
first_word_at bytes n e =
    elim (cases_Bool (ltb (position_or_len is_blank bytes) (length bytes))) [
      | inl within ↦
          (let here : Some n ≡ Some (position_or_len is_blank bytes) = e ∙ rw within refl in
          let same : position_or_len is_blank bytes ≡ n = cc in
          let lt : position_or_len is_blank bytes < length bytes = ltb-true _ _ within in
          let cut : IsCut bytes n = subst (IsCut bytes) same (cut_at_blank bytes) in
          (omega arith, (sym (take-append-drop n bytes), cut.0, cut.1)))
      | inr past ↦ (let none : Some n ≡ None = e ∙ rw past refl in cc)
    ]

pub first_word_whole : (bytes : List ℕ) → None ≡ position is_blank bytes → IsFirstWord bytes bytes []
first_word_whole bytes e =
    elim (cases_Bool (ltb (position_or_len is_blank bytes) (length bytes))) [
      | inl within ↦ (let some : None ≡ Some (position_or_len is_blank bytes) = e ∙ rw within refl in cc)
      | inr past ↦
          (let le : length bytes ≤ position_or_len is_blank bytes = ltb-false _ _ past in
          let all : take (position_or_len is_blank bytes) bytes ≡ bytes = take_all _ _ le in
          (sym (append-nil bytes), subst (λ word. list_all is_plain word ≡ true) all (cut_at_blank bytes).0, refl))
    ]

-- no word stands first only at the end
pub no_word : (k : ℕ) (bytes word rest : List ℕ) → begins_plain bytes ≡ true → IsFirstWord bytes word rest → eqb (length word) 0 ≡ true → tokens_from k bytes ≡ []
no_word k [] word rest plain first none = refl
no_word k (b ∷ bs) [] rest plain first none =
    let begins : begins_blank (b ∷ bs) ≡ true = ap begins_blank first.0 ∙ first.2 in
    let bad : is_blank b ≡ false = (plain_stays b plain).0 in
    absurd (true≢false (sym begins ∙ bad))
no_word k (b ∷ bs) (c ∷ cs) rest plain first none = let bad : length (c ∷ cs) ≡ 0 = eqb-true _ _ none in absurd (omega arith)

-- a word that stands first is the next token
pub some_word : (k : ℕ) (bytes word rest : List ℕ) → IsFirstWord bytes word rest → eqb (length word) 0 ≡ false → tokens_from k bytes ≡ record { word = word; line = k } ∷ tokens_from k rest
some_word k bytes [] rest first some = absurd (true≢false some)
some_word k bytes (c ∷ cs) rest first some = ap (tokens_from k) first.0 ∙ word_taken k c cs rest first.1 first.2

pub first_past : (k : ℕ) (bytes word rest : List ℕ) → IsFirstWord bytes word rest → line_past k bytes ≡ line_past k rest
first_past k bytes word rest first = ap (line_past k) first.0 ∙ word_past k word rest first.1

-- a word and the bytes after it, by the place of the first blank
pub first_word_split : (bytes word rest : List ℕ) (n : ℕ) → Some n ≡ position is_blank bytes → word ≡ take n bytes → rest ≡ drop n bytes → IsFirstWord bytes word rest
first_word_split bytes word rest n e w r =
    subst (λ x. IsFirstWord bytes word x) (sym r) (subst (λ x. IsFirstWord bytes x (drop n bytes)) (sym w) (first_word_at bytes n e).1)

-- one more blank is passed over
pub record IsPassed (k b next : ℕ) (bs : List ℕ) : Type 0 where
  pub tokens : tokens_from next bs ≡ tokens_from k (b ∷ bs)
  pub end : line_past next bs ≡ line_past k (b ∷ bs)
  pub line : next ≤ k + 1

pub blank_step : (k b next : ℕ) (bs : List ℕ) → is_blank b ≡ true → next ≡ cond (ends_line b) (k + 1) k → IsPassed k b next bs
blank_step k b next bs blank e =
    elim (cases_Bool (ends_line b)) [
      | inl ends ↦
          (let is : next ≡ k + 1 = e ∙ rw ends refl in
          let line : suc k ≡ next = omega arith in
          subst (λ (n : ℕ). IsPassed k b n bs) line (record {
            tokens = sym (line_ended k b bs ends);
            end = sym (ended_past k b bs ends ∙ ap (λ (n : ℕ). line_past n bs) (omega arith));
            line = omega arith;
          }))
      | inr stays ↦
          (let is : k ≡ next = sym (e ∙ rw stays refl) in
          subst (λ (n : ℕ). IsPassed k b n bs) is (record {
            tokens = sym (blank_passed k b bs blank stays);
            end = sym (stayed_past k b bs stays);
            line = omega arith;
          }))
    ]

-- and then none stands after it
pub no_word_left : (k : ℕ) (bytes word rest : List ℕ) → begins_plain bytes ≡ true → IsFirstWord bytes word rest → eqb (length word) 0 ≡ true → tokens_from k rest ≡ []
no_word_left k bytes [] rest plain first none = ap (tokens_from k) (sym first.0) ∙ no_word k bytes [] rest plain first none
no_word_left k bytes (c ∷ cs) rest plain first none = let bad : length (c ∷ cs) ≡ 0 = eqb-true _ _ none in absurd (omega arith)
