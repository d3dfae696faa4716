-- The lines of a text, one at a time.
use Rattle.std.proofs.Common.{◌≡◌, ℕ, Bool, true, false, eqb, List, [], ◌∷◌, Option, None, Some, length, refl, ap, sym, ◌∙◌, inl, inr, arith}
use Rattle.std.specs.List.{slice_split, onto_first}
use Rattle.std.proofs.lemmas.Bool.{cases_Bool, both_ways, ne_eqb}
use Rattle.std.proofs.lemmas.List.Splits.{slice_split-cons_yes, slice_split-cons_no}
use Rattle.text_lines.specs.Words.{words_of}
use Rattle.text_lines.specs.Lines.{lines_of_parts, lines_of, first_words}

-- a list has a first part
pub some_part : (p : ℕ → Bool) (xs : List ℕ) → (part : List ℕ) × (parts : List (List ℕ)) × (slice_split p xs ≡ part ∷ parts)
some_part p [] = ([], [], refl)
some_part p (x ∷ xs) =
    elim (cases_Bool (p x)) [
      | inl passes ↦ ([], slice_split p xs, slice_split-cons_yes p x xs passes)
      | inr fails ↦ (let w = some_part p xs in (x ∷ w.0, w.1, slice_split-cons_no p x xs fails ∙ ap (onto_first x) w.2))
    ]

-- the first line, where an LF ends it
pub lines_of_first : (text line rest : List ℕ) → slice_split (λ byte. eqb byte 10) text ≡ line ∷ slice_split (λ byte. eqb byte 10) rest
    → lines_of text ≡ Some (words_of line) ∷ lines_of rest
lines_of_first text line rest h =
    let w = some_part (λ byte. eqb byte 10) rest in
    ap lines_of_parts (h ∙ ap (λ (ps : List (List ℕ)). line ∷ ps) w.2) ∙ ap (λ (ls : List (Option (List (List ℕ)))). Some (words_of line) ∷ ls) (sym (ap lines_of_parts w.2))

-- a text without LF has no first words
pub first_words_none : (text : List ℕ) → slice_split (λ byte. eqb byte 10) text ≡ text ∷ [] → first_words (lines_of text) ≡ None
first_words_none [] h = refl
first_words_none (b ∷ bs) h = ap first_words (ap lines_of_parts h)

-- the lines of parts of which the first is not empty, or that are more than one
some_line : (part : List ℕ) (parts : List (List ℕ)) (b : ℕ) → lines_of_parts (onto_first b (part ∷ parts)) ≡ [] → ⊥
some_line part [] b h = cc
some_line part (next ∷ parts) b h = cc

-- a text has no lines exactly where it has no bytes
pub lines_of_empty : (text : List ℕ) → lines_of text ≡ [] → text ≡ []
lines_of_empty [] h = refl
lines_of_empty (b ∷ bs) h =
    let w = some_part (λ byte. eqb byte 10) bs in
    elim (cases_Bool (eqb b 10)) [
      | inl passes ↦
          (let e : lines_of (b ∷ bs) ≡ Some (words_of []) ∷ lines_of_parts (w.0 ∷ w.1) =
          ap lines_of_parts (slice_split-cons_yes (λ byte. eqb byte 10) b bs passes ∙ ap (λ (ps : List (List ℕ)). [] ∷ ps) w.2) in
          let none : [] ≡ Some (words_of []) ∷ lines_of_parts (w.0 ∷ w.1) = sym h ∙ e in cc)
      | inr fails ↦
          (let e : lines_of (b ∷ bs) ≡ lines_of_parts (onto_first b (w.0 ∷ w.1)) =
          ap lines_of_parts (slice_split-cons_no (λ byte. eqb byte 10) b bs fails ∙ ap (onto_first b) w.2) in
          absurd (some_line w.0 w.1 b (sym e ∙ h)))
    ]

-- what a test for no bytes says of the lines
pub over_decides : (text : List ℕ) (lines : List (Option (List (List ℕ)))) (over : Bool) → lines_of text ≡ lines → over ≡ eqb (length text) 0
    → (over ≡ true → lines ≡ []) × (lines ≡ [] → over ≡ true)
over_decides [] lines over e h = (λ _. sym e, λ _. h)
over_decides (b ∷ bs) lines over e h =
    let no : over ≡ false = h ∙ ne_eqb _ _ (λ (z : length (b ∷ bs) ≡ 0). omega arith) in
    (λ y. absurd (both_ways over no y), λ n. let empty : b ∷ bs ≡ [] = lines_of_empty (b ∷ bs) (e ∙ n) in cc)
