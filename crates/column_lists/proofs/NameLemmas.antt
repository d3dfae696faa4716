-- The columns that words name.
use Rattle.std.proofs.Common.{◌≡◌, ℕ, ◌+◌, ◌-◌, ◌<◌, ◌≤◌, eqb, List, [], ◌∷◌, length, get_or, take, drop, Option, None, Some, refl, sym, ap, ◌∙◌, arith}
use Rattle.std.specs.List.{slice_split}
use Rattle.std.specs.Option.{option_map}
use Rattle.std.proofs.lemmas.List.{take_all}
use Rattle.linear_view.specs.declared.column.ColumnKind.{ColumnKind}
use Rattle.column_lists.specs.Names.{kind_of, column_of_parts, column_of}
use Rattle.column_lists.specs.Reading.{fitting}
use Rattle.column_lists.specs.declared.named.Named.{Named}
use Rattle.text_lines.proofs.LineLemmas.{some_part}

-- more than one dot
pub more_parts : (kind : ColumnKind) (place first rest second last : List ℕ)
    → slice_split (λ byte. eqb byte 46) place ≡ first ∷ slice_split (λ byte. eqb byte 46) rest
    → slice_split (λ byte. eqb byte 46) rest ≡ second ∷ slice_split (λ byte. eqb byte 46) last
    → column_of_parts (Some kind) (slice_split (λ byte. eqb byte 46) place) ≡ None
more_parts kind place first rest second last e f =
    let w = some_part (λ byte. eqb byte 46) last in
    ap (column_of_parts (Some kind)) (e ∙ ap (λ (ps : List (List ℕ)). first ∷ ps) (f ∙ ap (λ (ps : List (List ℕ)). second ∷ ps) w.2))

pub column_of_empty : (word : List ℕ) → length word ≡ 0 → None ≡ option_map fitting (column_of word)
column_of_empty [] e = refl
column_of_empty (letter ∷ place) e = absurd (omega arith)

pub column_of_first : (word : List ℕ) (letter : ℕ) (place : List ℕ) (kind : Option ColumnKind) → word ≡ letter ∷ place → kind ≡ kind_of letter
    → column_of_parts kind (slice_split (λ byte. eqb byte 46) place) ≡ column_of word
column_of_first word letter place kind e f = ap (λ (k : Option ColumnKind). column_of_parts k (slice_split (λ byte. eqb byte 46) place)) f ∙ sym (ap column_of e)
