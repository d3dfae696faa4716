-- Terms and the words that they make: a table's terms of related arguments make the look-up of their words.
use Rattle.std.proofs.Common.{◌≡◌, ℕ, List, [], ◌∷◌, map, refl, ap, ap₂, ◌∙◌, arith}
use Rattle.std.specs.Prelude.{All}
use Rattle.std.proofs.lemmas.List.Elements.{All-cons}
use Rattle.usuba0.specs.Term.{Term, bits_of_width}
use Rattle.usuba_model.specs.Meaning.{looked_up_word}
use Rattle.usuba_model.proofs.Relating.{AllRelated}
use Rattle.table_anf.specs.TableLaws.{word_of, FitsWidth}
use Rattle.table_anf.specs.TableTerms.{table_term}
use Rattle.table_anf.proofs.Values.{Makes}
use Rattle.table_anf.proofs.LookUps.{terms_are_look_ups}

module _ (w : ℕ) (inputs : List ℕ) where
  all_fit : (args : List Term) (words : List ℕ) → AllRelated (Makes w inputs) args words → All (FitsWidth w inputs) args
  all_fit [] words related = λ i d l. absurd (omega arith)
  all_fit (t ∷ args) [] related = absurd related
  all_fit (t ∷ args) (x ∷ words) related = All-cons (FitsWidth w inputs) t args related.0.fits (all_fit args words related.1)

  their_words : (args : List Term) (words : List ℕ) → AllRelated (Makes w inputs) args words → map (word_of w inputs) args ≡ words
  their_words [] [] related = refl
  their_words [] (x ∷ words) related = absurd related
  their_words (t ∷ args) [] related = absurd related
  their_words (t ∷ args) (x ∷ words) related = ap₂ (λ y ys. y ∷ ys) related.0.same (their_words args words related.1)

  -- a table's term of terms that make some words makes the look-up of these words
  pub look_ups_related : (m : ℕ) (entries : List ℕ) (args : List Term) (words : List ℕ) (j : ℕ) → AllRelated (Makes w inputs) args words
      → Makes w inputs (table_term w m entries args j) (looked_up_word (bits_of_width w) m entries words j)
  look_ups_related m entries args words j related =
      let made = terms_are_look_ups w m entries inputs args j (all_fit args words related) in
      record {
        fits = made.fits;
        same = made.same ∙ ap (λ xs. looked_up_word (bits_of_width w) m entries xs j) (their_words args words related);
      }
