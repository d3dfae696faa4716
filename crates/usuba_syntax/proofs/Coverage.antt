-- All bytes spell a file or have a fault.
use Rattle.std.proofs.Common.{◌≡◌, ◌<◌, ◌≤◌, ℕ, zero, suc, List, [], ◌∷◌, ◌++◌, Some, None, ◌⊎◌, inl, inr, ap, ◌∙◌, arith, refl}
use Rattle.std.proofs.lemmas.Bool.{cases_lt}
use Rattle.std.proofs.lemmas.Option.{same_Some, none-some}
use Rattle.ll_reader.specs.Answer.{HasAnswer}
use Rattle.usuba_syntax.specs.Classes.{behind}
use Rattle.usuba_syntax.specs.SourceFaults.{SourceFault}
use Rattle.usuba_syntax.specs.SourceFaults as fault
use Rattle.usuba_syntax.specs.Sources.{place_at, IsNumberTooBig, IsFirstFault, SpellsFile, HasFault}
use Rattle.usuba_syntax.specs.declared.table.TheConstants.{PRODUCTIONS, FRAME}
use Rattle.usuba_syntax.proofs.Faults.{IsSound, syntax_at, deep_at, first_big, first_syntax, first_deep}
use Rattle.usuba_syntax.proofs.Reading.{text_ended, spells_file, taken_too_big}
use Rattle.usuba_syntax.proofs.Runs.{classes}
use Rattle.usuba_syntax.proofs.Texts.{file_of_text}
use Rattle.usuba_tokens.specs.Tokens.{Spells, start}
use Rattle.usuba_tokens.specs.declared.token.Ending.{Ending}
use Rattle.usuba_tokens.specs.declared.token.Token.{Token}
use Rattle.usuba_tokens.specs.declared.token.TokenKind.{TokenKind}
use Rattle.usuba_tokens.specs.declared.token.TokenKind.TheVariants as kind
use Rattle.usuba_trees.specs.declared.File.{File}

-- ---- the first number that is too big, if there is one

FirstBig : List Token → Type 0
FirstBig tokens = ((k : ℕ) × IsNumberTooBig tokens k × ((j : ℕ) → j < k → ¬ IsNumberTooBig tokens j)) ⊎ ((k : ℕ) → ¬ IsNumberTooBig tokens k)

is_big : (k : TokenKind) → (k ≡ kind.Number None) ⊎ (¬ (k ≡ kind.Number None))
is_big (kind.Number None) = inl refl
is_big (kind.Number (Some n)) = inr (λ h. absurd (cc))
is_big (kind.Keyword k) = inr (λ h. absurd (cc))
is_big (kind.Sign s) = inr (λ h. absurd (cc))
is_big (kind.In text) = inr (λ h. absurd (cc))
is_big (kind.TypeWord word) = inr (λ h. absurd (cc))
is_big (kind.Word text) = inr (λ h. absurd (cc))

small_first : (t : Token) (tokens : List Token) → ¬ (t.kind ≡ kind.Number None) → ¬ IsNumberTooBig (t ∷ tokens) 0
small_first t tokens small (u, at, big) = small (ap (λ (x : Token). x.kind) (same_Some t u at) ∙ big)

later_big : (t : Token) (tokens : List Token) → ¬ (t.kind ≡ kind.Number None) → FirstBig tokens → FirstBig (t ∷ tokens)
unfolding FirstBig
later_big t tokens small (inl (k, big, before)) = inl (suc k, big, first) where
  first : (j : ℕ) → j < suc k → ¬ IsNumberTooBig (t ∷ tokens) j
  first zero h = small_first t tokens small
  first (suc j) h = let less : j < k = omega arith in before j less
later_big t tokens small (inr none) = inr each where
  each : (k : ℕ) → ¬ IsNumberTooBig (t ∷ tokens) k
  each zero = small_first t tokens small
  each (suc k) = none k

first_too_big : (tokens : List Token) → FirstBig tokens
unfolding FirstBig
first_too_big [] = inr (λ k (t, at, big). absurd (none-some t at))
first_too_big (t ∷ tokens) = elim (is_big t.kind) [
  | inl big ↦ inl (0, (t, refl, big), (λ j h. absurd (omega arith)))
  | inr small ↦ later_big t tokens small (first_too_big tokens)
]

-- ---- what the reader would answer, as a file or a fault

abbrev pub FileOrFault : List ℕ → Type 0
FileOrFault bytes = ((file : File) × SpellsFile bytes file) ⊎ ((f : SourceFault) × HasFault bytes f)

module _ (bytes : List ℕ) (tokens : List Token) (end : Ending) (spells : Spells start bytes tokens end) where
  -- the fault at a token, unless a number that is too big stands before it
  or_big : (at : ℕ) → ((j : ℕ) → j < at → IsSound tokens end j) → (f : SourceFault) →
      (((j : ℕ) → j ≤ at → ¬ IsNumberTooBig tokens j) → IsFirstFault tokens end f) → FirstBig tokens → FileOrFault bytes
  unfolding FirstBig
  or_big at sound f here (inr none) = inr (f, (tokens, end, spells, here (λ j h. none j)))
  or_big at sound f here (inl (k, big, before)) = elim (cases_lt at k) [
    | inl beyond ↦ inr (f, (tokens, end, spells, here (λ j h. before j (omega arith))))
    | inr within ↦ inr (fault.NumberTooBig (place_at tokens end k), (tokens, end, spells, first_big tokens end k (λ j h. sound j (omega arith)) before big))
  ]

  file_or_big : HasAnswer PRODUCTIONS FRAME (classes tokens ++ behind end) → FirstBig tokens → FileOrFault bytes
  unfolding FirstBig
  file_or_big (inl (steps, text, keeps)) (inl (k, big, before)) =
      inr (fault.NumberTooBig (place_at tokens end k), (tokens, end, spells, taken_too_big tokens end steps k text keeps before big))
  file_or_big (inl (steps, text, keeps)) (inr none) =
      let (file, is) = (file_of_text tokens steps (text_ended tokens end steps text)).2 in
      inl (file, spells_file bytes tokens end steps file spells text keeps none is.is_file)
  file_or_big (inr (at, inl wrong)) first =
      let s = syntax_at tokens end at wrong in
      or_big at s.sound (fault.Syntax (place_at tokens end at)) (first_syntax tokens end at s) first
  file_or_big (inr (at, inr deep)) first =
      let s = deep_at tokens end at deep in
      or_big at s.sound (fault.TooDeep (place_at tokens end at)) (first_deep tokens end at s) first

  pub file_or_fault : HasAnswer PRODUCTIONS FRAME (classes tokens ++ behind end) → FileOrFault bytes
  file_or_fault answer = file_or_big answer (first_too_big tokens)
