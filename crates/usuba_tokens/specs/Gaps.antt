-- What stands between tokens: one blank, or a whole comment. It is said here by itself, apart from how a text is read.
use Rattle.std.specs.Prelude.{◌≡◌, ◌⊎◌, ℕ, true, List, [], ◌∷◌, ◌++◌}
use Rattle.std.specs.List.{list_all}
use Rattle.usuba_tokens.specs.Bytes.{is_blank, is_in_line}

-- The text ends with `*` and this byte, and these stand together nowhere before: so a comment ends at the first close, and
-- comments do not nest.
pub record IsClosed (last : ℕ) (text : List ℕ) : Type 0 where
  pub body : List ℕ
  pub closed : text ≡ body ++ 42 ∷ last ∷ []
  pub once : (front rest : List ℕ) → text ≡ front ++ 42 ∷ last ∷ rest → rest ≡ []

-- the text is empty, or a LF stands first
abbrev pub EndsLine : List ℕ → Type 0
EndsLine text = (text ≡ []) ⊎ ((rest : List ℕ) × (text ≡ 10 ∷ rest))

-- `IsGap gap after`: the first text is a blank or a whole comment, where the second one stands behind it
pub data IsGap : List ℕ → List ℕ → Type 0 where
  blank : {b : ℕ} {after : List ℕ} → is_blank b ≡ true → IsGap (b ∷ []) after
  -- `//` to before the next LF or the end
  line : {body after : List ℕ} → list_all is_in_line body ≡ true → EndsLine after → IsGap (47 ∷ 47 ∷ body) after
  -- `/*` to the next `*/`
  slash : {inside after : List ℕ} → IsClosed 47 inside → IsGap (47 ∷ 42 ∷ inside) after
  -- `(*` to the next `*)`
  round : {inside after : List ℕ} → IsClosed 41 inside → IsGap (40 ∷ 42 ∷ inside) after
