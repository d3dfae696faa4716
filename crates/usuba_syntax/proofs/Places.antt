-- Where a token stands, and which numbers are too big.
use Rattle.std.proofs.Common.{◌≡◌, ◌<◌, ◌≤◌, ℕ, zero, suc, List, [], ◌∷◌, length, get_or, None, refl, ap, ◌∙◌, arith}
use Rattle.std.proofs.lemmas.Option.{slice_get_within, get_or_from_slice_get}
use Rattle.tor_edge.specs.declared.place.Place.{Place}
use Rattle.usuba_syntax.specs.Sources.{place_at, IsNumberTooBig}
use Rattle.usuba_tokens.specs.declared.token.Ending.{Ending}
use Rattle.usuba_tokens.specs.declared.token.Ending.TheVariants as ending
use Rattle.usuba_tokens.specs.declared.token.Token.{Token}
use Rattle.usuba_tokens.specs.declared.token.TokenKind.TheVariants as kind

pub place_of_token : (tokens : List Token) (end : Ending) (k : ℕ) (d : Token) → k < length tokens → (get_or tokens k d).place ≡ place_at tokens end k
place_of_token [] end k d h = absurd (omega arith)
place_of_token (t ∷ tokens) end zero d h = refl
place_of_token (t ∷ tokens) end (suc k) d h = place_of_token tokens end k d (omega arith)

pub place_of_end : (tokens : List Token) (at : Place) (k : ℕ) → length tokens ≤ k → at ≡ place_at tokens (ending.End at) k
place_of_end [] at k h = refl
place_of_end (t ∷ tokens) at zero h = absurd (omega arith)
place_of_end (t ∷ tokens) at (suc k) h = place_of_end tokens at k (omega arith)

pub place_of_broken : (tokens : List Token) (at : Place) (k : ℕ) → length tokens ≤ k → at ≡ place_at tokens (ending.Broken at) k
place_of_broken [] at k h = refl
place_of_broken (t ∷ tokens) at zero h = absurd (omega arith)
place_of_broken (t ∷ tokens) at (suc k) h = place_of_broken tokens at k (omega arith)

pub not_too_big : (tokens : List Token) (k : ℕ) (r : Token) → r ≡ get_or tokens k r → ¬ (r.kind ≡ kind.Number None) → ¬ IsNumberTooBig tokens k
not_too_big tokens k r is small (t, at, big) =
    small (ap (λ (x : Token). x.kind) (is ∙ get_or_from_slice_get tokens k t r at) ∙ big)

pub none_too_big : (tokens : List Token) (n : ℕ) → length tokens ≤ n → ((k : ℕ) → k < n → ¬ IsNumberTooBig tokens k) → (k : ℕ) → ¬ IsNumberTooBig tokens k
none_too_big tokens n long small k (t, at, big) =
    let h = slice_get_within tokens k t at in small k (omega arith) (t, at, big)
