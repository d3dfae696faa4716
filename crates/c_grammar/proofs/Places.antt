-- Where a token stands.
use Rattle.std.proofs.Common.{◌≡◌, ◌<◌, ◌≤◌, ℕ, zero, suc, List, [], ◌∷◌, length, get_or, refl, arith}
use Rattle.tor_edge.specs.declared.place.Place.{Place}
use Rattle.c_grammar.specs.Grammar.{place_at}
use Rattle.c_tokens.specs.declared.token.Ending.{Ending}
use Rattle.c_tokens.specs.declared.token.Ending.TheVariants as ending
use Rattle.c_tokens.specs.declared.token.Token.{Token}

-- the place of a token
pub place_of_token : (tokens : List Token) (end : Ending) (k : ℕ) (d : Token) → k < length tokens
    → (get_or tokens k d).place ≡ place_at tokens end k
place_of_token [] end k d h = absurd (omega arith)
place_of_token (t ∷ tokens) end zero d h = refl
place_of_token (t ∷ tokens) end (suc k) d h = place_of_token tokens end k d (omega arith)

-- the place of the end
pub place_of_end : (tokens : List Token) (at : Place) (k : ℕ) → length tokens ≤ k → at ≡ place_at tokens (ending.End at) k
place_of_end [] at k h = refl
place_of_end (t ∷ tokens) at zero h = absurd (omega arith)
place_of_end (t ∷ tokens) at (suc k) h = place_of_end tokens at k (omega arith)

-- the place of what begins no token
pub place_of_broken : (tokens : List Token) (at : Place) (k : ℕ) → length tokens ≤ k → at ≡ place_at tokens (ending.Broken at) k
place_of_broken [] at k h = refl
place_of_broken (t ∷ tokens) at zero h = absurd (omega arith)
place_of_broken (t ∷ tokens) at (suc k) h = place_of_broken tokens at k (omega arith)
