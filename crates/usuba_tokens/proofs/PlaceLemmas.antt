-- A place moves by no more than the bytes that it passes.
use Rattle.std.proofs.Common.{◌≡◌, ℕ, ◌+◌, ◌≤◌, eqb, List, [], ◌∷◌, length, sym, subst, arith}
use Rattle.tor_edge.specs.declared.place.Place.{Place}
use Rattle.usuba_tokens.specs.Tokens.{next_place, place_after}
use Rattle.usuba_tokens.proofs.Choices.{either}

-- no further than so many lines and columns
pub record IsNear (at later : Place) (n : ℕ) : Type 0 where
  pub line : later.line ≤ at.line + n
  pub column : later.column ≤ at.column + n

next_near : (at : Place) (b : ℕ) → IsNear at (next_place at b) 1
next_near at b =
    either (λ later. IsNear at later 1) (eqb b 10) _ _ (record { line = omega arith; column = omega arith }) (record { line = omega arith; column = omega arith })

pub place_near : (at : Place) (bytes : List ℕ) → IsNear at (place_after at bytes) (length bytes)
place_near at [] = record { line = omega arith; column = omega arith }
place_near at (b ∷ bytes) =
    let first = next_near at b in
    let more = place_near (next_place at b) bytes in
    record { line = omega (arith, first.line, more.line); column = omega (arith, first.column, more.column) }

pub moved : (at later : Place) (bytes : List ℕ) → later ≡ place_after at bytes → IsNear at later (length bytes)
moved at later bytes is = subst (λ p. IsNear at p (length bytes)) (sym is) (place_near at bytes)
