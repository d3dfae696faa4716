-- What a call may add to a builder.
use Rattle.std.specs.Prelude.{◌≡◌, ℕ, ◌≤◌, List, ◌++◌, length}
use Rattle.usuba0.specs.Term.{Term}
use Rattle.usuba0.specs.Builder.{Held}

-- the width and the inputs are as before, the terms held before keep their numbers, and at most so many were added
pub record Extends (count : ℕ) (old new : Held) : Type 0 where
  pub width : new.width ≡ old.width
  pub inputs : new.inputs ≡ old.inputs
  pub added : List Term
  pub terms : new.terms ≡ old.terms ++ added
  pub few : length added ≤ count
