use Rattle.std.proofs.Common.{◌≡◌, ◌++◌, drop, vec_items}
use Rattle.c_name_places.specs.Places.{names_at}
use Rattle.c_meaning.proofs.places.places_of.Given as goal

abbrev pub invariant-loop-token : goal.invariant-loop-token
invariant-loop-token l = vec_items l.places ++ names_at (drop l.token-index l.tokens) ≡ names_at l.tokens
