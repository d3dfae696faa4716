-- What calls see of earlier definitions that are listed in text order.
use Rattle.std.specs.Prelude.{◌≡◌, ℕ, List, [], ◌∷◌, length, map, reverse, Option, Some, None, if◌then◌else◌, bytes_eq}
use Rattle.usuba_model.specs.Walk.{Signature}
use Rattle.usuba_walk.specs.declared.definitions.Known.{Known}

-- what calls see of a definition
abbrev pub signature_of_known : Known → Signature
signature_of_known known = record { name = known.name.now; inputs = known.inputs; outputs = known.outputs }

-- definitions in text order, the latest first
abbrev pub latest_first : List Known → List Signature
latest_first known = reverse (map signature_of_known known)

-- the place in the file, from 0, of the definition of a name among some, the latest first
abbrev pub place_of : List Signature → List ℕ → Option ℕ
place_of [] name = None
place_of (s ∷ earlier) name = if bytes_eq s.name name then Some (length earlier) else place_of earlier name

-- no earlier definition has the name of the latest
abbrev pub HasOwnName : List Signature → Type 0
HasOwnName [] = Unit {0}
HasOwnName (s ∷ earlier) = place_of earlier s.name ≡ None

-- the definitions before the latest
abbrev pub before_latest : List Signature → List Signature
before_latest [] = []
before_latest (s ∷ earlier) = earlier
