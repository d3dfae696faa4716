-- Where declared variables begin among the numbered cells.
use Rattle.std.specs.Prelude.{◌≡◌, ℕ, ◌+◌, ◌≤◌, List, [], ◌∷◌, Option, Some, None, if◌then◌else◌, bytes_eq}
use Rattle.std.specs.Option.{option_or}
use Rattle.std.specs.HashMap.{HashMap, get_by}
use denote.Ref.{Bor}
use Rattle.usuba_trees.specs.declared.Decl.{Decl}
use Rattle.usuba_cells.specs.declared.places.Variable.{Variable}
use Rattle.usuba_model.specs.Shapes.{sizes, elements, all_elements}
use Rattle.usuba_model.specs.Walk.{most_operations}

-- what a map has at a name
abbrev pub place_at : {S : Type 0} → HashMap (Bor (List ℕ)) Variable S → List ℕ → Option Variable
place_at places name = get_by (λ key. bytes_eq name key.now) places

-- a declared variable that begins at `first`, where it has this name
abbrev pub place_of : ℕ → Decl → List ℕ → Option Variable
place_of first declaration name =
    if bytes_eq declaration.name.text name
    then Some (record { first = first; sizes = sizes declaration.shape })
    else None

-- the first declared variable of a name, where the first of all begins at `first`
abbrev pub place_in : ℕ → List Decl → List ℕ → Option Variable
place_in first [] name = None
place_in first (declaration ∷ rest) name =
    option_or (place_of first declaration name) (place_in (first + elements declaration) rest name)

-- the places of declared variables, whose cells are at most as many as a source may have
pub record IsNumbered (declared : List Decl) (places : List ℕ → Option Variable) : Type 0 where
  pub found : (name : List ℕ) → places name ≡ place_in 0 declared name
  pub few : all_elements declared ≤ most_operations
