-- How deep the tokens of a text stand in its deep productions.
use Rattle.std.specs.Prelude.{◌<◌, ◌≤◌, ℕ, ◌+◌, List, [], ◌∷◌, ◌++◌, map, take, All, Option, Some, None, slice_get, slice_index, if◌then◌else◌}
use Rattle.ll_reader.specs.declared.grammar.Frame.{Frame}
use Rattle.ll_reader.specs.declared.grammar.Item.{Item}
use Rattle.ll_reader.specs.declared.grammar.Item.TheVariants.{Token, Rule}
use Rattle.ll_reader.specs.declared.grammar.Production.{Production}
use Rattle.ll_reader.specs.declared.grammar.Step.{Step}
use Rattle.ll_reader.specs.declared.grammar.Step.TheVariants.{Take, Choose}
use Rattle.ll_reader.specs.Derivation.{items, whole}

-- the items of a production in the place of a rule that stands in `depth` deep productions: in a deep one, in one more
abbrev pub items_at : ℕ → Option Production → List (Item × ℕ)
items_at depth None = []
items_at depth (Some p) = map (λ item. (item, if p.deep then depth + 1 else depth)) (items p)

-- In how many deep productions the tokens stand that the steps take out of what is due, in order. A token stands in a
-- production if it is one of those that the production's items make, the first and the last included: so these are the
-- deep productions that are open at the token. Each thing due has beside it in how many it stands.
abbrev pub depths : List Production → List (Item × ℕ) → List Step → List ℕ
depths table due [] = []
depths table [] (step ∷ steps) = []
depths table ((Token c, depth) ∷ due) (Take ∷ steps) = depth ∷ depths table due steps
depths table ((Token c, depth) ∷ due) (Choose k ∷ steps) = []
depths table ((Rule a, depth) ∷ due) (Take ∷ steps) = []
depths table ((Rule a, depth) ∷ due) (Choose k ∷ steps) = depths table (items_at depth (slice_get table k) ++ due) steps

-- at each token of a text of the grammar that these steps derive, how many deep productions are open
abbrev pub token_depths : List Production → Frame → List Step → List ℕ
token_depths table frame steps = depths table (map (λ item. (item, 0)) (whole frame)) steps

-- at each of the first `count` tokens no more deep productions are open than the grammar allows
abbrev pub KeepsDepth : List Production → Frame → ℕ → List Step → Type 0
KeepsDepth table frame count steps = All (λ depth. depth ≤ frame.deepest) (take count (token_depths table frame steps))

-- at the token `at` more are open
abbrev pub PassesDepth : List Production → Frame → ℕ → List Step → Type 0
PassesDepth table frame at steps = frame.deepest < slice_index (token_depths table frame steps) at
