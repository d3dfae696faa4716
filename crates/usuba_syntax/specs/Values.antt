-- What the steps of a derivation make of its tokens.
use Rattle.std.specs.Prelude.{◌≡◌, ◌≢◌, ◌<◌, ℕ, ◌^◌, List, [], ◌∷◌, ◌++◌, length, Some, None, slice_index_or, IsTrue}
use Rattle.ll_reader.specs.declared.grammar.Step.{Step}
use Rattle.ll_reader.specs.declared.grammar.Step.TheVariants.{Take, Choose}
use Rattle.tor_edge.specs.declared.place.Place.{Place}
use Rattle.usuba_parts.specs.Actions.{act, fits, made}
use Rattle.usuba_parts.specs.declared.action.Action.{Action}
use Rattle.usuba_parts.specs.declared.action.Action.TheVariants as action
use Rattle.usuba_parts.specs.declared.part.Part.{Part}
use Rattle.usuba_parts.specs.declared.part.Part.TheVariants as part
use Rattle.usuba_syntax.specs.declared.table.TheConstants.{ACTIONS}
use Rattle.usuba_tokens.specs.declared.token.Token.{Token}
use Rattle.usuba_tokens.specs.declared.token.TokenKind.{TokenKind}
use Rattle.usuba_tokens.specs.declared.token.TokenKind.TheVariants as kind
use Rattle.usuba_trees.specs.Made.{name}

-- what a token leaves in the tree; a number of 2^64 or more stands for 2^64
abbrev pub part_of_kind : TokenKind → Place → Part
part_of_kind (kind.Keyword k) at = part.Mark (record { place = at })
part_of_kind (kind.Sign s) at = part.Mark (record { place = at })
part_of_kind (kind.In text) at = part.Word (name text at)
part_of_kind (kind.Word text) at = part.Word (name text at)
part_of_kind (kind.TypeWord word) at = part.TypeWord word at
part_of_kind (kind.Number (Some n)) at = part.Number (record { place = at; value = n })
part_of_kind (kind.Number None) at = part.Number (record { place = at; value = 2 ^ 64 })

-- what a token leaves in the tree
abbrev pub part_of : Token → Part
part_of token = part_of_kind token.kind token.place

-- the action of a production
abbrev pub action_of : ℕ → Action
action_of k = slice_index_or ACTIONS k action.Keep

-- the parts that the steps make of the tokens, the first on top: those behind a step are made before it is done
abbrev pub values : List Step → List Token → List Part
values [] tokens = []
values (Take ∷ steps) [] = values steps []
values (Take ∷ steps) (t ∷ tokens) = part_of t ∷ values steps tokens
values (Choose k ∷ steps) tokens = act (action_of k) (values steps tokens)

-- whether a token is no number of 2^64 or more
abbrev pub HasValue : Token → Type 0
HasValue token = token.kind ≢ kind.Number None

-- what a step needs: a token to take, or parts on top that the action takes
abbrev pub IsReady : Step → List Token → List Part → Type 0
IsReady Take tokens parts = (front : List Token) × (t : Token) × (tokens ≡ front ++ t ∷ []) × HasValue t
IsReady (Choose k) tokens parts = (k < length ACTIONS) × IsTrue (fits (action_of k) parts)

-- what a step does: it takes the last token, or an action is done
abbrev pub IsDone : Step → List Token → List Part → List Token → List Part → Type 0
IsDone Take tokens parts tokens' parts' = (t : Token) × (tokens ≡ tokens' ++ t ∷ []) × (parts' ≡ part_of t ∷ parts)
IsDone (Choose k) tokens parts tokens' parts' = (tokens' ≡ tokens) × (made (action_of k) parts ≡ Some parts')
