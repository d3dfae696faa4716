-- Which tokens are a text of the grammar, and where tokens stop to be one.
use Rattle.std.specs.Prelude.{◌≡◌, ◌⊎◌, ℕ, zero, suc, List, [], ◌∷◌, length}
use Rattle.tor_edge.specs.declared.place.Place.{Place}
use Rattle.ll_reader.specs.Answer.{IsSyntaxFault, IsTooDeepFault}
use Rattle.ll_reader.specs.Depth.{KeepsDepth}
use Rattle.ll_reader.specs.Derivation.{IsText}
use Rattle.ll_reader.specs.declared.grammar.Step.{Step}
use Rattle.c_grammar.specs.Classes.{classes_of}
use Rattle.c_grammar.specs.declared.read.GrammarFault.{GrammarFault}
use Rattle.c_grammar.specs.declared.read.GrammarFault.TheVariants.{Syntax, Memory}
use Rattle.c_grammar.specs.declared.table.TheConstants.{PRODUCTIONS, FRAME}
use Rattle.c_tokens.specs.declared.token.Ending.{Ending}
use Rattle.c_tokens.specs.declared.token.Ending.TheVariants as ending
use Rattle.c_tokens.specs.declared.token.Token.{Token}

-- the steps derive the tokens of a text by the grammar, and no more than 128 brackets are open at one of them
pub record AreDerived (tokens : List Token) (end : Ending) (steps : List Step) : Type 0 where
  pub text : IsText PRODUCTIONS FRAME (classes_of tokens end) steps
  pub shallow : KeepsDepth PRODUCTIONS FRAME (length (classes_of tokens end)) steps

-- the place of a token, or that of the end
abbrev pub place_at : List Token → Ending → ℕ → Place
place_at [] (ending.End at) k = at
place_at [] (ending.Broken at) k = at
place_at (t ∷ tokens) end zero = t.place
place_at (t ∷ tokens) end (suc k) = place_at tokens end k

-- the token at a number is the first that cannot continue a text of the grammar
abbrev pub IsStop : List Token → Ending → ℕ → Type 0
IsStop tokens end at =
    IsSyntaxFault PRODUCTIONS FRAME (classes_of tokens end) at
    ⊎ IsTooDeepFault PRODUCTIONS FRAME (classes_of tokens end) at

-- the fault stands at the first token that cannot continue; want of memory has no cause
abbrev pub IsGrammarFault : List Token → Ending → GrammarFault → Type 0
IsGrammarFault tokens end (Syntax place) = (at : ℕ) × (place ≡ place_at tokens end at) × IsStop tokens end at
IsGrammarFault tokens end (Memory error) = Unit {0}
