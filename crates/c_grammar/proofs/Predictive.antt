-- The table is predictive, so tokens are derived or stop.
use Rattle.std.proofs.Common.{◌≡◌, ◌⊎◌, inl, inr, ℕ, List, length, refl, subst}
use Rattle.ll_reader.specs.declared.grammar.Step.{Step}
use Rattle.ll_reader.specs.Answer.{HasAnswer}
use Rattle.ll_reader.specs.Depth.{KeepsDepth}
use Rattle.ll_reader.specs.Derivation.{IsText}
use Rattle.ll_reader.specs.Predictive.{Meet}
use Rattle.ll_reader.proofs.Passing.{found, found_meet}
use Rattle.ll_reader.proofs.Search.{finds}
use Rattle.c_grammar.specs.Classes.{classes_of}
use Rattle.c_grammar.specs.Grammar.{AreDerived, IsStop}
use Rattle.c_grammar.specs.declared.table.TheConstants.{PRODUCTIONS, FRAME}
use Rattle.c_tokens.specs.declared.token.Ending.{Ending}
use Rattle.c_tokens.specs.declared.token.Token.{Token}

-- the facts that are found of the table's rules meet it
pub predictive : Meet (found PRODUCTIONS FRAME) FRAME.start FRAME.end PRODUCTIONS
unfolding finds
predictive = found_meet PRODUCTIONS FRAME refl

-- what has an answer is derived, or stops
pub derived_or_stopped : (tokens : List Token) (end : Ending) → HasAnswer PRODUCTIONS FRAME (classes_of tokens end)
    → ((steps : List Step) × AreDerived tokens end steps) ⊎ ((at : ℕ) × IsStop tokens end at)
derived_or_stopped tokens end (inl answer) = inl (answer.0, record { text = answer.1; shallow = answer.2 })
derived_or_stopped tokens end (inr fault) = inr fault

-- steps that derive the classes derive the tokens
pub derived_by : (tokens : List Token) (end : Ending) (steps : List Step) (classes : List ℕ) → classes ≡ classes_of tokens end
    → IsText PRODUCTIONS FRAME classes steps → KeepsDepth PRODUCTIONS FRAME (length classes) steps → AreDerived tokens end steps
derived_by tokens end steps classes same text shallow = record {
  text = subst (λ (cs : List ℕ). IsText PRODUCTIONS FRAME cs steps) same text;
  shallow = subst (λ (cs : List ℕ). KeepsDepth PRODUCTIONS FRAME (length cs) steps) same shallow;
}
