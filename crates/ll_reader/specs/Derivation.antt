-- Texts of a grammar, as derivations from its table of productions.
use Rattle.std.specs.Prelude.{◌≡◌, ℕ, List, [], ◌∷◌, ◌++◌, take, Some, slice_get}
use Rattle.std.proofs.Common.{zero, suc}
use Rattle.ll_reader.specs.declared.grammar.Body.{Body}
use Rattle.ll_reader.specs.declared.grammar.Frame.{Frame}
use Rattle.ll_reader.specs.declared.grammar.Item.{Item}
use Rattle.ll_reader.specs.declared.grammar.Item.TheVariants.{Token, Rule}
use Rattle.ll_reader.specs.declared.grammar.Production.{Production}
use Rattle.ll_reader.specs.declared.grammar.Step.{Step}
use Rattle.ll_reader.specs.declared.grammar.Step.TheVariants.{Take, Choose}

-- the places of a body as a list
abbrev pub places : Body → List Item
places b = b.0 ∷ b.1 ∷ b.2 ∷ b.3 ∷ b.4 ∷ b.5 ∷ b.6 ∷ b.7 ∷ b.8 ∷ b.9 ∷ b.10 ∷ b.11 ∷ []

-- the items that a production puts in the place of its rule
abbrev pub items : Production → List Item
items p = take p.length (places p.body)

-- The steps make tokens of these classes out of what is due, from left to right. `Take` takes a token of the class that
-- is due. `Choose k` puts the items of the production with the number k in the place of its rule. Nothing due makes nothing.
pub data Derives (table : List Production) : List Item → List ℕ → List Step → Type 0 where
  done : Derives table [] [] []
  token : {c : ℕ} {due : List Item} {classes : List ℕ} {steps : List Step} →
      Derives table due classes steps → Derives table (Token c ∷ due) (c ∷ classes) (Take ∷ steps)
  rule : {a k : ℕ} {p : Production} {due : List Item} {classes : List ℕ} {steps : List Step} →
      slice_get table k ≡ Some p → p.rule ≡ a → Derives table (items p ++ due) classes steps →
      Derives table (Rule a ∷ due) classes (Choose k ∷ steps)

-- something that is made out of what is due begins with these classes
abbrev pub Begins : List Production → List Item → List ℕ → Type 0
Begins table due classes = (rest : List ℕ) × (steps : List Step) × Derives table due (classes ++ rest) steps

-- the steps up to and with the one that takes the token number n
abbrev pub steps_to : ℕ → List Step → List Step
steps_to zero steps = []
steps_to (suc n) [] = []
steps_to (suc n) (Take ∷ steps) = Take ∷ steps_to n steps
steps_to (suc n) (Choose k ∷ steps) = Choose k ∷ steps_to (suc n) steps

-- what a text of the grammar is made out of: its start rule, and a token of its end class
abbrev pub whole : Frame → List Item
whole frame = Rule frame.start ∷ Token frame.end ∷ []

-- the steps derive the classes as a text of the grammar
abbrev pub IsText : List Production → Frame → List ℕ → List Step → Type 0
IsText table frame classes steps = Derives table (whole frame) classes steps

-- a text of the grammar begins with these classes
abbrev pub BeginsText : List Production → Frame → List ℕ → Type 0
BeginsText table frame classes = Begins table (whole frame) classes
