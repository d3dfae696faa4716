-- A text has one derivation.
use Rattle.std.proofs.Common.{◌≡◌, ℕ, List, [], ◌∷◌, ◌++◌, length, sym, refl, ap, ◌∙◌}
use Rattle.ll_reader.specs.declared.grammar.Frame.{Frame}
use Rattle.ll_reader.specs.declared.grammar.Item.{Item}
use Rattle.ll_reader.specs.declared.grammar.Item.TheVariants.{Token, Rule}
use Rattle.ll_reader.specs.declared.grammar.Production.{Production}
use Rattle.ll_reader.specs.declared.grammar.Step.{Step}
use Rattle.ll_reader.specs.declared.grammar.Step.TheVariants.{Take, Choose}
use Rattle.ll_reader.specs.Derivation.{items, Derives, done, token, rule, steps_to, whole, IsText}
use Rattle.ll_reader.specs.Predictive.{IsPredictive}
use Rattle.ll_reader.proofs.Lookahead.{Linked, SameFront, same_steps}
use Rattle.ll_reader.proofs.Machine.{begins}

-- a token is due
HasToken : List Item → Type 0
HasToken [] = ⊥
HasToken (Token c ∷ due) = Unit {0}
HasToken (Rule a ∷ due) = HasToken due

-- behind each rule a token is due
Closed : List Item → Type 0
Closed [] = Unit {0}
Closed (Token c ∷ due) = Closed due
Closed (Rule a ∷ due) = HasToken due × Closed due

has_token_append : (xs due : List Item) → HasToken due → HasToken (xs ++ due)
unfolding HasToken
has_token_append [] due h = h
has_token_append (Token c ∷ xs) due h = tt
has_token_append (Rule a ∷ xs) due h = has_token_append xs due h

closed_append : (xs due : List Item) → HasToken due → Closed due → Closed (xs ++ due)
unfolding Closed
closed_append [] due h closed = closed
closed_append (Token c ∷ xs) due h closed = closed_append xs due h closed
closed_append (Rule a ∷ xs) due h closed = (has_token_append xs due h, closed_append xs due h closed)

no_text : (table : List Production) (due : List Item) (s : List Step) → HasToken due → Derives table due [] s → ⊥
unfolding HasToken
no_text table _ _ h done = h
no_text table _ _ h (rule {p = p} {due = due} {steps = s} at of d) = no_text table (items p ++ due) s (has_token_append (items p) due h) d

all_steps : (table : List Production) (due : List Item) (ts : List ℕ) (s : List Step) → Closed due → Derives table due ts s → steps_to (length ts) s ≡ s
unfolding Closed
all_steps table _ _ _ closed done = refl
all_steps table _ _ _ closed (token {due = due} {classes = ts} {steps = s} d) = ap (λ (xs : List Step). Take ∷ xs) (all_steps table due ts s closed d)
all_steps table _ [] _ closed (rule {p = p} {due = due} {steps = s} at of d) =
    absurd (no_text table (items p ++ due) s (has_token_append (items p) due closed.0) d)
all_steps table _ (c ∷ ts) _ closed (rule {k = k} {p = p} {due = due} {steps = s} at of d) =
    ap (λ (xs : List Step). Choose k ∷ xs) (all_steps table (items p ++ due) (c ∷ ts) s (closed_append (items p) due closed.0 closed.1) d)

same_front : (front rest others : List ℕ) → SameFront (length front) (front ++ rest) (front ++ others)
same_front [] rest others = tt
same_front (c ∷ front) rest others = (refl, same_front front rest others)

same_all : (ts : List ℕ) → SameFront (length ts) ts ts
same_all [] = tt
same_all (c ∷ ts) = (refl, same_all ts)

closed_whole : (frame : Frame) → Closed (whole frame)
unfolding Closed HasToken
closed_whole frame = (tt, tt)

module _ (table : List Production) (frame : Frame) (predictive : IsPredictive table frame) where
  linked_whole : Linked predictive.0 frame.end (whole frame)
  linked_whole = (begins table frame predictive.0 predictive.1).linked

  pub begun_once : (front rest others : List ℕ) (s t : List Step) → IsText table frame (front ++ rest) s → IsText table frame (front ++ others) t → steps_to (length front) s ≡ steps_to (length front) t
  begun_once front rest others s t d e =
      same_steps table predictive.0 frame.start frame.end predictive.1 (length front) (whole frame) (front ++ rest) (front ++ others) s t linked_whole (same_front front rest others) d e

  pub whole_once : (ts : List ℕ) (s t : List Step) → IsText table frame ts s → IsText table frame ts t → s ≡ t
  whole_once ts s t d e =
      sym (all_steps table (whole frame) ts s (closed_whole frame) d)
      ∙ same_steps table predictive.0 frame.start frame.end predictive.1 (length ts) (whole frame) ts ts s t linked_whole (same_all ts) d e
      ∙ all_steps table (whole frame) ts t (closed_whole frame) e
