-- Nothing is derived that holds what begins no token.
use Rattle.std.proofs.Common.{◌≡◌, ◌⊎◌, inl, inr, ℕ, zero, suc, Bool, true, false, not, ◌&&◌, List, [], ◌∷◌, ◌++◌, Some, slice_get, refl, subst, eqb, eq-eqb}
use Rattle.std.proofs.lemmas.Bool.{false≢true}
use Rattle.ll_reader.specs.Derivation.{Derives, IsText, items}
use Rattle.ll_reader.specs.Derivation as derivation
use Rattle.ll_reader.specs.declared.grammar.Item.{Item}
use Rattle.ll_reader.specs.declared.grammar.Item.TheVariants as due
use Rattle.ll_reader.specs.declared.grammar.Production.{Production}
use Rattle.ll_reader.specs.declared.grammar.Step.{Step}
use Rattle.tor_edge.specs.declared.place.Place.{Place}
use Rattle.usuba_tokens.proofs.Choices.{both}
use Rattle.c_grammar.specs.Classes.{classes_from, classes_of}
use Rattle.c_grammar.specs.declared.class.TheConstants as class
use Rattle.c_grammar.specs.declared.table.TheConstants.{PRODUCTIONS, FRAME}
use Rattle.c_tokens.specs.declared.token.Ending.TheVariants as ending
use Rattle.c_tokens.specs.declared.token.Token.{Token}

-- an item that is no token of the class
lacks : Item → Bool
lacks (due.Token k) = not (eqb k class.BROKEN)
lacks (due.Rule r) = true

all_lack : List Item → Bool
all_lack [] = true
all_lack (x ∷ xs) = lacks x && all_lack xs

rows_lack : List Production → Bool
rows_lack [] = true
rows_lack (p ∷ ps) = all_lack (items p) && rows_lack ps

table_lacks : rows_lack PRODUCTIONS ≡ true
unfolding rows_lack all_lack lacks
table_lacks = refl

row_lacks : (table : List Production) (k : ℕ) (p : Production) → rows_lack table ≡ true → slice_get table k ≡ Some p
    → all_lack (items p) ≡ true
unfolding rows_lack
row_lacks [] k p none at = absurd (cc)
row_lacks (q ∷ table) zero p none at = let same : q ≡ p = cc in subst (λ (x : Production). all_lack (items x) ≡ true) same (both _ _ none).0
row_lacks (q ∷ table) (suc k) p none at = row_lacks table k p (both _ _ none).1 at

append_lacks : (xs ys : List Item) → all_lack xs ≡ true → all_lack ys ≡ true → all_lack (xs ++ ys) ≡ true
unfolding all_lack
append_lacks [] ys a b = b
append_lacks (x ∷ xs) ys a b =
    let (first, others) = both (lacks x) (all_lack xs) a in
    let rest = append_lacks xs ys others b in rw (first, rest) refl

-- the class is among some
Among : List ℕ → Type 0
Among [] = ⊥
Among (k ∷ ks) = (k ≡ class.BROKEN) ⊎ Among ks

none_among : {is : List Item} {classes : List ℕ} {steps : List Step} → Derives PRODUCTIONS is classes steps
    → all_lack is ≡ true → Among classes → ⊥
unfolding all_lack lacks Among
none_among derivation.done none among = among
none_among (derivation.token {c = k} d) none (inl is) =
    let (first, others) = both _ _ none in
    let yes : eqb k class.BROKEN ≡ true = eq-eqb k class.BROKEN is in
    false≢true (subst (λ (b : Bool). not b ≡ true) yes first)
none_among (derivation.token d) none (inr among) = none_among d (both _ _ none).1 among
none_among (derivation.rule {k = k} {p = p} {due = rest} at by d) none among =
    none_among d (append_lacks (items p) rest (row_lacks PRODUCTIONS k p table_lacks at) none) among

among_last : (xs ys : List ℕ) → Among (xs ++ class.BROKEN ∷ ys)
unfolding Among
among_last [] ys = inl refl
among_last (x ∷ xs) ys = inr (among_last xs ys)

-- tokens with something behind them that begins none are not derived
pub broken_not_derived : (tokens : List Token) (at : Place) (steps : List Step)
    → IsText PRODUCTIONS FRAME (classes_of tokens (ending.Broken at)) steps → ⊥
unfolding all_lack lacks
broken_not_derived tokens at steps text = none_among text refl (among_last (classes_from false [] tokens) (class.END ∷ []))
