-- What is due grows lighter with each production that is chosen.
use Rattle.std.proofs.Common.{◌≡◌, ℕ, ◌+◌, ◌<◌, Bool, true, false, cond, ◌&&◌, List, [], ◌∷◌, ◌++◌, Some, sym, refl, ap, ◌∙◌, subst, inl, inr, ◌⊎◌, arith, slice_get}
use Rattle.ll_reader.specs.declared.grammar.Item.{Item}
use Rattle.ll_reader.specs.declared.grammar.Item.TheVariants.{Token, Rule}
use Rattle.ll_reader.specs.declared.grammar.Production.{Production}
use Rattle.ll_reader.specs.Derivation.{items}
use Rattle.ll_reader.specs.Predictive.{Facts, facts_of, weight_of, can_all_be_empty, Meet}

cond_sum : (w rest behind : ℕ) (b others : Bool) → w + cond b (rest + cond others behind 0) 0 ≡ (w + cond b rest 0) + cond (b && others) behind 0
cond_sum w rest behind true others = omega arith
cond_sum w rest behind false others = omega arith

weight_append : (facts : List Facts) (xs due : List Item) → weight_of facts (xs ++ due) ≡ weight_of facts xs + cond (can_all_be_empty facts xs) (weight_of facts due) 0
weight_append facts [] due = omega arith
weight_append facts (Token c ∷ xs) due = refl
weight_append facts (Rule a ∷ xs) due =
    ap (λ n. (facts_of facts a).weight + cond (facts_of facts a).can_be_empty n 0) (weight_append facts xs due)
    ∙ cond_sum (facts_of facts a).weight (weight_of facts xs) (weight_of facts due) (facts_of facts a).can_be_empty (can_all_be_empty facts xs)

lighter_sum : (w inner behind : ℕ) (b others : Bool) → inner < w → (b ≡ true) ⊎ (others ≡ false) → inner + cond others behind 0 < w + cond b behind 0
lighter_sum w inner behind true true less h = omega arith
lighter_sum w inner behind true false less h = omega arith
lighter_sum w inner behind false true less (inl h) = cc
lighter_sum w inner behind false true less (inr h) = cc
lighter_sum w inner behind false false less h = omega arith

pub lighter : (table : List Production) (facts : List Facts) (start end : ℕ) → Meet facts start end table → (k a : ℕ) (p : Production) (due : List Item) → slice_get table k ≡ Some p → p.rule ≡ a → weight_of facts (items p ++ due) < weight_of facts (Rule a ∷ due)
lighter table facts start end passed k a p due at of =
    let fits = passed.each k p at in
    let less = lighter_sum (facts_of facts p.rule).weight (weight_of facts (items p)) (weight_of facts due) (facts_of facts p.rule).can_be_empty (can_all_be_empty facts (items p)) fits.lighter fits.empty in
    let below : weight_of facts (items p ++ due) < weight_of facts (Rule p.rule ∷ due) = subst (λ n. n < weight_of facts (Rule p.rule ∷ due)) (sym (weight_append facts (items p) due)) less in
    subst (λ r. weight_of facts (items p ++ due) < weight_of facts (Rule r ∷ due)) of below
