-- What the class of the next token tells of a derivation.
use Rattle.std.proofs.Common.{◌≡◌, ℕ, ◌^◌, ◌<◌, zero, suc, List, [], ◌∷◌, ◌++◌, length, Some, sym, refl, ap, ◌∙◌, subst, slice_get}
use Rattle.std.proofs.lemmas.Option.{same_Some}
use Rattle.ll_reader.specs.declared.grammar.Item.{Item}
use Rattle.ll_reader.specs.declared.grammar.Item.TheVariants.{Token, Rule}
use Rattle.ll_reader.specs.declared.grammar.Production.{Production}
use Rattle.ll_reader.specs.declared.grammar.Step.{Step}
use Rattle.ll_reader.specs.declared.grammar.Step.TheVariants.{Take, Choose}
use Rattle.ll_reader.specs.Derivation.{items, Derives, token, rule, steps_to}
use Rattle.ll_reader.specs.Predictive.{In, Facts, facts_of, lead_of, AreLinked, Meet}
use Rattle.ll_reader.proofs.Passing.{pow_in}

-- the class can begin what is due
abbrev pub LeadIn : List Facts → ℕ → List Item → Type 0
LeadIn facts c [] = ⊥
LeadIn facts c (Token d ∷ due) = c ≡ d
LeadIn facts c (Rule a ∷ due) = In c (facts_of facts a).lead

-- every rule is known, and what stands behind it can follow it; the end class stands last
abbrev pub Linked : List Facts → ℕ → List Item → Type 0
Linked facts end [] = Unit {0}
Linked facts end (Token c ∷ due) = (c ≡ end → due ≡ []) × Linked facts end due
Linked facts end (Rule a ∷ due) =
    (a < length facts) × ((c : ℕ) → LeadIn facts c due → In c (facts_of facts a).follow) × Linked facts end due

lead_append : (facts : List Facts) (behind : ℕ) (xs due : List Item) (c : ℕ) → ((d : ℕ) → LeadIn facts d due → In d behind) → LeadIn facts c (xs ++ due) → In c (lead_of facts behind xs)
lead_append facts behind [] due c h lead = h c lead
lead_append facts behind (Token d ∷ xs) due c h lead = subst (λ n. In c (2 ^ n)) lead (pow_in c)
lead_append facts behind (Rule a ∷ xs) due c h lead = lead

linked_append : (facts : List Facts) (end behind : ℕ) (xs due : List Item) → AreLinked facts end behind xs → ((d : ℕ) → LeadIn facts d due → In d behind) → Linked facts end due → Linked facts end (xs ++ due)
linked_append facts end behind [] due h follows linked = linked
linked_append facts end behind (Token c ∷ xs) due h follows linked =
    ((λ same. absurd (h.0 same)), linked_append facts end behind xs due h.1 follows linked)
linked_append facts end behind (Rule r ∷ xs) due h follows linked =
    (h.0, (λ c lead. h.1 c (lead_append facts behind xs due c follows lead)), linked_append facts end behind xs due h.2 follows linked)

-- every rule is known
abbrev pub KnownAll : List Facts → List Item → Type 0
KnownAll facts [] = Unit {0}
KnownAll facts (Token c ∷ due) = KnownAll facts due
KnownAll facts (Rule a ∷ due) = (a < length facts) × KnownAll facts due

pub linked_known : (facts : List Facts) (end : ℕ) (due : List Item) → Linked facts end due → KnownAll facts due
linked_known facts end [] linked = tt
linked_known facts end (Token c ∷ due) linked = linked_known facts end due linked.1
linked_known facts end (Rule a ∷ due) linked = (linked.0, linked_known facts end due linked.2)

known_linked : (facts : List Facts) (end behind : ℕ) (xs : List Item) → AreLinked facts end behind xs → KnownAll facts xs
known_linked facts end behind [] h = tt
known_linked facts end behind (Token c ∷ xs) h = known_linked facts end behind xs h.1
known_linked facts end behind (Rule r ∷ xs) h = (h.0, known_linked facts end behind xs h.2)

-- the first n elements are the same
abbrev pub SameFront : ℕ → List ℕ → List ℕ → Type 0
SameFront zero ts us = Unit {0}
SameFront (suc n) [] us = ⊥
SameFront (suc n) (c ∷ ts) [] = ⊥
SameFront (suc n) (c ∷ ts) (b ∷ us) = (c ≡ b) × SameFront n ts us

module _ (table : List Production) (facts : List Facts) (start end : ℕ) (passed : Meet facts start end table) where
  -- what is due once a production is chosen
  pub linked_choice : (k a : ℕ) (p : Production) (due : List Item) → slice_get table k ≡ Some p → p.rule ≡ a → Linked facts end (Rule a ∷ due) → Linked facts end (items p ++ due)
  linked_choice k a p due at of linked =
      linked_append facts end (facts_of facts p.rule).follow (items p) due (passed.each k p at).linked
      (λ c lead. subst (λ r. In c (facts_of facts r).follow) (sym of) (linked.1 c lead)) linked.2

  -- a production is chosen at each class that can begin its items
  pub in_first : (k a : ℕ) (p : Production) (due : List Item) (c : ℕ) → slice_get table k ≡ Some p → p.rule ≡ a → Linked facts end (Rule a ∷ due) → LeadIn facts c (items p ++ due) → In c p.first
  in_first k a p due c at of linked lead =
      (passed.each k p at).lead c
      (lead_append facts (facts_of facts p.rule).follow (items p) due c (λ d l. subst (λ r. In d (facts_of facts r).follow) (sym of) (linked.1 d l)) lead)

  pub leads : (due : List Item) (c : ℕ) (ts : List ℕ) (steps : List Step) → Linked facts end due → Derives table due (c ∷ ts) steps → LeadIn facts c due
  leads _ c ts _ linked (token d) = refl
  leads _ c ts _ linked (rule {a = a} {k = k} {p = p} {due = due} {steps = steps} at of d) =
      subst (λ r. In c (facts_of facts r).lead) of
      ((passed.each k p at).own c
      (in_first k a p due c at of linked (leads (items p ++ due) c ts steps (linked_choice k a p due at of linked) d)))

  -- the class of the next token is one of those at which the production is chosen
  pub chosen_at : (k a : ℕ) (p : Production) (due : List Item) (c : ℕ) (ts : List ℕ) (steps : List Step) → slice_get table k ≡ Some p → p.rule ≡ a → Linked facts end (Rule a ∷ due) → Derives table (items p ++ due) (c ∷ ts) steps → In c p.first
  chosen_at k a p due c ts steps at of linked d =
      in_first k a p due c at of linked (leads (items p ++ due) c ts steps (linked_choice k a p due at of linked) d)

  -- every rule among the items of a production is known
  pub known_items : (k : ℕ) (p : Production) → slice_get table k ≡ Some p → KnownAll facts (items p)
  known_items k p at = known_linked facts end (facts_of facts p.rule).follow (items p) (passed.each k p at).linked

  same_class : (c d : ℕ) (p : Production) → c ≡ d → In d p.first → In c p.first
  same_class c d p same h = subst (λ n. In n p.first) (sym same) h

  -- where two texts begin with the same classes, their steps are the same so far
  pub same_steps : (n : ℕ) (due : List Item) (ts us : List ℕ) (s t : List Step) → Linked facts end due → SameFront n ts us → Derives table due ts s → Derives table due us t → steps_to n s ≡ steps_to n t
  same_steps zero due ts us s t linked same d e = refl
  same_steps (suc n) due [] us s t linked same d e = absurd same
  same_steps (suc n) due (c ∷ ts) [] s t linked same d e = absurd same
  same_steps (suc n) _ (c ∷ ts) (b ∷ us) _ _ linked same (token {due = due} {steps = s} d) (token {steps = t} e) =
      ap (λ (xs : List Step). Take ∷ xs) (same_steps n due ts us s t linked.1 same.1 d e)
  same_steps (suc n) _ (c ∷ ts) (b ∷ us) _ _ linked same (rule {a = a} {k = k} {p = p} {due = due} {steps = s} at of d) (rule {k = j} {p = q} {steps = t} also is e) =
      let first : In c p.first = chosen_at k a p due c ts s at of linked d in
      let other : In c q.first = same_class c b q same.0 (chosen_at j a q due b us t also is linked e) in
      let number : k ≡ j = passed.choice k j p q c at also (of ∙ sym is) first other in
      let chosen : q ≡ p = same_Some q p (sym also ∙ ap (slice_get table) (sym number) ∙ at) in
      let rest = same_steps (suc n) (items p ++ due) (c ∷ ts) (b ∷ us) s t (linked_choice k a p due at of linked) same d (subst (λ (r : Production). Derives table (items r ++ due) (b ∷ us) t) chosen e) in
      ap (λ i. Choose i ∷ steps_to (suc n) s) number ∙ ap (λ (xs : List Step). Choose j ∷ xs) rest
