-- Whatever is due has a text.
use Rattle.std.proofs.Common.{ℕ, ◌+◌, ◌≤◌, zero, suc, max, List, [], ◌∷◌, ◌++◌, subst, arith, append_assoc}
use Rattle.ll_reader.specs.declared.grammar.Item.{Item}
use Rattle.ll_reader.specs.declared.grammar.Item.TheVariants.{Token, Rule}
use Rattle.ll_reader.specs.declared.grammar.Production.{Production}
use Rattle.ll_reader.specs.declared.grammar.Step.{Step}
use Rattle.ll_reader.specs.declared.grammar.Step.TheVariants.{Take, Choose}
use Rattle.ll_reader.specs.Derivation.{items, Derives, done, token, rule}
use Rattle.ll_reader.specs.Predictive.{Facts, facts_of, height_of, Meet}
use Rattle.ll_reader.proofs.Lookahead.{KnownAll, known_items}

-- what is due one after another makes texts one after another
pub derives_append : (table : List Production) {due others : List Item} {ts us : List ℕ} {s t : List Step} → Derives table due ts s → Derives table others us t → Derives table (due ++ others) (ts ++ us) (s ++ t)
derives_append table done e = e
derives_append table (token d) e = token (derives_append table d e)
derives_append table {others = others} {ts = ts} {us = us} {t = t} (rule {p = p} {due = due} {steps = s} at of d) e =
    rule at of (subst (λ xs. Derives table xs (ts ++ us) (s ++ t)) (append_assoc (items p) due others) (derives_append table d e))

-- something is made out of it
abbrev pub HasText : List Production → List Item → Type 0
HasText table due = (ts : List ℕ) × (steps : List Step) × Derives table due ts steps

height_rule : (h rest n : ℕ) → max (h + 1) rest ≤ suc n → h ≤ n
height_rule h rest n low = omega arith

height_rest : (h rest n : ℕ) → max (h + 1) rest ≤ n → rest ≤ n
height_rest h rest n low = omega arith

no_height : (h rest : ℕ) → max (h + 1) rest ≤ 0 → ⊥
no_height h rest low = absurd (omega arith)

module _ (table : List Production) (facts : List Facts) (start end : ℕ) (passed : Meet facts start end table) where
  has_text_above : (n : ℕ) → ((due : List Item) → KnownAll facts due → height_of facts due ≤ n → HasText table due) → (due : List Item) → KnownAll facts due → height_of facts due ≤ suc n → HasText table due
  has_text_above n lower [] known low = ([], [], done)
  has_text_above n lower (Token c ∷ due) known low =
      let rest = has_text_above n lower due known low in (c ∷ rest.0, Take ∷ rest.1, token rest.2)
  has_text_above n lower (Rule a ∷ due) known low =
      let rest = has_text_above n lower due known.1 (height_rest (facts_of facts a).height (height_of facts due) (suc n) low) in
      let e = passed.ending a known.0 in
      let below : (facts_of facts a).height ≤ n = height_rule (facts_of facts a).height (height_of facts due) n low in
      let lowest : height_of facts (items e.production) ≤ n = omega (arith, e.low) in
      let first = lower (items e.production) (known_items table facts start end passed e.number e.production e.at) lowest in
      (first.0 ++ rest.0, Choose e.number ∷ (first.1 ++ rest.1), rule e.at e.of (derives_append table first.2 rest.2))

  has_text_lowest : (due : List Item) → KnownAll facts due → height_of facts due ≤ 0 → HasText table due
  has_text_lowest [] known low = ([], [], done)
  has_text_lowest (Token c ∷ due) known low =
      let rest = has_text_lowest due known low in (c ∷ rest.0, Take ∷ rest.1, token rest.2)
  has_text_lowest (Rule a ∷ due) known low = absurd (no_height (facts_of facts a).height (height_of facts due) low)

  has_text_within : (n : ℕ) (due : List Item) → KnownAll facts due → height_of facts due ≤ n → HasText table due
  has_text_within zero due known low = has_text_lowest due known low
  has_text_within (suc n) due known low = has_text_above n (has_text_within n) due known low

  pub has_text : (due : List Item) → KnownAll facts due → HasText table due
  has_text due known = let low : height_of facts due ≤ height_of facts due = omega arith in has_text_within (height_of facts due) due known low
