-- The test of a table, and the search for facts with which it passes: both are worked out when a caller is checked.
use Rattle.std.specs.Prelude.{ℕ, ◌+◌, ◌^◌, max, min, ◌==◌, ◌&&◌, ◌||◌, not, nat_lt, nat_le, bit_and, bit_or, Bool, true, false, List, [], ◌∷◌, length, replicate, slice_set}
use Rattle.std.specs.List.{list_all, list_any}
use Rattle.std.proofs.Common.{zero, suc}
use Rattle.ll_reader.specs.declared.grammar.Frame.{Frame}
use Rattle.ll_reader.specs.declared.grammar.Item.{Item}
use Rattle.ll_reader.specs.declared.grammar.Item.TheVariants.{Token, Rule}
use Rattle.ll_reader.specs.declared.grammar.Production.{Production}
use Rattle.ll_reader.specs.Derivation.{places, items}
use Rattle.ll_reader.specs.Predictive.{Facts, no_facts, facts_of, lead_of, can_all_be_empty, weight_of, height_of}

-- every class of the first set is in the second
abbrev pub is_within : ℕ → ℕ → Bool
is_within set others = bit_or set others == others

-- as `AreLinked`
abbrev pub is_linked : List Facts → ℕ → ℕ → List Item → Bool
is_linked facts end behind [] = true
is_linked facts end behind (Token c ∷ rest) = not (c == end) && is_linked facts end behind rest
is_linked facts end behind (Rule a ∷ rest) =
    nat_lt a (length facts) && is_within (lead_of facts behind rest) (facts_of facts a).follow && is_linked facts end behind rest

-- as `Fits`
abbrev pub fits : List Facts → ℕ → Production → Bool
fits facts end p =
    let known = facts_of facts p.rule in
    nat_lt p.rule (length facts) && nat_le p.length (length (places p.body)) &&
    is_within (lead_of facts known.follow (items p)) p.first && is_within p.first known.lead &&
    is_linked facts end known.follow (items p) && nat_lt (weight_of facts (items p)) known.weight &&
    (known.can_be_empty || not (can_all_be_empty facts (items p)))

-- two productions are of two rules, or no class chooses both
abbrev pub is_apart : Production → Production → Bool
is_apart p q = not (p.rule == q.rule) || (bit_and p.first q.first == 0)

-- no two productions are chosen at one class for one rule
abbrev pub are_apart : List Production → Bool
are_apart [] = true
are_apart (p ∷ ps) = list_all (is_apart p) ps && are_apart ps

-- the production is one of the rule, and its items are no higher
abbrev pub ends : List Facts → ℕ → ℕ → Production → Bool
ends facts a height p = elim (p.rule == a) [ true ↦ nat_le (height_of facts (items p)) height | false ↦ false ]

-- each of the known rules, which are counted from `a`, has a text
abbrev pub all_end : List Production → List Facts → ℕ → List Facts → Bool
all_end table facts a [] = true
all_end table facts a (known ∷ others) = list_any (ends facts a known.height) table && all_end table facts (a + 1) others

-- as `Meet`, apart from whether the productions stand apart
abbrev pub passes : List Facts → ℕ → ℕ → List Production → Bool
passes facts start end table =
    nat_lt (length table) (2 ^ 16) && nat_lt start (length facts) && is_within (2 ^ end) (facts_of facts start).follow &&
    list_all (fits facts end) table && all_end table facts 0 facts

-- what a production says of its own rule
abbrev pub learn : List Facts → Production → List Facts
learn facts p =
    let known = facts_of facts p.rule in
    slice_set facts p.rule (record {
      lead = bit_or known.lead p.first;
      follow = known.follow;
      can_be_empty = known.can_be_empty || can_all_be_empty facts (items p);
      weight = max known.weight (weight_of facts (items p) + 1);
      height = min known.height (height_of facts (items p));
    })

-- what the productions say of their own rules, the last one first, since a rule mostly stands above those that it names
abbrev pub learn_all : List Facts → List Production → List Facts
learn_all facts [] = facts
learn_all facts (p ∷ ps) = learn (learn_all facts ps) p

-- what a production's items say of the rules among them
abbrev pub follow_items : List Facts → ℕ → List Item → List Facts
follow_items facts behind [] = facts
follow_items facts behind (Token c ∷ rest) = follow_items facts behind rest
follow_items facts behind (Rule a ∷ rest) =
    let known = facts_of facts a in
    follow_items (slice_set facts a (record known { follow = bit_or known.follow (lead_of facts behind rest) })) behind rest

-- what the productions say of the rules among their items, the first one first
abbrev pub follow_all : List Facts → List Production → List Facts
follow_all facts [] = facts
follow_all facts (p ∷ ps) = follow_all (follow_items facts (facts_of facts p.rule).follow (items p)) ps

-- the greatest number of a rule
abbrev pub last_rule : List Production → ℕ
last_rule [] = 0
last_rule (p ∷ ps) = max p.rule (last_rule ps)

-- no production begins with a class at which it is not chosen: more rounds only add to what is known, so where one does
-- the table cannot pass
abbrev pub may_pass : List Facts → List Production → Bool
may_pass facts table = list_all (λ p. is_within (lead_of facts (facts_of facts p.rule).follow (items p)) p.first) table

-- the table passes with what is known, or with what it says in some more rounds
abbrev pub passes_within : ℕ → List Facts → ℕ → ℕ → List Production → Bool
passes_within zero facts start end table = false
passes_within (suc n) facts start end table =
    elim (passes facts start end table) [
      | true ↦ true
      | false ↦ elim (may_pass facts table) [ true ↦ passes_within n (follow_all (learn_all facts table) table) start end table | false ↦ false ]
    ]

-- what is known at first: the end class stands behind the start rule
abbrev pub first_facts : ℕ → ℕ → List Production → List Facts
first_facts start end table =
    slice_set (replicate (last_rule table + 1) no_facts) start (record no_facts { follow = 2 ^ end })

-- The table passes with the facts that are found: `refl` proves it for a table, under `unfolding finds`.
unfoldable pub finds : List Production → Frame → Bool
finds table frame = elim (are_apart table) [
  | true ↦ passes_within (length table) (first_facts frame.start frame.end table) frame.start frame.end table
  | false ↦ false
]
