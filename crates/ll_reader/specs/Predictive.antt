-- Tables in which the class of the next token tells each step.
use Rattle.std.specs.Prelude.{◌≡◌, ◌<◌, ◌≤◌, ◌⊎◌, ℕ, ◌+◌, ◌^◌, max, ◌&&◌, Bool, true, false, List, [], ◌∷◌, length, Some, slice_get, slice_index_or, if◌then◌else◌}
use Rattle.std.specs.Int.{bit_at}
use Rattle.ll_reader.specs.declared.grammar.Frame.{Frame}
use Rattle.ll_reader.specs.declared.grammar.Item.{Item}
use Rattle.ll_reader.specs.declared.grammar.Item.TheVariants.{Token, Rule}
use Rattle.ll_reader.specs.declared.grammar.Production.{Production}
use Rattle.ll_reader.specs.Derivation.{items}

-- the class is in the set, which is a number with a bit for each class
abbrev pub In : ℕ → ℕ → Type 0
In c set = bit_at set c ≡ 1

-- every class of the first set is in the second
abbrev pub IsWithin : ℕ → ℕ → Type 0
IsWithin set others = (c : ℕ) → In c set → In c others

-- What is said of a rule. `Meet` says what makes it true.
pub record Facts : Type 0 where
  -- the classes with which a text of the rule begins, together with what follows it
  pub lead : ℕ
  -- the classes that stand behind a text of the rule
  pub follow : ℕ
  -- whether nothing is a text of the rule
  pub can_be_empty : Bool
  -- above the weights of what a production of the rule begins with, up to the first item that cannot be empty
  pub weight : ℕ
  -- above the heights of the rules in some production of the rule
  pub height : ℕ

-- what is said of a rule of which nothing is known
abbrev pub no_facts : Facts
no_facts = record { lead = 0; follow = 0; can_be_empty = false; weight = 0; height = 2 ^ 16 }

-- what is said of the rule
abbrev pub facts_of : List Facts → ℕ → Facts
facts_of facts a = slice_index_or facts a no_facts

-- the classes with which the items begin, where those of the set stand behind them
abbrev pub lead_of : List Facts → ℕ → List Item → ℕ
lead_of facts behind [] = behind
lead_of facts behind (Token c ∷ rest) = 2 ^ c
lead_of facts behind (Rule a ∷ rest) = (facts_of facts a).lead

-- whether all items can be empty
abbrev pub can_all_be_empty : List Facts → List Item → Bool
can_all_be_empty facts [] = true
can_all_be_empty facts (Token c ∷ rest) = false
can_all_be_empty facts (Rule a ∷ rest) = (facts_of facts a).can_be_empty && can_all_be_empty facts rest

-- the weights of the items, up to the first that cannot be empty
abbrev pub weight_of : List Facts → List Item → ℕ
weight_of facts [] = 0
weight_of facts (Token c ∷ rest) = 0
weight_of facts (Rule a ∷ rest) =
    (facts_of facts a).weight + (if (facts_of facts a).can_be_empty then weight_of facts rest else 0)

-- above the heights of the items that are rules
abbrev pub height_of : List Facts → List Item → ℕ
height_of facts [] = 0
height_of facts (Token c ∷ rest) = height_of facts rest
height_of facts (Rule a ∷ rest) = max ((facts_of facts a).height + 1) (height_of facts rest)

-- every rule among the items is known and is followed by no class but those that can stand behind it, and none is a
-- token of the end class
abbrev pub AreLinked : List Facts → ℕ → ℕ → List Item → Type 0
AreLinked facts end behind [] = Unit {0}
AreLinked facts end behind (Token c ∷ rest) = (¬ (c ≡ end)) × AreLinked facts end behind rest
AreLinked facts end behind (Rule a ∷ rest) =
    (a < length facts) × IsWithin (lead_of facts behind rest) (facts_of facts a).follow × AreLinked facts end behind rest

-- a production fits what is said of the rules
pub record Fits (facts : List Facts) (end : ℕ) (p : Production) : Type 0 where
  -- its rule is known
  pub known : p.rule < length facts
  -- its items have room in its body
  pub room : p.length ≤ 12
  -- it begins with no class but those at which it is chosen
  pub lead : IsWithin (lead_of facts (facts_of facts p.rule).follow (items p)) p.first
  -- and these begin its rule
  pub own : IsWithin p.first (facts_of facts p.rule).lead
  pub linked : AreLinked facts end (facts_of facts p.rule).follow (items p)
  -- so no rule leads back to itself before a token
  pub lighter : weight_of facts (items p) < (facts_of facts p.rule).weight
  pub empty : ((facts_of facts p.rule).can_be_empty ≡ true) ⊎ (can_all_be_empty facts (items p) ≡ false)

-- a production of the rule whose items are no higher, so that the rule has a text
pub record HasEnding (table : List Production) (facts : List Facts) (a : ℕ) : Type 0 where
  pub number : ℕ
  pub production : Production
  pub at : slice_get table number ≡ Some production
  pub of : production.rule ≡ a
  pub low : height_of facts (items production) ≤ (facts_of facts a).height

-- what is said of the rules is true of the table, and no class chooses two productions of one rule
pub record Meet (facts : List Facts) (start end : ℕ) (table : List Production) : Type 0 where
  pub few : length table < 65536
  pub start_known : start < length facts
  -- the end class stands behind a text
  pub end_follows : In end (facts_of facts start).follow
  pub each : (k : ℕ) (p : Production) → slice_get table k ≡ Some p → Fits facts end p
  pub choice : (j k : ℕ) (p q : Production) (c : ℕ)
      → slice_get table j ≡ Some p → slice_get table k ≡ Some q → p.rule ≡ q.rule → In c p.first → In c q.first → j ≡ k
  pub ending : (a : ℕ) → a < length facts → HasEnding table facts a

-- The class of the next token tells each step, no rule leads back to itself before a token, each rule has a text, and
-- the end class stands in no production: there are facts of the rules that say so.
abbrev pub IsPredictive : List Production → Frame → Type 0
IsPredictive table frame = (facts : List Facts) × Meet facts frame.start frame.end table
