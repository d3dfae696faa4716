-- The tokens of the lines of a generated source, and the equations that they spell.
use Rattle.std.proofs.Common.{◌≡◌, ℕ, ◌+◌, ◌-◌, ◌<◌, ◌≤◌, ◌^◌, ◌∙◌, Bool, true, false, List, [], ◌∷◌, ◌++◌, decimal, codes, Some, refl, ap, arith, append_assoc}
use Rattle.std.specs.Prelude.{if◌then◌else◌, nat_lt}
use Rattle.tor_edge.specs.declared.place.Place.{Place}
use Rattle.source_gen.specs.Source.{operand_text, line_text}
use Rattle.source_gen.specs.declared.operands.Operands.{Operands}
use Rattle.usuba_tokens.specs.Tokens.{Spells, next_place, place_after, token}
use Rattle.usuba_tokens.specs.declared.head.Form.TheVariants as form
use Rattle.usuba_tokens.specs.declared.token.Ending.{Ending}
use Rattle.usuba_tokens.specs.declared.token.Ending.TheVariants as ending
use Rattle.usuba_tokens.specs.declared.token.Sign.TheVariants as signs
use Rattle.usuba_tokens.specs.declared.token.Token.{Token}
use Rattle.usuba_tokens.specs.declared.token.TokenKind.TheVariants as kind
use Rattle.usuba_trees.specs.Made.{name, link}
use Rattle.usuba_trees.specs.declared.BitOp.TheVariants as op
use Rattle.usuba_trees.specs.declared.Equation.{Equation}
use Rattle.usuba_trees.specs.declared.Expr.{Expr}
use Rattle.usuba_trees.specs.declared.Expr.TheVariants as tree
use Rattle.usuba_trees.specs.declared.Index.TheVariants as index
use Rattle.usuba_trees.specs.declared.Item.{Item}
use Rattle.usuba_trees.specs.declared.Item.TheVariants as item
use Rattle.usuba_trees.specs.declared.Pick.TheVariants as pick
use Rattle.usuba_trees.specs.declared.Spot.{Spot}
use Rattle.usuba_syntax.specs.Exprs.{IsSpot, IsShifts, IsExpr, spot, next_pick, no_more_picks, one_part, one_xors, xors, next_ands, no_more_ands, one_ands, ands, next_operand, no_more_operands, one_shifts, one_unary, one_primary, tuple, one_expr}
use Rattle.usuba_syntax.specs.Exprs as exprs
use Rattle.usuba_syntax.specs.Indexes.{one_product, one_atom, index_number}
use Rattle.usuba_syntax.specs.Items.{IsItems, equation, equation_then, no_item}
use Rattle.usuba_syntax.specs.Items as items
use Rattle.usuba_syntax.specs.Terminals.{sign, keyword, word}
use Rattle.usuba_syntax.specs.Terminals as terminals
use Rattle.generated_files.proofs.Numerals.{EndsNumber, number_spelled, sign_spelled, blank_spelled}

-- operands of a line are below what stands before it
pub record AreBelow (most : ℕ) (operands : Operands) : Type 0 where
  pub first : operands.first < most
  pub second : operands.second < most
  pub third : operands.third < most

-- the variable of an operand, and which of its elements it is
abbrev pub letter : ℕ → ℕ
letter j = if nat_lt j 8 then 120 else 122

abbrev pub element : ℕ → ℕ
element j = if nat_lt j 8 then j else j - 8

-- where the parts of a line stand of which the tree tells the place
pub record LinePlaces : Type 0 where
  pub left : Place
  pub equal : Place
  pub first : Place
  pub caret : Place
  pub second : Place
  pub ampersand : Place
  pub third : Place

-- one element of a variable of one letter
abbrev pub spot_of : ℕ → ℕ → Place → Spot
spot_of v n at = record { name = name (v ∷ []) at; picks = pick.One (index.Number n) ∷ [] }

-- an operand
abbrev pub operand : ℕ → Place → Expr
operand j at = tree.Spot (spot_of (letter j) (element j) at)

-- the sum in the brackets of a line
abbrev pub sum_of : Operands → LinePlaces → Expr
sum_of operands at = tree.Chain op.Xor (operand operands.first at.first)
    (link at.caret (operand operands.second at.second) ∷ [])

-- the right side of a line
abbrev pub right_of : Operands → LinePlaces → Expr
right_of operands at =
    tree.Chain op.And (tree.Tuple (sum_of operands at ∷ [])) (link at.ampersand (operand operands.third at.third) ∷ [])

-- line k as an equation
abbrev pub equation_of : ℕ → Operands → LinePlaces → Equation
equation_of k operands at = record { left = spot_of 122 k at.left ∷ []; equal = at.equal; right = right_of operands at }

-- the lines from k on
abbrev pub items_of : (ℕ → Operands) → ℕ → List LinePlaces → List Item
items_of operands k [] = []
items_of operands k (at ∷ places) = item.Equation (equation_of k (operands k) at) ∷ items_of operands (k + 1) places

-- the tokens of one element of a variable, and those behind it
pub data SpotTokens (v n : ℕ) : Place → List Token → List Token → Type 0 where
  spot_tokens : {p q r s : Place} {rest : List Token}
      → SpotTokens v n p (record { kind = kind.Word (v ∷ []); place = p } ∷ sign signs.OpenSquare q
      ∷ record { kind = kind.Number (Some n); place = r } ∷ sign signs.CloseSquare s ∷ rest) rest

-- the tokens of a line, and those behind it
pub data LineTokens (k : ℕ) (operands : Operands) : LinePlaces → List Token → List Token → Type 0 where
  line_tokens : {z p q x r y s t w u : Place} {a b c d rest : List Token}
      → SpotTokens 122 k z a (sign signs.Equals p ∷ sign signs.OpenRound q ∷ b)
      → SpotTokens (letter operands.first) (element operands.first) x b (sign signs.Caret r ∷ c)
      → SpotTokens (letter operands.second) (element operands.second) y c
      (sign signs.CloseRound s ∷ sign signs.Ampersand t ∷ d)
      → SpotTokens (letter operands.third) (element operands.third) w d (sign signs.Semicolon u ∷ rest)
      → LineTokens k operands
      (record { left = z; equal = p; first = x; caret = r; second = y; ampersand = t; third = w }) a rest

-- what the tokens spell

spot_is : (v n : ℕ) (at : Place) (a b : List Token) → SpotTokens v n at a b → IsSpot a (spot_of v n at) b
spot_is v n at a b spot_tokens = spot word (next_pick
    (one_part (one_product (one_atom (index_number terminals.number)))) no_more_picks)

operand_is : (v n : ℕ) (at : Place) (a b : List Token) → SpotTokens v n at a b
    → IsShifts a (tree.Spot (spot_of v n at)) b
operand_is v n at a b tokens = one_unary (one_primary (exprs.one_spot (spot_is v n at a b tokens)))

pub line_is : (k : ℕ) (operands : Operands) (at : LinePlaces) (a b c : List Token) (is : List Item)
    → LineTokens k operands at a b
    → IsItems b is c → IsItems a (item.Equation (equation_of k operands at) ∷ is) c
line_is k operands at a b c is (line_tokens left first second third) more =
    let sum = xors (one_shifts (operand_is _ _ _ _ _ first))
    (next_ands (one_shifts (operand_is _ _ _ _ _ second)) no_more_ands) in
    let bracket = one_unary (one_primary (tuple (one_expr (one_xors sum)))) in
    let right = one_xors (one_ands (ands bracket (next_operand (operand_is _ _ _ _ _ third) no_more_operands))) in
    equation_then (equation (items.one_spot (spot_is _ _ _ _ _ left)) right) more

-- the text of a line, from left to right

-- the text of one element, and what stands behind it
abbrev spot_text : ℕ → ℕ → List ℕ → List ℕ
spot_text v n rest = v ∷ 91 ∷ (decimal n ++ 93 ∷ rest)

abbrev pub line_before : ℕ → Operands → List ℕ → List ℕ
line_before k operands rest =
    32 ∷ 32 ∷ spot_text 122 k (32 ∷ 61 ∷ 32 ∷ 40 ∷ spot_text (letter operands.first) (element operands.first)
    (32 ∷ 94 ∷ 32
    ∷ spot_text (letter operands.second) (element operands.second) (41 ∷ 32 ∷ 38 ∷ 32
    ∷ spot_text (letter operands.third) (element operands.third) (59 ∷ 10 ∷ rest))))

operand_before : (j : ℕ) (rest : List ℕ) → operand_text j ++ rest ≡ spot_text (letter j) (element j) rest
operand_before j rest = by_test (nat_lt j 8)
  where
    by_test : (b : Bool) → (if b then codes "x[" ++ decimal j ++ codes "]" else codes "z[" ++ decimal (j - 8)
        ++ codes "]") ++ rest
        ≡ spot_text (if b then 120 else 122) (if b then j else j - 8) rest
    by_test true = append_assoc (codes "x[" ++ decimal j) (codes "]") rest
    by_test false = append_assoc (codes "z[" ++ decimal (j - 8)) (codes "]") rest

regrouped : (a b c d e f g h i rest : List ℕ) → (a ++ b ++ c ++ d ++ e ++ f ++ g ++ h ++ i) ++ rest
    ≡ a ++ (b ++ (c ++ (d ++ (e ++ (f ++ (g ++ (h ++ (i ++ rest))))))))
regrouped a b c d e f g h i rest = simp append_assoc

pub line_text_is : (k : ℕ) (operands : Operands) (rest : List ℕ) → line_text k operands
    ++ rest ≡ line_before k operands rest
line_text_is k operands rest =
    let third = operand_before operands.third (59 ∷ 10 ∷ rest) in
    let second = ap (λ (t : List ℕ). operand_text operands.second ++ (41 ∷ 32 ∷ 38 ∷ 32 ∷ t)) third
    ∙ operand_before operands.second _ in
    let first = ap (λ (t : List ℕ). operand_text operands.first ++ (32 ∷ 94 ∷ 32 ∷ t)) second
    ∙ operand_before operands.first _ in
    regrouped (codes "  z[") (decimal k) (codes "] = (") (operand_text operands.first) (codes " ^ ")
    (operand_text operands.second)
    (codes ") & ") (operand_text operands.third) (codes ";\n") rest
    ∙ ap (λ (t : List ℕ). 32 ∷ 32 ∷ 122 ∷ 91 ∷ (decimal k ++ 93 ∷ 32 ∷ 61 ∷ 32 ∷ 40 ∷ t)) first

-- the letters of variables
pub data IsLetter : ℕ → Type 0 where
  x : IsLetter 120
  z : IsLetter 122

letter_is : (j : ℕ) → IsLetter (letter j)
letter_is j = by_test (nat_lt j 8)
  where
    by_test : (b : Bool) → IsLetter (if b then 120 else 122)
    by_test true = x
    by_test false = z

element_fits : (j most : ℕ) → j < most → most ≤ 2 ^ 64 → element j < 2 ^ 64
element_fits j most below fits = by_test (nat_lt j 8)
  where
    by_test : (b : Bool) → (if b then j else j - 8) < 2 ^ 64
    by_test true = omega (arith, below, fits)
    by_test false = omega (arith, below, fits)

square_ends : EndsNumber 93
square_ends = (refl, refl, refl, refl)

-- where the text behind one element begins
abbrev behind : Place → ℕ → ℕ → Place
behind at v n = next_place (place_after (next_place (next_place at v) 91) (decimal n)) 93

letter_spelled : (v : ℕ) → IsLetter v → (at : Place) (rest : List ℕ) (tokens : List Token) (end : Ending)
    → Spells (next_place at v) (91 ∷ rest) tokens end
    → Spells at (v ∷ 91 ∷ rest) (record { kind = kind.Word (v ∷ []); place = at } ∷ tokens) end
letter_spelled v x at rest tokens end more = token at (120 ∷ 91 ∷ rest) 1 form.Word tokens end refl more
letter_spelled v z at rest tokens end more = token at (122 ∷ 91 ∷ rest) 1 form.Word tokens end refl more

spot_spelled : (v n : ℕ) (at : Place) (rest : List ℕ) (tokens : List Token) (last : Place) → IsLetter v → n < 2 ^ 64
    → Spells (behind at v n) rest tokens (ending.End last)
    → (all : List Token) × Spells at (spot_text v n rest) all (ending.End last) × SpotTokens v n at all tokens
spot_spelled v n at rest tokens last is fits more =
    let end = ending.End last in
    let square = next_place at v in
    let digits = next_place square 91 in
    let close = place_after digits (decimal n) in
    let third = sign_spelled close signs.CloseSquare 93 rest tokens end refl more in
    let second = number_spelled digits n 93 rest _ end fits square_ends third in
    let first = sign_spelled square signs.OpenSquare 91 (decimal n ++ 93 ∷ rest) _ end refl second in
    (_, letter_spelled v is at (decimal n ++ 93 ∷ rest) _ end first, spot_tokens)

-- a bracket that opens before a letter opens no comment
round_spelled : (at : Place) (v : ℕ) → IsLetter v → (rest : List ℕ) (tokens : List Token) (end : Ending)
    → Spells (next_place at 40) (v ∷ rest) tokens end → Spells at (40 ∷ v ∷ rest) (sign signs.OpenRound at ∷ tokens) end
round_spelled at v x rest tokens end more = sign_spelled at signs.OpenRound 40 (120 ∷ rest) tokens end refl more
round_spelled at v z rest tokens end more = sign_spelled at signs.OpenRound 40 (122 ∷ rest) tokens end refl more

-- the tokens of line k, where what stands behind it is spelled wherever it begins
pub line_spelled : (k : ℕ) (operands : Operands) → k < 2 ^ 64 → AreBelow (2 ^ 64) operands
    → (at : Place) (rest : List ℕ) (Q : List Token → Type 0)
    → ((from : Place) → (last : Place) × (tokens : List Token) × Spells from rest tokens (ending.End last) × Q tokens)
    → (last : Place) × (all : List Token) × (places : LinePlaces) × (tokens : List Token)
    × Spells at (line_before k operands rest) all (ending.End last) × LineTokens k operands places all tokens × Q tokens
line_spelled k operands few below at rest Q later =
    let z_at = next_place (next_place at 32) 32 in
    let equal = next_place (behind z_at 122 k) 32 in
    let round = next_place (next_place equal 61) 32 in
    let first_at = next_place round 40 in
    let caret = next_place (behind first_at (letter operands.first) (element operands.first)) 32 in
    let second_at = next_place (next_place caret 94) 32 in
    let close = behind second_at (letter operands.second) (element operands.second) in
    let ampersand = next_place (next_place close 41) 32 in
    let third_at = next_place (next_place ampersand 38) 32 in
    let semicolon = behind third_at (letter operands.third) (element operands.third) in
    let more = later (next_place (next_place semicolon 59) 10) in
    let end = ending.End more.0 in
    let line_end = sign_spelled semicolon signs.Semicolon 59 (10 ∷ rest) _ end refl
    (blank_spelled (next_place semicolon 59) 10 rest _ end refl more.2) in
    let third = spot_spelled (letter operands.third) (element operands.third) third_at (59 ∷ 10 ∷ rest) _ more.0
    (letter_is operands.third)
    (element_fits operands.third (2 ^ 64) below.third (omega arith)) line_end in
    let product = blank_spelled (next_place close 41) 32 _ _ end refl
    (sign_spelled ampersand signs.Ampersand 38 _ _ end refl
    (blank_spelled (next_place ampersand 38) 32 _ _ end refl third.1)) in
    let closed = sign_spelled close signs.CloseRound 41 _ _ end refl product in
    let second = spot_spelled (letter operands.second) (element operands.second) second_at _ _ more.0
    (letter_is operands.second)
    (element_fits operands.second (2 ^ 64) below.second (omega arith)) closed in
    let sum = blank_spelled (behind first_at (letter operands.first) (element operands.first)) 32 _ _ end refl
    (sign_spelled caret signs.Caret 94 _ _ end refl (blank_spelled (next_place caret 94) 32 _ _ end refl second.1)) in
    let first = spot_spelled (letter operands.first) (element operands.first) first_at _ _ more.0
    (letter_is operands.first)
    (element_fits operands.first (2 ^ 64) below.first (omega arith)) sum in
    let right = blank_spelled (behind z_at 122 k) 32 _ _ end refl
    (sign_spelled equal signs.Equals 61 _ _ end refl (blank_spelled (next_place equal 61) 32 _ _ end refl
    (round_spelled round (letter operands.first) (letter_is operands.first) _ _ end first.1))) in
    let left = spot_spelled 122 k z_at _ _ more.0 z few right in
    let spelled = blank_spelled at 32 _ _ end refl (blank_spelled (next_place at 32) 32 _ _ end refl left.1) in
    let places : LinePlaces = record {
      left = z_at;
      equal = equal;
      first = first_at;
      caret = caret;
      second = second_at;
      ampersand = ampersand;
      third = third_at;
    } in
    let tokens : LineTokens k operands places left.0 more.1 = line_tokens left.2 first.2 second.2 third.2 in
    (more.0, left.0, places, more.1, spelled, tokens, more.3)
