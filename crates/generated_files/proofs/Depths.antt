-- How deep generated lines nest, and that their numbers are not too big.
use Rattle.std.proofs.Common.{◌≡◌, ℕ, zero, suc, ◌+◌, ◌≤◌, ◌⊎◌, inl, inr, ◌∙◌, Bool, true, false, ◌&&◌, ◌||◌, List, [], ◌∷◌, ◌++◌, take, drop, Some, None, refl, sym, ap, arith}
use Rattle.std.specs.Prelude.{if◌then◌else◌, slice_get}
use Rattle.std.specs.List.{list_any}
use Rattle.source_gen.specs.declared.operands.Operands.{Operands}
use Rattle.usuba_tokens.specs.declared.token.Sign.{Sign}
use Rattle.usuba_tokens.specs.declared.token.Sign.TheVariants as signs
use Rattle.usuba_tokens.specs.declared.token.Token.{Token}
use Rattle.usuba_tokens.specs.declared.token.TokenKind.{TokenKind}
use Rattle.usuba_tokens.specs.declared.token.TokenKind.TheVariants as kind
use Rattle.usuba_syntax.specs.Nesting.{bracket_open, operand_open, sign_open, is_open, in_items_behind, open_among}
use Rattle.generated_files.proofs.Lines.{LinePlaces, spot_tokens, LineTokens, line_tokens}

-- whether a sign opens something
abbrev sign_opens : Sign → Bool
sign_opens signs.OpenRound = true
sign_opens signs.OpenSquare = true
sign_opens signs.OpenCurly = true
sign_opens signs.Tilde = true
sign_opens _ = false

abbrev opens : TokenKind → Bool
opens (kind.Sign s) = sign_opens s
opens _ = false

-- how many tokens open something
abbrev pub openings : List Token → ℕ
openings [] = 0
openings (t ∷ rest) = (if opens t.kind then 1 else 0) + openings rest

one_at_most : (b : Bool) → (if b then 1 else 0) ≤ 1
one_at_most true = omega arith
one_at_most false = omega arith

sign_at_most : (s : Sign) (rest : List Token) → (if sign_open s rest then 1 else 0) ≤ (if sign_opens s then 1 else 0)
sign_at_most signs.OpenRound rest = one_at_most (bracket_open 0 rest)
sign_at_most signs.OpenSquare rest = one_at_most (bracket_open 0 rest)
sign_at_most signs.OpenCurly rest = one_at_most (bracket_open 0 rest)
sign_at_most signs.Tilde rest = one_at_most (operand_open 0 rest)
sign_at_most _ rest = omega arith

kind_at_most : (inside : Bool) (k : TokenKind) (rest : List Token)
    → (if inside && is_open k rest then 1 else 0) ≤ (if opens k then 1 else 0)
kind_at_most false k rest = omega arith
kind_at_most true (kind.Sign s) rest = sign_at_most s rest
kind_at_most true _ rest = omega arith

-- no more are open than were opened
pub open_at_most : (inside : Bool) (tokens : List Token) → open_among inside tokens ≤ openings tokens
open_at_most inside [] = omega arith
open_at_most inside (t ∷ rest) =
    let here = kind_at_most inside t.kind rest in
    let later = open_at_most (in_items_behind inside t.kind) rest in
    omega (arith, here, later)

openings-take : (j n : ℕ) (tokens : List Token) → j ≤ n → openings (take j tokens) ≤ openings (take n tokens)
openings-take zero n tokens within = omega arith
openings-take (suc j) zero tokens within = absurd (omega arith)
openings-take (suc j) (suc n) [] within = omega arith
openings-take (suc j) (suc n) (t ∷ tokens) within = let more
    = openings-take j n tokens (omega arith) in omega (arith, more)

-- at most so many are open within the first n tokens
pub open_within : (inside : Bool) (j n most : ℕ) (tokens : List Token) → j ≤ n → openings (take n tokens) ≡ most
    → open_among inside (take j tokens) ≤ most
open_within inside j n most tokens within count =
    let opened = openings-take j n tokens within in
    let there = open_at_most inside (take j tokens) in
    omega (arith, opened, there, count)

take-none : {X : Type 0} (i : ℕ) → take {A = X} i [] ≡ []
take-none zero = refl
take-none (suc i) = refl

-- so many and more are taken: the first ones, and then the others
pub take-beyond : {X : Type 0} (n i : ℕ) (xs : List X) → take (n + i) xs ≡ take n xs ++ take i (drop n xs)
take-beyond zero i xs = let e : 0 + i ≡ i = omega arith in ap (λ k. take k xs) e
take-beyond {X} (suc n) i [] = take-none (suc n + i) ∙ sym (take-none i)
take-beyond (suc n) i (x ∷ xs) =
    let e : suc n + i ≡ suc (n + i) = omega arith in
    ap (λ k. take k (x ∷ xs)) e ∙ ap (λ ys. x ∷ ys) (take-beyond n i xs)

-- a number is at most another, or so much above it
pub up_to_or_beyond : (j n : ℕ) → (j ≤ n) ⊎ ((i : ℕ) × (j ≡ n + i))
up_to_or_beyond zero n = inl (omega arith)
up_to_or_beyond (suc j) zero = inr (suc j, omega arith)
up_to_or_beyond (suc j) (suc n) = of_less (up_to_or_beyond j n)
  where
    of_less : (j ≤ n) ⊎ ((i : ℕ) × (j ≡ n + i)) → (suc j ≤ suc n) ⊎ ((i : ℕ) × (suc j ≡ suc n + i))
    of_less (inl less) = inl (omega (arith, less))
    of_less (inr more) = let e = more.1 in inr (more.0, omega (arith, e))

-- wherever the tokens are cut, at most five are open, where they stand in the items of a node
abbrev pub AreShallow : List Token → Type 0
AreShallow tokens = (j : ℕ) → open_among true (take j tokens) ≤ 5

-- a whole line leaves nothing open
line_closes : (k : ℕ) (operands : Operands) (at : LinePlaces) (a b : List Token) → LineTokens k operands at a b
    → (openings (take 22 a) ≡ 5) × (drop 22 a ≡ b) × ((rest : List Token)
    → open_among true (take 22 a ++ rest) ≡ open_among true rest)
line_closes k operands at a b (line_tokens spot_tokens spot_tokens spot_tokens spot_tokens)
    = (refl, refl, λ rest. omega arith)

pub line_shallow : (k : ℕ) (operands : Operands) (at : LinePlaces) (a b : List Token) → LineTokens k operands at a b
    → AreShallow b → AreShallow a
line_shallow k operands at a b line shallow j = of_case (up_to_or_beyond j 22)
  where
    of_case : (j ≤ 22) ⊎ ((i : ℕ) × (j ≡ 22 + i)) → open_among true (take j a) ≤ 5
    of_case (inl within) = open_within true j 22 5 a within (line_closes k operands at a b line).0
    of_case (inr beyond) =
        let closes = line_closes k operands at a b line in
        let cut : take j a ≡ take 22 a ++ take beyond.0 b
        = ap (λ n. take n a) beyond.1 ∙ take-beyond 22 beyond.0 a ∙ ap (λ ts. take 22 a ++ take beyond.0 ts) closes.1 in
        let same : open_among true (take j a) ≡ open_among true (take beyond.0 b)
        = ap (open_among true) cut ∙ closes.2 (take beyond.0 b) in
        let rest = shallow beyond.0 in
        omega (arith, same, rest)

-- whether a token is a number of 2^64 or more
abbrev too_big : TokenKind → Bool
too_big (kind.Number None) = true
too_big (kind.Number (Some n)) = false
too_big _ = false

abbrev pub AreSmall : List Token → Type 0
AreSmall tokens = list_any (λ (t : Token). too_big t.kind) tokens ≡ false

pub line_small : (k : ℕ) (operands : Operands) (at : LinePlaces) (a b : List Token) → LineTokens k operands at a b
    → AreSmall b → AreSmall a
line_small k operands at a b (line_tokens spot_tokens spot_tokens spot_tokens spot_tokens) small = small

-- no token of small ones is too big
pub none_too_big : (tokens : List Token) (k : ℕ) (t : Token) → AreSmall tokens → slice_get tokens k ≡ Some t
    → t.kind ≡ kind.Number None → ⊥
none_too_big [] k t small is big = absurd (cc)
none_too_big (u ∷ tokens) zero t small is big =
    let same : u ≡ t = cc in
    let there : too_big u.kind ≡ true = ap (λ (v : Token). too_big v.kind) same ∙ ap too_big big in
    first_no (too_big u.kind) _ there small
  where
    first_no : (b r : Bool) → b ≡ true → (b || r) ≡ false → ⊥
    first_no true r is fails = absurd (cc)
    first_no false r is fails = absurd (cc)
none_too_big (u ∷ tokens) (suc k) t small is big = none_too_big tokens k t (second_no (too_big u.kind) _ small) is big
  where
    second_no : (b r : Bool) → (b || r) ≡ false → r ≡ false
    second_no true r fails = absurd (cc)
    second_no false r fails = fails
