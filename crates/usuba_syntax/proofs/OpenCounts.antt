-- As many are open at a token as the list of what is open has.
use Rattle.std.proofs.Common.{◌≡◌, ℕ, zero, suc, ◌+◌, ◌<◌, Bool, true, false, ◌&&◌, cond, List, [], ◌∷◌, length, take, Option, Some, None, refl, sym, ap, ◌∙◌, subst, arith}
use Rattle.std.specs.Prelude.{slice_index}
use Rattle.usuba_syntax.specs.Nesting.{inner_behind, belongs, is_last, bracket_open, operand_open, is_open, in_items_behind, open_among, open_count}
use Rattle.usuba_syntax.proofs.Nests.{Opening, Bracket, Complement, behind_operand, outside, Nest, at_token, behind_token, behind_outer_token, counts, open_counts}
use Rattle.usuba_syntax.specs.Sources.{IsTooDeep}
use Rattle.usuba_tokens.specs.declared.token.Keyword.TheVariants as keyword
use Rattle.usuba_tokens.specs.declared.token.Sign.TheVariants as sign
use Rattle.usuba_tokens.specs.declared.token.Token.{Token}
use Rattle.usuba_tokens.specs.declared.token.TokenKind.{TokenKind}
use Rattle.usuba_tokens.specs.declared.token.TokenKind.TheVariants as kind

-- ---- what a token does to what is open, by its sort

-- a sort of token: what it does in a bracket or operand, whether it belongs to an operand, and what it does to the list
record Opens (k : TokenKind) : Type 0 where
  inner : (n : ℕ) → inner_behind n k ≡ Some (suc n)
  belong : (n : ℕ) → belongs n k ≡ true
  opened : (rest : List Token) → is_open k rest ≡ bracket_open 0 rest
  here : (o : List Opening) → at_token o k ≡ Bracket ∷ o
  behind : (o : List Opening) → behind_token o k ≡ Some o

record Complements (k : TokenKind) : Type 0 where
  inner : (n : ℕ) → inner_behind n k ≡ Some n
  belong : (n : ℕ) → belongs n k ≡ true
  opened : (rest : List Token) → is_open k rest ≡ operand_open 0 rest
  here : (o : List Opening) → at_token o k ≡ Complement ∷ o
  behind : (o : List Opening) → behind_token o k ≡ Some o

record Continues (k : TokenKind) : Type 0 where
  inner : (n : ℕ) → inner_behind n k ≡ Some n
  belong : (n : ℕ) → belongs n k ≡ true
  opened : (rest : List Token) → is_open k rest ≡ false
  here : (o : List Opening) → at_token o k ≡ o
  behind : (o : List Opening) → behind_token o k ≡ Some o

record Closes (k : TokenKind) : Type 0 where
  around : inner_behind 0 k ≡ None
  inner : (n : ℕ) → inner_behind (suc n) k ≡ Some n
  belong : belongs 0 k ≡ false
  opened : (rest : List Token) → is_open k rest ≡ false
  here : (o : List Opening) → at_token o k ≡ behind_operand o
  behind : (o : List Opening) → behind_token o k ≡ Some (outside o)

record Parts (k : TokenKind) : Type 0 where
  inner : (n : ℕ) → inner_behind n k ≡ Some n
  belong : belongs 0 k ≡ false
  opened : (rest : List Token) → is_open k rest ≡ false
  here : (o : List Opening) → at_token o k ≡ behind_operand o
  behind : (o : List Opening) → behind_token o k ≡ Some o

record Ends (k : TokenKind) : Type 0 where
  inner : (n : ℕ) → inner_behind n k ≡ None
  belong : belongs 0 k ≡ false
  opened : (rest : List Token) → is_open k rest ≡ false
  here : (o : List Opening) → at_token o k ≡ behind_operand o
  behind : (o : List Opening) → behind_token o k ≡ None

data Acts (k : TokenKind) : Type 0 where
  opens : Opens k → Acts k
  complements : Complements k → Acts k
  continues : Continues k → Acts k
  closes : Closes k → Acts k
  parts : Parts k → Acts k
  ends : Ends k → Acts k

always : (k : TokenKind) → belongs 0 k ≡ true → (n : ℕ) → belongs n k ≡ true
always k h zero = h
always k h (suc n) = refl

acts : (k : TokenKind) → Acts k
acts (kind.Keyword keyword.Refresh) = continues (record { inner = λ n. refl; belong = always (kind.Keyword keyword.Refresh) refl; opened = λ rest. refl; here = λ o. refl; behind = λ o. refl })
acts (kind.Keyword keyword.Tel) = ends (record { inner = λ n. refl; belong = refl; opened = λ rest. refl; here = λ o. refl; behind = λ o. refl })
acts (kind.Keyword _) = parts (record { inner = λ n. refl; belong = refl; opened = λ rest. refl; here = λ o. refl; behind = λ o. refl })
acts (kind.Sign sign.OpenRound) = opens (record { inner = λ n. refl; belong = always (kind.Sign sign.OpenRound) refl; opened = λ rest. refl; here = λ o. refl; behind = λ o. refl })
acts (kind.Sign sign.OpenSquare) = opens (record { inner = λ n. refl; belong = always (kind.Sign sign.OpenSquare) refl; opened = λ rest. refl; here = λ o. refl; behind = λ o. refl })
acts (kind.Sign sign.OpenCurly) = opens (record { inner = λ n. refl; belong = always (kind.Sign sign.OpenCurly) refl; opened = λ rest. refl; here = λ o. refl; behind = λ o. refl })
acts (kind.Sign sign.Tilde) = complements (record { inner = λ n. refl; belong = always (kind.Sign sign.Tilde) refl; opened = λ rest. refl; here = λ o. refl; behind = λ o. refl })
acts (kind.Sign sign.CloseRound) = closes (record { around = refl; inner = λ n. refl; belong = refl; opened = λ rest. refl; here = λ o. refl; behind = λ o. refl })
acts (kind.Sign sign.CloseSquare) = closes (record { around = refl; inner = λ n. refl; belong = refl; opened = λ rest. refl; here = λ o. refl; behind = λ o. refl })
acts (kind.Sign sign.CloseCurly) = closes (record { around = refl; inner = λ n. refl; belong = refl; opened = λ rest. refl; here = λ o. refl; behind = λ o. refl })
acts (kind.Sign _) = parts (record { inner = λ n. refl; belong = refl; opened = λ rest. refl; here = λ o. refl; behind = λ o. refl })
acts (kind.In text) = continues (record { inner = λ n. refl; belong = always (kind.In text) refl; opened = λ rest. refl; here = λ o. refl; behind = λ o. refl })
acts (kind.TypeWord word) = continues (record { inner = λ n. refl; belong = always (kind.TypeWord word) refl; opened = λ rest. refl; here = λ o. refl; behind = λ o. refl })
acts (kind.Word text) = continues (record { inner = λ n. refl; belong = always (kind.Word text) refl; opened = λ rest. refl; here = λ o. refl; behind = λ o. refl })
acts (kind.Number v) = continues (record { inner = λ n. refl; belong = always (kind.Number v) refl; opened = λ rest. refl; here = λ o. refl; behind = λ o. refl })

-- ---- how many of the list are still open at the last of some tokens

abbrev one : Bool → ℕ
one b = cond b 1 0

-- `n` brackets stand further in
abbrev total : ℕ → List Opening → List Token → ℕ
total n [] us = 0
total n (Bracket ∷ o) us = one (bracket_open n us) + total (suc n) o us
total n (Complement ∷ o) us = one (operand_open n us) + total n o us

abbrev total_in : Nest → List Token → ℕ
total_in None us = 0
total_in (Some o) us = total 0 o us

abbrev is_inside : Nest → Bool
is_inside None = false
is_inside (Some o) = true

-- what a bracket is behind a token that does not close it, and what an operand is behind one that belongs to it
bracket_on : (n m : ℕ) (t : Token) (us : List Token) → inner_behind n t.kind ≡ Some m → bracket_open n (t ∷ us) ≡ bracket_open m us
bracket_on n m t us is = ap (λ (i : Option ℕ). elim i [ None ↦ is_last us | Some k ↦ bracket_open k us ]) is

bracket_shut : (n : ℕ) (t u : Token) (us : List Token) → inner_behind n t.kind ≡ None → bracket_open n (t ∷ u ∷ us) ≡ false
bracket_shut n t u us is = ap (λ (i : Option ℕ). elim i [ None ↦ is_last (u ∷ us) | Some k ↦ bracket_open k (u ∷ us) ]) is

operand_on : (n m : ℕ) (t : Token) (us : List Token) → belongs n t.kind ≡ true → inner_behind n t.kind ≡ Some m → operand_open n (t ∷ us) ≡ operand_open m us
operand_on n m t us of is =
    ap (λ b. b && elim (inner_behind n t.kind) [ None ↦ is_last us | Some k ↦ operand_open k us ]) of
    ∙ ap (λ (i : Option ℕ). elim i [ None ↦ is_last us | Some k ↦ operand_open k us ]) is

operand_done : (t : Token) (us : List Token) → belongs 0 t.kind ≡ false → operand_open 0 (t ∷ us) ≡ false
operand_done t us not = ap (λ b. b && elim (inner_behind 0 t.kind) [ None ↦ is_last us | Some k ↦ operand_open k us ]) not

operand_shut : (n : ℕ) (t u : Token) (us : List Token) → inner_behind (suc n) t.kind ≡ None → operand_open (suc n) (t ∷ u ∷ us) ≡ false
operand_shut n t u us is = ap (λ (i : Option ℕ). elim i [ None ↦ is_last (u ∷ us) | Some k ↦ operand_open k (u ∷ us) ]) is

sum : {a b c d : ℕ} → a ≡ b → c ≡ d → a + c ≡ b + d
sum first second = omega (arith, first, second)

none_one : {b : Bool} (n : ℕ) → b ≡ false → one b + n ≡ n
none_one n is = let none : one _ ≡ 0 = ap one is in omega (arith, none)

-- behind a token that opens, all have one more bracket in them
total_opens : (n : ℕ) (o : List Opening) (t : Token) (us : List Token) → Opens t.kind → total n o (t ∷ us) ≡ total (suc n) o us
total_opens n [] t us a = refl
total_opens n (Bracket ∷ o) t us a = sum (ap one (bracket_on n (suc n) t us (a.inner n))) (total_opens (suc n) o t us a)
total_opens n (Complement ∷ o) t us a = sum (ap one (operand_on n (suc n) t us (a.belong n) (a.inner n))) (total_opens n o t us a)

-- behind one that an operand goes on with, all are as before
total_stays : (n : ℕ) (o : List Opening) (t : Token) (us : List Token) → ((m : ℕ) → inner_behind m t.kind ≡ Some m) → ((m : ℕ) → belongs m t.kind ≡ true) → total n o (t ∷ us) ≡ total n o us
total_stays n [] t us inner belong = refl
total_stays n (Bracket ∷ o) t us inner belong = sum (ap one (bracket_on n n t us (inner n))) (total_stays (suc n) o t us inner belong)
total_stays n (Complement ∷ o) t us inner belong = sum (ap one (operand_on n n t us (belong n) (inner n))) (total_stays n o t us inner belong)

-- within a bracket any token belongs
total_within : (n : ℕ) (o : List Opening) (t : Token) (us : List Token) → ((m : ℕ) → inner_behind m t.kind ≡ Some m) → total (suc n) o (t ∷ us) ≡ total (suc n) o us
total_within n [] t us inner = refl
total_within n (Bracket ∷ o) t us inner = sum (ap one (bracket_on (suc n) (suc n) t us (inner (suc n)))) (total_within (suc n) o t us inner)
total_within n (Complement ∷ o) t us inner = sum (ap one (operand_on (suc n) (suc n) t us refl (inner (suc n)))) (total_within n o t us inner)

-- and outside all brackets the operands end
total_parts : (o : List Opening) (t : Token) (us : List Token) → Parts t.kind → total 0 o (t ∷ us) ≡ total 0 (behind_operand o) us
total_parts [] t us a = refl
total_parts (Bracket ∷ o) t us a = sum (ap one (bracket_on 0 0 t us (a.inner 0))) (total_within 0 o t us a.inner)
total_parts (Complement ∷ o) t us a = none_one (total 0 o (t ∷ us)) (operand_done t us a.belong) ∙ total_parts o t us a

-- behind one that closes, all have one bracket less in them
total_closed : (n : ℕ) (o : List Opening) (t : Token) (us : List Token) → Closes t.kind → total (suc n) o (t ∷ us) ≡ total n o us
total_closed n [] t us a = refl
total_closed n (Bracket ∷ o) t us a = sum (ap one (bracket_on (suc n) n t us (a.inner n))) (total_closed (suc n) o t us a)
total_closed n (Complement ∷ o) t us a = sum (ap one (operand_on (suc n) n t us refl (a.inner n))) (total_closed n o t us a)

total_closes : (o : List Opening) (t u : Token) (us : List Token) → Closes t.kind → total 0 o (t ∷ u ∷ us) ≡ total 0 (outside (behind_operand o)) (u ∷ us)
total_closes [] t u us a = refl
total_closes (Bracket ∷ o) t u us a = none_one (total 1 o (t ∷ u ∷ us)) (bracket_shut 0 t u us a.around) ∙ total_closed 0 o t (u ∷ us) a
total_closes (Complement ∷ o) t u us a = none_one (total 0 o (t ∷ u ∷ us)) (operand_done t (u ∷ us) a.belong) ∙ total_closes o t u us a

-- behind the end of the items nothing is open
total_ends : (n : ℕ) (o : List Opening) (t u : Token) (us : List Token) → Ends t.kind → total n o (t ∷ u ∷ us) ≡ 0
total_ends n [] t u us a = refl
total_ends n (Bracket ∷ o) t u us a = none_one (total (suc n) o (t ∷ u ∷ us)) (bracket_shut n t u us (a.inner n)) ∙ total_ends (suc n) o t u us a
total_ends zero (Complement ∷ o) t u us a = none_one (total 0 o (t ∷ u ∷ us)) (operand_done t (u ∷ us) a.belong) ∙ total_ends 0 o t u us a
total_ends (suc n) (Complement ∷ o) t u us a = none_one (total (suc n) o (t ∷ u ∷ us)) (operand_shut n t u us (a.inner (suc n))) ∙ total_ends (suc n) o t u us a

none_more : {b : Bool} (n : ℕ) → b ≡ false → n + one b ≡ n
none_more n is = let none : one _ ≡ 0 = ap one is in omega (arith, none)

turn : (a b : ℕ) → a + b ≡ b + a
turn a b = omega arith

-- what is open behind a token
total_next : (o : List Opening) (t u : Token) (us : List Token) → Acts t.kind → total 0 o (t ∷ u ∷ us) + one (is_open t.kind (u ∷ us)) ≡ total_in (behind_token (at_token o t.kind) t.kind) (u ∷ us)
total_next o t u us (opens a) =
    sum (total_opens 0 o t (u ∷ us) a) (ap one (a.opened (u ∷ us))) ∙ turn (total 1 o (u ∷ us)) (one (bracket_open 0 (u ∷ us)))
    ∙ sym (ap (λ n. total_in n (u ∷ us)) (a.behind (at_token o t.kind)) ∙ ap (λ p. total 0 p (u ∷ us)) (a.here o))
total_next o t u us (complements a) =
    sum (total_stays 0 o t (u ∷ us) a.inner a.belong) (ap one (a.opened (u ∷ us))) ∙ turn (total 0 o (u ∷ us)) (one (operand_open 0 (u ∷ us)))
    ∙ sym (ap (λ n. total_in n (u ∷ us)) (a.behind (at_token o t.kind)) ∙ ap (λ p. total 0 p (u ∷ us)) (a.here o))
total_next o t u us (continues a) =
    none_more (total 0 o (t ∷ u ∷ us)) (a.opened (u ∷ us)) ∙ total_stays 0 o t (u ∷ us) a.inner a.belong
    ∙ sym (ap (λ n. total_in n (u ∷ us)) (a.behind (at_token o t.kind)) ∙ ap (λ p. total 0 p (u ∷ us)) (a.here o))
total_next o t u us (closes a) =
    none_more (total 0 o (t ∷ u ∷ us)) (a.opened (u ∷ us)) ∙ total_closes o t u us a
    ∙ sym (ap (λ n. total_in n (u ∷ us)) (a.behind (at_token o t.kind)) ∙ ap (λ p. total 0 (outside p) (u ∷ us)) (a.here o))
total_next o t u us (parts a) =
    none_more (total 0 o (t ∷ u ∷ us)) (a.opened (u ∷ us)) ∙ total_parts o t (u ∷ us) a
    ∙ sym (ap (λ n. total_in n (u ∷ us)) (a.behind (at_token o t.kind)) ∙ ap (λ p. total 0 p (u ∷ us)) (a.here o))
total_next o t u us (ends a) =
    none_more (total 0 o (t ∷ u ∷ us)) (a.opened (u ∷ us)) ∙ total_ends 0 o t u us a
    ∙ sym (ap (λ n. total_in n (u ∷ us)) (a.behind (at_token o t.kind)))

-- ---- at the last token

is_last_open : (n : ℕ) (t : Token) → bracket_open n (t ∷ []) ≡ true
is_last_open n t = any (inner_behind n t.kind) where
  any : (i : Option ℕ) → elim i [ None ↦ is_last [] | Some k ↦ bracket_open k [] ] ≡ true
  any None = refl
  any (Some k) = refl

operand_last : (n : ℕ) (t : Token) → belongs n t.kind ≡ true → operand_open n (t ∷ []) ≡ true
operand_last n t of = ap (λ b. b && elim (inner_behind n t.kind) [ None ↦ is_last [] | Some k ↦ operand_open k [] ]) of ∙ any (inner_behind n t.kind) where
  any : (i : Option ℕ) → elim i [ None ↦ is_last [] | Some k ↦ operand_open k [] ] ≡ true
  any None = refl
  any (Some k) = refl

one_more : {b : Bool} (n m : ℕ) → b ≡ true → n ≡ m → one b + n ≡ suc m
one_more n m is same = let some : one _ ≡ 1 = ap one is in omega (arith, some, same)

last_all : (n : ℕ) (o : List Opening) (t : Token) → ((m : ℕ) → belongs m t.kind ≡ true) → total n o (t ∷ []) ≡ length o
last_all n [] t belong = refl
last_all n (Bracket ∷ o) t belong = one_more (total (suc n) o (t ∷ [])) (length o) (is_last_open n t) (last_all (suc n) o t belong)
last_all n (Complement ∷ o) t belong = one_more (total n o (t ∷ [])) (length o) (operand_last n t (belong n)) (last_all n o t belong)

last_within : (n : ℕ) (o : List Opening) (t : Token) → total (suc n) o (t ∷ []) ≡ length o
last_within n [] t = refl
last_within n (Bracket ∷ o) t = one_more (total (suc (suc n)) o (t ∷ [])) (length o) (is_last_open (suc n) t) (last_within (suc n) o t)
last_within n (Complement ∷ o) t = one_more (total (suc n) o (t ∷ [])) (length o) (operand_last (suc n) t refl) (last_within n o t)

last_behind : (o : List Opening) (t : Token) → belongs 0 t.kind ≡ false → total 0 o (t ∷ []) ≡ length (behind_operand o)
last_behind [] t not = refl
last_behind (Bracket ∷ o) t not = one_more (total 1 o (t ∷ [])) (length o) (is_last_open 0 t) (last_within 0 o t)
last_behind (Complement ∷ o) t not = none_one (total 0 o (t ∷ [])) (operand_done t [] not) ∙ last_behind o t not

one_on_top : {b : Bool} (n m : ℕ) → b ≡ true → n ≡ m → n + one b ≡ suc m
one_on_top n m is same = let some : one _ ≡ 1 = ap one is in omega (arith, some, same)

-- what is open at a token
total_here : (o : List Opening) (t : Token) → Acts t.kind → total 0 o (t ∷ []) + one (is_open t.kind []) ≡ length (at_token o t.kind)
total_here o t (opens a) = one_on_top (total 0 o (t ∷ [])) (length o) (a.opened []) (last_all 0 o t a.belong) ∙ sym (ap length (a.here o))
total_here o t (complements a) = one_on_top (total 0 o (t ∷ [])) (length o) (a.opened []) (last_all 0 o t a.belong) ∙ sym (ap length (a.here o))
total_here o t (continues a) = none_more (total 0 o (t ∷ [])) (a.opened []) ∙ last_all 0 o t a.belong ∙ sym (ap length (a.here o))
total_here o t (closes a) = none_more (total 0 o (t ∷ [])) (a.opened []) ∙ last_behind o t a.belong ∙ sym (ap length (a.here o))
total_here o t (parts a) = none_more (total 0 o (t ∷ [])) (a.opened []) ∙ last_behind o t a.belong ∙ sym (ap length (a.here o))
total_here o t (ends a) = none_more (total 0 o (t ∷ [])) (a.opened []) ∙ last_behind o t a.belong ∙ sym (ap length (a.here o))

-- ---- all tokens

inside_same : (o : List Opening) (k : TokenKind) → is_inside (behind_token o k) ≡ in_items_behind true k
inside_same o (kind.Keyword keyword.Tel) = refl
inside_same o (kind.Keyword _) = refl
inside_same o (kind.Sign s) = refl
inside_same o (kind.In text) = refl
inside_same o (kind.TypeWord word) = refl
inside_same o (kind.Word text) = refl
inside_same o (kind.Number v) = refl

outside_same : (k : TokenKind) → is_inside (behind_outer_token k) ≡ in_items_behind false k
outside_same (kind.Keyword keyword.Let) = refl
outside_same (kind.Keyword _) = refl
outside_same (kind.Sign s) = refl
outside_same (kind.In text) = refl
outside_same (kind.TypeWord word) = refl
outside_same (kind.Word text) = refl
outside_same (kind.Number v) = refl

outside_none : (k : TokenKind) (us : List Token) → total_in (behind_outer_token k) us ≡ 0
outside_none (kind.Keyword keyword.Let) us = refl
outside_none (kind.Keyword _) us = refl
outside_none (kind.Sign s) us = refl
outside_none (kind.In text) us = refl
outside_none (kind.TypeWord word) us = refl
outside_none (kind.Word text) us = refl
outside_none (kind.Number v) us = refl

-- in a nest, as many are open at a token as of the nest and of the tokens up to it
at_nest : (nest : Nest) (tokens : List Token) (k : ℕ) → k < length tokens →
    slice_index (counts nest tokens) k ≡ total_in nest (take (suc k) tokens) + open_among (is_inside nest) (take (suc k) tokens)
at_nest nest [] k h = absurd (omega arith)
at_nest None (t ∷ ts) zero h = refl
at_nest (Some o) (t ∷ ts) zero h = let same = total_here o t (acts t.kind) in omega (arith, same)
at_nest nest (t ∷ []) (suc k) h = absurd (omega arith)
at_nest None (t ∷ u ∷ us) (suc k) h =
    let rest = take (suc k) (u ∷ us) in
    let next = at_nest (behind_outer_token t.kind) (u ∷ us) k (omega arith) in
    let none = outside_none t.kind rest in
    let same = ap (λ b. open_among b rest) (outside_same t.kind) in
    omega (arith, next, none, same)
at_nest (Some o) (t ∷ u ∷ us) (suc k) h =
    let rest = take (suc k) (u ∷ us) in
    let nest = behind_token (at_token o t.kind) t.kind in
    let next = at_nest nest (u ∷ us) k (omega arith) in
    let all = total_next o t u (take k us) (acts t.kind) in
    let same = ap (λ b. open_among b rest) (inside_same (at_token o t.kind) t.kind) in
    omega (arith, next, all, same)

-- as many are open at a token of a file as are opened up to it and not yet ended
pub open_at : (tokens : List Token) (k : ℕ) → k < length tokens → slice_index (open_counts tokens) k ≡ open_count (take (suc k) tokens)
open_at tokens k h = let same = at_nest None tokens k h in omega (arith, same)

open_next : (tokens : List Token) (k : ℕ) → k < length tokens → slice_index (open_counts tokens) k ≡ open_count (take (k + 1) tokens)
open_next tokens k h = let next : suc k ≡ k + 1 = omega arith in open_at tokens k h ∙ ap (λ n. open_count (take n tokens)) next

-- nesting too deep, by the list of what is open
pub listed_deep : (tokens : List Token) (k : ℕ) → IsTooDeep tokens k → 128 < slice_index (open_counts tokens) k
listed_deep tokens k deep = subst (λ n. 128 < n) (sym (open_next tokens k deep.0)) deep.1

pub is_too_deep : (tokens : List Token) (k : ℕ) → k < length tokens → 128 < slice_index (open_counts tokens) k → IsTooDeep tokens k
is_too_deep tokens k inside deep = (inside, subst (λ n. 128 < n) (open_next tokens k inside) deep)
