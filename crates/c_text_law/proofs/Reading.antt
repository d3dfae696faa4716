-- Texts that spell tokens of some kinds wherever they begin, and then what the rest spells.
use Rattle.std.proofs.Common.{◌≡◌, ℕ, ◌+◌, ◌*◌, ◌<◌, ◌≤◌, ◌^◌, ◌∙◌, Bool, true, false, ◌&&◌, ◌||◌, eqb, List, [], ◌∷◌, ◌++◌, length, take, drop, get_or, decimal, Option, Some, refl, sym, ap, subst, inl, inr, arith}
use Rattle.std.specs.Prelude.{if◌then◌else◌, nat_lt}
use Rattle.std.specs.Char.{is_ascii_digit, digit_value}
use Rattle.std.specs.List.{fold, prefix_len, list_all}
use Rattle.std.specs.Str.Parse.{digits_value_after}
use Rattle.std.proofs.lemmas.Bool.{and_parts, and_left, and_right, le-ltb, ne_eqb, cases_eq}
use Rattle.std.proofs.lemmas.Bool.Decides.{nat_tests}
use Rattle.std.proofs.lemmas.Fmt.{decimal_nonempty, first_decimal, length-decimal-le}
use Rattle.text_lines.proofs.WrittenLemmas.{decimal_digits, value_of_decimal}
use Rattle.tor_edge.specs.declared.place.Place.{Place}
use Rattle.usuba_tokens.specs.Bytes.{is_blank, begins_word}
use Rattle.usuba_tokens.specs.Numbers.{decimal_len, value_in, below_2_64}
use Rattle.usuba_tokens.specs.Tokens.{place_after}
use Rattle.usuba_tokens.proofs.NumberLemmas.{small}
use Rattle.c_tokens.specs.Heads.{head_of, kind_of, number, valued, continues_word, found_sign}
use Rattle.c_tokens.specs.Tokens.{Spells, blank, token}
use Rattle.c_tokens.specs.declared.head.Form.{Form}
use Rattle.c_tokens.specs.declared.head.Form.TheVariants as form
use Rattle.c_tokens.specs.declared.head.Head.{Head}
use Rattle.c_tokens.specs.declared.head.Head.TheVariants as head
use Rattle.c_tokens.specs.declared.token.Ending.TheVariants as ending
use Rattle.c_tokens.specs.declared.token.Token.{Token}
use Rattle.c_tokens.specs.declared.token.TokenKind.{TokenKind}
use Rattle.c_tokens.specs.declared.token.TokenKind.TheVariants as kind
use Rattle.c_tokens.specs.declared.token.Sign.{Sign}

-- wherever the text begins, it spells tokens for which P holds
abbrev pub Reads : List ℕ → (List Token → Type 0) → Type 0
Reads text P =
    (at : Place) → (last : Place) × (tokens : List Token) × Spells at text tokens (ending.End last) × P tokens

-- tokens of these kinds, and then tokens for which P holds
pub data Seq (P : List Token → Type 0) : List TokenKind → List Token → Type 0 where
  done : {tokens : List Token} → P tokens → Seq P [] tokens
  more : {k : TokenKind} {ks : List TokenKind} {tokens : List Token} (at : Place) → Seq P ks tokens
      → Seq P (k ∷ ks) (record { kind = k; place = at } ∷ tokens)

-- what holds of the tokens may be said in other words
pub Reads-as : (text : List ℕ) (P Q : List Token → Type 0) → ((tokens : List Token) → P tokens → Q tokens)
    → Reads text P → Reads text Q
Reads-as text P Q weaker reads at =
    let made = reads at in
    (made.0, made.1, made.2, weaker made.1 made.3)

-- the same text in other words
pub Reads-is : (a b : List ℕ) (P : List Token → Type 0) → a ≡ b → Reads a P → Reads b P
Reads-is a b P same reads = subst (λ (text : List ℕ). Reads text P) same reads

-- a blank comes first
pub Reads-blank : (b : ℕ) (rest : List ℕ) (P : List Token → Type 0) → head_of (b ∷ rest) ≡ head.Blank → Reads rest P
    → Reads (b ∷ rest) P
Reads-blank b rest P is reads at =
    let made = reads (place_after at (b ∷ [])) in
    (made.0, made.1, blank at (b ∷ rest) made.1 (ending.End made.0) is made.2, made.3)

-- a token comes first
pub Reads-token : (text front rest : List ℕ) (n : ℕ) (f : Form) (k : TokenKind) (ks : List TokenKind)
    (P : List Token → Type 0) → head_of text ≡ head.Found f n → take n text ≡ front → drop n text ≡ rest
    → kind_of f front ≡ k → Reads rest (Seq P ks) → Reads text (Seq P (k ∷ ks))
Reads-token text front rest n f k ks P found front_is rest_is kind_is reads at =
    let made = reads (place_after at front) in
    let end = ending.End made.0 in
    let moved : Spells (place_after at (take n text)) (drop n text) made.1 end
    = subst (λ (r : List ℕ). Spells (place_after at (take n text)) r made.1 end) (sym rest_is)
    (subst (λ (t : List ℕ). Spells (place_after at t) rest made.1 end) (sym front_is) made.2) in (
      made.0,
      record { kind = k; place = at } ∷ made.1,
      subst (λ (j : TokenKind). Spells at text (record { kind = j; place = at } ∷ made.1) end)
          (ap (kind_of f) front_is ∙ kind_is) (token at text n f made.1 end found moved),
      more at made.3,
    )

-- what passes a test, up to a byte that does not, is as long as it is
pub prefix_up_to : (p : ℕ → Bool) (ds : List ℕ) (b : ℕ) (rest : List ℕ) → list_all p ds ≡ true → p b ≡ false
    → prefix_len p (ds ++ b ∷ rest) ≡ length ds
prefix_up_to p [] b rest passes stops = rw stops refl
prefix_up_to p (d ∷ ds) b rest passes stops =
    let parts = and_parts (p d) (list_all p ds) passes in
    let more = prefix_up_to p ds b rest parts.1 stops in
    rw parts.0 (omega (arith, more))

byte_behind : (ds : List ℕ) (b : ℕ) (rest : List ℕ) → get_or (ds ++ b ∷ rest) (length ds) 0 ≡ b
byte_behind [] b rest = refl
byte_behind (d ∷ ds) b rest = byte_behind ds b rest

pub taken_front : (ds rest : List ℕ) → take (length ds) (ds ++ rest) ≡ ds
taken_front [] rest = refl
taken_front (d ∷ ds) rest = ap (λ xs. d ∷ xs) (taken_front ds rest)

pub dropped_front : (ds rest : List ℕ) → drop (length ds) (ds ++ rest) ≡ rest
dropped_front [] rest = refl
dropped_front (d ∷ ds) rest = dropped_front ds rest

digit_no_blank : (d : ℕ) → is_ascii_digit d ≡ true → is_blank d ≡ false
digit_no_blank d digit = grind (arith, nat_tests)

digit_no_word : (d : ℕ) → is_ascii_digit d ≡ true → begins_word d ≡ false
digit_no_word d digit = grind (arith, nat_tests)

-- the third of four, where the tests before it fail
third : (a b c : Bool) (w x y z : Head) → a ≡ false → b ≡ false → c ≡ true
    → (if a then w else (if b then x else (if c then y else z))) ≡ y
third a b c w x y z h1 h2 h3 = rw (h1, h2, h3) refl

-- a byte that a number does not go on with
abbrev pub EndsNumber : ℕ → Type 0
EndsNumber b = (is_ascii_digit b ≡ false) × (begins_word b ≡ false)

-- the value of digits, computed in two ways
values_agree : (n : ℕ) (ds : List ℕ) → fold (λ m digit. m * 10 + digit_value digit) n ds ≡ digits_value_after 10 n ds
values_agree n [] = refl
values_agree n (d ∷ ds) = values_agree (n * 10 + digit_value d) ds

value_is : (n : ℕ) → n < 2 ^ 64 → below_2_64 (value_in 10 (decimal n)) ≡ Some n
value_is n fits = ap below_2_64 (values_agree 0 (decimal n) ∙ value_of_decimal n fits) ∙ small n fits

first_of : (ds rest : List ℕ) → 0 < length ds → get_or (ds ++ rest) 0 0 ≡ get_or ds 0 0
first_of [] rest some = absurd (omega arith)
first_of (d ∷ ds) rest some = refl

no_leading_zero : (n b : ℕ) (rest : List ℕ) → n < 2 ^ 64
    → (eqb (get_or (decimal n ++ b ∷ rest) 0 0) 48 && nat_lt 1 (length (decimal n))) ≡ false
no_leading_zero n b rest fits =
    elim (cases_eq n 0) as (λ v. (eqb (get_or (decimal n ++ b ∷ rest) 0 0) 48 && nat_lt 1 (length (decimal n))) ≡ false) [
      | inl zero_is ↦
          (let short : length (decimal n) ≤ 1 = length-decimal-le 1 n (omega arith) (omega arith) fits in
          and_right (eqb (get_or (decimal n ++ b ∷ rest) 0 0) 48) (nat_lt 1 (length (decimal n)))
          (le-ltb 1 (length (decimal n)) short))
      | inr above ↦
          (let some : 0 < n = omega arith in
          let first : 48 < get_or (decimal n) 0 0 = first_decimal n some fits in
          let same : get_or (decimal n ++ b ∷ rest) 0 0 ≡ get_or (decimal n) 0 0
          = first_of (decimal n) (b ∷ rest) (decimal_nonempty n fits) in
          and_left (eqb (get_or (decimal n ++ b ∷ rest) 0 0) 48) (nat_lt 1 (length (decimal n)))
          (ne_eqb (get_or (decimal n ++ b ∷ rest) 0 0) 48 (λ is. omega (arith, is, same, first))))
    ]

number_is : (n b : ℕ) (rest : List ℕ) → n < 2 ^ 64 → EndsNumber b
    → number (decimal n ++ b ∷ rest) ≡ head.Found (form.Number n) (length (decimal n))
number_is n b rest fits ends =
    let ds = decimal n in
    let len : decimal_len (ds ++ b ∷ rest) ≡ length ds
    = prefix_up_to is_ascii_digit ds b rest (decimal_digits n fits) ends.0 in
    ap (λ (m : ℕ). if begins_word (get_or (ds ++ b ∷ rest) m 0) || eqb (get_or (ds ++ b ∷ rest) 0 0) 48 && nat_lt 1 m
    then head.Broken else valued (below_2_64 (value_in 10 (take m (ds ++ b ∷ rest)))) m) len
    ∙ ap (λ (t : Bool). if t || eqb (get_or (ds ++ b ∷ rest) 0 0) 48 && nat_lt 1 (length ds) then head.Broken
    else valued (below_2_64 (value_in 10 (take (length ds) (ds ++ b ∷ rest)))) (length ds))
    (ap begins_word (byte_behind ds b rest) ∙ ends.1)
    ∙ ap (λ (t : Bool). if t then head.Broken
    else valued (below_2_64 (value_in 10 (take (length ds) (ds ++ b ∷ rest)))) (length ds))
    (no_leading_zero n b rest fits)
    ∙ ap (λ (t : List ℕ). valued (below_2_64 (value_in 10 t)) (length ds)) (taken_front ds (b ∷ rest))
    ∙ ap (λ (v : Option ℕ). valued v (length ds)) (value_is n fits)

digits_head : (ds rest : List ℕ) → 0 < length ds → list_all is_ascii_digit ds ≡ true → head_of (ds ++ rest) ≡ number (ds ++ rest)
digits_head [] rest some digits = absurd (omega arith)
digits_head (d ∷ ds) rest some digits =
    let digit = (and_parts (is_ascii_digit d) (list_all is_ascii_digit ds) digits).0 in
    third (is_blank d) (begins_word d) (is_ascii_digit d) _ _ _ _ (digit_no_blank d digit) (digit_no_word d digit) digit

-- a number comes first, and then a byte that it does not go on with
pub Reads-number : (n b : ℕ) (rest : List ℕ) (ks : List TokenKind) (P : List Token → Type 0) → n < 2 ^ 64 → EndsNumber b
    → Reads (b ∷ rest) (Seq P ks) → Reads (decimal n ++ b ∷ rest) (Seq P (kind.Number n ∷ ks))
Reads-number n b rest ks P fits ends reads =
    Reads-token (decimal n ++ b ∷ rest) (decimal n) (b ∷ rest) (length (decimal n)) (form.Number n) (kind.Number n) ks P
    (digits_head (decimal n) (b ∷ rest) (decimal_nonempty n fits) (decimal_digits n fits) ∙ number_is n b rest fits ends)
    (taken_front (decimal n) (b ∷ rest)) (dropped_front (decimal n) (b ∷ rest)) refl reads

-- a word that is a name
pub record IsName (text : List ℕ) : Type 0 where
  pub some : 0 < length text
  pub no_blank : is_blank (get_or text 0 0) ≡ false
  pub begins : begins_word (get_or text 0 0) ≡ true
  pub goes_on : list_all continues_word text ≡ true
  pub is_name : kind_of form.Word text ≡ kind.Name text

second : (a b : Bool) (w x y : Head) → a ≡ false → b ≡ true → (if a then w else (if b then x else y)) ≡ x
second a b w x y h1 h2 = rw (h1, h2) refl

name_head : (text : List ℕ) (b : ℕ) (rest : List ℕ) → IsName text → continues_word b ≡ false
    → head_of (text ++ b ∷ rest) ≡ head.Found form.Word (length text)
name_head [] b rest is stops = let some : 0 < 0 = is.some in absurd (omega arith)
name_head (d ∷ ds) b rest is stops =
    second (is_blank d) (begins_word d) _ _ _ is.no_blank is.begins
    ∙ ap (head.Found form.Word) (prefix_up_to continues_word (d ∷ ds) b rest is.goes_on stops)

-- a name comes first, and then a byte that it does not go on with
pub Reads-name : (text : List ℕ) (b : ℕ) (rest : List ℕ) (ks : List TokenKind) (P : List Token → Type 0) → IsName text
    → continues_word b ≡ false → Reads (b ∷ rest) (Seq P ks) → Reads (text ++ b ∷ rest) (Seq P (kind.Name text ∷ ks))
Reads-name text b rest ks P is stops reads =
    Reads-token (text ++ b ∷ rest) text (b ∷ rest) (length text) form.Word (kind.Name text) ks P
    (name_head text b rest is stops) (taken_front text (b ∷ rest)) (dropped_front text (b ∷ rest)) is.is_name reads

-- a sign of one byte comes first
pub Reads-sign : (b : ℕ) (s : Sign) (rest : List ℕ) (ks : List TokenKind) (P : List Token → Type 0)
    → head_of (b ∷ rest) ≡ found_sign s 1 → Reads rest (Seq P ks) → Reads (b ∷ rest) (Seq P (kind.Sign s ∷ ks))
Reads-sign b s rest ks P is reads =
    Reads-token (b ∷ rest) (b ∷ []) rest 1 (form.Sign s) (kind.Sign s) ks P is refl refl refl reads

-- nothing more is asked for
pub Reads-done : (rest : List ℕ) (P : List Token → Type 0) → Reads rest P → Reads rest (Seq P [])
Reads-done rest P reads = Reads-as rest P (Seq P []) (λ tokens holds. done holds) reads
