-- A type word has a width of 1 to 64 where it has one, and a count of at least 1 where it has one.
use Rattle.std.proofs.Common.{◌≡◌, ℕ, ◌+◌, ◌*◌, ◌<◌, Bool, true, false, cond, List, [], ◌∷◌, take, drop, Option, Some, None, refl, arith}
use Rattle.std.specs.Prelude.{◌==◌, nat_le, slice_index, position, fold, IfSome, option_and_then}
use Rattle.std.specs.Char.{is_ascii_digit, digit_value}
use Rattle.std.specs.List.{list_all}
use Rattle.std.specs.Option.{option_map}
use Rattle.std.proofs.lemmas.Bool.{leb-true, and_parts}
use Rattle.std.proofs.lemmas.Bool.Decides.{nat_tests}
use Rattle.usuba_tokens.specs.Numbers.{value_in}
use Rattle.usuba_tokens.specs.Words.{is_positive_digit, is_plain, below_2_32, plain_number, at_most_64, width, Meaning, counted, is_x, words_of_bits, type_word, type_or_name, keyword_or_name, keyword_of, word_kind}
use Rattle.usuba_tokens.specs.declared.token.Base.{Base}
use Rattle.usuba_tokens.specs.declared.token.Base.TheVariants.{Poly, Bits}
use Rattle.usuba_tokens.specs.declared.token.Keyword.{Keyword}
use Rattle.usuba_tokens.specs.declared.token.TokenKind.{TokenKind}
use Rattle.usuba_tokens.specs.declared.token.TokenKind.TheVariants as kind
use Rattle.usuba_syntax.specs.Declarations.{base_of}
use Rattle.source_shapes.specs.Shaped.{IsWidth, IsPositive, HasWidth}

-- what holds of either side holds of the choice
when : {X : Type 0} (P : X → Type 0) (test : Bool) (x y : X) → (test ≡ true → P x) → P y → P (cond test x y)
when P test x y = elim test as (λ t. (t ≡ true → P x) → P y → P (cond t x y)) [ true ↦ λ first second. first refl | false ↦ λ first second. second ]

-- what f makes of a value, and none, are so
and_then : {A B : Type 0} (P : A → Type 0) (Q : B → Type 0) (f : A → Option B) (o : Option A)
    → ((a : A) → P a → IfSome (f a) Q) → IfSome o P → IfSome (option_and_then f o) Q
and_then P Q f None each h = tt
and_then P Q f (Some a) each h = each a h

mapped : {A B : Type 0} (P : A → Type 0) (Q : B → Type 0) (f : A → B) (o : Option A)
    → ((a : A) → P a → Q (f a)) → IfSome o P → IfSome (option_map f o) Q
mapped P Q f None each h = tt
mapped P Q f (Some a) each h = each a h

-- ---- numbers of a type word

abbrev step : ℕ → ℕ → ℕ
step n digit = n * 10 + digit_value digit

stays_positive : (n : ℕ) (digits : List ℕ) → 0 < n → 0 < fold step n digits
stays_positive n [] some = some
stays_positive n (d ∷ ds) some = stays_positive (step n d) ds (omega (arith, some))

digit_is_positive : (b : ℕ) → is_positive_digit b ≡ true → 0 < digit_value b
digit_is_positive b h = grind (arith, nat_tests)

value_is_positive : (text : List ℕ) → is_plain text ≡ true → 0 < value_in 10 text
value_is_positive [] h = absurd (cc)
value_is_positive (b ∷ text) h =
    let digit = digit_is_positive b (and_parts (is_positive_digit b) (list_all is_ascii_digit (b ∷ text)) h).0 in
    stays_positive (step 0 b) text (omega (arith, digit))

plain_is_positive : (text : List ℕ) → IfSome (plain_number text) IsPositive
plain_is_positive text =
    when (λ o. IfSome o IsPositive) (is_plain text) (below_2_32 (value_in 10 text)) None
    (λ plain. when (λ o. IfSome o IsPositive) _ (Some (value_in 10 text)) None (λ small. value_is_positive text plain) tt) tt

width_is_width : (text : List ℕ) → IfSome (width text) IsWidth
width_is_width text =
    and_then IsPositive IsWidth at_most_64 (plain_number text)
    (λ n some. when (λ o. IfSome o IsWidth) (nat_le n 64) (Some n) None (λ most. (some, leb-true n 64 most)) tt)
    (plain_is_positive text)

-- ---- type words

-- what a type word says is so
abbrev IsMeant : Meaning → Type 0
IsMeant meaning = HasWidth (base_of meaning.0) × IfSome meaning.1 IsPositive

counted_is_meant : (base : Base) (text : List ℕ) → HasWidth (base_of base) → IfSome (counted base text) IsMeant
counted_is_meant base text wide =
    mapped IsPositive IsMeant (λ n. (base, Some n)) (plain_number text) (λ n some. (wide, some)) (plain_is_positive text)

bits_are_meant : (x : Option ℕ) (text : List ℕ) → IfSome (words_of_bits x text) IsMeant
bits_are_meant None text = mapped IsWidth IsMeant (λ w. (Bits w, None)) (width text) (λ w wide. (wide, tt)) (width_is_width text)
bits_are_meant (Some x) text =
    and_then IsWidth IsMeant (λ w. counted (Bits w) (drop (x + 1) text)) (width (take x text))
    (λ w wide. counted_is_meant (Bits w) (drop (x + 1) text) wide) (width_is_width (take x text))

type_word_is_meant : (text : List ℕ) → IfSome (type_word text) IsMeant
type_word_is_meant text =
    let P : Option Meaning → Type 0 = λ o. IfSome o IsMeant in
    let rest = drop 1 text in
    when P (slice_index text 0 == 117) (words_of_bits (position is_x rest) rest) _
    (λ u. bits_are_meant (position is_x rest) rest)
    (when P (slice_index text 0 == 98) (counted (Bits 1) rest) _
    (λ b. counted_is_meant (Bits 1) rest (omega arith, omega arith))
    (when P (slice_index text 0 == 118) (counted Poly rest) None (λ v. counted_is_meant Poly rest tt) tt))

-- ---- words

-- a token that says a type says one that is so
abbrev pub IsShapedKind : TokenKind → Type 0
IsShapedKind (kind.TypeWord word) = HasWidth (base_of word.base) × IfSome word.count IsPositive
IsShapedKind _ = Unit {0}

type_or_name_is_shaped : (o : Option Meaning) (text : List ℕ) → IfSome o IsMeant → IsShapedKind (type_or_name o text)
type_or_name_is_shaped (Some meaning) text meant = meant
type_or_name_is_shaped None text meant = tt

keyword_or_name_is_shaped : (k : Option Keyword) (text : List ℕ) → IsShapedKind (keyword_or_name k text)
keyword_or_name_is_shaped (Some k) text = tt
keyword_or_name_is_shaped None text =
    when IsShapedKind _ (kind.In text) (type_or_name (type_word text) text) (λ named. tt)
    (type_or_name_is_shaped (type_word text) text (type_word_is_meant text))

-- a word that says a type says one that is so
pub word_is_shaped : (text : List ℕ) → IsShapedKind (word_kind text)
word_is_shaped text = keyword_or_name_is_shaped (keyword_of text) text
