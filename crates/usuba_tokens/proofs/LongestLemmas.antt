-- The token that is found at the head of a text is the longest there.
use Rattle.std.proofs.Common.{◌≡◌, ℕ, zero, suc, ◌+◌, ◌-◌, ◌<◌, ◌≤◌, ◌⊎◌, inl, inr, Bool, true, false, ◌&&◌, eqb, List, [], ◌∷◌, length, get_or, take, drop, codes, Option, Some, None, refl, sym, ap, ◌∙◌, subst, arith, eq-eqb, eqb-true, length-drop, length-take-le}
use Rattle.std.specs.Char.{is_ascii_digit, is_ascii_hexdigit}
use Rattle.std.proofs.lemmas.Bool.{false≢true}
use Rattle.std.proofs.lemmas.Bool.Decides.{nat_tests}
use Rattle.std.proofs.lemmas.List.{get_or-drop, get_or-take}
use Rattle.std.proofs.lemmas.List.Sums.{prefix_len-le-length, prefix_len_passes, prefix_len_stops}
use Rattle.usuba_tokens.specs.Bytes.{is_blank, begins_word, continues_word}
use Rattle.usuba_tokens.specs.Numbers.{is_hexadecimal, number_len, decimal_len, hexadecimal_len}
use Rattle.usuba_tokens.specs.Heads.{closing, commented, word_len, number, one_byte_sign, longest_sign, head_of}
use Rattle.usuba_tokens.specs.Longest.{IsWord, IsDecimal, IsHexadecimal, IsToken, IsLongest, IsFound, IsUnclosed, IsSpoiled, BeginsNone, sign_text}
use Rattle.usuba_tokens.specs.declared.head.Form.{Form}
use Rattle.usuba_tokens.specs.declared.head.Form.TheVariants as form
use Rattle.usuba_tokens.specs.declared.head.Head.{Head}
use Rattle.usuba_tokens.specs.declared.head.Head.TheVariants as head
use Rattle.usuba_tokens.specs.declared.token.Sign.{Sign}
use Rattle.usuba_tokens.specs.declared.token.Sign.TheVariants as sign
use Rattle.usuba_tokens.proofs.Choices.{when, either, both}
use Rattle.usuba_tokens.proofs.HeadLemmas.{Takes, prefix_some, begins_continues, number_len_within, longest_takes}

-- no sign begins as a word or a number does
sign_no_word : (s : Sign) → begins_word (get_or (sign_text s) 0 0) ≡ false
sign_no_word sign.OpenRound = refl
sign_no_word sign.CloseRound = refl
sign_no_word sign.OpenSquare = refl
sign_no_word sign.CloseSquare = refl
sign_no_word sign.OpenCurly = refl
sign_no_word sign.CloseCurly = refl
sign_no_word sign.Comma = refl
sign_no_word sign.Semicolon = refl
sign_no_word sign.Colon = refl
sign_no_word sign.Equals = refl
sign_no_word sign.Tilde = refl
sign_no_word sign.Ampersand = refl
sign_no_word sign.Caret = refl
sign_no_word sign.Bar = refl
sign_no_word sign.ShiftLeft = refl
sign_no_word sign.ShiftRight = refl
sign_no_word sign.RotateLeft = refl
sign_no_word sign.RotateRight = refl
sign_no_word sign.Plus = refl
sign_no_word sign.Minus = refl
sign_no_word sign.Star = refl
sign_no_word sign.Slash = refl
sign_no_word sign.Percent = refl
sign_no_word sign.Dots = refl

sign_no_digit : (s : Sign) → is_ascii_digit (get_or (sign_text s) 0 0) ≡ false
sign_no_digit sign.OpenRound = refl
sign_no_digit sign.CloseRound = refl
sign_no_digit sign.OpenSquare = refl
sign_no_digit sign.CloseSquare = refl
sign_no_digit sign.OpenCurly = refl
sign_no_digit sign.CloseCurly = refl
sign_no_digit sign.Comma = refl
sign_no_digit sign.Semicolon = refl
sign_no_digit sign.Colon = refl
sign_no_digit sign.Equals = refl
sign_no_digit sign.Tilde = refl
sign_no_digit sign.Ampersand = refl
sign_no_digit sign.Caret = refl
sign_no_digit sign.Bar = refl
sign_no_digit sign.ShiftLeft = refl
sign_no_digit sign.ShiftRight = refl
sign_no_digit sign.RotateLeft = refl
sign_no_digit sign.RotateRight = refl
sign_no_digit sign.Plus = refl
sign_no_digit sign.Minus = refl
sign_no_digit sign.Star = refl
sign_no_digit sign.Slash = refl
sign_no_digit sign.Percent = refl
sign_no_digit sign.Dots = refl

digit_no_word : (b : ℕ) → is_ascii_digit b ≡ true → begins_word b ≡ false
digit_no_word b digit = grind (arith, nat_tests)

differ : (t : Bool) → t ≡ true → t ≡ false → ⊥
differ t passes fails = absurd (false≢true (sym fails ∙ passes))

-- the first byte of a token tells its form
front_byte : (m : ℕ) (text : List ℕ) (k : ℕ) → k < m → get_or (take m text) k 0 ≡ get_or text k 0
front_byte m text k below = get_or-take m text k 0 below

no_number : (m : ℕ) (text : List ℕ) → 0 < m → m ≤ length text → is_ascii_digit (get_or text 0 0) ≡ false → IsToken form.Number (take m text) → ⊥
no_number m text some within other (inl decimal) =
    let len = length-take-le m text within in
    differ (is_ascii_digit (get_or text 0 0)) (ap is_ascii_digit (sym (front_byte m text 0 some)) ∙ decimal.digits 0 (omega arith)) other
no_number m text some within other (inr hexadecimal) =
    differ (is_ascii_digit (get_or text 0 0)) (ap is_ascii_digit (sym (front_byte m text 0 some) ∙ hexadecimal.zero_first)) other

no_word : (m : ℕ) (text : List ℕ) → 0 < m → begins_word (get_or text 0 0) ≡ false → IsWord (take m text) → ⊥
no_word m text some other word = differ (begins_word (get_or text 0 0)) (ap begins_word (sym (front_byte m text 0 some)) ∙ word.begins) other

no_sign_word : (m : ℕ) (text : List ℕ) (s : Sign) → 0 < m → begins_word (get_or text 0 0) ≡ true → take m text ≡ sign_text s → ⊥
no_sign_word m text s some begins is = differ (begins_word (get_or text 0 0)) begins (ap begins_word (sym (front_byte m text 0 some) ∙ ap (λ t. get_or t 0 0) is) ∙ sign_no_word s)

no_sign_digit : (m : ℕ) (text : List ℕ) (s : Sign) → 0 < m → is_ascii_digit (get_or text 0 0) ≡ true → take m text ≡ sign_text s → ⊥
no_sign_digit m text s some digit is = differ (is_ascii_digit (get_or text 0 0)) digit (ap is_ascii_digit (sym (front_byte m text 0 some) ∙ ap (λ t. get_or t 0 0) is) ∙ sign_no_digit s)

word_no_digit : (b : ℕ) → begins_word b ≡ true → is_ascii_digit b ≡ false
word_no_digit b begins = grind (arith, nat_tests)

no_longer_word : (text : List ℕ) → begins_word (get_or text 0 0) ≡ true → (other : Form) (m : ℕ) → word_len text < m → m ≤ length text → IsToken other (take m text) → ⊥
no_longer_word text begins form.Word m more within word =
    let len : length (take m text) ≡ m = length-take-le m text within in
    differ (continues_word (get_or text (word_len text) 0)) (ap continues_word (sym (front_byte m text (word_len text) more)) ∙ word.continues (word_len text) (omega arith)) (prefix_len_stops continues_word text 0 (omega arith))
no_longer_word text begins form.Number m more within token = no_number m text (omega arith) within (word_no_digit (get_or text 0 0) begins) token
no_longer_word text begins (form.Sign s) m more within is = no_sign_word m text s (omega arith) begins is

-- a word
word_longest : (text : List ℕ) → 0 < length text → begins_word (get_or text 0 0) ≡ true → 1 ≤ word_len text → IsLongest form.Word (word_len text) text
word_longest text some begins one = let within : word_len text ≤ length text = prefix_len-le-length continues_word text in
    let len : length (take (word_len text) text) ≡ word_len text = length-take-le (word_len text) text within in record {
      within = within;
      fits = record {
        some = omega arith;
        begins = ap begins_word (front_byte (word_len text) text 0 one) ∙ begins;
        continues = λ k below. let low : k < word_len text = omega arith in ap continues_word (front_byte (word_len text) text k low) ∙ prefix_len_passes continues_word text k 0 low;
      };
      longest = λ other m more less token. no_longer_word text begins other m more less token;
    }

-- a number
decimal_longest : (text : List ℕ) → is_ascii_digit (get_or text 0 0) ≡ true → 1 ≤ decimal_len text → IsDecimal (take (decimal_len text) text)
decimal_longest text digit one =
    let within : decimal_len text ≤ length text = prefix_len-le-length is_ascii_digit text in
    let len : length (take (decimal_len text) text) ≡ decimal_len text = length-take-le (decimal_len text) text within in
    record {
      some = omega arith;
      digits = λ k below. let low : k < decimal_len text = omega arith in ap is_ascii_digit (front_byte (decimal_len text) text k low) ∙ prefix_len_passes is_ascii_digit text k 0 low;
    }

-- the tests of the head
zero_x : (text : List ℕ) → is_hexadecimal text ≡ true → (get_or text 0 0 ≡ 48) × (get_or text 1 0 ≡ 120) × (is_ascii_hexdigit (get_or text 2 0) ≡ true)
zero_x text is =
    let outer = both (eqb (get_or text 0 0) 48 && eqb (get_or text 1 0) 120) (is_ascii_hexdigit (get_or text 2 0)) is in
    let inner = both (eqb (get_or text 0 0) 48) (eqb (get_or text 1 0) 120) outer.0 in
    (eqb-true _ 48 inner.0, eqb-true _ 120 inner.1, outer.1)

hexadecimal_if : (text : List ℕ) → get_or text 0 0 ≡ 48 → get_or text 1 0 ≡ 120 → is_ascii_hexdigit (get_or text 2 0) ≡ true → is_hexadecimal text ≡ true
hexadecimal_if text zero_first x_second digit =
    let first = eq-eqb _ 48 zero_first in
    let second = eq-eqb _ 120 x_second in
    rw (first, second, digit) refl

-- the byte k of the digits behind `0x`
behind : (text : List ℕ) (k : ℕ) → get_or (drop 2 text) k 0 ≡ get_or text (2 + k) 0
behind text k = get_or-drop 2 text k 0

some_hexadecimal : (digits : List ℕ) → is_ascii_hexdigit (get_or digits 0 0) ≡ true → 1 ≤ hexadecimal_len digits
some_hexadecimal [] digit = absurd (false≢true digit)
some_hexadecimal (d ∷ ds) digit = rw digit (omega arith)

hexadecimal_longest : (text : List ℕ) → is_hexadecimal text ≡ true → (2 + hexadecimal_len (drop 2 text) ≤ length text) → IsHexadecimal (take (2 + hexadecimal_len (drop 2 text)) text)
hexadecimal_longest text is within =
    let n = hexadecimal_len (drop 2 text) in
    let len : length (take (2 + n) text) ≡ 2 + n = length-take-le (2 + n) text within in
    let parts = zero_x text is in
    let one : 1 ≤ hexadecimal_len (drop 2 text) = some_hexadecimal (drop 2 text) (ap is_ascii_hexdigit (behind text 0) ∙ parts.2) in
    record {
      some = omega arith;
      zero_first = front_byte (2 + n) text 0 (omega arith) ∙ parts.0;
      x_second = front_byte (2 + n) text 1 (omega arith) ∙ parts.1;
      digits = λ k low below.
          let at : 2 + (k - 2) ≡ k = omega arith in
          let inside : k - 2 < n = omega arith in
          ap is_ascii_hexdigit (front_byte (2 + n) text k (omega arith) ∙ sym (behind text (k - 2) ∙ ap (λ i. get_or text i 0) at)) ∙ prefix_len_passes is_ascii_hexdigit (drop 2 text) (k - 2) 0 inside;
    }

no_longer_decimal : (text : List ℕ) → is_hexadecimal text ≡ false → is_ascii_digit (get_or text 0 0) ≡ true → (other : Form) (m : ℕ) → 1 ≤ decimal_len text → decimal_len text < m → m ≤ length text → IsToken other (take m text) → ⊥
no_longer_decimal text not_hexadecimal digit form.Word m one more within word = no_word m text (omega arith) (digit_no_word (get_or text 0 0) digit) word
no_longer_decimal text not_hexadecimal digit form.Number m one more within (inl decimal) =
    let len : length (take m text) ≡ m = length-take-le m text within in
    differ (is_ascii_digit (get_or text (decimal_len text) 0)) (ap is_ascii_digit (sym (front_byte m text (decimal_len text) more)) ∙ decimal.digits (decimal_len text) (omega arith)) (prefix_len_stops is_ascii_digit text 0 (omega arith))
no_longer_decimal text not_hexadecimal digit form.Number m one more within (inr hexadecimal) =
    let len : length (take m text) ≡ m = length-take-le m text within in
    let room : 2 < m = omega (arith, hexadecimal.some) in
    differ (is_hexadecimal text) (hexadecimal_if text (sym (front_byte m text 0 (omega arith)) ∙ hexadecimal.zero_first) (sym (front_byte m text 1 (omega arith)) ∙ hexadecimal.x_second) (ap is_ascii_hexdigit (sym (front_byte m text 2 room)) ∙ hexadecimal.digits 2 (omega arith) (omega arith))) not_hexadecimal
no_longer_decimal text not_hexadecimal digit (form.Sign s) m one more within is = no_sign_digit m text s (omega arith) digit is

no_longer_hexadecimal : (text : List ℕ) → is_hexadecimal text ≡ true → (other : Form) (m : ℕ) → 2 + hexadecimal_len (drop 2 text) < m → m ≤ length text → IsToken other (take m text) → ⊥
no_longer_hexadecimal text is form.Word m more within word = no_word m text (omega arith) (ap begins_word (zero_x text is).0) word
no_longer_hexadecimal text is form.Number m more within (inl decimal) =
    let len : length (take m text) ≡ m = length-take-le m text within in
    differ (is_ascii_digit 120) (ap is_ascii_digit (sym (zero_x text is).1 ∙ sym (front_byte m text 1 (omega arith))) ∙ decimal.digits 1 (omega arith)) refl
no_longer_hexadecimal text is form.Number m more within (inr hexadecimal) =
    let n = hexadecimal_len (drop 2 text) in
    let len : length (take m text) ≡ m = length-take-le m text within in
    let left : length (drop 2 text) ≡ length text - 2 = length-drop 2 text in
    let next : is_ascii_hexdigit (get_or text (2 + n) 0) ≡ true = ap is_ascii_hexdigit (sym (front_byte m text (2 + n) more)) ∙ hexadecimal.digits (2 + n) (omega arith) (omega arith) in
    differ (is_ascii_hexdigit (get_or (drop 2 text) n 0)) (ap is_ascii_hexdigit (behind text n) ∙ next) (prefix_len_stops is_ascii_hexdigit (drop 2 text) 0 (omega arith))
no_longer_hexadecimal text is (form.Sign s) m more within sign_is = no_sign_digit m text s (omega arith) (ap is_ascii_digit (zero_x text is).0) sign_is

number_longest : (b : ℕ) (text : List ℕ) → is_ascii_digit b ≡ true → 1 ≤ number_len (b ∷ text) → number_len (b ∷ text) ≤ length (b ∷ text) → IsLongest form.Number (number_len (b ∷ text)) (b ∷ text)
number_longest b text digit =
    when (λ n. 1 ≤ n → n ≤ length (b ∷ text) → IsLongest form.Number n (b ∷ text)) (is_hexadecimal (b ∷ text)) (2 + hexadecimal_len (drop 2 (b ∷ text))) (decimal_len (b ∷ text))
    (λ is one within. record {
      within = within;
      fits = inr (hexadecimal_longest (b ∷ text) is within);
      longest = λ other m more inside token. no_longer_hexadecimal (b ∷ text) is other m more inside token;
    })
    (λ is one within. record {
      within = within;
      fits = inl (decimal_longest (b ∷ text) digit one);
      longest = λ other m more inside token. no_longer_decimal (b ∷ text) is digit other m one more inside token;
    })

-- a sign that stands at the head takes at least so many bytes
abbrev Reaches : ℕ → Head → Type 0
Reaches m head.End = ⊥
Reaches m head.Broken = ⊥
Reaches m (head.Gap n) = ⊥
Reaches m (head.Found f n) = m ≤ n

-- the bytes that stand at the head where a sign does
record Reads (m b : ℕ) (text sign : List ℕ) : Type 0 where
  length_is : m ≡ length sign
  first : b ≡ get_or sign 0 0
  second : 1 < m → get_or text 0 0 ≡ get_or sign 1 0
  third : 2 < m → get_or text 1 0 ≡ get_or sign 2 0

reads : (m b : ℕ) (text sign : List ℕ) → take m (b ∷ text) ≡ sign → m ≤ length (b ∷ text) → 0 < length sign → Reads m b text sign
reads m b text sign is within some =
    let len : length (take m (b ∷ text)) ≡ m = length-take-le m (b ∷ text) within in
    let same : length (take m (b ∷ text)) ≡ length sign = ap length is in
    record {
      length_is = omega arith;
      first = sym (front_byte m (b ∷ text) 0 (omega arith)) ∙ ap (λ t. get_or t 0 0) is;
      second = λ more. sym (front_byte m (b ∷ text) 1 more) ∙ ap (λ t. get_or t 1 0) is;
      third = λ more. sym (front_byte m (b ∷ text) 2 more) ∙ ap (λ t. get_or t 2 0) is;
    }

one_reaches : (v m b c d : ℕ) → m ≡ 1 → b ≡ v → Reaches 1 (longest_sign v c d) → Reaches m (longest_sign b c d)
one_reaches v m b c d short is held = subst (λ n. Reaches n (longest_sign b c d)) (sym short) (subst (λ x. Reaches 1 (longest_sign x c d)) (sym is) held)

two_reaches : (v m b c d : ℕ) → m ≡ 2 → b ≡ v → c ≡ v → Reaches 2 (longest_sign v v d) → Reaches m (longest_sign b c d)
two_reaches v m b c d short b_is c_is held =
    subst (λ n. Reaches n (longest_sign b c d)) (sym short) (subst (λ x. Reaches 2 (longest_sign x c d)) (sym b_is) (subst (λ y. Reaches 2 (longest_sign v y d)) (sym c_is) held))

three_reaches : (v m b c d : ℕ) → m ≡ 3 → b ≡ v → c ≡ v → d ≡ v → Reaches 3 (longest_sign v v v) → Reaches m (longest_sign b c d)
three_reaches v m b c d short b_is c_is d_is held =
    subst (λ n. Reaches n (longest_sign b c d)) (sym short) (subst (λ x. Reaches 3 (longest_sign x c d)) (sym b_is) (subst (λ y. Reaches 3 (longest_sign v y d)) (sym c_is) (subst (λ z. Reaches 3 (longest_sign v v z)) (sym d_is) held)))

reach : (s : Sign) (m b : ℕ) (text : List ℕ) → take m (b ∷ text) ≡ sign_text s → m ≤ length (b ∷ text) → Reaches m (longest_sign b (get_or text 0 0) (get_or text 1 0))
reach sign.OpenRound m b text is within = let at = reads m b text (codes "(") is within (omega arith) in one_reaches 40 m b _ _ at.length_is at.first (omega arith)
reach sign.CloseRound m b text is within = let at = reads m b text (codes ")") is within (omega arith) in one_reaches 41 m b _ _ at.length_is at.first (omega arith)
reach sign.OpenSquare m b text is within = let at = reads m b text (codes "[") is within (omega arith) in one_reaches 91 m b _ _ at.length_is at.first (omega arith)
reach sign.CloseSquare m b text is within = let at = reads m b text (codes "]") is within (omega arith) in one_reaches 93 m b _ _ at.length_is at.first (omega arith)
reach sign.OpenCurly m b text is within = let at = reads m b text (codes "{") is within (omega arith) in one_reaches 123 m b _ _ at.length_is at.first (omega arith)
reach sign.CloseCurly m b text is within = let at = reads m b text (codes "}") is within (omega arith) in one_reaches 125 m b _ _ at.length_is at.first (omega arith)
reach sign.Comma m b text is within = let at = reads m b text (codes ",") is within (omega arith) in one_reaches 44 m b _ _ at.length_is at.first (omega arith)
reach sign.Semicolon m b text is within = let at = reads m b text (codes ";") is within (omega arith) in one_reaches 59 m b _ _ at.length_is at.first (omega arith)
reach sign.Colon m b text is within = let at = reads m b text (codes ":") is within (omega arith) in one_reaches 58 m b _ _ at.length_is at.first (omega arith)
reach sign.Equals m b text is within = let at = reads m b text (codes "=") is within (omega arith) in one_reaches 61 m b _ _ at.length_is at.first (omega arith)
reach sign.Tilde m b text is within = let at = reads m b text (codes "~") is within (omega arith) in one_reaches 126 m b _ _ at.length_is at.first (omega arith)
reach sign.Ampersand m b text is within = let at = reads m b text (codes "&") is within (omega arith) in one_reaches 38 m b _ _ at.length_is at.first (omega arith)
reach sign.Caret m b text is within = let at = reads m b text (codes "^") is within (omega arith) in one_reaches 94 m b _ _ at.length_is at.first (omega arith)
reach sign.Bar m b text is within = let at = reads m b text (codes "|") is within (omega arith) in one_reaches 124 m b _ _ at.length_is at.first (omega arith)
reach sign.ShiftLeft m b text is within = let at = reads m b text (codes "<<") is within (omega arith) in two_reaches 60 m b _ _ at.length_is at.first (at.second (omega (arith, at.length_is))) (either (Reaches 2) (eqb (get_or text 1 0) 60) _ _ (omega arith) (omega arith))
reach sign.ShiftRight m b text is within = let at = reads m b text (codes ">>") is within (omega arith) in two_reaches 62 m b _ _ at.length_is at.first (at.second (omega (arith, at.length_is))) (either (Reaches 2) (eqb (get_or text 1 0) 62) _ _ (omega arith) (omega arith))
reach sign.RotateLeft m b text is within = let at = reads m b text (codes "<<<") is within (omega arith) in three_reaches 60 m b _ _ at.length_is at.first (at.second (omega (arith, at.length_is))) (at.third (omega (arith, at.length_is))) (omega arith)
reach sign.RotateRight m b text is within = let at = reads m b text (codes ">>>") is within (omega arith) in three_reaches 62 m b _ _ at.length_is at.first (at.second (omega (arith, at.length_is))) (at.third (omega (arith, at.length_is))) (omega arith)
reach sign.Plus m b text is within = let at = reads m b text (codes "+") is within (omega arith) in one_reaches 43 m b _ _ at.length_is at.first (omega arith)
reach sign.Minus m b text is within = let at = reads m b text (codes "-") is within (omega arith) in one_reaches 45 m b _ _ at.length_is at.first (omega arith)
reach sign.Star m b text is within = let at = reads m b text (codes "*") is within (omega arith) in one_reaches 42 m b _ _ at.length_is at.first (omega arith)
reach sign.Slash m b text is within = let at = reads m b text (codes "/") is within (omega arith) in one_reaches 47 m b _ _ at.length_is at.first (omega arith)
reach sign.Percent m b text is within = let at = reads m b text (codes "%") is within (omega arith) in one_reaches 37 m b _ _ at.length_is at.first (omega arith)
reach sign.Dots m b text is within = let at = reads m b text (codes "..") is within (omega arith) in two_reaches 46 m b _ _ at.length_is at.first (at.second (omega (arith, at.length_is))) (omega arith)

-- the sign that is found stands there
abbrev Spelt : Head → List ℕ → Type 0
Spelt head.End text = Unit {0}
Spelt head.Broken text = Unit {0}
Spelt (head.Gap n) text = ⊥
Spelt (head.Found form.Word n) text = ⊥
Spelt (head.Found form.Number n) text = ⊥
Spelt (head.Found (form.Sign s) n) text = (1 ≤ n) × (take n text ≡ sign_text s)

single : (b v : ℕ) (text : List ℕ) → eqb b v ≡ true → (1 ≤ 1) × (take 1 (b ∷ text) ≡ v ∷ [])
single b v text is = (omega arith, ap (λ x. x ∷ []) (eqb-true b v is))

double : (v b : ℕ) (text : List ℕ) → 0 < v → b ≡ v → get_or text 0 0 ≡ v → (1 ≤ 2) × (take 2 (b ∷ text) ≡ v ∷ v ∷ [])
double v b [] some first second = absurd (omega arith)
double v b (c ∷ text) some first second = (omega arith, λ i. first i ∷ second i ∷ [])

triple : (v b : ℕ) (text : List ℕ) → 0 < v → b ≡ v → get_or text 0 0 ≡ v → get_or text 1 0 ≡ v → (1 ≤ 3) × (take 3 (b ∷ text) ≡ v ∷ v ∷ v ∷ [])
triple v b [] some first second third = absurd (omega arith)
triple v b (c ∷ []) some first second third = absurd (omega arith)
triple v b (c ∷ d ∷ text) some first second third = (omega arith, λ i. first i ∷ second i ∷ third i ∷ [])

one_byte_spelt : (b : ℕ) (text : List ℕ) → Spelt (one_byte_sign b) (b ∷ text)
one_byte_spelt b text =
    let spelt : Head → Type 0 = λ h. Spelt h (b ∷ text) in
    when spelt (eqb b 40) _ _ (single b 40 text) (λ _.
    when spelt (eqb b 41) _ _ (single b 41 text) (λ _.
    when spelt (eqb b 91) _ _ (single b 91 text) (λ _.
    when spelt (eqb b 93) _ _ (single b 93 text) (λ _.
    when spelt (eqb b 123) _ _ (single b 123 text) (λ _.
    when spelt (eqb b 125) _ _ (single b 125 text) (λ _.
    when spelt (eqb b 44) _ _ (single b 44 text) (λ _.
    when spelt (eqb b 59) _ _ (single b 59 text) (λ _.
    when spelt (eqb b 58) _ _ (single b 58 text) (λ _.
    when spelt (eqb b 61) _ _ (single b 61 text) (λ _.
    when spelt (eqb b 126) _ _ (single b 126 text) (λ _.
    when spelt (eqb b 38) _ _ (single b 38 text) (λ _.
    when spelt (eqb b 94) _ _ (single b 94 text) (λ _.
    when spelt (eqb b 124) _ _ (single b 124 text) (λ _.
    when spelt (eqb b 43) _ _ (single b 43 text) (λ _.
    when spelt (eqb b 45) _ _ (single b 45 text) (λ _.
    when spelt (eqb b 42) _ _ (single b 42 text) (λ _.
    when spelt (eqb b 47) _ _ (single b 47 text) (λ _.
    when spelt (eqb b 37) _ _ (single b 37 text) (λ _. tt)))))))))))))))))))

longest_spelt : (b : ℕ) (text : List ℕ) → Spelt (longest_sign b (get_or text 0 0) (get_or text 1 0)) (b ∷ text)
longest_spelt b text =
    let c = get_or text 0 0 in
    let d = get_or text 1 0 in
    let spelt : Head → Type 0 = λ h. Spelt h (b ∷ text) in
    when spelt ((eqb b 60 && eqb c 60) && eqb d 60) _ _ (λ is. let front = both (eqb b 60 && eqb c 60) (eqb d 60) is in let firsts = both (eqb b 60) (eqb c 60) front.0 in triple 60 b text (omega arith) (eqb-true b 60 firsts.0) (eqb-true c 60 firsts.1) (eqb-true d 60 front.1))
    (λ _. when spelt ((eqb b 62 && eqb c 62) && eqb d 62) _ _ (λ is. let front = both (eqb b 62 && eqb c 62) (eqb d 62) is in let firsts = both (eqb b 62) (eqb c 62) front.0 in triple 62 b text (omega arith) (eqb-true b 62 firsts.0) (eqb-true c 62 firsts.1) (eqb-true d 62 front.1))
    (λ _. when spelt (eqb b 60 && eqb c 60) _ _ (λ is. let firsts = both (eqb b 60) (eqb c 60) is in double 60 b text (omega arith) (eqb-true b 60 firsts.0) (eqb-true c 60 firsts.1))
    (λ _. when spelt (eqb b 62 && eqb c 62) _ _ (λ is. let firsts = both (eqb b 62) (eqb c 62) is in double 62 b text (omega arith) (eqb-true b 62 firsts.0) (eqb-true c 62 firsts.1))
    (λ _. when spelt (eqb b 46 && eqb c 46) _ _ (λ is. let firsts = both (eqb b 46) (eqb c 46) is in double 46 b text (omega arith) (eqb-true b 46 firsts.0) (eqb-true c 46 firsts.1))
    (λ _. one_byte_spelt b text)))))

-- what is found is the longest, and a text is broken for a reason
abbrev IsTold : Head → List ℕ → Type 0
IsTold head.End text = Unit {0}
IsTold (head.Gap n) text = Unit {0}
IsTold head.Broken text = IsUnclosed text ⊎ (IsSpoiled text ⊎ BeginsNone text)
IsTold (head.Found f n) text = IsFound f n text

no_longer_sign : (b n : ℕ) (text : List ℕ) → begins_word b ≡ false → is_ascii_digit b ≡ false → 1 ≤ n → ((m : ℕ) (s : Sign) → take m (b ∷ text) ≡ sign_text s → m ≤ length (b ∷ text) → m ≤ n) → (other : Form) (m : ℕ) → n < m → m ≤ length (b ∷ text) → IsToken other (take m (b ∷ text)) → ⊥
no_longer_sign b n text word digit some most form.Word m more within token = no_word m (b ∷ text) (omega arith) word token
no_longer_sign b n text word digit some most form.Number m more within token = no_number m (b ∷ text) (omega arith) within digit token
no_longer_sign b n text word digit some most (form.Sign s) m more within is = absurd (omega (arith, most m s is within))

sign_some : (s : Sign) → sign_text s ≡ [] → ⊥
sign_some sign.OpenRound is = cc
sign_some sign.CloseRound is = cc
sign_some sign.OpenSquare is = cc
sign_some sign.CloseSquare is = cc
sign_some sign.OpenCurly is = cc
sign_some sign.CloseCurly is = cc
sign_some sign.Comma is = cc
sign_some sign.Semicolon is = cc
sign_some sign.Colon is = cc
sign_some sign.Equals is = cc
sign_some sign.Tilde is = cc
sign_some sign.Ampersand is = cc
sign_some sign.Caret is = cc
sign_some sign.Bar is = cc
sign_some sign.ShiftLeft is = cc
sign_some sign.ShiftRight is = cc
sign_some sign.RotateLeft is = cc
sign_some sign.RotateRight is = cc
sign_some sign.Plus is = cc
sign_some sign.Minus is = cc
sign_some sign.Star is = cc
sign_some sign.Slash is = cc
sign_some sign.Percent is = cc
sign_some sign.Dots is = cc

-- a token is not empty
some_token : (f : Form) (m b : ℕ) (text : List ℕ) → IsToken f (take m (b ∷ text)) → 0 < m
some_token form.Word zero b text token = absurd (omega (arith, token.some))
some_token form.Number zero b text (inl token) = absurd (omega (arith, token.some))
some_token form.Number zero b text (inr token) = absurd (omega (arith, token.some))
some_token (form.Sign s) zero b text token = absurd (sign_some s (sym token))
some_token f (suc m) b text token = omega arith

none_begins : (b : ℕ) (text : List ℕ) → begins_word b ≡ false → is_ascii_digit b ≡ false → ((m : ℕ) (s : Sign) → take m (b ∷ text) ≡ sign_text s → m ≤ length (b ∷ text) → ⊥) → BeginsNone (b ∷ text)
none_begins b text word digit no_sign form.Word m within token = no_word m (b ∷ text) (some_token form.Word m b text token) word token
none_begins b text word digit no_sign form.Number m within token = no_number m (b ∷ text) (some_token form.Number m b text token) within digit token
none_begins b text word digit no_sign (form.Sign s) m within is = no_sign m s is within

sign_told : (b : ℕ) (text : List ℕ) (h : Head) → begins_word b ≡ false → is_ascii_digit b ≡ false → Spelt h (b ∷ text) → Takes h (b ∷ text) → ((m : ℕ) (s : Sign) → take m (b ∷ text) ≡ sign_text s → m ≤ length (b ∷ text) → Reaches m h) → IsTold h (b ∷ text)
sign_told b text head.End word digit spelt takes most = tt
sign_told b text head.Broken word digit spelt takes most = inr (inr (none_begins b text word digit most))
sign_told b text (head.Gap n) word digit spelt takes most = absurd spelt
sign_told b text (head.Found form.Word n) word digit spelt takes most = absurd spelt
sign_told b text (head.Found form.Number n) word digit spelt takes most = absurd spelt
sign_told b text (head.Found (form.Sign s) n) word digit spelt takes most = record {
  token = record {
    within = takes.1;
    fits = spelt.1;
    longest = no_longer_sign b n text word digit spelt.0 most;
  };
  parted = λ is. absurd (cc);
}

slash_told : (found : Option ℕ) (b : ℕ) (text : List ℕ) → closing 47 (drop 1 text) ≡ found → (b ≡ 47) × (get_or text 0 0 ≡ 42) → IsTold (commented found) (b ∷ text)
slash_told None b text is opens = inl (opens.1, inl (opens.0, is))
slash_told (Some n) b text is opens = tt

round_told : (found : Option ℕ) (b : ℕ) (text : List ℕ) → closing 41 (drop 1 text) ≡ found → (b ≡ 40) × (get_or text 0 0 ≡ 42) → IsTold (commented found) (b ∷ text)
round_told None b text is opens = inl (opens.1, inr (opens.0, is))
round_told (Some n) b text is opens = tt

opened : (b v w next : ℕ) → (eqb b v && eqb next w) ≡ true → (b ≡ v) × (next ≡ w)
opened b v w next is = let parts = both (eqb b v) (eqb next w) is in (eqb-true b v parts.0, eqb-true next w parts.1)

number_told : (b : ℕ) (text : List ℕ) → is_ascii_digit b ≡ true → IsTold (number (b ∷ text)) (b ∷ text)
number_told b text digit =
    let within = number_len_within b text digit in
    let longest = number_longest b text digit within.0 within.1 in
    when (λ h. IsTold h (b ∷ text)) (begins_word (get_or (b ∷ text) (number_len (b ∷ text)) 0)) _ _
    (λ letter. inr (inl (number_len (b ∷ text), longest, letter)))
    (λ parted. record { token = longest; parted = λ _. parted })

word_told : (b : ℕ) (text : List ℕ) → begins_word b ≡ true → IsTold (head.Found form.Word (word_len (b ∷ text))) (b ∷ text)
word_told b text word = record {
  token = word_longest (b ∷ text) (omega arith) word (prefix_some continues_word b text (begins_continues b word));
  parted = λ is. absurd (cc);
}

head_told : (text : List ℕ) → IsTold (head_of text) text
head_told [] = tt
head_told (b ∷ text) =
    let next = get_or text 0 0 in
    let told : Head → Type 0 = λ h. IsTold h (b ∷ text) in
    when told (is_blank b) _ _ (λ _. tt)
    (λ _. when told (eqb b 47 && eqb next 47) _ _ (λ _. tt)
    (λ _. when told (eqb b 47 && eqb next 42) _ _ (λ is. slash_told (closing 47 (drop 1 text)) b text refl (opened b 47 42 next is))
    (λ _. when told (eqb b 40 && eqb next 42) _ _ (λ is. round_told (closing 41 (drop 1 text)) b text refl (opened b 40 42 next is))
    (λ _. when told (begins_word b) _ _ (word_told b text)
    (λ word. when told (is_ascii_digit b) _ _ (number_told b text)
    (λ digit. sign_told b text (longest_sign b next (get_or text 1 0)) word digit (longest_spelt b text) (longest_takes b text) (λ m s is within. reach s m b text is within)))))))

pub found_is_longest : (text : List ℕ) (f : Form) (n : ℕ) → head_of text ≡ head.Found f n → IsFound f n text
found_is_longest text f n is = subst (λ h. IsTold h text) is (head_told text)

pub broken_for : (text : List ℕ) → head_of text ≡ head.Broken → IsUnclosed text ⊎ (IsSpoiled text ⊎ BeginsNone text)
broken_for text is = subst (λ h. IsTold h text) is (head_told text)
