-- The tokens of expressions.
use Rattle.std.proofs.Common.{◌≡◌, ℕ, suc, ◌<◌, ◌^◌, ◌∙◌, false, List, [], ◌∷◌, ◌++◌, take, drop, decimal, codes, refl, sym, ap, append_assoc}
use Rattle.c_tree.specs.declared.CExpr.{CExpr}
use Rattle.c_tree.specs.declared.CExpr.TheVariants as e
use Rattle.c_tree.specs.declared.CIndex.{CIndex}
use Rattle.c_tree.specs.declared.CIndex.TheVariants as index
use Rattle.tor_edge.specs.declared.place.Place.{Place}
use Rattle.c_tree.specs.declared.COp.{COp}
use Rattle.c_tree.specs.declared.COp.TheVariants as op
use Rattle.c_text.specs.CText.{expression_text, operator_text, index_text}
use Rattle.c_text.proofs.Trees.{expression-cell, expression-word, expression-number, expression-random, expression-two}
use Rattle.c_tokens.specs.Heads.{head_of, continues_word}
use Rattle.c_tokens.specs.declared.head.Form.TheVariants as form
use Rattle.c_tokens.specs.declared.head.Head.TheVariants as head
use Rattle.c_tokens.specs.declared.token.Keyword.TheVariants as keyword
use Rattle.c_tokens.specs.declared.token.Sign.{Sign}
use Rattle.c_tokens.specs.declared.token.Sign.TheVariants as sign
use Rattle.c_tokens.specs.declared.token.Token.{Token}
use Rattle.c_tokens.specs.declared.token.TokenKind.{TokenKind}
use Rattle.c_tokens.specs.declared.token.TokenKind.TheVariants as kind
use Rattle.c_subset.specs.Expressions.{IsEx, cell, word_ex, number_ex, random_ex, two, IsOp, xor, and, or, shift_left, shift_right, minus, name_idx, number_idx}
use Rattle.c_text_law.proofs.Reading.{Reads, Seq, done, more, Reads-as, Reads-is, Reads-blank, Reads-token}
use Rattle.c_text_law.proofs.Reading.{Reads-number, Reads-name, Reads-sign, Reads-done, IsName}

-- tokens are this expression, and then tokens for which P holds
abbrev pub ThenEx : ℕ → CExpr → (List Token → Type 0) → List Token → Type 0
ThenEx room e P tokens = (after : List Token) × (IsEx room tokens e after × P after)

-- the expression's text spells it before each byte that no word goes on with
abbrev pub ReadsEx : ℕ → CExpr → Type 1
ReadsEx room e = (b : ℕ) (rest : List ℕ) (P : List Token → Type 0) → continues_word b ≡ false → Reads (b ∷ rest) P
    → Reads (expression_text e ++ b ∷ rest) (ThenEx room e P)

-- `[INDEX]`, where the index is a name or a number
pub data ReadsIdx : CIndex → TokenKind → Type 0 where
  name_index : {text : List ℕ} → IsName text → ReadsIdx (index.Counter text) (kind.Name text)
  number_index : {n : ℕ} → n < 2 ^ 64 → ReadsIdx (index.Number n) (kind.Number n)

pub idx_reads : (i : CIndex) (k : TokenKind) → ReadsIdx i k → (rest : List ℕ) (ks : List TokenKind)
    (P : List Token → Type 0) → Reads rest (Seq P ks)
    → Reads (91 ∷ index_text i ++ 93 ∷ rest) (Seq P (kind.Sign sign.OpenSquare ∷ k ∷ kind.Sign sign.CloseSquare ∷ ks))
idx_reads _ _ (name_index {text = text} is) rest ks P reads =
    Reads-sign 91 sign.OpenSquare (text ++ 93 ∷ rest) _ P refl
    (Reads-name text 93 rest _ P is refl (Reads-sign 93 sign.CloseSquare rest ks P refl reads))
idx_reads _ _ (number_index {n = n} fits) rest ks P reads =
    Reads-sign 91 sign.OpenSquare (decimal n ++ 93 ∷ rest) _ P refl
    (Reads-number n 93 rest _ P fits (refl, refl) (Reads-sign 93 sign.CloseSquare rest ks P refl reads))

-- `(uint64_t)ARRAY[INDEX]`

cell_parts : (array inside : List ℕ) (rest : List ℕ)
    → (codes "(uint64_t)" ++ (array ++ codes "[" ++ inside ++ codes "]")) ++ rest
    ≡ codes "(uint64_t)" ++ (array ++ (91 ∷ inside ++ 93 ∷ rest))
cell_parts array inside rest = simp append_assoc

cell_of : (room : ℕ) (array : List ℕ) (i : CIndex) (k : TokenKind) (P : List Token → Type 0) (tokens : List Token)
    → ReadsIdx i k
    → Seq P (kind.Sign sign.OpenRound ∷ kind.Keyword keyword.Word ∷ kind.Sign sign.CloseRound ∷ kind.Name array
    ∷ kind.Sign sign.OpenSquare ∷ k ∷ kind.Sign sign.CloseSquare ∷ []) tokens
    → ThenEx room (e.Cell array i) P tokens
cell_of room array _ _ P _ (name_index is)
    (more p1 (more p2 (more p3 (more p4 (more p5 (more p6 (more p7 (done {tokens = after} holds)))))))) =
    (after, (cell name_idx, holds))
cell_of room array _ _ P _ (number_index fits)
    (more p1 (more p2 (more p3 (more p4 (more p5 (more p6 (more p7 (done {tokens = after} holds)))))))) =
    (after, (cell number_idx, holds))

pub cell_reads : (room : ℕ) (array : List ℕ) (i : CIndex) (k : TokenKind) → IsName array → ReadsIdx i k
    → ReadsEx room (e.Cell array i)
cell_reads room array i k is idx b rest P stops reads =
    let after = b ∷ rest in
    let inner = 91 ∷ index_text i ++ 93 ∷ after in
    Reads-is (codes "(uint64_t)" ++ (array ++ inner)) (expression_text (e.Cell array i) ++ after)
    (ThenEx room (e.Cell array i) P)
    (sym (ap (λ (t : List ℕ). t ++ after) (expression-cell (e.Cell array i) array i refl)
    ∙ cell_parts array (index_text i) after))
    (Reads-as (codes "(uint64_t)" ++ (array ++ inner)) _ (ThenEx room (e.Cell array i) P)
    (λ tokens seq. cell_of room array i k P tokens idx seq)
    (Reads-sign 40 sign.OpenRound (codes "uint64_t)" ++ (array ++ inner)) _ P refl
    (Reads-token (codes "uint64_t)" ++ (array ++ inner)) (codes "uint64_t") (41 ∷ (array ++ inner)) 8 form.Word
    (kind.Keyword keyword.Word) _ P refl refl refl refl
    (Reads-sign 41 sign.CloseRound (array ++ inner) _ P refl
    (Reads-name array 91 (index_text i ++ 93 ∷ after) _ P is refl
    (idx_reads i k idx after [] P (Reads-done after P reads)))))))

-- NAME

word_of : (room : ℕ) (text : List ℕ) (P : List Token → Type 0) (tokens : List Token) → Seq P (kind.Name text ∷ []) tokens
    → ThenEx room (e.Word text) P tokens
word_of room text P _ (more p (done {tokens = after} holds)) = (after, (word_ex, holds))

pub word_reads : (room : ℕ) (text : List ℕ) → IsName text → ReadsEx room (e.Word text)
word_reads room text is b rest P stops reads =
    Reads-is (text ++ b ∷ rest) (expression_text (e.Word text) ++ b ∷ rest) (ThenEx room (e.Word text) P)
    (sym (ap (λ (t : List ℕ). t ++ b ∷ rest) (expression-word (e.Word text) text refl)))
    (Reads-as (text ++ b ∷ rest) _ (ThenEx room (e.Word text) P) (word_of room text P)
    (Reads-name text b rest [] P is stops (Reads-done (b ∷ rest) P reads)))

-- `UINT64_C(N)`

number_parts : (digits rest : List ℕ) → (codes "UINT64_C(" ++ digits ++ codes ")") ++ rest
    ≡ codes "UINT64_C(" ++ (digits ++ 41 ∷ rest)
number_parts digits rest = simp append_assoc

number_of : (room n : ℕ) (P : List Token → Type 0) (tokens : List Token)
    → Seq P (kind.Keyword keyword.Constant ∷ kind.Sign sign.OpenRound ∷ kind.Number n ∷ kind.Sign sign.CloseRound ∷ []) tokens
    → ThenEx room (e.Number n) P tokens
number_of room n P _ (more p1 (more p2 (more p3 (more p4 (done {tokens = after} holds))))) = (after, (number_ex, holds))

pub number_reads : (room n : ℕ) → n < 2 ^ 64 → ReadsEx room (e.Number n)
number_reads room n fits b rest P stops reads =
    Reads-is (codes "UINT64_C(" ++ (decimal n ++ 41 ∷ b ∷ rest)) (expression_text (e.Number n) ++ b ∷ rest)
    (ThenEx room (e.Number n) P)
    (sym (ap (λ (t : List ℕ). t ++ b ∷ rest) (expression-number (e.Number n) n refl)
    ∙ number_parts (decimal n) (b ∷ rest)))
    (Reads-as (codes "UINT64_C(" ++ (decimal n ++ 41 ∷ b ∷ rest)) _ (ThenEx room (e.Number n) P) (number_of room n P)
    (Reads-token (codes "UINT64_C(" ++ (decimal n ++ 41 ∷ b ∷ rest)) (codes "UINT64_C")
    (40 ∷ (decimal n ++ 41 ∷ b ∷ rest)) 8 form.Word (kind.Keyword keyword.Constant) _ P refl refl refl refl
    (Reads-sign 40 sign.OpenRound (decimal n ++ 41 ∷ b ∷ rest) _ P refl
    (Reads-number n 41 (b ∷ rest) _ P fits (refl, refl)
    (Reads-sign 41 sign.CloseRound (b ∷ rest) [] P refl (Reads-done (b ∷ rest) P reads))))))

-- `tornado_random()`

random_of : (room : ℕ) (P : List Token → Type 0) (tokens : List Token)
    → Seq P (kind.Keyword keyword.Random ∷ kind.Sign sign.OpenRound ∷ kind.Sign sign.CloseRound ∷ []) tokens
    → ThenEx room e.Random P tokens
random_of room P _ (more p1 (more p2 (more p3 (done {tokens = after} holds)))) = (after, (random_ex, holds))

pub random_reads : (room : ℕ) → ReadsEx room e.Random
random_reads room b rest P stops reads =
    Reads-is (codes "tornado_random()" ++ b ∷ rest) (expression_text e.Random ++ b ∷ rest) (ThenEx room e.Random P)
    (sym (ap (λ (t : List ℕ). t ++ b ∷ rest) (expression-random e.Random refl)))
    (Reads-as (codes "tornado_random()" ++ b ∷ rest) _ (ThenEx room e.Random P) (random_of room P)
    (Reads-token (codes "tornado_random()" ++ b ∷ rest) (codes "tornado_random") (40 ∷ 41 ∷ b ∷ rest) 14 form.Word
    (kind.Keyword keyword.Random) _ P refl refl refl refl
    (Reads-sign 40 sign.OpenRound (41 ∷ b ∷ rest) _ P refl
    (Reads-sign 41 sign.CloseRound (b ∷ rest) [] P refl (Reads-done (b ∷ rest) P reads)))))

-- `(LEFT OP RIGHT)`

-- an operator's sign before a blank
pub record ReadsOp (o : COp) (s : Sign) : Type 0 where
  pub length_of : ℕ
  pub found : (rest : List ℕ) → head_of (operator_text o ++ 32 ∷ rest) ≡ head.Found (form.Sign s) length_of
  pub taken : (rest : List ℕ) → take length_of (operator_text o ++ 32 ∷ rest) ≡ operator_text o
  pub dropped : (rest : List ℕ) → drop length_of (operator_text o ++ 32 ∷ rest) ≡ 32 ∷ rest
  pub is : IsOp s o

two_parts : (left op right rest : List ℕ)
    → (codes "(" ++ left ++ codes " " ++ op ++ codes " " ++ right ++ codes ")") ++ rest
    ≡ 40 ∷ (left ++ 32 ∷ (op ++ 32 ∷ (right ++ 41 ∷ rest)))
two_parts left op right rest = simp append_assoc

two_end : (room : ℕ) (o : COp) (s : Sign) (left right : CExpr) (P : List Token → Type 0) (p q : Place)
    (tokens b c : List Token) → IsOp s o → IsEx room tokens left (record { kind = kind.Sign s; place = q } ∷ b)
    → IsEx room b right c → Seq P (kind.Sign sign.CloseRound ∷ []) c
    → ThenEx (suc room) (e.Two o left right) P (record { kind = kind.Sign sign.OpenRound; place = p } ∷ tokens)
two_end room o s left right P p q tokens b _ is left_is right_is (more r (done {tokens = after} holds)) =
    (after, (two is left_is right_is, holds))

two_middle : (room : ℕ) (o : COp) (s : Sign) (left right : CExpr) (P : List Token → Type 0) (p : Place)
    (tokens a : List Token) → IsOp s o → IsEx room tokens left a
    → Seq (ThenEx room right (Seq P (kind.Sign sign.CloseRound ∷ []))) (kind.Sign s ∷ []) a
    → ThenEx (suc room) (e.Two o left right) P (record { kind = kind.Sign sign.OpenRound; place = p } ∷ tokens)
two_middle room o s left right P p tokens _ is left_is (more q (done {tokens = b} then)) =
    two_end room o s left right P p q tokens b then.0 is left_is then.1.0 then.1.1

two_of : (room : ℕ) (o : COp) (s : Sign) (left right : CExpr) (P : List Token → Type 0) (tokens : List Token) → IsOp s o
    → Seq (ThenEx room left (Seq (ThenEx room right (Seq P (kind.Sign sign.CloseRound ∷ []))) (kind.Sign s ∷ [])))
    (kind.Sign sign.OpenRound ∷ []) tokens
    → ThenEx (suc room) (e.Two o left right) P tokens
two_of room o s left right P _ is (more p (done {tokens = tokens} then)) =
    two_middle room o s left right P p tokens then.0 is then.1.0 then.1.1

pub two_reads : (room : ℕ) (o : COp) (s : Sign) (left right : CExpr) → ReadsOp o s → ReadsEx room left
    → ReadsEx room right → ReadsEx (suc room) (e.Two o left right)
two_reads room o s left right op reads_left reads_right b rest P stops reads =
    let after = b ∷ rest in
    let close = 41 ∷ after in
    let second = expression_text right ++ close in
    let middle = operator_text o ++ 32 ∷ second in
    let P3 = Seq P (kind.Sign sign.CloseRound ∷ []) in
    let P2 = ThenEx room right P3 in
    let P1 = Seq P2 (kind.Sign s ∷ []) in
    Reads-is (40 ∷ (expression_text left ++ 32 ∷ middle)) (expression_text (e.Two o left right) ++ after)
    (ThenEx (suc room) (e.Two o left right) P)
    (sym (ap (λ (t : List ℕ). t ++ after) (expression-two (e.Two o left right) o left right refl)
    ∙ two_parts (expression_text left) (operator_text o) (expression_text right) after))
    (Reads-as (40 ∷ (expression_text left ++ 32 ∷ middle))
    (Seq (ThenEx room left P1) (kind.Sign sign.OpenRound ∷ [])) (ThenEx (suc room) (e.Two o left right) P)
    (λ tokens seq. two_of room o s left right P tokens op.is seq)
    (Reads-sign 40 sign.OpenRound (expression_text left ++ 32 ∷ middle) [] (ThenEx room left P1) refl
    (Reads-done (expression_text left ++ 32 ∷ middle) (ThenEx room left P1)
    (reads_left 32 middle P1 refl
    (Reads-blank 32 middle P1 refl
    (Reads-token middle (operator_text o) (32 ∷ second) op.length_of (form.Sign s) (kind.Sign s) [] P2
    (op.found second) (op.taken second) (op.dropped second) refl
    (Reads-done (32 ∷ second) P2
    (Reads-blank 32 second P2 refl
    (reads_right 41 after P3 refl
    (Reads-sign 41 sign.CloseRound after [] P refl (Reads-done after P reads)))))))))))

-- each operator's sign
pub xor_sign : ReadsOp op.Xor sign.Caret
xor_sign = record { length_of = 1; found = λ r. refl; taken = λ r. refl; dropped = λ r. refl; is = xor }

pub and_sign : ReadsOp op.And sign.Ampersand
and_sign = record { length_of = 1; found = λ r. refl; taken = λ r. refl; dropped = λ r. refl; is = and }

pub or_sign : ReadsOp op.Or sign.Bar
or_sign = record { length_of = 1; found = λ r. refl; taken = λ r. refl; dropped = λ r. refl; is = or }

pub shl_sign : ReadsOp op.Shl sign.ShiftLeft
shl_sign = record { length_of = 2; found = λ r. refl; taken = λ r. refl; dropped = λ r. refl; is = shift_left }

pub shr_sign : ReadsOp op.Shr sign.ShiftRight
shr_sign = record { length_of = 2; found = λ r. refl; taken = λ r. refl; dropped = λ r. refl; is = shift_right }

pub sub_sign : ReadsOp op.Sub sign.Minus
sub_sign = record { length_of = 1; found = λ r. refl; taken = λ r. refl; dropped = λ r. refl; is = minus }
