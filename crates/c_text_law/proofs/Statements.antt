-- The tokens of statements.
use Rattle.std.proofs.Common.{◌≡◌, ℕ, zero, suc, ◌<◌, ◌^◌, ◌∙◌, List, [], ◌∷◌, ◌++◌, decimal, codes, flat_map, refl, sym, ap, append_assoc}
use Rattle.tor_edge.specs.declared.place.Place.{Place}
use Rattle.c_tree.specs.declared.CExpr.{CExpr}
use Rattle.c_tree.specs.declared.CIndex.{CIndex}
use Rattle.c_tree.specs.declared.CIndex.TheVariants as index
use Rattle.c_tree.specs.declared.CLow.{CLow}
use Rattle.c_tree.specs.declared.CLow.TheVariants as low
use Rattle.c_tree.specs.declared.CStmt.{CStmt}
use Rattle.c_tree.specs.declared.CStmt.TheVariants as s
use Rattle.c_text.specs.CText.{expression_text, index_text, low_text, indentation, inner_depth, statement_text, statements_text}
use Rattle.c_text.proofs.Trees.{inner_text, statement-assign, statement-let, statement-for}
use Rattle.c_tokens.specs.declared.head.Form.TheVariants as form
use Rattle.c_tokens.specs.declared.token.Keyword.TheVariants as keyword
use Rattle.c_tokens.specs.declared.token.Sign.TheVariants as sign
use Rattle.c_tokens.specs.declared.token.Token.{Token}
use Rattle.c_tokens.specs.declared.token.TokenKind.{TokenKind}
use Rattle.c_tokens.specs.declared.token.TokenKind.TheVariants as kind
use Rattle.c_subset.specs.Expressions.{IsEx, IsIdx, IsLow, number_low, after_low, name_idx, number_idx}
use Rattle.c_subset.specs.Statements.{IsStmt, IsStmts, no_stmt, next_stmt, assign, declare, for_counter}
use Rattle.c_text_law.proofs.Reading.{Reads, Seq, done, more, Reads-as, Reads-is, Reads-blank, Reads-token}
use Rattle.c_text_law.proofs.Reading.{Reads-number, Reads-name, Reads-sign, Reads-done, IsName}
use Rattle.c_text_law.proofs.Expressions.{ThenEx, ReadsEx, ReadsIdx, name_index, number_index, idx_reads}

-- a text is read behind blanks
pub indentation_reads : (depth : ℕ) (rest : List ℕ) (P : List Token → Type 0) → Reads rest P
    → Reads (indentation depth ++ rest) P
indentation_reads zero rest P reads = reads
indentation_reads (suc depth) rest P reads =
    Reads-blank 32 (32 ∷ (indentation depth ++ rest)) P refl
    (Reads-blank 32 (indentation depth ++ rest) P refl (indentation_reads depth rest P reads))

-- tokens are this statement, or these, and then tokens for which P holds
abbrev pub ThenStmt : ℕ → CStmt → (List Token → Type 0) → List Token → Type 0
ThenStmt loops t P tokens = (after : List Token) × (IsStmt loops tokens t after × P after)

abbrev pub ThenStmts : ℕ → List CStmt → (List Token → Type 0) → List Token → Type 0
ThenStmts loops ts P tokens = (after : List Token) × (IsStmts loops tokens ts after × P after)

abbrev pub ReadsStmt : ℕ → ℕ → CStmt → Type 1
ReadsStmt loops depth t = (rest : List ℕ) (P : List Token → Type 0) → Reads rest P
    → Reads (statement_text t depth ++ rest) (ThenStmt loops t P)

abbrev pub ReadsStmts : ℕ → ℕ → List CStmt → Type 1
ReadsStmts loops depth ts = (rest : List ℕ) (P : List Token → Type 0) → Reads rest P
    → Reads (statements_text depth ts ++ rest) (ThenStmts loops ts P)

pub no_stmt_reads : (loops depth : ℕ) → ReadsStmts loops depth []
no_stmt_reads loops depth rest P reads = Reads-as rest P (ThenStmts loops [] P) (λ tokens holds. (tokens, (no_stmt, holds))) reads

next_of : (loops : ℕ) (t : CStmt) (ts : List CStmt) (P : List Token → Type 0) (tokens : List Token)
    → ThenStmt loops t (ThenStmts loops ts P) tokens → ThenStmts loops (t ∷ ts) P tokens
next_of loops t ts P tokens then = (then.1.1.0, (next_stmt then.1.0 then.1.1.1.0, then.1.1.1.1))

pub next_stmt_reads : (loops depth : ℕ) (t : CStmt) (ts : List CStmt) → ReadsStmt loops depth t
    → ReadsStmts loops depth ts → ReadsStmts loops depth (t ∷ ts)
next_stmt_reads loops depth t ts first others rest P reads =
    Reads-is (statement_text t depth ++ (statements_text depth ts ++ rest)) (statements_text depth (t ∷ ts) ++ rest)
    (ThenStmts loops (t ∷ ts) P)
    (sym (append_assoc (statement_text t depth) (statements_text depth ts) rest))
    (Reads-as _ (ThenStmt loops t (ThenStmts loops ts P)) (ThenStmts loops (t ∷ ts) P) (next_of loops t ts P)
    (first (statements_text depth ts ++ rest) (ThenStmts loops ts P) (others rest P reads)))

-- `;` and the end of a line
end_reads : (rest : List ℕ) (P : List Token → Type 0) → Reads rest P
    → Reads (59 ∷ 10 ∷ rest) (Seq P (kind.Sign sign.Semicolon ∷ []))
end_reads rest P reads =
    Reads-sign 59 sign.Semicolon (10 ∷ rest) [] P refl
    (Reads-done (10 ∷ rest) P (Reads-blank 10 rest P refl reads))

-- `uint64_t NAME = VALUE;`

let_parts : (blanks name value rest : List ℕ)
    → (blanks ++ codes "uint64_t " ++ name ++ codes " = " ++ value ++ codes ";\n") ++ rest
    ≡ blanks ++ (codes "uint64_t " ++ (name ++ 32 ∷ 61 ∷ 32 ∷ (value ++ 59 ∷ 10 ∷ rest)))
let_parts blanks name value rest = simp append_assoc

let_end : (loops : ℕ) (name : List ℕ) (value : CExpr) (P : List Token → Type 0) (p1 p2 p3 : Place)
    (tokens after : List Token) → IsEx 128 tokens value after → Seq P (kind.Sign sign.Semicolon ∷ []) after
    → ThenStmt loops (s.Let name value) P
    (record { kind = kind.Keyword keyword.Word; place = p1 } ∷ record { kind = kind.Name name; place = p2 }
    ∷ record { kind = kind.Sign sign.Equals; place = p3 } ∷ tokens)
let_end loops name value P p1 p2 p3 tokens _ is (more p (done {tokens = rest} holds)) = (rest, (declare is, holds))

let_of : (loops : ℕ) (name : List ℕ) (value : CExpr) (P : List Token → Type 0) (tokens : List Token)
    → Seq (ThenEx 128 value (Seq P (kind.Sign sign.Semicolon ∷ [])))
    (kind.Keyword keyword.Word ∷ kind.Name name ∷ kind.Sign sign.Equals ∷ []) tokens
    → ThenStmt loops (s.Let name value) P tokens
let_of loops name value P _ (more p1 (more p2 (more p3 (done {tokens = tokens} then)))) =
    let_end loops name value P p1 p2 p3 tokens then.0 then.1.0 then.1.1

pub let_reads : (loops depth : ℕ) (name : List ℕ) (value : CExpr) → IsName name → ReadsEx 128 value
    → ReadsStmt loops depth (s.Let name value)
let_reads loops depth name value is reads_value rest P reads =
    let line = expression_text value ++ 59 ∷ 10 ∷ rest in
    let Q = ThenEx 128 value (Seq P (kind.Sign sign.Semicolon ∷ [])) in
    Reads-is (indentation depth ++ (codes "uint64_t " ++ (name ++ 32 ∷ 61 ∷ 32 ∷ line)))
    (statement_text (s.Let name value) depth ++ rest) (ThenStmt loops (s.Let name value) P)
    (sym (ap (λ (t : List ℕ). t ++ rest) (statement-let (s.Let name value) name value depth refl)
    ∙ let_parts (indentation depth) name (expression_text value) rest))
    (indentation_reads depth _ (ThenStmt loops (s.Let name value) P)
    (Reads-as (codes "uint64_t " ++ (name ++ 32 ∷ 61 ∷ 32 ∷ line)) _ (ThenStmt loops (s.Let name value) P)
    (let_of loops name value P)
    (Reads-token (codes "uint64_t " ++ (name ++ 32 ∷ 61 ∷ 32 ∷ line)) (codes "uint64_t")
    (32 ∷ (name ++ 32 ∷ 61 ∷ 32 ∷ line)) 8 form.Word (kind.Keyword keyword.Word) _ Q refl refl refl refl
    (Reads-blank 32 (name ++ 32 ∷ 61 ∷ 32 ∷ line) _ refl
    (Reads-name name 32 (61 ∷ 32 ∷ line) _ Q is refl
    (Reads-blank 32 (61 ∷ 32 ∷ line) _ refl
    (Reads-sign 61 sign.Equals (32 ∷ line) [] Q refl
    (Reads-done (32 ∷ line) Q
    (Reads-blank 32 line Q refl
    (reads_value 59 (10 ∷ rest) (Seq P (kind.Sign sign.Semicolon ∷ [])) refl (end_reads rest P reads)))))))))))

-- `NAME[INDEX] = (reg)VALUE;`

assign_parts : (blanks name inside value rest : List ℕ)
    → (blanks ++ (name ++ codes "[" ++ inside ++ codes "]") ++ codes " = (reg)" ++ value ++ codes ";\n") ++ rest
    ≡ blanks ++ (name ++ (91 ∷ inside ++ 93 ∷ (codes " = (reg)" ++ (value ++ 59 ∷ 10 ∷ rest))))
assign_parts blanks name inside value rest = simp append_assoc

-- the tokens of an assignment before its value
abbrev assign_head : List ℕ → TokenKind → List TokenKind
assign_head array k =
    kind.Name array ∷ kind.Sign sign.OpenSquare ∷ k ∷ kind.Sign sign.CloseSquare ∷ kind.Sign sign.Equals
    ∷ kind.Sign sign.OpenRound ∷ kind.Keyword keyword.Reg ∷ kind.Sign sign.CloseRound ∷ []

assign_end : (loops : ℕ) (array : List ℕ) (i : CIndex) (value : CExpr) (P : List Token → Type 0) (t : Token)
    (p1 p2 p4 p5 p6 p7 p8 : Place) (tokens after : List Token) → IsIdx t i → IsEx 128 tokens value after
    → Seq P (kind.Sign sign.Semicolon ∷ []) after
    → ThenStmt loops (s.Assign array i value) P
    (record { kind = kind.Name array; place = p1 } ∷ record { kind = kind.Sign sign.OpenSquare; place = p2 } ∷ t
    ∷ record { kind = kind.Sign sign.CloseSquare; place = p4 } ∷ record { kind = kind.Sign sign.Equals; place = p5 }
    ∷ record { kind = kind.Sign sign.OpenRound; place = p6 } ∷ record { kind = kind.Keyword keyword.Reg; place = p7 }
    ∷ record { kind = kind.Sign sign.CloseRound; place = p8 } ∷ tokens)
assign_end loops array i value P t p1 p2 p4 p5 p6 p7 p8 tokens _ idx is (more p (done {tokens = rest} holds)) =
    (rest, (assign idx is, holds))

assign_of_name : (loops : ℕ) (array text : List ℕ) (value : CExpr) (P : List Token → Type 0) (tokens : List Token)
    → Seq (ThenEx 128 value (Seq P (kind.Sign sign.Semicolon ∷ []))) (assign_head array (kind.Name text)) tokens
    → ThenStmt loops (s.Assign array (index.Counter text) value) P tokens
assign_of_name loops array text value P _
    (more p1 (more p2 (more p3 (more p4 (more p5 (more p6 (more p7 (more p8 (done {tokens = tokens} then))))))))) =
    assign_end loops array (index.Counter text) value P _ p1 p2 p4 p5 p6 p7 p8 tokens then.0 (name_idx {at = p3}) then.1.0
    then.1.1

assign_of_number : (loops : ℕ) (array : List ℕ) (n : ℕ) (value : CExpr) (P : List Token → Type 0) (tokens : List Token)
    → Seq (ThenEx 128 value (Seq P (kind.Sign sign.Semicolon ∷ []))) (assign_head array (kind.Number n)) tokens
    → ThenStmt loops (s.Assign array (index.Number n) value) P tokens
assign_of_number loops array n value P _
    (more p1 (more p2 (more p3 (more p4 (more p5 (more p6 (more p7 (more p8 (done {tokens = tokens} then))))))))) =
    assign_end loops array (index.Number n) value P _ p1 p2 p4 p5 p6 p7 p8 tokens then.0 (number_idx {at = p3}) then.1.0
    then.1.1

assign_of : (loops : ℕ) (array : List ℕ) (i : CIndex) (k : TokenKind) (value : CExpr) (P : List Token → Type 0)
    (tokens : List Token) → ReadsIdx i k
    → Seq (ThenEx 128 value (Seq P (kind.Sign sign.Semicolon ∷ []))) (assign_head array k) tokens
    → ThenStmt loops (s.Assign array i value) P tokens
assign_of loops array _ _ value P tokens (name_index {text = text} is) seq = assign_of_name loops array text value P tokens seq
assign_of loops array _ _ value P tokens (number_index {n = n} fits) seq = assign_of_number loops array n value P tokens seq

pub assign_reads : (loops depth : ℕ) (array : List ℕ) (i : CIndex) (k : TokenKind) (value : CExpr) → IsName array
    → ReadsIdx i k → ReadsEx 128 value → ReadsStmt loops depth (s.Assign array i value)
assign_reads loops depth array i k value is idx reads_value rest P reads =
    let line = expression_text value ++ 59 ∷ 10 ∷ rest in
    let tail = codes " = (reg)" ++ line in
    let inner = 91 ∷ index_text i ++ 93 ∷ tail in
    let Q = ThenEx 128 value (Seq P (kind.Sign sign.Semicolon ∷ [])) in
    Reads-is (indentation depth ++ (array ++ inner)) (statement_text (s.Assign array i value) depth ++ rest)
    (ThenStmt loops (s.Assign array i value) P)
    (sym (ap (λ (t : List ℕ). t ++ rest) (statement-assign (s.Assign array i value) array i value depth refl)
    ∙ assign_parts (indentation depth) array (index_text i) (expression_text value) rest))
    (indentation_reads depth _ (ThenStmt loops (s.Assign array i value) P)
    (Reads-as (array ++ inner) _ (ThenStmt loops (s.Assign array i value) P)
    (λ tokens seq. assign_of loops array i k value P tokens idx seq)
    (Reads-name array 91 (index_text i ++ 93 ∷ tail) _ Q is refl
    (idx_reads i k idx tail _ Q
    (Reads-blank 32 (codes "= (reg)" ++ line) _ refl
    (Reads-sign 61 sign.Equals (codes " (reg)" ++ line) _ Q refl
    (Reads-blank 32 (codes "(reg)" ++ line) _ refl
    (Reads-sign 40 sign.OpenRound (codes "reg)" ++ line) _ Q refl
    (Reads-token (codes "reg)" ++ line) (codes "reg") (41 ∷ line) 3 form.Word (kind.Keyword keyword.Reg) _ Q refl refl
    refl refl
    (Reads-sign 41 sign.CloseRound line [] Q refl
    (Reads-done line Q
    (reads_value 59 (10 ∷ rest) (Seq P (kind.Sign sign.Semicolon ∷ [])) refl (end_reads rest P reads)))))))))))))

-- `for (unsigned COUNTER = LOW; COUNTER < D; COUNTER++) {` statements `}`

-- where a loop begins, and the tokens of it
pub data ReadsLow : CLow → List TokenKind → Type 0 where
  number_start : {n : ℕ} → n < 2 ^ 64 → ReadsLow (low.Number n) (kind.Number n ∷ [])
  after_start : {text : List ℕ} → IsName text
      → ReadsLow (low.After text) (kind.Name text ∷ kind.Sign sign.Plus ∷ kind.Number 1 ∷ [])

-- tokens are where a loop begins, and then tokens for which P holds
abbrev pub ThenLow : CLow → (List Token → Type 0) → List Token → Type 0
ThenLow l P tokens = (after : List Token) × (IsLow tokens l after × P after)

low_of_number : (n : ℕ) (P : List Token → Type 0) (tokens : List Token) → Seq P (kind.Number n ∷ []) tokens
    → ThenLow (low.Number n) P tokens
low_of_number n P _ (more p (done {tokens = after} holds)) = (after, (number_low, holds))

low_of_name : (text : List ℕ) (P : List Token → Type 0) (tokens : List Token)
    → Seq P (kind.Name text ∷ kind.Sign sign.Plus ∷ kind.Number 1 ∷ []) tokens → ThenLow (low.After text) P tokens
low_of_name text P _ (more p (more q (more r (done {tokens = after} holds)))) = (after, (after_low, holds))

after_parts : (text rest : List ℕ) → (text ++ codes " + 1") ++ 59 ∷ rest ≡ text ++ 32 ∷ 43 ∷ 32 ∷ 49 ∷ 59 ∷ rest
after_parts text rest = simp append_assoc

one_reads : (rest : List ℕ) (P : List Token → Type 0) → Reads (59 ∷ rest) P
    → Reads (49 ∷ 59 ∷ rest) (Seq P (kind.Number 1 ∷ []))
one_reads rest P reads =
    Reads-token (49 ∷ 59 ∷ rest) (49 ∷ []) (59 ∷ rest) 1 (form.Number 1) (kind.Number 1) [] P refl refl refl refl
    (Reads-done (59 ∷ rest) P reads)

pub low_reads : (l : CLow) (ks : List TokenKind) → ReadsLow l ks → (rest : List ℕ) (P : List Token → Type 0)
    → Reads (59 ∷ rest) P → Reads (low_text l ++ 59 ∷ rest) (ThenLow l P)
low_reads _ _ (number_start {n = n} fits) rest P reads =
    Reads-as (decimal n ++ 59 ∷ rest) (Seq P (kind.Number n ∷ [])) (ThenLow (low.Number n) P) (low_of_number n P)
    (Reads-number n 59 rest [] P fits (refl, refl) (Reads-done (59 ∷ rest) P reads))
low_reads _ _ (after_start {text = text} is) rest P reads =
    Reads-is (text ++ 32 ∷ 43 ∷ 32 ∷ 49 ∷ 59 ∷ rest) _ (ThenLow (low.After text) P) (sym (after_parts text rest))
    (Reads-as (text ++ 32 ∷ 43 ∷ 32 ∷ 49 ∷ 59 ∷ rest) _ (ThenLow (low.After text) P) (low_of_name text P)
    (Reads-name text 32 (43 ∷ 32 ∷ 49 ∷ 59 ∷ rest) _ P is refl
    (Reads-blank 32 (43 ∷ 32 ∷ 49 ∷ 59 ∷ rest) _ refl
    (Reads-sign 43 sign.Plus (32 ∷ 49 ∷ 59 ∷ rest) _ P refl
    (Reads-blank 32 (49 ∷ 59 ∷ rest) _ refl (one_reads rest P reads))))))

-- the tokens of a loop's first line before and behind where it begins
abbrev for_head : List ℕ → List TokenKind
for_head counter =
    kind.Keyword keyword.For ∷ kind.Sign sign.OpenRound ∷ kind.Keyword keyword.Unsigned ∷ kind.Name counter
    ∷ kind.Sign sign.Equals ∷ []

abbrev for_tail : List ℕ → List TokenKind
for_tail counter =
    kind.Sign sign.Semicolon ∷ kind.Name counter ∷ kind.Sign sign.Less ∷ kind.Keyword keyword.Shares
    ∷ kind.Sign sign.Semicolon ∷ kind.Name counter ∷ kind.Sign sign.PlusPlus ∷ kind.Sign sign.CloseRound
    ∷ kind.Sign sign.OpenCurly ∷ []

abbrev AfterLow : ℕ → List ℕ → List CStmt → (List Token → Type 0) → List Token → Type 0
AfterLow loops counter body P = Seq (ThenStmts loops body (Seq P (kind.Sign sign.CloseCurly ∷ []))) (for_tail counter)

abbrev Before : List ℕ → (p1 p2 p3 p4 p5 : Place) → List Token → List Token
Before counter p1 p2 p3 p4 p5 tokens =
    record { kind = kind.Keyword keyword.For; place = p1 } ∷ record { kind = kind.Sign sign.OpenRound; place = p2 }
    ∷ record { kind = kind.Keyword keyword.Unsigned; place = p3 } ∷ record { kind = kind.Name counter; place = p4 }
    ∷ record { kind = kind.Sign sign.Equals; place = p5 } ∷ tokens

abbrev Behind : List ℕ → (q1 q2 q3 q4 q5 q6 q7 q8 q9 : Place) → List Token → List Token
Behind counter q1 q2 q3 q4 q5 q6 q7 q8 q9 tokens =
    record { kind = kind.Sign sign.Semicolon; place = q1 } ∷ record { kind = kind.Name counter; place = q2 }
    ∷ record { kind = kind.Sign sign.Less; place = q3 } ∷ record { kind = kind.Keyword keyword.Shares; place = q4 }
    ∷ record { kind = kind.Sign sign.Semicolon; place = q5 } ∷ record { kind = kind.Name counter; place = q6 }
    ∷ record { kind = kind.Sign sign.PlusPlus; place = q7 } ∷ record { kind = kind.Sign sign.CloseRound; place = q8 }
    ∷ record { kind = kind.Sign sign.OpenCurly; place = q9 } ∷ tokens

for_end : (loops : ℕ) (counter : List ℕ) (l : CLow) (body : List CStmt) (P : List Token → Type 0)
    (p1 p2 p3 p4 p5 q1 q2 q3 q4 q5 q6 q7 q8 q9 : Place) (tokens b c : List Token)
    → IsLow tokens l (Behind counter q1 q2 q3 q4 q5 q6 q7 q8 q9 b) → IsStmts loops b body c
    → Seq P (kind.Sign sign.CloseCurly ∷ []) c
    → ThenStmt (suc loops) (s.For counter l body) P (Before counter p1 p2 p3 p4 p5 tokens)
for_end loops counter l body P p1 p2 p3 p4 p5 q1 q2 q3 q4 q5 q6 q7 q8 q9 tokens b _ is_low is_body
    (more r (done {tokens = rest} holds)) =
    (rest, (for_counter is_low is_body, holds))

for_middle : (loops : ℕ) (counter : List ℕ) (l : CLow) (body : List CStmt) (P : List Token → Type 0)
    (p1 p2 p3 p4 p5 : Place) (tokens a : List Token) → IsLow tokens l a → AfterLow loops counter body P a
    → ThenStmt (suc loops) (s.For counter l body) P (Before counter p1 p2 p3 p4 p5 tokens)
for_middle loops counter l body P p1 p2 p3 p4 p5 tokens _ is_low
    (more q1 (more q2 (more q3 (more q4 (more q5 (more q6 (more q7 (more q8 (more q9 (done {tokens = b} then)))))))))) =
    for_end loops counter l body P p1 p2 p3 p4 p5 q1 q2 q3 q4 q5 q6 q7 q8 q9 tokens b then.0 is_low then.1.0 then.1.1

for_of : (loops : ℕ) (counter : List ℕ) (l : CLow) (body : List CStmt) (P : List Token → Type 0) (tokens : List Token)
    → Seq (ThenLow l (AfterLow loops counter body P)) (for_head counter) tokens
    → ThenStmt (suc loops) (s.For counter l body) P tokens
for_of loops counter l body P _ (more p1 (more p2 (more p3 (more p4 (more p5 (done {tokens = tokens} then)))))) =
    for_middle loops counter l body P p1 p2 p3 p4 p5 tokens then.0 then.1.0 then.1.1

for_parts : (blanks counter start body rest : List ℕ)
    → (blanks ++ (codes "for (unsigned " ++ counter ++ codes " = " ++ start ++ codes "; " ++ counter ++ codes " < D; "
    ++ counter ++ codes "++) {\n") ++ body ++ blanks ++ codes "}\n") ++ rest
    ≡ blanks ++ (codes "for (unsigned " ++ (counter ++ (codes " = " ++ (start ++ (codes "; " ++ (counter
    ++ (codes " < D; " ++ (counter ++ (codes "++) {\n" ++ (body ++ (blanks ++ (codes "}\n" ++ rest))))))))))))
for_parts blanks counter start body rest = simp append_assoc

-- the first line of a loop behind where it begins
for_tail_reads : (counter : List ℕ) (rest : List ℕ) (P : List Token → Type 0) → IsName counter → Reads rest P
    → Reads (codes "; " ++ (counter ++ (codes " < D; " ++ (counter ++ (codes "++) {\n" ++ rest))))) (Seq P (for_tail counter))
for_tail_reads counter rest P is reads =
    let third = counter ++ (codes "++) {\n" ++ rest) in
    let second = counter ++ (codes " < D; " ++ third) in
    Reads-sign 59 sign.Semicolon (32 ∷ second) _ P refl
    (Reads-blank 32 second _ refl
    (Reads-name counter 32 (codes "< D; " ++ third) _ P is refl
    (Reads-blank 32 (codes "< D; " ++ third) _ refl
    (Reads-sign 60 sign.Less (codes " D; " ++ third) _ P refl
    (Reads-blank 32 (codes "D; " ++ third) _ refl
    (Reads-token (codes "D; " ++ third) (codes "D") (codes "; " ++ third) 1 form.Word (kind.Keyword keyword.Shares) _ P
    refl refl refl refl
    (Reads-sign 59 sign.Semicolon (32 ∷ third) _ P refl
    (Reads-blank 32 third _ refl
    (Reads-name counter 43 (codes "+) {\n" ++ rest) _ P is refl
    (Reads-token (codes "++) {\n" ++ rest) (codes "++") (codes ") {\n" ++ rest) 2 (form.Sign sign.PlusPlus)
    (kind.Sign sign.PlusPlus) _ P refl refl refl refl
    (Reads-sign 41 sign.CloseRound (codes " {\n" ++ rest) _ P refl
    (Reads-blank 32 (codes "{\n" ++ rest) _ refl
    (Reads-sign 123 sign.OpenCurly (10 ∷ rest) [] P refl
    (Reads-done (10 ∷ rest) P (Reads-blank 10 rest P refl reads)))))))))))))))

pub for_reads : (loops depth : ℕ) (counter : List ℕ) (l : CLow) (ks : List TokenKind) (body : List CStmt)
    → IsName counter → ReadsLow l ks → ReadsStmts loops (inner_depth depth) body
    → ReadsStmt (suc loops) depth (s.For counter l body)
for_reads loops depth counter l ks body is start reads_body rest P reads =
    let close = codes "}\n" ++ rest in
    let ending = indentation depth ++ close in
    let inside = statements_text (inner_depth depth) body ++ ending in
    let tail = counter ++ (codes " < D; " ++ (counter ++ (codes "++) {\n" ++ inside))) in
    let begin = low_text l ++ (codes "; " ++ tail) in
    let P5 = Seq P (kind.Sign sign.CloseCurly ∷ []) in
    let P3 = AfterLow loops counter body P in
    let P2 = ThenLow l P3 in
    Reads-is (indentation depth ++ (codes "for (unsigned " ++ (counter ++ (codes " = " ++ begin))))
    (statement_text (s.For counter l body) depth ++ rest) (ThenStmt (suc loops) (s.For counter l body) P)
    (sym (ap (λ (t : List ℕ). t ++ rest) (statement-for (s.For counter l body) counter l body depth refl)
    ∙ for_parts (indentation depth) counter (low_text l) (flat_map (inner_text depth) body) rest))
    (indentation_reads depth _ (ThenStmt (suc loops) (s.For counter l body) P)
    (Reads-as (codes "for (unsigned " ++ (counter ++ (codes " = " ++ begin))) _ (ThenStmt (suc loops) (s.For counter l body) P)
    (for_of loops counter l body P)
    (Reads-token (codes "for (unsigned " ++ (counter ++ (codes " = " ++ begin))) (codes "for")
    (codes " (unsigned " ++ (counter ++ (codes " = " ++ begin))) 3 form.Word (kind.Keyword keyword.For) _ P2 refl refl refl refl
    (Reads-blank 32 (codes "(unsigned " ++ (counter ++ (codes " = " ++ begin))) _ refl
    (Reads-sign 40 sign.OpenRound (codes "unsigned " ++ (counter ++ (codes " = " ++ begin))) _ P2 refl
    (Reads-token (codes "unsigned " ++ (counter ++ (codes " = " ++ begin))) (codes "unsigned")
    (32 ∷ (counter ++ (codes " = " ++ begin))) 8 form.Word (kind.Keyword keyword.Unsigned) _ P2 refl refl refl refl
    (Reads-blank 32 (counter ++ (codes " = " ++ begin)) _ refl
    (Reads-name counter 32 (codes "= " ++ begin) _ P2 is refl
    (Reads-blank 32 (codes "= " ++ begin) _ refl
    (Reads-sign 61 sign.Equals (32 ∷ begin) [] P2 refl
    (Reads-done (32 ∷ begin) P2
    (Reads-blank 32 begin P2 refl
    (low_reads l ks start (32 ∷ tail) P3
    (for_tail_reads counter inside (ThenStmts loops body P5) is
    (reads_body ending P5
    (indentation_reads depth close P5
    (Reads-sign 125 sign.CloseCurly (10 ∷ rest) [] P refl
    (Reads-done (10 ∷ rest) P (Reads-blank 10 rest P refl reads)))))))))))))))))))
