-- The tokens of gadgets.
use Rattle.std.proofs.Common.{◌≡◌, ℕ, false, List, [], ◌∷◌, ◌++◌, codes, flat_map, refl, sym, ap, append_assoc, append-nil}
use Rattle.tor_edge.specs.declared.place.Place.{Place}
use Rattle.c_tree.specs.declared.CFun.{CFun}
use Rattle.c_tree.specs.declared.CParam.{CParam}
use Rattle.c_tree.specs.declared.CParam.TheVariants as param
use Rattle.c_tree.specs.declared.CStmt.{CStmt}
use Rattle.c_text.specs.CText.{listed, further_text, parameter_text, gadget_text, statements_text}
use Rattle.c_tokens.specs.Heads.{continues_word}
use Rattle.c_tokens.specs.declared.head.Form.TheVariants as form
use Rattle.c_tokens.specs.declared.token.Keyword.TheVariants as keyword
use Rattle.c_tokens.specs.declared.token.Sign.TheVariants as sign
use Rattle.c_tokens.specs.declared.token.Token.{Token}
use Rattle.c_tokens.specs.declared.token.TokenKind.TheVariants as kind
use Rattle.c_subset.specs.Files.{IsParam, array_param, word_param, IsParams, last_param, next_param, IsGadget, gadget}
use Rattle.c_subset.specs.Files.{IsGadgets, no_gadget, next_gadget}
use Rattle.c_subset.specs.Statements.{IsStmts}
use Rattle.c_text_law.proofs.Reading.{Reads, Seq, done, more, Reads-as, Reads-is, Reads-blank, Reads-token}
use Rattle.c_text_law.proofs.Reading.{Reads-name, Reads-sign, Reads-done, IsName}
use Rattle.c_text_law.proofs.Statements.{ThenStmts, ReadsStmts}

-- tokens are this parameter, or these, and then tokens for which P holds
abbrev pub ThenParam : CParam → (List Token → Type 0) → List Token → Type 0
ThenParam p P tokens = (after : List Token) × (IsParam tokens p after × P after)

abbrev pub ThenParams : List CParam → (List Token → Type 0) → List Token → Type 0
ThenParams ps P tokens = (after : List Token) × (IsParams tokens ps after × P after)

-- a parameter's name is one
pub data ReadsParam : CParam → Type 0 where
  array_name : {text : List ℕ} → IsName text → ReadsParam (param.Array text)
  word_name : {text : List ℕ} → IsName text → ReadsParam (param.Word text)

array_of : (text : List ℕ) (P : List Token → Type 0) (tokens : List Token)
    → Seq P (kind.Keyword keyword.Reg ∷ kind.Name text ∷ kind.Sign sign.OpenSquare ∷ kind.Keyword keyword.Shares
    ∷ kind.Sign sign.CloseSquare ∷ []) tokens → ThenParam (param.Array text) P tokens
array_of text P _ (more p1 (more p2 (more p3 (more p4 (more p5 (done {tokens = after} holds)))))) =
    (after, (array_param, holds))

word_of : (text : List ℕ) (P : List Token → Type 0) (tokens : List Token)
    → Seq P (kind.Keyword keyword.Word ∷ kind.Name text ∷ []) tokens → ThenParam (param.Word text) P tokens
word_of text P _ (more p1 (more p2 (done {tokens = after} holds))) = (after, (word_param, holds))

array_parts : (text rest : List ℕ) → (codes "reg " ++ text ++ codes "[D]") ++ rest ≡ codes "reg " ++ (text ++ (codes "[D]" ++ rest))
array_parts text rest = simp append_assoc

-- a parameter is read before a comma or a bracket
pub param_reads : (p : CParam) → ReadsParam p → (b : ℕ) (rest : List ℕ) (P : List Token → Type 0)
    → continues_word b ≡ false → Reads (b ∷ rest) P
    → Reads (parameter_text p ++ b ∷ rest) (ThenParam p P)
param_reads _ (array_name {text = text} is) b rest P stops reads =
    let after = b ∷ rest in
    Reads-is (codes "reg " ++ (text ++ (codes "[D]" ++ after))) _ (ThenParam (param.Array text) P) (sym (array_parts text after))
    (Reads-as (codes "reg " ++ (text ++ (codes "[D]" ++ after))) _ (ThenParam (param.Array text) P) (array_of text P)
    (Reads-token (codes "reg " ++ (text ++ (codes "[D]" ++ after))) (codes "reg") (32 ∷ (text ++ (codes "[D]" ++ after))) 3
    form.Word (kind.Keyword keyword.Reg) _ P refl refl refl refl
    (Reads-blank 32 (text ++ (codes "[D]" ++ after)) _ refl
    (Reads-name text 91 (codes "D]" ++ after) _ P is refl
    (Reads-sign 91 sign.OpenSquare (codes "D]" ++ after) _ P refl
    (Reads-token (codes "D]" ++ after) (codes "D") (93 ∷ after) 1 form.Word (kind.Keyword keyword.Shares) _ P refl refl
    refl refl
    (Reads-sign 93 sign.CloseSquare after [] P refl (Reads-done after P reads))))))))
param_reads _ (word_name {text = text} is) b rest P stops reads =
    let after = b ∷ rest in
    Reads-is (codes "uint64_t " ++ (text ++ after)) _ (ThenParam (param.Word text) P)
    (sym (append_assoc (codes "uint64_t ") text after))
    (Reads-as (codes "uint64_t " ++ (text ++ after)) _ (ThenParam (param.Word text) P) (word_of text P)
    (Reads-token (codes "uint64_t " ++ (text ++ after)) (codes "uint64_t") (32 ∷ (text ++ after)) 8 form.Word
    (kind.Keyword keyword.Word) _ P refl refl refl refl
    (Reads-blank 32 (text ++ after) _ refl
    (Reads-name text b rest [] P is stops (Reads-done after P reads)))))

last_of : (p : CParam) (P : List Token → Type 0) (tokens : List Token) → ThenParam p P tokens → ThenParams (p ∷ []) P tokens
last_of p P tokens then = (then.0, (last_param then.1.0, then.1.1))

next_end : (p : CParam) (ps : List CParam) (P : List Token → Type 0) (tokens a : List Token) → IsParam tokens p a
    → Seq (ThenParams ps P) (kind.Sign sign.Comma ∷ []) a → ThenParams (p ∷ ps) P tokens
next_end p ps P tokens _ is (more q (done {tokens = b} then)) = (then.0, (next_param is then.1.0, then.1.1))

next_of : (p : CParam) (ps : List CParam) (P : List Token → Type 0) (tokens : List Token)
    → ThenParam p (Seq (ThenParams ps P) (kind.Sign sign.Comma ∷ [])) tokens → ThenParams (p ∷ ps) P tokens
next_of p ps P tokens then = next_end p ps P tokens then.0 then.1.0 then.1.1

-- each parameter's name is one
pub data ReadParams : List CParam → Type 0 where
  one_param : {p : CParam} → ReadsParam p → ReadParams (p ∷ [])
  another_param : {p q : CParam} {ps : List CParam} → ReadsParam p → ReadParams (q ∷ ps) → ReadParams (p ∷ q ∷ ps)

further_parts : (first second others rest : List ℕ)
    → (first ++ ((codes ", " ++ second) ++ others)) ++ rest ≡ first ++ (44 ∷ 32 ∷ ((second ++ others) ++ rest))
further_parts first second others rest = simp append_assoc

pub params_read : (ps : List CParam) → ReadParams ps → (rest : List ℕ) (P : List Token → Type 0) → Reads (41 ∷ rest) P
    → Reads (listed parameter_text ps ++ 41 ∷ rest) (ThenParams ps P)
params_read _ (one_param {p = p} reads_p) rest P reads =
    Reads-is (parameter_text p ++ 41 ∷ rest) _ (ThenParams (p ∷ []) P)
    (ap (λ (t : List ℕ). t ++ 41 ∷ rest) (sym (append-nil (parameter_text p))))
    (Reads-as (parameter_text p ++ 41 ∷ rest) (ThenParam p P) (ThenParams (p ∷ []) P) (last_of p P)
    (param_reads p reads_p 41 rest P refl reads))
params_read _ (another_param {p = p} {q = q} {ps = ps} reads_p others) rest P reads =
    let tail = listed parameter_text (q ∷ ps) ++ 41 ∷ rest in
    Reads-is (parameter_text p ++ 44 ∷ 32 ∷ tail) _ (ThenParams (p ∷ q ∷ ps) P)
    (sym (further_parts (parameter_text p) (parameter_text q) (flat_map (further_text parameter_text) ps) (41 ∷ rest)))
    (Reads-as (parameter_text p ++ 44 ∷ 32 ∷ tail) _ (ThenParams (p ∷ q ∷ ps) P) (next_of p (q ∷ ps) P)
    (param_reads p reads_p 44 (32 ∷ tail) (Seq (ThenParams (q ∷ ps) P) (kind.Sign sign.Comma ∷ [])) refl
    (Reads-sign 44 sign.Comma (32 ∷ tail) [] (ThenParams (q ∷ ps) P) refl
    (Reads-done (32 ∷ tail) (ThenParams (q ∷ ps) P)
    (Reads-blank 32 tail (ThenParams (q ∷ ps) P) refl (params_read (q ∷ ps) others rest P reads))))))

-- tokens are this gadget, or these, and then tokens for which P holds
abbrev pub ThenGadget : CFun → (List Token → Type 0) → List Token → Type 0
ThenGadget g P tokens = (after : List Token) × (IsGadget tokens g after × P after)

abbrev pub ThenGadgets : List CFun → (List Token → Type 0) → List Token → Type 0
ThenGadgets gs P tokens = (after : List Token) × (IsGadgets tokens gs after × P after)

abbrev pub ReadsGadget : CFun → Type 1
ReadsGadget g = (rest : List ℕ) (P : List Token → Type 0) → Reads rest P → Reads (gadget_text g ++ rest) (ThenGadget g P)

abbrev pub ReadsGadgets : List CFun → Type 1
ReadsGadgets gs = (rest : List ℕ) (P : List Token → Type 0) → Reads rest P
    → Reads (flat_map gadget_text gs ++ rest) (ThenGadgets gs P)

abbrev Inside : List CStmt → (List Token → Type 0) → List Token → Type 0
Inside body P = ThenStmts 2 body (Seq P (kind.Sign sign.CloseCurly ∷ []))

gadget_end : (g : CFun) (P : List Token → Type 0) (p1 p2 p3 p4 q1 q2 : Place) (tokens b c : List Token)
    → IsParams tokens g.params (record { kind = kind.Sign sign.CloseRound; place = q1 }
    ∷ record { kind = kind.Sign sign.OpenCurly; place = q2 } ∷ b)
    → IsStmts 2 b g.body c → Seq P (kind.Sign sign.CloseCurly ∷ []) c
    → ThenGadget g P (record { kind = kind.Keyword keyword.Static; place = p1 }
    ∷ record { kind = kind.Keyword keyword.Void; place = p2 } ∷ record { kind = kind.Name g.name; place = p3 }
    ∷ record { kind = kind.Sign sign.OpenRound; place = p4 } ∷ tokens)
gadget_end g P p1 p2 p3 p4 q1 q2 tokens b _ is_params is_body (more r (done {tokens = rest} holds)) =
    (rest, (gadget is_params is_body, holds))

gadget_middle : (g : CFun) (P : List Token → Type 0) (p1 p2 p3 p4 : Place) (tokens a : List Token)
    → IsParams tokens g.params a
    → Seq (Inside g.body P) (kind.Sign sign.CloseRound ∷ kind.Sign sign.OpenCurly ∷ []) a
    → ThenGadget g P (record { kind = kind.Keyword keyword.Static; place = p1 }
    ∷ record { kind = kind.Keyword keyword.Void; place = p2 } ∷ record { kind = kind.Name g.name; place = p3 }
    ∷ record { kind = kind.Sign sign.OpenRound; place = p4 } ∷ tokens)
gadget_middle g P p1 p2 p3 p4 tokens _ is_params (more q1 (more q2 (done {tokens = b} then))) =
    gadget_end g P p1 p2 p3 p4 q1 q2 tokens b then.0 is_params then.1.0 then.1.1

gadget_of : (g : CFun) (P : List Token → Type 0) (tokens : List Token)
    → Seq (ThenParams g.params (Seq (Inside g.body P) (kind.Sign sign.CloseRound ∷ kind.Sign sign.OpenCurly ∷ [])))
    (kind.Keyword keyword.Static ∷ kind.Keyword keyword.Void ∷ kind.Name g.name ∷ kind.Sign sign.OpenRound ∷ []) tokens
    → ThenGadget g P tokens
gadget_of g P _ (more p1 (more p2 (more p3 (more p4 (done {tokens = tokens} then))))) =
    gadget_middle g P p1 p2 p3 p4 tokens then.0 then.1.0 then.1.1

gadget_parts : (name params body rest : List ℕ)
    → (codes "static void " ++ name ++ codes "(" ++ params ++ codes ") {\n" ++ body ++ codes "}\n") ++ rest
    ≡ codes "static void " ++ (name ++ (40 ∷ (params ++ (codes ") {\n" ++ (body ++ (codes "}\n" ++ rest))))))
gadget_parts name params body rest = simp append_assoc

pub gadget_reads : (g : CFun) → IsName g.name → ReadParams g.params → ReadsStmts 2 1 g.body → ReadsGadget g
gadget_reads g is params body rest P reads =
    let close = codes "}\n" ++ rest in
    let inside = statements_text 1 g.body ++ close in
    let opened = codes ") {\n" ++ inside in
    let begin = listed parameter_text g.params ++ opened in
    let P3 = Seq P (kind.Sign sign.CloseCurly ∷ []) in
    let P2 = Seq (Inside g.body P) (kind.Sign sign.CloseRound ∷ kind.Sign sign.OpenCurly ∷ []) in
    let P1 = ThenParams g.params P2 in
    Reads-is (codes "static void " ++ (g.name ++ (40 ∷ begin))) (gadget_text g ++ rest) (ThenGadget g P)
    (sym (gadget_parts g.name (listed parameter_text g.params) (statements_text 1 g.body) rest))
    (Reads-as (codes "static void " ++ (g.name ++ (40 ∷ begin))) _ (ThenGadget g P) (gadget_of g P)
    (Reads-token (codes "static void " ++ (g.name ++ (40 ∷ begin))) (codes "static")
    (codes " void " ++ (g.name ++ (40 ∷ begin))) 6 form.Word (kind.Keyword keyword.Static) _ P1 refl refl refl refl
    (Reads-blank 32 (codes "void " ++ (g.name ++ (40 ∷ begin))) _ refl
    (Reads-token (codes "void " ++ (g.name ++ (40 ∷ begin))) (codes "void") (32 ∷ (g.name ++ (40 ∷ begin))) 4 form.Word
    (kind.Keyword keyword.Void) _ P1 refl refl refl refl
    (Reads-blank 32 (g.name ++ (40 ∷ begin)) _ refl
    (Reads-name g.name 40 begin _ P1 is refl
    (Reads-sign 40 sign.OpenRound begin [] P1 refl
    (Reads-done begin P1
    (params_read g.params params (codes " {\n" ++ inside) P2
    (Reads-sign 41 sign.CloseRound (codes " {\n" ++ inside) _ (Inside g.body P) refl
    (Reads-blank 32 (codes "{\n" ++ inside) _ refl
    (Reads-sign 123 sign.OpenCurly (10 ∷ inside) [] (Inside g.body P) refl
    (Reads-done (10 ∷ inside) (Inside g.body P)
    (Reads-blank 10 inside (Inside g.body P) refl
    (body close P3
    (Reads-sign 125 sign.CloseCurly (10 ∷ rest) [] P refl
    (Reads-done (10 ∷ rest) P (Reads-blank 10 rest P refl reads))))))))))))))))))

pub no_gadget_reads : ReadsGadgets []
no_gadget_reads rest P reads = Reads-as rest P (ThenGadgets [] P) (λ tokens holds. (tokens, (no_gadget, holds))) reads

next_gadget_of : (g : CFun) (gs : List CFun) (P : List Token → Type 0) (tokens : List Token)
    → ThenGadget g (ThenGadgets gs P) tokens → ThenGadgets (g ∷ gs) P tokens
next_gadget_of g gs P tokens then = (then.1.1.0, (next_gadget then.1.0 then.1.1.1.0, then.1.1.1.1))

pub next_gadget_reads : (g : CFun) (gs : List CFun) → ReadsGadget g → ReadsGadgets gs → ReadsGadgets (g ∷ gs)
next_gadget_reads g gs first others rest P reads =
    Reads-is (gadget_text g ++ (flat_map gadget_text gs ++ rest)) (flat_map gadget_text (g ∷ gs) ++ rest)
    (ThenGadgets (g ∷ gs) P)
    (sym (append_assoc (gadget_text g) (flat_map gadget_text gs) rest))
    (Reads-as _ (ThenGadget g (ThenGadgets gs P)) (ThenGadgets (g ∷ gs) P) (next_gadget_of g gs P)
    (first (flat_map gadget_text gs ++ rest) (ThenGadgets gs P) (others rest P reads)))
