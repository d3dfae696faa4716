-- The tokens of a file behind its first six lines.
use Rattle.std.proofs.Common.{◌≡◌, ℕ, zero, suc, ◌<◌, ◌≤◌, ◌^◌, ◌∙◌, List, [], ◌∷◌, ◌++◌, decimal, codes, flat_map, refl, sym, ap, subst, append_assoc, inl, inr, lit<, arith}
use Rattle.std.proofs.lemmas.Fmt.{decimal_digit, decimal_step}
use Rattle.tor_edge.specs.declared.place.Place.{Place}
use Rattle.c_tree.specs.declared.CCall.{CCall}
use Rattle.c_tree.specs.declared.CFun.{CFun}
use Rattle.c_tree.specs.declared.CFile.{CFile}
use Rattle.c_text.specs.CText.{gadget_text, masked_text, slots_text, call_text, head_text}
use Rattle.c_tokens.specs.Openings.{IsRegBits, lines_of}
use Rattle.c_tokens.specs.Tokens.{ended}
use Rattle.c_tokens.specs.declared.head.Form.TheVariants as form
use Rattle.c_tokens.specs.declared.token.Keyword.TheVariants as keyword
use Rattle.c_tokens.specs.declared.token.Sign.TheVariants as sign
use Rattle.c_tokens.specs.declared.token.Token.{Token}
use Rattle.c_tokens.specs.declared.token.TokenKind.TheVariants as kind
use Rattle.c_subset.specs.Files.{IsGadgets, IsRows, rows, IsSlots, no_slots, slots, IsCalls, IsFile, file}
use Rattle.c_text_law.proofs.Reading.{Reads, Seq, done, more, Reads-as, Reads-is, Reads-blank, Reads-token}
use Rattle.c_text_law.proofs.Reading.{Reads-number, Reads-sign, Reads-done}
use Rattle.c_text_law.proofs.Gadgets.{ThenGadgets, ReadsGadgets}
use Rattle.c_text_law.proofs.Calls.{ThenCalls, FitsCalls, calls_read}

-- `[N][D]`
abbrev ThenRows : ℕ → ℕ → (List Token → Type 0) → List Token → Type 0
ThenRows most n P tokens = (after : List Token) × (IsRows most tokens n after × P after)

rows_of : (most n : ℕ) → 1 ≤ n → n ≤ most → (P : List Token → Type 0) (tokens : List Token)
    → Seq P (kind.Sign sign.OpenSquare ∷ kind.Number n ∷ kind.Sign sign.CloseSquare ∷ kind.Sign sign.OpenSquare
    ∷ kind.Keyword keyword.Shares ∷ kind.Sign sign.CloseSquare ∷ []) tokens → ThenRows most n P tokens
rows_of most n some few P _ (more p1 (more p2 (more p3 (more p4 (more p5 (more p6 (done {tokens = after} holds))))))) =
    (after, (rows some few, holds))

rows_read : (most n : ℕ) → 1 ≤ n → n ≤ most → n < 2 ^ 64 → (rest : List ℕ) (P : List Token → Type 0) → Reads rest P
    → Reads (91 ∷ (decimal n ++ (codes "][D]" ++ rest))) (ThenRows most n P)
rows_read most n some few fits rest P reads =
    Reads-as (91 ∷ (decimal n ++ (codes "][D]" ++ rest))) _ (ThenRows most n P) (rows_of most n some few P)
    (Reads-sign 91 sign.OpenSquare (decimal n ++ (codes "][D]" ++ rest)) _ P refl
    (Reads-number n 93 (codes "[D]" ++ rest) _ P fits (refl, refl)
    (Reads-sign 93 sign.CloseSquare (codes "[D]" ++ rest) _ P refl
    (Reads-sign 91 sign.OpenSquare (codes "D]" ++ rest) _ P refl
    (Reads-token (codes "D]" ++ rest) (codes "D") (93 ∷ rest) 1 form.Word (kind.Keyword keyword.Shares) _ P refl refl
    refl refl
    (Reads-sign 93 sign.CloseSquare rest [] P refl (Reads-done rest P reads)))))))

-- the declaration of the slots
abbrev ThenSlots : ℕ → (List Token → Type 0) → List Token → Type 0
ThenSlots n P tokens = (after : List Token) × (IsSlots tokens n after × P after)

slots_end : (n : ℕ) (P : List Token → Type 0) (p1 p2 : Place) (tokens a : List Token) → IsRows 131072 tokens n a
    → Seq P (kind.Sign sign.Semicolon ∷ []) a
    → ThenSlots n P (record { kind = kind.Keyword keyword.Reg; place = p1 }
    ∷ record { kind = kind.Keyword keyword.Slots; place = p2 } ∷ tokens)
slots_end n P p1 p2 tokens _ is (more q (done {tokens = after} holds)) = (after, (slots is, holds))

slots_of : (n : ℕ) (P : List Token → Type 0) (tokens : List Token)
    → Seq (ThenRows 131072 n (Seq P (kind.Sign sign.Semicolon ∷ [])))
    (kind.Keyword keyword.Reg ∷ kind.Keyword keyword.Slots ∷ []) tokens → ThenSlots n P tokens
slots_of n P _ (more p1 (more p2 (done {tokens = tokens} then))) = slots_end n P p1 p2 tokens then.0 then.1.0 then.1.1

slots_parts : (digits rest : List ℕ) → (codes "  reg v[" ++ digits ++ codes "][D];\n") ++ rest
    ≡ codes "  reg v" ++ (91 ∷ (digits ++ (codes "][D]" ++ (59 ∷ 10 ∷ rest))))
slots_parts digits rest = simp append_assoc

pub slots_read : (n : ℕ) → n ≤ 131072 → (rest : List ℕ) (P : List Token → Type 0) → Reads rest P
    → Reads (slots_text n ++ rest) (ThenSlots n P)
slots_read zero few rest P reads = Reads-as rest P (ThenSlots 0 P) (λ tokens holds. (tokens, (no_slots, holds))) reads
slots_read (suc m) few rest P reads =
    let n = suc m in
    let tail = 91 ∷ (decimal n ++ (codes "][D]" ++ (59 ∷ 10 ∷ rest))) in
    let P1 = Seq P (kind.Sign sign.Semicolon ∷ []) in
    let P2 = ThenRows 131072 n P1 in
    Reads-is (codes "  reg v" ++ tail) (slots_text n ++ rest) (ThenSlots n P) (sym (slots_parts (decimal n) rest))
    (Reads-as (codes "  reg v" ++ tail) _ (ThenSlots n P) (slots_of n P)
    (Reads-blank 32 (codes " reg v" ++ tail) _ refl
    (Reads-blank 32 (codes "reg v" ++ tail) _ refl
    (Reads-token (codes "reg v" ++ tail) (codes "reg") (codes " v" ++ tail) 3 form.Word (kind.Keyword keyword.Reg) _ P2
    refl refl refl refl
    (Reads-blank 32 (codes "v" ++ tail) _ refl
    (Reads-token (codes "v" ++ tail) (codes "v") tail 1 form.Word (kind.Keyword keyword.Slots) _ P2 refl refl refl refl
    (Reads-done tail P2
    (rows_read 131072 n (omega arith) few (omega (arith, few)) (59 ∷ 10 ∷ rest) P1
    (Reads-sign 59 sign.Semicolon (10 ∷ rest) [] P refl
    (Reads-done (10 ∷ rest) P (Reads-blank 10 rest P refl reads)))))))))))

-- the whole

-- no tokens are left
abbrev pub Ends : List Token → Type 0
Ends tokens = tokens ≡ []

pub end_reads : Reads [] Ends
end_reads at = (at, [], ended at [] refl, refl)

abbrev AtEnd : List Token → Type 0
AtEnd = Seq Ends (kind.Sign sign.CloseCurly ∷ [])

abbrev AtSlots : ℕ → List CCall → List Token → Type 0
AtSlots n cs = ThenSlots n (ThenCalls cs AtEnd)

abbrev AtBody : ℕ → List CCall → List Token → Type 0
AtBody n cs = Seq (AtSlots n cs) (kind.Sign sign.CloseRound ∷ kind.Sign sign.OpenCurly ∷ [])

abbrev AtInputs : ℕ → ℕ → List CCall → List Token → Type 0
AtInputs inputs n cs =
    Seq (ThenRows 32768 inputs (AtBody n cs)) (kind.Sign sign.Comma ∷ kind.Keyword keyword.Reg ∷ kind.Keyword keyword.In ∷ [])

abbrev AtMasked : ℕ → ℕ → ℕ → List CCall → List Token → Type 0
AtMasked outputs inputs n cs =
    Seq (ThenRows 32768 outputs (AtInputs inputs n cs)) (kind.Keyword keyword.Void ∷ kind.Keyword keyword.Masked
    ∷ kind.Sign sign.OpenRound ∷ kind.Keyword keyword.Reg ∷ kind.Keyword keyword.Out ∷ [])

abbrev made : ℕ → List CFun → ℕ → ℕ → ℕ → List CCall → CFile
made bits gs outputs inputs n cs =
    record { reg_bits = bits; gadgets = gs; outputs = outputs; inputs = inputs; slots = n; calls = cs }

section_calls : (bits : ℕ) (gs : List CFun) (outputs inputs n : ℕ) (cs : List CCall)
    (void at round reg out comma again in_at end curly : Place) (a b c d e f : List Token)
    → IsGadgets a gs (record { kind = kind.Keyword keyword.Void; place = void }
    ∷ record { kind = kind.Keyword keyword.Masked; place = at } ∷ record { kind = kind.Sign sign.OpenRound; place = round }
    ∷ record { kind = kind.Keyword keyword.Reg; place = reg } ∷ record { kind = kind.Keyword keyword.Out; place = out } ∷ b)
    → IsRows 32768 b outputs (record { kind = kind.Sign sign.Comma; place = comma }
    ∷ record { kind = kind.Keyword keyword.Reg; place = again } ∷ record { kind = kind.Keyword keyword.In; place = in_at } ∷ c)
    → IsRows 32768 c inputs (record { kind = kind.Sign sign.CloseRound; place = end }
    ∷ record { kind = kind.Sign sign.OpenCurly; place = curly } ∷ d)
    → IsSlots d n e → IsCalls e cs f → AtEnd f → IsFile bits a (made bits gs outputs inputs n cs)
section_calls bits gs outputs inputs n cs void at round reg out comma again in_at end curly a b c d e _ h1 h2 h3 h4 h5
    (more q (done {tokens = t} none)) =
    file h1 h2 h3 h4 (subst (λ (u : List Token). IsCalls e cs (record { kind = kind.Sign sign.CloseCurly; place = q } ∷ u)) none h5)

section_body : (bits : ℕ) (gs : List CFun) (outputs inputs n : ℕ) (cs : List CCall)
    (void at round reg out comma again in_at : Place) (a b c d : List Token)
    → IsGadgets a gs (record { kind = kind.Keyword keyword.Void; place = void }
    ∷ record { kind = kind.Keyword keyword.Masked; place = at } ∷ record { kind = kind.Sign sign.OpenRound; place = round }
    ∷ record { kind = kind.Keyword keyword.Reg; place = reg } ∷ record { kind = kind.Keyword keyword.Out; place = out } ∷ b)
    → IsRows 32768 b outputs (record { kind = kind.Sign sign.Comma; place = comma }
    ∷ record { kind = kind.Keyword keyword.Reg; place = again } ∷ record { kind = kind.Keyword keyword.In; place = in_at } ∷ c)
    → IsRows 32768 c inputs d → AtBody n cs d → IsFile bits a (made bits gs outputs inputs n cs)
section_body bits gs outputs inputs n cs void at round reg out comma again in_at a b c _ h1 h2 h3
    (more end (more curly (done {tokens = d} then))) =
    section_calls bits gs outputs inputs n cs void at round reg out comma again in_at end curly a b c d then.0 then.1.1.0
    h1 h2 h3 then.1.0 then.1.1.1.0 then.1.1.1.1

section_inputs : (bits : ℕ) (gs : List CFun) (outputs inputs n : ℕ) (cs : List CCall)
    (void at round reg out : Place) (a b c : List Token)
    → IsGadgets a gs (record { kind = kind.Keyword keyword.Void; place = void }
    ∷ record { kind = kind.Keyword keyword.Masked; place = at } ∷ record { kind = kind.Sign sign.OpenRound; place = round }
    ∷ record { kind = kind.Keyword keyword.Reg; place = reg } ∷ record { kind = kind.Keyword keyword.Out; place = out } ∷ b)
    → IsRows 32768 b outputs c → AtInputs inputs n cs c → IsFile bits a (made bits gs outputs inputs n cs)
section_inputs bits gs outputs inputs n cs void at round reg out a b _ h1 h2
    (more comma (more again (more in_at (done {tokens = c} then)))) =
    section_body bits gs outputs inputs n cs void at round reg out comma again in_at a b c then.0 h1 h2 then.1.0 then.1.1

section_masked : (bits : ℕ) (gs : List CFun) (outputs inputs n : ℕ) (cs : List CCall) (a b : List Token)
    → IsGadgets a gs b → AtMasked outputs inputs n cs b → IsFile bits a (made bits gs outputs inputs n cs)
section_masked bits gs outputs inputs n cs a _ h1 (more void (more at (more round (more reg (more out (done {tokens = b} then)))))) =
    section_inputs bits gs outputs inputs n cs void at round reg out a b then.0 h1 then.1.0 then.1.1

masked_parts : (outputs inputs rest : List ℕ)
    → (codes "void masked(reg out[" ++ outputs ++ codes "][D], reg in[" ++ inputs ++ codes "][D]) {\n") ++ rest
    ≡ codes "void masked(reg out" ++ (91 ∷ (outputs ++ (codes "][D]" ++ (codes ", reg in" ++ (91 ∷ (inputs
    ++ (codes "][D]" ++ (codes ") {\n" ++ rest))))))))
masked_parts outputs inputs rest = simp append_assoc

masked_reads : (outputs inputs n : ℕ) (cs : List CCall) → 1 ≤ outputs → outputs ≤ 32768 → 1 ≤ inputs → inputs ≤ 32768
    → (rest : List ℕ) → Reads rest (AtSlots n cs)
    → Reads (masked_text outputs inputs ++ rest) (AtMasked outputs inputs n cs)
masked_reads outputs inputs n cs some few some_in few_in rest reads =
    let body = codes ") {\n" ++ rest in
    let second = 91 ∷ (decimal inputs ++ (codes "][D]" ++ body)) in
    let comma = codes ", reg in" ++ second in
    let first = 91 ∷ (decimal outputs ++ (codes "][D]" ++ comma)) in
    let P1 = AtSlots n cs in
    let P2 = ThenRows 32768 inputs (AtBody n cs) in
    let P3 = ThenRows 32768 outputs (AtInputs inputs n cs) in
    Reads-is (codes "void masked(reg out" ++ first) (masked_text outputs inputs ++ rest) (AtMasked outputs inputs n cs)
    (sym (masked_parts (decimal outputs) (decimal inputs) rest))
    (Reads-token (codes "void masked(reg out" ++ first) (codes "void") (codes " masked(reg out" ++ first) 4 form.Word
    (kind.Keyword keyword.Void) _ P3 refl refl refl refl
    (Reads-blank 32 (codes "masked(reg out" ++ first) _ refl
    (Reads-token (codes "masked(reg out" ++ first) (codes "masked") (codes "(reg out" ++ first) 6 form.Word
    (kind.Keyword keyword.Masked) _ P3 refl refl refl refl
    (Reads-sign 40 sign.OpenRound (codes "reg out" ++ first) _ P3 refl
    (Reads-token (codes "reg out" ++ first) (codes "reg") (codes " out" ++ first) 3 form.Word (kind.Keyword keyword.Reg) _ P3
    refl refl refl refl
    (Reads-blank 32 (codes "out" ++ first) _ refl
    (Reads-token (codes "out" ++ first) (codes "out") first 3 form.Word (kind.Keyword keyword.Out) _ P3 refl refl refl refl
    (Reads-done first P3
    (rows_read 32768 outputs some few (omega (arith, few)) comma (AtInputs inputs n cs)
    (Reads-sign 44 sign.Comma (codes " reg in" ++ second) _ P2 refl
    (Reads-blank 32 (codes "reg in" ++ second) _ refl
    (Reads-token (codes "reg in" ++ second) (codes "reg") (codes " in" ++ second) 3 form.Word (kind.Keyword keyword.Reg) _ P2
    refl refl refl refl
    (Reads-blank 32 (codes "in" ++ second) _ refl
    (Reads-token (codes "in" ++ second) (codes "in") second 2 form.Word (kind.Keyword keyword.In) _ P2 refl refl refl refl
    (Reads-done second P2
    (rows_read 32768 inputs some_in few_in (omega (arith, few_in)) body (AtBody n cs)
    (Reads-sign 41 sign.CloseRound (codes " {\n" ++ rest) _ P1 refl
    (Reads-blank 32 (codes "{\n" ++ rest) _ refl
    (Reads-sign 123 sign.OpenCurly (10 ∷ rest) [] P1 refl
    (Reads-done (10 ∷ rest) P1 (Reads-blank 10 rest P1 refl reads)))))))))))))))))))))

-- the text behind the first six lines
abbrev pub rest_text : List CFun → ℕ → ℕ → ℕ → List CCall → List ℕ
rest_text gs outputs inputs n cs =
    flat_map gadget_text gs ++ (masked_text outputs inputs ++ (slots_text n ++ (flat_map call_text cs ++ codes "}\n")))

pub file_reads : (bits : ℕ) (gs : List CFun) (outputs inputs n : ℕ) (cs : List CCall) → ReadsGadgets gs → 1 ≤ outputs
    → outputs ≤ 32768 → 1 ≤ inputs → inputs ≤ 32768 → n ≤ 131072 → FitsCalls cs
    → Reads (rest_text gs outputs inputs n cs)
    (λ tokens. IsFile bits tokens (made bits gs outputs inputs n cs))
file_reads bits gs outputs inputs n cs gadgets some few some_in few_in few_slots fit =
    Reads-as (rest_text gs outputs inputs n cs) (ThenGadgets gs (AtMasked outputs inputs n cs))
    (λ tokens. IsFile bits tokens (made bits gs outputs inputs n cs))
    (λ tokens then. section_masked bits gs outputs inputs n cs tokens then.0 then.1.0 then.1.1)
    (gadgets _ (AtMasked outputs inputs n cs)
    (masked_reads outputs inputs n cs some few some_in few_in _
    (slots_read n few_slots _ (ThenCalls cs AtEnd)
    (calls_read cs fit (codes "}\n") AtEnd
    (Reads-sign 125 sign.CloseCurly (10 ∷ []) [] Ends refl
    (Reads-done (10 ∷ []) Ends (Reads-blank 10 [] Ends refl end_reads)))))))

-- the first six lines, in other words

digits_8 : decimal 8 ≡ codes "8"
digits_8 = decimal_digit 8 (lit< tt)

digits_16 : decimal 16 ≡ codes "16"
digits_16 = decimal_step 16 (omega arith) (omega arith) ∙ ap (λ (t : List ℕ). t ++ 54 ∷ []) (decimal_digit 1 (lit< tt))

digits_32 : decimal 32 ≡ codes "32"
digits_32 = decimal_step 32 (omega arith) (omega arith) ∙ ap (λ (t : List ℕ). t ++ 50 ∷ []) (decimal_digit 3 (lit< tt))

digits_64 : decimal 64 ≡ codes "64"
digits_64 = decimal_step 64 (omega arith) (omega arith) ∙ ap (λ (t : List ℕ). t ++ 52 ∷ []) (decimal_digit 6 (lit< tt))

abbrev around : List ℕ → List ℕ
around digits =
    codes "#include <stdint.h>\n#ifndef D\n#define D 2\n#endif\ntypedef uint" ++ digits
    ++ codes "_t reg;\nuint64_t tornado_random(void);\n"

pub head_is : (bits : ℕ) → IsRegBits bits → head_text bits ≡ lines_of bits
head_is bits (inl h) = ap head_text h ∙ ap around digits_8 ∙ sym (ap lines_of h)
head_is bits (inr (inl h)) = ap head_text h ∙ ap around digits_16 ∙ sym (ap lines_of h)
head_is bits (inr (inr (inl h))) = ap head_text h ∙ ap around digits_32 ∙ sym (ap lines_of h)
head_is bits (inr (inr (inr h))) = ap head_text h ∙ ap around digits_64 ∙ sym (ap lines_of h)
