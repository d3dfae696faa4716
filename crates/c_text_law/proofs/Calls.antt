-- The tokens of calls.
use Rattle.std.proofs.Common.{◌≡◌, ℕ, ◌<◌, ◌^◌, List, [], ◌∷◌, ◌++◌, decimal, codes, flat_map, refl, sym, ap, append_assoc, append-nil}
use Rattle.tor_edge.specs.declared.place.Place.{Place}
use Rattle.c_tree.specs.declared.CArg.{CArg}
use Rattle.c_tree.specs.declared.CArg.TheVariants as arg
use Rattle.c_tree.specs.declared.CCall.{CCall}
use Rattle.c_text.specs.CText.{listed, further_text, argument_text, call_text}
use Rattle.c_tokens.specs.declared.head.Form.TheVariants as form
use Rattle.c_tokens.specs.declared.token.Keyword.TheVariants as keyword
use Rattle.c_tokens.specs.declared.token.Sign.TheVariants as sign
use Rattle.c_tokens.specs.declared.token.Token.{Token}
use Rattle.c_tokens.specs.declared.token.TokenKind.TheVariants as kind
use Rattle.c_subset.specs.Files.{IsArg, out_arg, in_arg, slot_arg, number_arg, IsArgs, last_arg, next_arg, IsCalls, no_call, next_call}
use Rattle.c_text_law.proofs.Reading.{Reads, Seq, done, more, Reads-as, Reads-is, Reads-blank, Reads-token}
use Rattle.c_text_law.proofs.Reading.{Reads-number, Reads-name, Reads-sign, Reads-done, IsName}

-- tokens are this argument, these, or these calls, and then tokens for which P holds
abbrev pub ThenArg : CArg → (List Token → Type 0) → List Token → Type 0
ThenArg x P tokens = (after : List Token) × (IsArg tokens x after × P after)

abbrev pub ThenArgs : List CArg → (List Token → Type 0) → List Token → Type 0
ThenArgs xs P tokens = (after : List Token) × (IsArgs tokens xs after × P after)

abbrev pub ThenCalls : List CCall → (List Token → Type 0) → List Token → Type 0
ThenCalls cs P tokens = (after : List Token) × (IsCalls tokens cs after × P after)

-- an argument's number is below 2 ^ 64
pub data FitsArg : CArg → Type 0 where
  fits_out : {n : ℕ} → n < 2 ^ 64 → FitsArg (arg.Out n)
  fits_in : {n : ℕ} → n < 2 ^ 64 → FitsArg (arg.Input n)
  fits_slot : {n : ℕ} → n < 2 ^ 64 → FitsArg (arg.Slot n)
  fits_number : {n : ℕ} → n < 2 ^ 64 → FitsArg (arg.Number n)

out_of : (n : ℕ) (P : List Token → Type 0) (tokens : List Token)
    → Seq P (kind.Keyword keyword.Out ∷ kind.Sign sign.OpenSquare ∷ kind.Number n ∷ kind.Sign sign.CloseSquare ∷ []) tokens
    → ThenArg (arg.Out n) P tokens
out_of n P _ (more p1 (more p2 (more p3 (more p4 (done {tokens = after} holds))))) = (after, (out_arg, holds))

in_of : (n : ℕ) (P : List Token → Type 0) (tokens : List Token)
    → Seq P (kind.Keyword keyword.In ∷ kind.Sign sign.OpenSquare ∷ kind.Number n ∷ kind.Sign sign.CloseSquare ∷ []) tokens
    → ThenArg (arg.Input n) P tokens
in_of n P _ (more p1 (more p2 (more p3 (more p4 (done {tokens = after} holds))))) = (after, (in_arg, holds))

slot_of : (n : ℕ) (P : List Token → Type 0) (tokens : List Token)
    → Seq P (kind.Keyword keyword.Slots ∷ kind.Sign sign.OpenSquare ∷ kind.Number n ∷ kind.Sign sign.CloseSquare ∷ []) tokens
    → ThenArg (arg.Slot n) P tokens
slot_of n P _ (more p1 (more p2 (more p3 (more p4 (done {tokens = after} holds))))) = (after, (slot_arg, holds))

number_of : (n : ℕ) (P : List Token → Type 0) (tokens : List Token)
    → Seq P (kind.Keyword keyword.Constant ∷ kind.Sign sign.OpenRound ∷ kind.Number n ∷ kind.Sign sign.CloseRound ∷ []) tokens
    → ThenArg (arg.Number n) P tokens
number_of n P _ (more p1 (more p2 (more p3 (more p4 (done {tokens = after} holds))))) = (after, (number_arg, holds))

out_parts : (digits rest : List ℕ) → (codes "out[" ++ digits ++ codes "]") ++ rest ≡ codes "out[" ++ (digits ++ 93 ∷ rest)
out_parts digits rest = simp append_assoc

in_parts : (digits rest : List ℕ) → (codes "in[" ++ digits ++ codes "]") ++ rest ≡ codes "in[" ++ (digits ++ 93 ∷ rest)
in_parts digits rest = simp append_assoc

slot_parts : (digits rest : List ℕ) → (codes "v[" ++ digits ++ codes "]") ++ rest ≡ codes "v[" ++ (digits ++ 93 ∷ rest)
slot_parts digits rest = simp append_assoc

number_parts : (digits rest : List ℕ) → (codes "UINT64_C(" ++ digits ++ codes ")") ++ rest
    ≡ codes "UINT64_C(" ++ (digits ++ 41 ∷ rest)
number_parts digits rest = simp append_assoc

pub arg_reads : (x : CArg) → FitsArg x → (rest : List ℕ) (P : List Token → Type 0) → Reads rest P
    → Reads (argument_text x ++ rest) (ThenArg x P)
arg_reads _ (fits_out {n = n} fits) rest P reads =
    Reads-is (codes "out[" ++ (decimal n ++ 93 ∷ rest)) _ (ThenArg (arg.Out n) P) (sym (out_parts (decimal n) rest))
    (Reads-as (codes "out[" ++ (decimal n ++ 93 ∷ rest)) _ (ThenArg (arg.Out n) P) (out_of n P)
    (Reads-token (codes "out[" ++ (decimal n ++ 93 ∷ rest)) (codes "out") (91 ∷ (decimal n ++ 93 ∷ rest)) 3 form.Word
    (kind.Keyword keyword.Out) _ P refl refl refl refl
    (Reads-sign 91 sign.OpenSquare (decimal n ++ 93 ∷ rest) _ P refl
    (Reads-number n 93 rest _ P fits (refl, refl)
    (Reads-sign 93 sign.CloseSquare rest [] P refl (Reads-done rest P reads))))))
arg_reads _ (fits_in {n = n} fits) rest P reads =
    Reads-is (codes "in[" ++ (decimal n ++ 93 ∷ rest)) _ (ThenArg (arg.Input n) P) (sym (in_parts (decimal n) rest))
    (Reads-as (codes "in[" ++ (decimal n ++ 93 ∷ rest)) _ (ThenArg (arg.Input n) P) (in_of n P)
    (Reads-token (codes "in[" ++ (decimal n ++ 93 ∷ rest)) (codes "in") (91 ∷ (decimal n ++ 93 ∷ rest)) 2 form.Word
    (kind.Keyword keyword.In) _ P refl refl refl refl
    (Reads-sign 91 sign.OpenSquare (decimal n ++ 93 ∷ rest) _ P refl
    (Reads-number n 93 rest _ P fits (refl, refl)
    (Reads-sign 93 sign.CloseSquare rest [] P refl (Reads-done rest P reads))))))
arg_reads _ (fits_slot {n = n} fits) rest P reads =
    Reads-is (codes "v[" ++ (decimal n ++ 93 ∷ rest)) _ (ThenArg (arg.Slot n) P) (sym (slot_parts (decimal n) rest))
    (Reads-as (codes "v[" ++ (decimal n ++ 93 ∷ rest)) _ (ThenArg (arg.Slot n) P) (slot_of n P)
    (Reads-token (codes "v[" ++ (decimal n ++ 93 ∷ rest)) (codes "v") (91 ∷ (decimal n ++ 93 ∷ rest)) 1 form.Word
    (kind.Keyword keyword.Slots) _ P refl refl refl refl
    (Reads-sign 91 sign.OpenSquare (decimal n ++ 93 ∷ rest) _ P refl
    (Reads-number n 93 rest _ P fits (refl, refl)
    (Reads-sign 93 sign.CloseSquare rest [] P refl (Reads-done rest P reads))))))
arg_reads _ (fits_number {n = n} fits) rest P reads =
    Reads-is (codes "UINT64_C(" ++ (decimal n ++ 41 ∷ rest)) _ (ThenArg (arg.Number n) P) (sym (number_parts (decimal n) rest))
    (Reads-as (codes "UINT64_C(" ++ (decimal n ++ 41 ∷ rest)) _ (ThenArg (arg.Number n) P) (number_of n P)
    (Reads-token (codes "UINT64_C(" ++ (decimal n ++ 41 ∷ rest)) (codes "UINT64_C") (40 ∷ (decimal n ++ 41 ∷ rest)) 8
    form.Word (kind.Keyword keyword.Constant) _ P refl refl refl refl
    (Reads-sign 40 sign.OpenRound (decimal n ++ 41 ∷ rest) _ P refl
    (Reads-number n 41 rest _ P fits (refl, refl)
    (Reads-sign 41 sign.CloseRound rest [] P refl (Reads-done rest P reads))))))

last_of : (x : CArg) (P : List Token → Type 0) (tokens : List Token) → ThenArg x P tokens → ThenArgs (x ∷ []) P tokens
last_of x P tokens then = (then.0, (last_arg then.1.0, then.1.1))

next_end : (x : CArg) (xs : List CArg) (P : List Token → Type 0) (tokens a : List Token) → IsArg tokens x a
    → Seq (ThenArgs xs P) (kind.Sign sign.Comma ∷ []) a → ThenArgs (x ∷ xs) P tokens
next_end x xs P tokens _ is (more q (done {tokens = b} then)) = (then.0, (next_arg is then.1.0, then.1.1))

next_of : (x : CArg) (xs : List CArg) (P : List Token → Type 0) (tokens : List Token)
    → ThenArg x (Seq (ThenArgs xs P) (kind.Sign sign.Comma ∷ [])) tokens → ThenArgs (x ∷ xs) P tokens
next_of x xs P tokens then = next_end x xs P tokens then.0 then.1.0 then.1.1

-- each argument's number is below 2 ^ 64, and there is one
pub data FitsArgs : List CArg → Type 0 where
  one_arg : {x : CArg} → FitsArg x → FitsArgs (x ∷ [])
  another_arg : {x y : CArg} {xs : List CArg} → FitsArg x → FitsArgs (y ∷ xs) → FitsArgs (x ∷ y ∷ xs)

further_parts : (first second others rest : List ℕ)
    → (first ++ ((codes ", " ++ second) ++ others)) ++ rest ≡ first ++ (44 ∷ 32 ∷ ((second ++ others) ++ rest))
further_parts first second others rest = simp append_assoc

pub args_read : (xs : List CArg) → FitsArgs xs → (rest : List ℕ) (P : List Token → Type 0) → Reads (41 ∷ rest) P
    → Reads (listed argument_text xs ++ 41 ∷ rest) (ThenArgs xs P)
args_read _ (one_arg {x = x} fits) rest P reads =
    Reads-is (argument_text x ++ 41 ∷ rest) _ (ThenArgs (x ∷ []) P)
    (ap (λ (t : List ℕ). t ++ 41 ∷ rest) (sym (append-nil (argument_text x))))
    (Reads-as (argument_text x ++ 41 ∷ rest) (ThenArg x P) (ThenArgs (x ∷ []) P) (last_of x P)
    (arg_reads x fits (41 ∷ rest) P reads))
args_read _ (another_arg {x = x} {y = y} {xs = xs} fits others) rest P reads =
    let tail = listed argument_text (y ∷ xs) ++ 41 ∷ rest in
    Reads-is (argument_text x ++ 44 ∷ 32 ∷ tail) _ (ThenArgs (x ∷ y ∷ xs) P)
    (sym (further_parts (argument_text x) (argument_text y) (flat_map (further_text argument_text) xs) (41 ∷ rest)))
    (Reads-as (argument_text x ++ 44 ∷ 32 ∷ tail) _ (ThenArgs (x ∷ y ∷ xs) P) (next_of x (y ∷ xs) P)
    (arg_reads x fits (44 ∷ 32 ∷ tail) (Seq (ThenArgs (y ∷ xs) P) (kind.Sign sign.Comma ∷ []))
    (Reads-sign 44 sign.Comma (32 ∷ tail) [] (ThenArgs (y ∷ xs) P) refl
    (Reads-done (32 ∷ tail) (ThenArgs (y ∷ xs) P)
    (Reads-blank 32 tail (ThenArgs (y ∷ xs) P) refl (args_read (y ∷ xs) others rest P reads))))))

-- the call's name is one, and its arguments fit
pub data FitsCall : CCall → Type 0 where
  fits_call : {text : List ℕ} {xs : List CArg} → IsName text → FitsArgs xs → FitsCall (record { gadget = text; args = xs })

-- so each of the calls
pub data FitsCalls : List CCall → Type 0 where
  no_calls : FitsCalls []
  more_calls : {c : CCall} {cs : List CCall} → FitsCall c → FitsCalls cs → FitsCalls (c ∷ cs)

abbrev Behind : List CCall → (List Token → Type 0) → List Token → Type 0
Behind cs P = Seq (ThenCalls cs P) (kind.Sign sign.CloseRound ∷ kind.Sign sign.Semicolon ∷ [])

call_end : (text : List ℕ) (xs : List CArg) (cs : List CCall) (P : List Token → Type 0) (p1 p2 : Place)
    (tokens a : List Token) → IsArgs tokens xs a → Behind cs P a
    → ThenCalls (record { gadget = text; args = xs } ∷ cs) P (record { kind = kind.Name text; place = p1 }
    ∷ record { kind = kind.Sign sign.OpenRound; place = p2 } ∷ tokens)
call_end text xs cs P p1 p2 tokens _ is (more q1 (more q2 (done {tokens = b} then))) =
    (then.0, (next_call is then.1.0, then.1.1))

call_of : (text : List ℕ) (xs : List CArg) (cs : List CCall) (P : List Token → Type 0) (tokens : List Token)
    → Seq (ThenArgs xs (Behind cs P)) (kind.Name text ∷ kind.Sign sign.OpenRound ∷ []) tokens
    → ThenCalls (record { gadget = text; args = xs } ∷ cs) P tokens
call_of text xs cs P _ (more p1 (more p2 (done {tokens = tokens} then))) =
    call_end text xs cs P p1 p2 tokens then.0 then.1.0 then.1.1

call_parts : (name args others rest : List ℕ)
    → ((codes "  " ++ name ++ codes "(" ++ args ++ codes ");\n") ++ others) ++ rest
    ≡ 32 ∷ 32 ∷ (name ++ 40 ∷ (args ++ 41 ∷ 59 ∷ 10 ∷ (others ++ rest)))
call_parts name args others rest = simp append_assoc

pub calls_read : (cs : List CCall) → FitsCalls cs → (rest : List ℕ) (P : List Token → Type 0) → Reads rest P
    → Reads (flat_map call_text cs ++ rest) (ThenCalls cs P)
calls_read _ no_calls rest P reads = Reads-as rest P (ThenCalls [] P) (λ tokens holds. (tokens, (no_call, holds))) reads
calls_read _ (more_calls {cs = cs} (fits_call {text = text} {xs = xs} is fits) others) rest P reads =
    let tail = flat_map call_text cs ++ rest in
    let begin = listed argument_text xs ++ 41 ∷ 59 ∷ 10 ∷ tail in
    let Q = ThenCalls cs P in
    let call : CCall = record { gadget = text; args = xs } in
    Reads-is (32 ∷ 32 ∷ (text ++ 40 ∷ begin)) (flat_map call_text (call ∷ cs) ++ rest) (ThenCalls (call ∷ cs) P)
    (sym (call_parts text (listed argument_text xs) (flat_map call_text cs) rest))
    (Reads-as (32 ∷ 32 ∷ (text ++ 40 ∷ begin)) _ (ThenCalls (call ∷ cs) P) (call_of text xs cs P)
    (Reads-blank 32 (32 ∷ (text ++ 40 ∷ begin)) _ refl
    (Reads-blank 32 (text ++ 40 ∷ begin) _ refl
    (Reads-name text 40 begin _ (ThenArgs xs (Behind cs P)) is refl
    (Reads-sign 40 sign.OpenRound begin [] (ThenArgs xs (Behind cs P)) refl
    (Reads-done begin (ThenArgs xs (Behind cs P))
    (args_read xs fits (59 ∷ 10 ∷ tail) (Behind cs P)
    (Reads-sign 41 sign.CloseRound (59 ∷ 10 ∷ tail) _ Q refl
    (Reads-sign 59 sign.Semicolon (10 ∷ tail) [] Q refl
    (Reads-done (10 ∷ tail) Q
    (Reads-blank 10 tail Q refl (calls_read cs others rest P reads))))))))))))
