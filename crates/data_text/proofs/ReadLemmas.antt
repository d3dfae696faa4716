-- Numbers read one after the other.
use Rattle.std.proofs.Common.{◌≡◌, ℕ, suc, ◌+◌, ◌-◌, ◌<◌, ◌≤◌, ◌^◌, Bool, false, ltb, List, [], ◌∷◌, ◌++◌, Option, None, Some, Result, Ok, Err, refl, ap, sym, subst, ◌∙◌, inl, inr, arith, append_assoc, append-nil}
use Rattle.std.specs.Option.{SomeIff}
use Rattle.std.proofs.lemmas.Bool.{cases_Bool, ltb-true}
use Rattle.std.proofs.Math.Pow.{pow_mono}
use Rattle.data_text.specs.declared.fault.ValueFault.TheVariants as fault
use Rattle.data_text.specs.declared.fault.ValueFault.{ValueFault}
use Rattle.data_text.specs.Numbers.{number_of}
use Rattle.data_text.specs.Parts.{after_numbers}
use Rattle.data_text.specs.Reading.{◌>>=◌, first_number, first_numbers, has_bits, in_range}
use Rattle.data_text.specs.Tokens.{Token}

abbrev Taken : Type 0
Taken = List ℕ × List Token

joined : (numbers : List ℕ) (number : ℕ) (more : Result Taken ValueFault) → after_numbers numbers (more >>= λ m. Ok (number ∷ m.0, m.1)) ≡ after_numbers (numbers ++ number ∷ []) more
joined numbers number (Ok more) = ap (λ (ns : List ℕ). Ok (ns, more.1)) (sym (append_assoc numbers (number ∷ []) more.0))
joined numbers number (Err wrong) = refl

-- one more number
pub one_more : (fits : ℕ → Bool) (count end : ℕ) (tokens left : List Token) (numbers : List ℕ) (number : ℕ) → first_number fits end tokens ≡ Ok (number, left)
    → after_numbers numbers (first_numbers fits (suc count) end tokens) ≡ after_numbers (numbers ++ number ∷ []) (first_numbers fits count end left)
one_more fits count end tokens left numbers number e =
    ap (λ (r : Result (ℕ × List Token) ValueFault). after_numbers numbers (r >>= λ first. first_numbers fits count end first.1 >>= λ more. Ok (first.0 ∷ more.0, more.1))) e
    ∙ joined numbers number (first_numbers fits count end left)

-- a number that is wrong
pub wrong_number : (fits : ℕ → Bool) (count end : ℕ) (tokens : List Token) (numbers : List ℕ) (wrong : ValueFault) → first_number fits end tokens ≡ Err wrong
    → after_numbers numbers (first_numbers fits (suc count) end tokens) ≡ Err wrong
wrong_number fits count end tokens numbers wrong e =
    ap (λ (r : Result (ℕ × List Token) ValueFault). after_numbers numbers (r >>= λ first. first_numbers fits count end first.1 >>= λ more. Ok (first.0 ∷ more.0, more.1))) e

-- no further number
pub no_more : (fits : ℕ → Bool) (end : ℕ) (tokens : List Token) (numbers : List ℕ) → after_numbers numbers (first_numbers fits 0 end tokens) ≡ Ok (numbers, tokens)
no_more fits end tokens numbers = ap (λ (ns : List ℕ). Ok (ns, tokens)) (append-nil numbers)

-- none so far
pub none_yet : (said : Result Taken ValueFault) → said ≡ after_numbers [] said
none_yet (Ok more) = refl
none_yet (Err wrong) = refl

-- what the number of a token says is what the first number of the tokens from there says
pub token_number : (fits : ℕ → Bool) (end : ℕ) (token : Token) (left : List Token) (said : Result ℕ ValueFault) → said ≡ in_range fits token.line (number_of token.word)
    → first_number fits end (token ∷ left) ≡ (said >>= λ number. Ok (number, left))
token_number fits end token left said e = ap (λ (r : Result ℕ ValueFault). r >>= λ number. Ok (number, left)) (sym e)

-- ---- a number that is not in its range

-- what is known of the number of a token, where it may be too big to be held
abbrev pub IsHeld : Option ℕ → Option ℕ → Type 0
IsHeld number held = (n : ℕ) × (number ≡ Some n) × SomeIff held (n < 2 ^ 64) n

out_of_range : (bits line n : ℕ) (number : Option ℕ) → number ≡ Some n → ltb n (2 ^ bits) ≡ false → Err (fault.OutOfRange line) ≡ in_range (has_bits bits) line number
out_of_range bits line n number e out = sym (ap (in_range (has_bits bits) line) e ∙ rw out refl)

pub held_wrong : (bits line value : ℕ) (number held : Option ℕ) → IsHeld number held → held ≡ Some value → ltb value (2 ^ bits) ≡ false → Err (fault.OutOfRange line) ≡ in_range (has_bits bits) line number
held_wrong bits line value number held h e out =
    let p : (h.0 < 2 ^ 64) × (value ≡ h.0) = subst (λ o. SomeIff o (h.0 < 2 ^ 64) h.0) e h.2 in
    out_of_range bits line h.0 number h.1 (subst (λ n. ltb n (2 ^ bits) ≡ false) p.1 out)

pub unheld_wrong : (bits line : ℕ) (number held : Option ℕ) → bits ≤ 64 → IsHeld number held → held ≡ None → Err (fault.OutOfRange line) ≡ in_range (has_bits bits) line number
unheld_wrong bits line number held most h e =
    let big : h.0 < 2 ^ 64 → ⊥ = subst (λ o. SomeIff o (h.0 < 2 ^ 64) h.0) e h.2 in
    elim (cases_Bool (ltb h.0 (2 ^ bits))) [
      | inl small ↦
          (let lt : h.0 < 2 ^ bits = ltb-true h.0 (2 ^ bits) small in
          let le : 2 ^ bits ≤ 2 ^ 64 = pow_mono most in
          absurd (big (omega (arith, lt, le))))
      | inr out ↦ out_of_range bits line h.0 number h.1 out
    ]

-- the next of so many numbers
pub one_of_many : (fits : ℕ → Bool) (count i end : ℕ) (tokens left : List Token) (numbers more : List ℕ) (number : ℕ) → i < count → first_number fits end tokens ≡ Ok (number, left)
    → more ≡ numbers ++ number ∷ [] → after_numbers numbers (first_numbers fits (count - i) end tokens) ≡ after_numbers more (first_numbers fits (count - (i + 1)) end left)
one_of_many fits count i end tokens left numbers more number below e m =
    let next : count - i ≡ suc (count - (i + 1)) = omega arith in
    ap (λ (n : ℕ). after_numbers numbers (first_numbers fits n end tokens)) next
    ∙ one_more fits (count - (i + 1)) end tokens left numbers number e
    ∙ ap (λ (ns : List ℕ). after_numbers ns (first_numbers fits (count - (i + 1)) end left)) (sym m)

pub wrong_of_many : (fits : ℕ → Bool) (count i end : ℕ) (tokens : List Token) (numbers : List ℕ) (wrong : ValueFault) → i < count → first_number fits end tokens ≡ Err wrong
    → after_numbers numbers (first_numbers fits (count - i) end tokens) ≡ Err wrong
wrong_of_many fits count i end tokens numbers wrong below e =
    let next : count - i ≡ suc (count - (i + 1)) = omega arith in
    ap (λ (n : ℕ). after_numbers numbers (first_numbers fits n end tokens)) next ∙ wrong_number fits (count - (i + 1)) end tokens numbers wrong e
