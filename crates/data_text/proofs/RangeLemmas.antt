-- The values that a text says are in their ranges.
use Rattle.std.proofs.Common.{◌≡◌, ℕ, zero, suc, ◌<◌, ◌≤◌, ◌^◌, Bool, true, false, cond, ltb, leb, List, ◌∷◌, length, Option, None, Some, Result, Ok, Err, refl, ap, subst, arith, codes}
use Rattle.std.specs.Prelude.{All, IfOk}
use Rattle.std.proofs.lemmas.Bool.{and_parts, leb-true, ltb-true}
use Rattle.data_text.specs.declared.fault.ValueFault.{ValueFault}
use Rattle.data_text.specs.declared.fault.ValueFault.TheVariants as fault
use Rattle.data_text.specs.Numbers.{number_of}
use Rattle.data_text.specs.Ranges.{AreValues}
use Rattle.data_text.specs.Reading.{◌>>=◌, after_word, first_number, first_numbers, has_bits, in_range, inputs_first, is_share_count, next_token, shares_first, words_first}
use Rattle.data_text.specs.Tokens.{Token}

-- what holds of each answer of the steps holds of the answer
then_holds : {X Y : Type 0} (P : X → Type 0) (Q : Y → Type 0) (said : Result X ValueFault) (next : X → Result Y ValueFault) → IfOk said P → ((x : X) → P x → IfOk (next x) Q)
    → IfOk (said >>= next) Q
then_holds P Q (Ok x) next h g = g x h
then_holds P Q (Err wrong) next h g = tt

anything : {X : Type 0} (said : Result X ValueFault) → IfOk said (λ _. Unit {0})
anything (Ok x) = tt
anything (Err wrong) = tt

in_range_passes : (fits : ℕ → Bool) (line : ℕ) (number : Option ℕ) → IfOk (in_range fits line number) (λ n. fits n ≡ true)
in_range_passes fits line None = tt
in_range_passes fits line (Some n) = go (fits n) refl
  where
    go : (b : Bool) → fits n ≡ b → IfOk (cond b (Ok n) (Err (fault.OutOfRange line))) (λ m. fits m ≡ true)
    go true e = e
    go false e = tt

number_passes : (fits : ℕ → Bool) (end : ℕ) (tokens : List Token) → IfOk (first_number fits end tokens) (λ first. fits first.0 ≡ true)
number_passes fits end tokens =
    then_holds (λ _. Unit {0}) (λ first. fits first.0 ≡ true) (next_token end tokens) (λ next. in_range fits next.0.line (number_of next.0.word) >>= λ number. Ok (number, next.1))
    (anything (next_token end tokens))
    (λ next _. then_holds (λ n. fits n ≡ true) (λ first. fits first.0 ≡ true) (in_range fits next.0.line (number_of next.0.word)) (λ number. Ok (number, next.1))
    (in_range_passes fits next.0.line (number_of next.0.word)) (λ n h. h))

-- so many numbers, each of which passes
record Pass (fits : ℕ → Bool) (count : ℕ) (numbers : List ℕ) : Type 0 where
  as_many : length numbers ≡ count
  each : All (λ n. fits n ≡ true) numbers

numbers_pass : (fits : ℕ → Bool) (count end : ℕ) (tokens : List Token) → IfOk (first_numbers fits count end tokens) (λ taken. Pass fits count taken.0)
numbers_pass fits zero end tokens = record { as_many = refl; each = λ k d lt. absurd (omega arith) }
numbers_pass fits (suc count) end tokens =
    then_holds (λ first. fits first.0 ≡ true) (λ taken. Pass fits (suc count) taken.0) (first_number fits end tokens)
    (λ first. first_numbers fits count end first.1 >>= λ more. Ok (first.0 ∷ more.0, more.1)) (number_passes fits end tokens)
    (λ first h. then_holds (λ taken. Pass fits count taken.0) (λ taken. Pass fits (suc count) taken.0) (first_numbers fits count end first.1) (λ more. Ok (first.0 ∷ more.0, more.1))
    (numbers_pass fits count end first.1) (λ more p. one_more first.0 more.0 h p))
  where
    one_more : (n : ℕ) (ns : List ℕ) → fits n ≡ true → Pass fits count ns → Pass fits (suc count) (n ∷ ns)
    one_more n ns h p = record { as_many = ap suc p.as_many; each = each }
      where
        each : All (λ m. fits m ≡ true) (n ∷ ns)
        each zero d lt = h
        each (suc k) d lt = p.each k d (omega arith)

of_bits : (bits count : ℕ) (numbers : List ℕ) → Pass (has_bits bits) count numbers → AreValues count bits numbers
of_bits bits count numbers p = record { as_many = p.as_many; each = λ k d lt. ltb-true _ (2 ^ bits) (p.each k d lt) }

told : {X : Type 0} (P : X → Type 0) (said : Result X ValueFault) (x : X) → said ≡ Ok x → IfOk said P → P x
told {X} P said x e h = subst (λ (r : Result X ValueFault). IfOk r P) e h

pub values_fit : (count bits end : ℕ) (tokens left : List Token) (values : List ℕ) → first_numbers (has_bits bits) count end tokens ≡ Ok (values, left) → AreValues count bits values
values_fit count bits end tokens left values e =
    of_bits bits count values (told (λ taken. Pass (has_bits bits) count taken.0) (first_numbers (has_bits bits) count end tokens) (values, left) e (numbers_pass (has_bits bits) count end tokens))

after : {Y : Type 0} (Q : Y → Type 0) (word : List ℕ) (end : ℕ) (tokens : List Token) (next : List Token → Result Y ValueFault) → ((left : List Token) → IfOk (next left) Q)
    → IfOk (after_word word end tokens >>= next) Q
after Q word end tokens next h = then_holds (λ _. Unit {0}) Q (after_word word end tokens) next (anything (after_word word end tokens)) (λ left _. h left)

pub shares_fit : (end : ℕ) (tokens left : List Token) (shares : ℕ) → shares_first end tokens ≡ Ok (shares, left) → (0 < shares) × (shares ≤ 64)
shares_fit end tokens left shares e =
    let passes : is_share_count shares ≡ true =
    told (λ counted. is_share_count counted.0 ≡ true) (shares_first end tokens) (shares, left) e
    (after (λ counted. is_share_count counted.0 ≡ true) (codes "shares") end tokens (λ named. first_number is_share_count end named) (λ named. number_passes is_share_count end named)) in
    let v = and_parts (ltb 0 shares) (leb shares 64) passes in
    (ltb-true 0 shares v.0, leb-true shares 64 v.1)

pub inputs_fit : (count bits end : ℕ) (tokens left : List Token) (inputs : List ℕ) → inputs_first count bits end tokens ≡ Ok (inputs, left) → AreValues count bits inputs
inputs_fit count bits end tokens left inputs e =
    of_bits bits count inputs
    (told (λ given. Pass (has_bits bits) count given.0) (inputs_first count bits end tokens) (inputs, left) e
    (after (λ given. Pass (has_bits bits) count given.0) (codes "inputs") end tokens (λ named. first_numbers (has_bits bits) count end named) (λ named. numbers_pass (has_bits bits) count end named)))

each_word : (said : Result (List ℕ × List Token) ValueFault) (count : ℕ) → IfOk said (λ taken. Pass (has_bits 64) count taken.0) → IfOk said (λ taken. All (λ word. word < 2 ^ 64) taken.0)
each_word (Ok taken) count p = (of_bits 64 count taken.0 p).each
each_word (Err wrong) count p = tt

pub words_fit : (end : ℕ) (tokens left : List Token) (words : List ℕ) → words_first end tokens ≡ Ok (words, left) → All (λ word. word < 2 ^ 64) words
words_fit end tokens left words e =
    told (λ drawn. All (λ word. word < 2 ^ 64) drawn.0) (words_first end tokens) (words, left) e
    (after (λ drawn. All (λ word. word < 2 ^ 64) drawn.0) (codes "random") end tokens (λ named. first_numbers (has_bits 64) (length named) end named)
    (λ named. each_word (first_numbers (has_bits 64) (length named) end named) (length named) (numbers_pass (has_bits 64) (length named) end named)))
