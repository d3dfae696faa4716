-- The laws of texts of data.
use Rattle.std.proofs.Common.{ℕ, ◌*◌, zero, suc, Bool, true, false, cond, List, [], ◌∷◌, length, Option, None, Some, Result, Ok, Err, refl, codes}
use Rattle.std.specs.Str.{bytes_eq}
use Rattle.data_text.specs.declared.fault.ValueFault.{ValueFault}
use Rattle.data_text.specs.declared.fault.ValueFault.TheVariants as fault
use Rattle.data_text.specs.Laws.{ValuesOrFault, RunOrFault, Blanks, NoNumber, FirstFault, NoDigit, LeftOver, SmallRun, ManyShares, FewShares}
use Rattle.data_text.specs.Numbers.{number_of}
use Rattle.data_text.specs.Reading.{◌>>=◌, has_bits, is_share_count, in_range, next_token, first_number, first_numbers, after_word, with_nothing_left, shares_first, inputs_first, words_first, IsSaidOrFault}
use Rattle.data_text.specs.Tokens.{Token, TokensLeft, tokens_of}

then_told : {X Y : Type 0} (said : Result X ValueFault) (next : X → Result Y ValueFault) → IsSaidOrFault said → ((x : X) → IsSaidOrFault (next x)) → IsSaidOrFault (said >>= next)
then_told (Ok x) next h g = g x
then_told (Err wrong) next h g = h

choice_told : {X : Type 0} (test : Bool) (x y : Result X ValueFault) → IsSaidOrFault x → IsSaidOrFault y → IsSaidOrFault (cond test x y)
choice_told true x y h g = h
choice_told false x y h g = g

token_told : (end : ℕ) (tokens : List Token) → IsSaidOrFault (next_token end tokens)
token_told end [] = tt
token_told end (token ∷ tokens) = tt

range_told : (fits : ℕ → Bool) (line : ℕ) (number : Option ℕ) → IsSaidOrFault (in_range fits line number)
range_told fits line None = tt
range_told fits line (Some number) = choice_told (fits number) (Ok number) (Err (fault.OutOfRange line)) tt tt

number_told : (fits : ℕ → Bool) (end : ℕ) (tokens : List Token) → IsSaidOrFault (first_number fits end tokens)
number_told fits end tokens =
    then_told (next_token end tokens) (λ next. in_range fits next.0.line (number_of next.0.word) >>= λ number. Ok (number, next.1)) (token_told end tokens)
    (λ next. then_told (in_range fits next.0.line (number_of next.0.word)) (λ number. Ok (number, next.1)) (range_told fits next.0.line (number_of next.0.word)) (λ number. tt))

numbers_told : (fits : ℕ → Bool) (count end : ℕ) (tokens : List Token) → IsSaidOrFault (first_numbers fits count end tokens)
numbers_told fits zero end tokens = tt
numbers_told fits (suc count) end tokens =
    then_told (first_number fits end tokens) (λ first. first_numbers fits count end first.1 >>= λ more. Ok (first.0 ∷ more.0, more.1)) (number_told fits end tokens)
    (λ first. then_told (first_numbers fits count end first.1) (λ more. Ok (first.0 ∷ more.0, more.1)) (numbers_told fits count end first.1) (λ more. tt))

word_told : (word : List ℕ) (end : ℕ) (tokens : List Token) → IsSaidOrFault (after_word word end tokens)
word_told word end tokens =
    then_told (next_token end tokens) (λ next. cond (bytes_eq next.0.word word) (Ok next.1) (Err (fault.Syntax next.0.line))) (token_told end tokens)
    (λ next. choice_told (bytes_eq next.0.word word) (Ok next.1) (Err (fault.Syntax next.0.line)) tt tt)

nothing_told : (numbers : List ℕ) (tokens : List Token) → IsSaidOrFault (with_nothing_left numbers tokens)
nothing_told numbers [] = tt
nothing_told numbers (token ∷ tokens) = tt

pub values_or_fault : ValuesOrFault
values_or_fault count bits bytes =
    let text : TokensLeft = tokens_of bytes in
    then_told (first_numbers (has_bits bits) count text.end text.tokens) (λ taken. with_nothing_left taken.0 taken.1) (numbers_told (has_bits bits) count text.end text.tokens)
    (λ taken. nothing_told taken.0 taken.1)

shares_told : (end : ℕ) (tokens : List Token) → IsSaidOrFault (shares_first end tokens)
shares_told end tokens =
    then_told (after_word (codes "shares") end tokens) (λ named. first_number is_share_count end named) (word_told (codes "shares") end tokens)
    (λ named. number_told is_share_count end named)

inputs_told : (count bits end : ℕ) (tokens : List Token) → IsSaidOrFault (inputs_first count bits end tokens)
inputs_told count bits end tokens =
    then_told (after_word (codes "inputs") end tokens) (λ named. first_numbers (has_bits bits) count end named) (word_told (codes "inputs") end tokens)
    (λ named. numbers_told (has_bits bits) count end named)

words_told : (end : ℕ) (tokens : List Token) → IsSaidOrFault (words_first end tokens)
words_told end tokens =
    then_told (after_word (codes "random") end tokens) (λ named. first_numbers (has_bits 64) (length named) end named) (word_told (codes "random") end tokens)
    (λ named. numbers_told (has_bits 64) (length named) end named)

pub run_or_fault : RunOrFault
run_or_fault inputs bits bytes =
    let end : ℕ = (tokens_of bytes).end in
    then_told (shares_first end (tokens_of bytes).tokens) _ (shares_told end (tokens_of bytes).tokens)
    (λ counted. then_told (inputs_first (inputs * counted.0) bits end counted.1) _ (inputs_told (inputs * counted.0) bits end counted.1)
    (λ given. then_told (words_first end given.1) _ (words_told end given.1) (λ drawn. tt)))

pub blanks : Blanks
blanks = refl

pub no_number : NoNumber
no_number = refl

pub first_fault : FirstFault
first_fault = refl

pub no_digit : NoDigit
no_digit = refl

pub left_over : LeftOver
left_over = refl

pub small_run : SmallRun
small_run = refl

pub many_shares : ManyShares
many_shares = refl

pub few_shares : FewShares
few_shares = refl
