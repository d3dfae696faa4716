-- The first of what a list's elements give, and the steps of a loop that looks for it.
use Rattle.std.proofs.Common.{◌≡◌, ℕ, suc, ◌+◌, ◌<◌, ◌≤◌, List, [], ◌∷◌, ◌++◌, length, drop, get_or, Option, Some, None}
use Rattle.std.proofs.Common.{refl, sym, ap, ◌∙◌, add-one}
use Rattle.std.proofs.Math.Seq.{drop-cons}
use Rattle.std.proofs.lemmas.List.{drop_all}
use Rattle.std.specs.Option.{option_or}

-- the first that one of the elements gives
abbrev pub first_some : {A B : Type 0} → (A → Option B) → List A → Option B
first_some f [] = None
first_some f (x ∷ xs) = option_or (f x) (first_some f xs)

-- nothing after something
pub or-none : {B : Type 0} (a : Option B) → option_or a None ≡ a
or-none None = refl
or-none (Some x) = refl

-- the first of three
pub or-assoc : {B : Type 0} (a b c : Option B) → option_or (option_or a b) c ≡ option_or a (option_or b c)
or-assoc None b c = refl
or-assoc (Some x) b c = refl

-- what is left of a list begins with the next element
pub drop-next : {A : Type 0} (xs : List A) (i : ℕ) (item : A) → i < length xs → item ≡ get_or xs i item
    → drop i xs ≡ item ∷ drop (i + 1) xs
drop-next xs i item within is =
    drop-cons xs i item within ∙ ap (λ x. x ∷ drop (suc i) xs) (sym is) ∙ ap (λ k. item ∷ drop k xs) (sym (add-one i))

-- one more element was looked at
pub loop-step : {A B : Type 0} (f : A → Option B) (xs : List A) (i : ℕ) (x : A) (before found after whole : Option B)
    → i < length xs → x ≡ get_or xs i x → found ≡ f x → after ≡ option_or before found
    → option_or before (first_some f (drop i xs)) ≡ whole → option_or after (first_some f (drop (i + 1) xs)) ≡ whole
loop-step f xs i x before found after whole within is gives now so_far =
    let rest = first_some f (drop (i + 1) xs) in
    ap (λ o. option_or o rest) now ∙ or-assoc before found rest
    ∙ ap (option_or before) (ap (λ o. option_or o rest) gives ∙ ap (first_some f) (sym (drop-next xs i x within is)))
    ∙ so_far

-- all elements were looked at
pub loop-end : {A B : Type 0} (f : A → Option B) (xs : List A) (i : ℕ) (before whole : Option B)
    → length xs ≤ i → option_or before (first_some f (drop i xs)) ≡ whole → before ≡ whole
loop-end f xs i before whole past so_far =
    sym (or-none before) ∙ ap (λ l. option_or before (first_some f l)) (sym (drop_all i xs past)) ∙ so_far

-- two lists one after the other
pub first_some-append : {A B : Type 0} (f : A → Option B) (a b : List A)
    → first_some f (a ++ b) ≡ option_or (first_some f a) (first_some f b)
first_some-append f [] b = refl
first_some-append f (x ∷ a) b =
    ap (option_or (f x)) (first_some-append f a b) ∙ sym (or-assoc (f x) (first_some f a) (first_some f b))
