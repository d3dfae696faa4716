-- What holds of each of some things, for parts of lists.
use Rattle.std.proofs.Common.{ℕ, zero, suc, ◌<◌, List, [], ◌∷◌, ◌++◌, length, take, drop, get_or, arith}
use Rattle.usuba_code.specs.CodeLaw.{Each}

module _ {A : Type 0} (P : A → Type 0) where
  pub each_append : (xs ys : List A) → Each P xs → Each P ys → Each P (xs ++ ys)
  each_append [] ys p q = q
  each_append (x ∷ xs) ys p q = (p.0, each_append xs ys p.1 q)

  pub each_push : (xs : List A) (y : A) → Each P xs → P y → Each P (xs ++ y ∷ [])
  each_push xs y p q = each_append xs (y ∷ []) p (q, tt)

  pub each_take : (n : ℕ) (xs : List A) → Each P xs → Each P (take n xs)
  each_take zero xs p = tt
  each_take (suc n) [] p = tt
  each_take (suc n) (x ∷ xs) p = (p.0, each_take n xs p.1)

  pub each_drop : (n : ℕ) (xs : List A) → Each P xs → Each P (drop n xs)
  each_drop zero xs p = p
  each_drop (suc n) [] p = tt
  each_drop (suc n) (x ∷ xs) p = each_drop n xs p.1

  pub each_at : (xs : List A) (i : ℕ) (d : A) → i < length xs → Each P xs → P (get_or xs i d)
  each_at [] i d less p = absurd (omega (arith, less))
  each_at (x ∷ xs) zero d less p = p.0
  each_at (x ∷ xs) (suc i) d less p = each_at xs i d (omega (arith, less)) p.1

-- what follows from what holds of each
pub each_then : {A : Type 0} (P Q : A → Type 0) → ((x : A) → P x → Q x) → (xs : List A) → Each P xs → Each Q xs
each_then P Q f [] p = tt
each_then P Q f (x ∷ xs) p = (f x p.0, each_then P Q f xs p.1)
