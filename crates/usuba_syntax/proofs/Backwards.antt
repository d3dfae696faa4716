-- Lists in reverse, as they are built.
use Rattle.std.proofs.Common.{List, [], ◌∷◌, ◌++◌, ◌≡◌, refl, ap, sym, ◌∙◌, reverse}
use Rattle.std.proofs.lemmas.List.{append_assoc}
use mathlib.Core.List.{reverse-append, append-nil}

-- a list in reverse, as `++` builds it from its last element on
abbrev pub backwards : {A : Type 0} → List A → List A
backwards [] = []
backwards (x ∷ xs) = backwards xs ++ x ∷ []

-- a list is the reverse of its reverse
pub reverse-backwards : {A : Type 0} (xs : List A) → reverse (backwards xs) ≡ xs
reverse-backwards [] = refl
reverse-backwards (x ∷ xs) = reverse-append (backwards xs) (x ∷ []) ∙ ap (λ ys. x ∷ ys) (reverse-backwards xs)

-- two lists one after another
pub backwards-append : {A : Type 0} (xs ys : List A) → backwards (xs ++ ys) ≡ backwards ys ++ backwards xs
backwards-append [] ys = sym (append-nil (backwards ys))
backwards-append (x ∷ xs) ys = ap (λ zs. zs ++ x ∷ []) (backwards-append xs ys) ∙ append_assoc (backwards ys) (backwards xs) (x ∷ [])
