-- How many bytes two texts have alike, byte by byte.
use Rattle.std.proofs.Common.{◌≡◌, ℕ, zero, suc, ◌+◌, ◌<◌, ◌≤◌, List, [], ◌∷◌, length, get_or, drop, refl, sym, ap, ◌∙◌, arith, add-one, eq-eqb}
use Rattle.std.proofs.lemmas.List.{drop_all}
use Rattle.c_tokens.specs.Openings.{alike}

alike_next : (bytes text : List ℕ) (n : ℕ) → n < length bytes → n < length text → get_or bytes n 0 ≡ get_or text n 0
    → alike (drop n bytes) (drop n text) ≡ 1 + alike (drop (suc n) bytes) (drop (suc n) text)
alike_next [] text n within inside same = absurd (omega (arith, within))
alike_next (b ∷ bytes) [] n within inside same = absurd (omega (arith, inside))
alike_next (b ∷ bytes) (c ∷ text) zero within inside same = rw (eq-eqb b c same) refl
alike_next (b ∷ bytes) (c ∷ text) (suc n) within inside same =
    alike_next bytes text n (omega (arith, within)) (omega (arith, inside)) same

-- one byte more is alike
pub alike_more : (bytes text : List ℕ) (n : ℕ) → n < length bytes → n < length text → get_or bytes n 0 ≡ get_or text n 0
    → n + alike (drop n bytes) (drop n text) ≡ n + 1 + alike (drop (n + 1) bytes) (drop (n + 1) text)
alike_more bytes text n within inside same =
    let more = alike_next bytes text n within inside same
    ∙ ap (λ k. 1 + alike (drop k bytes) (drop k text)) (sym (add-one n)) in
    omega (arith, more)

alike_none : (bytes : List ℕ) → alike bytes [] ≡ 0
alike_none [] = refl
alike_none (b ∷ bytes) = refl

-- none is alike past the end
pub alike_end : (bytes text : List ℕ) (n : ℕ) → length text ≤ n → n + alike (drop n bytes) (drop n text) ≡ n
alike_end bytes text n past =
    let none : alike (drop n bytes) (drop n text) ≡ 0 = ap (alike (drop n bytes)) (drop_all n text past) ∙ alike_none (drop n bytes) in
    omega (arith, none)
