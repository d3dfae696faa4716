-- Texts of a rule that are made one after another.
use Rattle.std.proofs.Common.{◌≡◌, ℕ, zero, suc, ◌+◌, ◌-◌, ◌<◌, ◌≤◌, Bool, true, false, List, [], ◌∷◌, ◌++◌, sym, ap, ◌∙◌, arith, append_assoc, append-nil}
use Rattle.std.specs.Prelude.{Result, Ok, Err, IfOk, if◌then◌else◌}
use Rattle.c_tokens.specs.declared.token.Token.{Token}
use Rattle.c_trees.specs.State.Making.{items_of}

-- what holds of an answer holds of it in other words
pub if_ok : {T E : Type 0} {P Q : T → Type 0} (r : Result T E) → ((x : T) → P x → Q x) → IfOk r P → IfOk r Q
if_ok (Ok x) f p = f x p
if_ok (Err e) f p = p

-- items before others
abbrev pub joined : {X : Type 0} → List X → List X × List Token → List X × List Token
joined made others = (made ++ others.0, others.1)

-- one item more
pub step : {X : Type 0} (ends : List Token → Bool) (next : List Token → X × List Token) (n k : ℕ) (made longer : List X)
    (rest after : List Token) (item : X) (whole : List X × List Token)
    → k < n → ends rest ≡ false → (item, after) ≡ next rest → longer ≡ made ++ item ∷ []
    → joined made (items_of ends next (n - k) rest) ≡ whole → joined longer (items_of ends next (n - (k + 1)) after) ≡ whole
step ends next n k made longer rest after item whole within goes is longer_is so_far =
    let count : n - k ≡ suc (n - (k + 1)) = omega (arith, within) in
    let opened : items_of ends next (n - k) rest ≡ (item ∷ (items_of ends next (n - (k + 1)) after).0, (items_of ends next (n - (k + 1)) after).1) =
    ap (λ m. items_of ends next m rest) count
    ∙ ap (λ (b : Bool). if b then ([], rest) else ((next rest).0 ∷ (items_of ends next (n - (k + 1)) (next rest).1).0, (items_of ends next (n - (k + 1)) (next rest).1).1)) goes
    ∙ ap (λ x. (x.0 ∷ (items_of ends next (n - (k + 1)) x.1).0, (items_of ends next (n - (k + 1)) x.1).1)) (sym is) in
    let others = items_of ends next (n - (k + 1)) after in
    ap (λ l. (l ++ others.0, others.1)) longer_is
    ∙ ap (λ l. (l, others.1)) (append_assoc made (item ∷ []) others.0)
    ∙ ap (joined made) (sym opened) ∙ so_far

-- the end of the items
pub stop : {X : Type 0} (ends : List Token → Bool) (next : List Token → X × List Token) (m : ℕ) (made : List X)
    (rest : List Token) (whole : List X × List Token)
    → ends rest ≡ true → joined made (items_of ends next m rest) ≡ whole → (made, rest) ≡ whole
stop ends next zero made rest whole closes so_far = ap (λ l. (l, rest)) (sym (append-nil made)) ∙ so_far
stop ends next (suc m) made rest whole closes so_far =
    ap (λ l. (l, rest)) (sym (append-nil made))
    ∙ ap (λ (b : Bool). joined made (if b then ([], rest) else ((next rest).0 ∷ (items_of ends next m (next rest).1).0, (items_of ends next m (next rest).1).1))) (sym closes)
    ∙ so_far

-- so many items
pub finish : {X : Type 0} (ends : List Token → Bool) (next : List Token → X × List Token) (n k : ℕ) (made : List X)
    (rest : List Token) (whole : List X × List Token)
    → n ≤ k → joined made (items_of ends next (n - k) rest) ≡ whole → (made, rest) ≡ whole
finish ends next n k made rest whole past so_far =
    let none : n - k ≡ 0 = omega (arith, past) in
    ap (λ l. (l, rest)) (sym (append-nil made)) ∙ ap (λ m. joined made (items_of ends next m rest)) (sym none) ∙ so_far
