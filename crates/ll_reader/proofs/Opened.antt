-- A stack as what is due: its last element is due first.
use Rattle.std.proofs.Common.{◌≡◌, ℕ, ◌+◌, ◌<◌, ◌≤◌, List, [], ◌∷◌, ◌++◌, map, reverse, length, get_or, take, drop, sym, cond, Some, ap, ◌∙◌, arith}
use Rattle.std.proofs.lemmas.List.{reverse-append, drop_more, get_or-take, length-take, drop_all}
use Rattle.ll_reader.specs.declared.grammar.Item.{Item}
use Rattle.ll_reader.specs.declared.grammar.Production.{Production}
use Rattle.ll_reader.specs.Derivation.{items}
use Rattle.ll_reader.specs.Depth.{items_at}

-- a push puts an element first
pub pushed : {X : Type 0} (old new : List X) (x : X) → new ≡ old ++ x ∷ [] → reverse new ≡ x ∷ reverse old
pushed old new x is = ap reverse is ∙ reverse-append old (x ∷ [])

-- one more item on top
pub item_more : (xs ys : List Item) (n at i depth : ℕ) (d : Item) (old new : List (Item × ℕ)) (base : List (Item × ℕ)) → ys ≡ xs → at ≡ i + 1 → at ≤ n → n ≤ length xs → reverse old ≡ map (λ (item : Item). (item, depth)) (drop at (take n xs)) ++ base → new ≡ old ++ (get_or ys i d, depth) ∷ [] → reverse new ≡ map (λ (item : Item). (item, depth)) (drop i (take n xs)) ++ base
item_more xs ys n at i depth d old new base same next below room so_far is =
    let inside : i < length (take n xs) = simp length-take (omega arith) in
    let before : i < n = omega arith in
    let f : Item → Item × ℕ = λ (item : Item). (item, depth) in
    let parts : drop i (take n xs) ≡ get_or xs i d ∷ drop (i + 1) (take n xs) = drop_more (take n xs) i d inside ∙ ap (λ (x : Item). x ∷ drop (i + 1) (take n xs)) (get_or-take n xs i d before) in
    let read : get_or ys i d ≡ get_or xs i d = ap (λ (zs : List Item). get_or zs i d) same in
    let front : reverse new ≡ (get_or ys i d, depth) ∷ reverse old = pushed old new (get_or ys i d, depth) is in
    let below_it : reverse old ≡ map f (drop (i + 1) (take n xs)) ++ base = so_far ∙ ap (λ k. map f (drop k (take n xs)) ++ base) next in
    front ∙ ap (λ (x : Item). (x, depth) ∷ reverse old) read ∙ ap (λ (zs : List (Item × ℕ)). (get_or xs i d, depth) ∷ zs) below_it ∙ sym (ap (λ (zs : List Item). map f zs ++ base) parts)

-- all items
pub item_all : (p : Production) (depth d at : ℕ) (due base : List (Item × ℕ)) → d ≡ cond p.deep (depth + 1) depth → at ≡ 0 → reverse due ≡ map (λ (item : Item). (item, d)) (drop at (items p)) ++ base → reverse due ≡ items_at depth (Some p) ++ base
item_all p depth d at due base deeper none h =
    h ∙ ap (λ k. map (λ (item : Item). (item, d)) (drop k (items p)) ++ base) none ∙ ap (λ e. map (λ (item : Item). (item, e)) (items p) ++ base) deeper

-- no item yet
pub item_none : (xs : List Item) (n depth : ℕ) (base : List (Item × ℕ)) → base ≡ map (λ (item : Item). (item, depth)) (drop n (take n xs)) ++ base
item_none xs n depth base =
    let short : length (take n xs) ≤ n = simp length-take (omega arith) in
    sym (ap (λ (ys : List Item). map (λ (item : Item). (item, depth)) ys ++ base) (drop_all n (take n xs) short))
