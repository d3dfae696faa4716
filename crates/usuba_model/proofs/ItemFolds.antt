-- What relates two folds over the items of nodes, from what relates their levels.
use Rattle.std.proofs.Common.{◌≡◌, List, refl, sym, ap, ◌∙◌, subst}
use Rattle.usuba_trees.specs.declared.Item.{Item, fold-Item, fold-roll-Item, ind-Item, roll-Item, map-Item}
use Rattle.usuba_trees.specs.declared.Item.TheOpen.{Item-F}
use Rattle.usuba_trees.specs.declared.Loop.{Loop, Loop-F, fold-Loop, fold-roll-Loop, roll-Loop, map-Loop}
use Rattle.usuba_model.proofs.Folds.{map_twice}

-- a level mapped twice
item_twice : {B C B' C' B'' C'' : Type 0} (f : B → B') (g : C → C') (h : B' → B'') (k : C' → C'') (y : Item-F B C)
    → map-Item B' C' B'' C'' h k (map-Item B C B' C' f g y) ≡ map-Item B C B'' C'' (λ b. h (f b)) (λ c. k (g c)) y
item_twice f g h k (Item-F.Equation equation) = refl
item_twice f g h k (Item-F.Loop loop) = refl

-- a loop mapped twice
loop_twice : {B C B' C' B'' C'' : Type 0} (f : B → B') (g : C → C') (h : B' → B'') (k : C' → C'') (y : Loop-F B C)
    → map-Loop B' C' B'' C'' h k (map-Loop B C B' C' f g y) ≡ map-Loop B C B'' C'' (λ b. h (f b)) (λ c. k (g c)) y
loop_twice {B = B} {C = C} {B'' = B''} {C'' = C''} f g h k y = ap (remade y) (map_twice f h y.items)
  where
    remade : Loop-F B C → List B'' → Loop-F B'' C''
    remade y items = record { place = y.place; counter = y.counter; low = y.low; high = y.high; items = items }

module _ {A B A' B' : Type 0} (level : Item-F A B → A) (link : Loop-F A B → B) (level' : Item-F A' B' → A') (link' : Loop-F A' B' → B')
    (R : A → A' → Type 0) (S : B → B' → Type 0) where
  -- related results of both
  abbrev pub Pair : Type 0
  Pair = (a : A) × (a' : A') × R a a'

  abbrev pub PairLoop : Type 0
  PairLoop = (b : B) × (b' : B') × S b b'

  abbrev pub ItemsRelated : Type 0
  ItemsRelated = (y : Item-F Pair PairLoop)
      → R (level (map-Item Pair PairLoop A B (λ p. p.0) (λ p. p.0) y)) (level' (map-Item Pair PairLoop A' B' (λ p. p.1) (λ p. p.1) y))

  abbrev pub LoopsRelated : Type 0
  LoopsRelated = (y : Loop-F Pair PairLoop)
      → S (link (map-Loop Pair PairLoop A B (λ p. p.0) (λ p. p.0) y)) (link' (map-Loop Pair PairLoop A' B' (λ p. p.1) (λ p. p.1) y))

  abbrev first_of : Item → A
  first_of = fold-Item A B level link

  abbrev second_of : Item → A'
  second_of = fold-Item A' B' level' link'

  abbrev first_loop : Loop → B
  first_loop = fold-Loop A B level link

  abbrev second_loop : Loop → B'
  second_loop = fold-Loop A' B' level' link'

  abbrev BothTree : Type 0
  BothTree = (e : Item) × R (first_of e) (second_of e)

  abbrev BothLoop : Type 0
  BothLoop = (l : Loop) × S (first_loop l) (second_loop l)

  related_at : ItemsRelated → (y : Item-F BothTree BothLoop)
      → R (first_of (roll-Item (map-Item BothTree BothLoop Item Loop (λ t. t.0) (λ t. t.0) y)))
      (second_of (roll-Item (map-Item BothTree BothLoop Item Loop (λ t. t.0) (λ t. t.0) y)))
  related_at at_level y =
      let tree : Item-F Item Loop = map-Item BothTree BothLoop Item Loop (λ t. t.0) (λ t. t.0) y in
      let pairs : Item-F Pair PairLoop = map-Item BothTree BothLoop Pair PairLoop
      (λ t. (first_of t.0, second_of t.0, t.1)) (λ t. (first_loop t.0, second_loop t.0, t.1)) y in
      let once : map-Item Item Loop A B first_of first_loop tree ≡ map-Item Pair PairLoop A B (λ p. p.0) (λ p. p.0) pairs
      = item_twice (λ t. t.0) (λ t. t.0) first_of first_loop y
      ∙ sym (item_twice (λ t. (first_of t.0, second_of t.0, t.1)) (λ t. (first_loop t.0, second_loop t.0, t.1)) (λ p. p.0) (λ p. p.0) y) in
      let twice : map-Item Item Loop A' B' second_of second_loop tree ≡ map-Item Pair PairLoop A' B' (λ p. p.1) (λ p. p.1) pairs
      = item_twice (λ t. t.0) (λ t. t.0) second_of second_loop y
      ∙ sym (item_twice (λ t. (first_of t.0, second_of t.0, t.1)) (λ t. (first_loop t.0, second_loop t.0, t.1)) (λ p. p.1) (λ p. p.1) y) in
      subst (λ a. R a (second_of (roll-Item tree))) (sym (fold-roll-Item A B level link tree ∙ ap level once))
      (subst (λ a'. R (level (map-Item Pair PairLoop A B (λ p. p.0) (λ p. p.0) pairs)) a')
      (sym (fold-roll-Item A' B' level' link' tree ∙ ap level' twice)) (at_level pairs))

  related_at_loop : LoopsRelated → (y : Loop-F BothTree BothLoop)
      → S (first_loop (roll-Loop (map-Loop BothTree BothLoop Item Loop (λ t. t.0) (λ t. t.0) y)))
      (second_loop (roll-Loop (map-Loop BothTree BothLoop Item Loop (λ t. t.0) (λ t. t.0) y)))
  related_at_loop at_loop y =
      let tree : Loop-F Item Loop = map-Loop BothTree BothLoop Item Loop (λ t. t.0) (λ t. t.0) y in
      let pairs : Loop-F Pair PairLoop = map-Loop BothTree BothLoop Pair PairLoop
      (λ t. (first_of t.0, second_of t.0, t.1)) (λ t. (first_loop t.0, second_loop t.0, t.1)) y in
      let once : map-Loop Item Loop A B first_of first_loop tree ≡ map-Loop Pair PairLoop A B (λ p. p.0) (λ p. p.0) pairs
      = loop_twice {C' = Loop} (λ t. t.0) (λ t. t.0) first_of first_loop y
      ∙ sym (loop_twice {C' = PairLoop} (λ t. (first_of t.0, second_of t.0, t.1)) (λ t. (first_loop t.0, second_loop t.0, t.1)) (λ p. p.0) (λ p. p.0) y) in
      let twice : map-Loop Item Loop A' B' second_of second_loop tree ≡ map-Loop Pair PairLoop A' B' (λ p. p.1) (λ p. p.1) pairs
      = loop_twice {C' = Loop} (λ t. t.0) (λ t. t.0) second_of second_loop y
      ∙ sym (loop_twice {C' = PairLoop} (λ t. (first_of t.0, second_of t.0, t.1)) (λ t. (first_loop t.0, second_loop t.0, t.1)) (λ p. p.1) (λ p. p.1) y) in
      subst (λ b. S b (second_loop (roll-Loop tree))) (sym (fold-roll-Loop A B level link tree ∙ ap link once))
      (subst (λ b'. S (link (map-Loop Pair PairLoop A B (λ p. p.0) (λ p. p.0) pairs)) b')
      (sym (fold-roll-Loop A' B' level' link' tree ∙ ap link' twice)) (at_loop pairs))

  -- what relates at each level and loop relates the two folds of each item
  pub items_related : ItemsRelated → LoopsRelated → (e : Item) → R (first_of e) (second_of e)
  items_related at_level at_loop e =
      ind-Item (λ e. R (first_of e) (second_of e)) (λ l. S (first_loop l) (second_loop l))
      (λ x y is. subst (λ (d : Item-F Item Loop). R (first_of (roll-Item d)) (second_of (roll-Item d))) is (related_at at_level y))
      (λ x y is. subst (λ (d : Loop-F Item Loop). S (first_loop (roll-Loop d)) (second_loop (roll-Loop d))) is (related_at_loop at_loop y))
      e
