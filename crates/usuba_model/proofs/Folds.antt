-- What holds of all folds over trees of the source language, from what holds of one level.
use Rattle.std.proofs.Common.{◌≡◌, List, [], ◌∷◌, map, refl, sym, ap, ◌∙◌, subst}
use Rattle.usuba_trees.specs.declared.Expr.{Expr, fold-Expr, fold-roll-Expr, ind-Expr, roll-Expr, map-Expr}
use Rattle.usuba_trees.specs.declared.Expr.TheOpen.{Expr-F}
use Rattle.usuba_trees.specs.declared.Link.{Link, Link-F, fold-Link, fold-roll-Link, roll-Link, map-Link}

pub map_twice : {X Y Z : Type 0} (f : X → Y) (h : Y → Z) (xs : List X) → map h (map f xs) ≡ map (λ x. h (f x)) xs
map_twice f h [] = refl
map_twice f h (x ∷ xs) = ap (λ ys. h (f x) ∷ ys) (map_twice f h xs)

-- a level mapped twice
expr_twice : {B C B' C' B'' C'' : Type 0} (f : B → B') (g : C → C') (h : B' → B'') (k : C' → C'') (y : Expr-F B C)
    → map-Expr B' C' B'' C'' h k (map-Expr B C B' C' f g y) ≡ map-Expr B C B'' C'' (λ b. h (f b)) (λ c. k (g c)) y
expr_twice f g h k (Expr-F.Number place value) = refl
expr_twice f g h k (Expr-F.Spot s) = refl
expr_twice f g h k (Expr-F.Tuple parts) = ap Expr-F.Tuple (map_twice f h parts)
expr_twice f g h k (Expr-F.Call name args) = ap (Expr-F.Call name) (map_twice f h args)
expr_twice f g h k (Expr-F.Not place inner) = refl
expr_twice f g h k (Expr-F.Chain op first rest) = ap (Expr-F.Chain op (h (f first))) (map_twice g k rest)
expr_twice f g h k (Expr-F.Shift first moves) = refl
expr_twice f g h k (Expr-F.Refresh place inner number) = refl

module _ {A B : Type 0} (level : Expr-F A B → A) (link : Link-F A B → B) (P : A → Type 0) (Q : B → Type 0) where
  -- results of which P holds, and of which Q holds
  abbrev Held : Type 0
  Held = (a : A) × P a

  abbrev HeldLink : Type 0
  HeldLink = (b : B) × Q b

  -- what holds of a level's result where it holds of the results in it
  abbrev pub LevelHolds : Type 0
  LevelHolds = (y : Expr-F Held HeldLink) → P (level (map-Expr Held HeldLink A B (λ h. h.0) (λ h. h.0) y))

  abbrev pub LinkHolds : Type 0
  LinkHolds = (y : Link-F Held HeldLink) → Q (link (map-Link Held HeldLink A B (λ h. h.0) (λ h. h.0) y))

  abbrev folded : Expr → A
  folded = fold-Expr A B level link

  abbrev folded_link : Link → B
  folded_link = fold-Link A B level link

  abbrev Tree : Type 0
  Tree = (e : Expr) × P (folded e)

  abbrev TreeLink : Type 0
  TreeLink = (l : Link) × Q (folded_link l)

  holds_at : LevelHolds → (y : Expr-F Tree TreeLink) → P (folded (roll-Expr (map-Expr Tree TreeLink Expr Link (λ t. t.0) (λ t. t.0) y)))
  holds_at at_level y =
      let results : Expr-F Held HeldLink = map-Expr Tree TreeLink Held HeldLink (λ t. (folded t.0, t.1)) (λ t. (folded_link t.0, t.1)) y in
      let opened : folded (roll-Expr (map-Expr Tree TreeLink Expr Link (λ t. t.0) (λ t. t.0) y)) ≡ level (map-Expr Expr Link A B folded folded_link (map-Expr Tree TreeLink Expr Link (λ t. t.0) (λ t. t.0) y))
      = fold-roll-Expr A B level link (map-Expr Tree TreeLink Expr Link (λ t. t.0) (λ t. t.0) y) in
      let once : map-Expr Expr Link A B folded folded_link (map-Expr Tree TreeLink Expr Link (λ t. t.0) (λ t. t.0) y)
      ≡ map-Expr Held HeldLink A B (λ h. h.0) (λ h. h.0) results
      = expr_twice (λ t. t.0) (λ t. t.0) folded folded_link y
      ∙ sym (expr_twice (λ t. (folded t.0, t.1)) (λ t. (folded_link t.0, t.1)) (λ h. h.0) (λ h. h.0) y) in
      subst P (sym (opened ∙ ap level once)) (at_level results)

  link_twice : {B1 C1 B2 C2 B3 C3 : Type 0} (f : B1 → B2) (g : C1 → C2) (h : B2 → B3) (k : C2 → C3) (y : Link-F B1 C1)
      → map-Link B2 C2 B3 C3 h k (map-Link B1 C1 B2 C2 f g y) ≡ map-Link B1 C1 B3 C3 (λ b. h (f b)) (λ c. k (g c)) y
  link_twice f g h k y = refl

  holds_at_link : LinkHolds → (y : Link-F Tree TreeLink) → Q (folded_link (roll-Link (map-Link Tree TreeLink Expr Link (λ t. t.0) (λ t. t.0) y)))
  holds_at_link at_link y =
      let results : Link-F Held HeldLink = map-Link Tree TreeLink Held HeldLink (λ t. (folded t.0, t.1)) (λ t. (folded_link t.0, t.1)) y in
      let opened : folded_link (roll-Link (map-Link Tree TreeLink Expr Link (λ t. t.0) (λ t. t.0) y)) ≡ link (map-Link Expr Link A B folded folded_link (map-Link Tree TreeLink Expr Link (λ t. t.0) (λ t. t.0) y))
      = fold-roll-Link A B level link (map-Link Tree TreeLink Expr Link (λ t. t.0) (λ t. t.0) y) in
      let once : map-Link Expr Link A B folded folded_link (map-Link Tree TreeLink Expr Link (λ t. t.0) (λ t. t.0) y)
      ≡ map-Link Held HeldLink A B (λ h. h.0) (λ h. h.0) results
      = refl in
      subst Q (sym (opened ∙ ap link once)) (at_link results)

  -- what holds at each level and link holds of the fold of each expression
  pub expr_holds : LevelHolds → LinkHolds → (e : Expr) → P (folded e)
  expr_holds at_level at_link e =
      ind-Expr (λ e. P (folded e)) (λ l. Q (folded_link l))
      (λ x y is. subst (λ (d : Expr-F Expr Link). P (folded (roll-Expr d))) is (holds_at at_level y))
      (λ x y is. subst (λ (d : Link-F Expr Link). Q (folded_link (roll-Link d))) is (holds_at_link at_link y))
      e

-- two folds over the same trees
module _ {A B A' B' : Type 0} (level : Expr-F A B → A) (link : Link-F A B → B) (level' : Expr-F A' B' → A') (link' : Link-F A' B' → B')
    (R : A → A' → Type 0) (S : B → B' → Type 0) where
  -- related results of both
  abbrev pub Pair : Type 0
  Pair = (a : A) × (a' : A') × R a a'

  abbrev pub PairLink : Type 0
  PairLink = (b : B) × (b' : B') × S b b'

  -- the results of a level are related where the results in it are
  abbrev pub LevelsRelated : Type 0
  LevelsRelated = (y : Expr-F Pair PairLink)
      → R (level (map-Expr Pair PairLink A B (λ p. p.0) (λ p. p.0) y)) (level' (map-Expr Pair PairLink A' B' (λ p. p.1) (λ p. p.1) y))

  abbrev pub LinksRelated : Type 0
  LinksRelated = (y : Link-F Pair PairLink)
      → S (link (map-Link Pair PairLink A B (λ p. p.0) (λ p. p.0) y)) (link' (map-Link Pair PairLink A' B' (λ p. p.1) (λ p. p.1) y))

  abbrev first_of : Expr → A
  first_of = fold-Expr A B level link

  abbrev second_of : Expr → A'
  second_of = fold-Expr A' B' level' link'

  abbrev first_link : Link → B
  first_link = fold-Link A B level link

  abbrev second_link : Link → B'
  second_link = fold-Link A' B' level' link'

  abbrev BothTree : Type 0
  BothTree = (e : Expr) × R (first_of e) (second_of e)

  abbrev BothLink : Type 0
  BothLink = (l : Link) × S (first_link l) (second_link l)

  related_at : LevelsRelated → (y : Expr-F BothTree BothLink)
      → R (first_of (roll-Expr (map-Expr BothTree BothLink Expr Link (λ t. t.0) (λ t. t.0) y)))
      (second_of (roll-Expr (map-Expr BothTree BothLink Expr Link (λ t. t.0) (λ t. t.0) y)))
  related_at at_level y =
      let tree : Expr-F Expr Link = map-Expr BothTree BothLink Expr Link (λ t. t.0) (λ t. t.0) y in
      let pairs : Expr-F Pair PairLink = map-Expr BothTree BothLink Pair PairLink
      (λ t. (first_of t.0, second_of t.0, t.1)) (λ t. (first_link t.0, second_link t.0, t.1)) y in
      let once : map-Expr Expr Link A B first_of first_link tree ≡ map-Expr Pair PairLink A B (λ p. p.0) (λ p. p.0) pairs
      = expr_twice (λ t. t.0) (λ t. t.0) first_of first_link y
      ∙ sym (expr_twice (λ t. (first_of t.0, second_of t.0, t.1)) (λ t. (first_link t.0, second_link t.0, t.1)) (λ p. p.0) (λ p. p.0) y) in
      let twice : map-Expr Expr Link A' B' second_of second_link tree ≡ map-Expr Pair PairLink A' B' (λ p. p.1) (λ p. p.1) pairs
      = expr_twice (λ t. t.0) (λ t. t.0) second_of second_link y
      ∙ sym (expr_twice (λ t. (first_of t.0, second_of t.0, t.1)) (λ t. (first_link t.0, second_link t.0, t.1)) (λ p. p.1) (λ p. p.1) y) in
      subst (λ a. R a (second_of (roll-Expr tree))) (sym (fold-roll-Expr A B level link tree ∙ ap level once))
      (subst (λ a'. R (level (map-Expr Pair PairLink A B (λ p. p.0) (λ p. p.0) pairs)) a')
      (sym (fold-roll-Expr A' B' level' link' tree ∙ ap level' twice)) (at_level pairs))

  related_at_link : LinksRelated → (y : Link-F BothTree BothLink)
      → S (first_link (roll-Link (map-Link BothTree BothLink Expr Link (λ t. t.0) (λ t. t.0) y)))
      (second_link (roll-Link (map-Link BothTree BothLink Expr Link (λ t. t.0) (λ t. t.0) y)))
  related_at_link at_link y =
      let tree : Link-F Expr Link = map-Link BothTree BothLink Expr Link (λ t. t.0) (λ t. t.0) y in
      let pairs : Link-F Pair PairLink = map-Link BothTree BothLink Pair PairLink
      (λ t. (first_of t.0, second_of t.0, t.1)) (λ t. (first_link t.0, second_link t.0, t.1)) y in
      subst (λ b. S b (second_link (roll-Link tree))) (sym (fold-roll-Link A B level link tree))
      (subst (λ b'. S (link (map-Link Pair PairLink A B (λ p. p.0) (λ p. p.0) pairs)) b')
      (sym (fold-roll-Link A' B' level' link' tree)) (at_link pairs))

  -- what relates at each level and link relates the two folds of each expression
  pub exprs_related : LevelsRelated → LinksRelated → (e : Expr) → R (first_of e) (second_of e)
  exprs_related at_level at_link e =
      ind-Expr (λ e. R (first_of e) (second_of e)) (λ l. S (first_link l) (second_link l))
      (λ x y is. subst (λ (d : Expr-F Expr Link). R (first_of (roll-Expr d)) (second_of (roll-Expr d))) is (related_at at_level y))
      (λ x y is. subst (λ (d : Link-F Expr Link). S (first_link (roll-Link d)) (second_link (roll-Link d))) is (related_at_link at_link y))
      e
