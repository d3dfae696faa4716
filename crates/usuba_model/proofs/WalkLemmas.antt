-- What the walk makes of an expression is what it is unrolled to.
use Rattle.std.proofs.Common.{◌≡◌, ℕ, List, [], ◌∷◌, map, refl, ap, ◌∙◌}
use Rattle.usuba_trees.specs.declared.BitOp.{BitOp}
use Rattle.usuba_trees.specs.declared.Decl.{Decl}
use Rattle.usuba_trees.specs.declared.Expr.{Expr, map-Expr}
use Rattle.usuba_trees.specs.declared.Expr.TheOpen.{Expr-F}
use Rattle.usuba_trees.specs.declared.ShiftLink.{ShiftLink}
use Rattle.usuba_model.specs.Indexes.{Counter, computed}
use Rattle.usuba_model.specs.Unrolled.{operation, call, complement, refresh, joined_all, natural, chained, shifted, each_at, Unrolled, expression_level, unrolled_expression}
use Rattle.usuba_model.specs.Walk.{Signature, Walked, Walk, WalkedLink, walked_at, walked_operation, walked_chain, walked_shift, walked_shifts, walk_level, walk_of}
use Rattle.usuba_model.proofs.Folds.{exprs_related}

module _ (w : ℕ) (signatures : List Signature) where
  -- the walk makes this expression
  abbrev Makes : Walk → Unrolled → Type 0
  Makes walk unrolled = (counters : List Counter) → (walk counters).is ≡ unrolled counters

  abbrev MakesLink : WalkedLink → Unrolled → Type 0
  MakesLink link unrolled = Makes link.operand unrolled

  abbrev Part : Type 0
  Part = (walk : Walk) × (unrolled : Unrolled) × Makes walk unrolled

  abbrev PartLink : Type 0
  PartLink = (link : WalkedLink) × (unrolled : Unrolled) × MakesLink link unrolled

  parts_made : (counters : List Counter) (parts : List Part)
      → map (λ part. part.is) (walked_at counters (map (λ p. p.0) parts)) ≡ each_at counters (map (λ p. p.1) parts)
  parts_made counters [] = refl
  parts_made counters (part ∷ parts) =
      ap (λ e. e ∷ map (λ part. part.is) (walked_at counters (map (λ p. p.0) parts))) (part.2 counters)
      ∙ ap (λ es. part.1 counters ∷ es) (parts_made counters parts)

  chain_made : (counters : List Counter) (op : BitOp) (first : Walked) (rest : List PartLink)
      → (walked_chain signatures counters op first (map (λ p. p.0) rest)).is ≡ chained op first.is (each_at counters (map (λ p. p.1) rest))
  chain_made counters op first [] = refl
  chain_made counters op first (next ∷ rest) =
      chain_made counters op (walked_operation signatures op first next.0.place (next.0.operand counters)) rest
      ∙ ap (λ e. chained op (operation op first.is e) (each_at counters (map (λ p. p.1) rest))) (next.2 counters)

  shifts_made : (counters : List Counter) (first : Walked) (moves : List ShiftLink)
      → (walked_shifts w signatures counters first moves).is ≡ shifted counters first.is moves
  shifts_made counters first [] = refl
  shifts_made counters first (move ∷ moves) = shifts_made counters (walked_shift w signatures counters first move) moves

  level_made : (declared : List Decl) (y : Expr-F Part PartLink)
      → Makes (walk_level w signatures declared (map-Expr Part PartLink Walk WalkedLink (λ p. p.0) (λ p. p.0) y))
      (expression_level declared (map-Expr Part PartLink Unrolled Unrolled (λ p. p.1) (λ p. p.1) y))
  level_made declared (Expr-F.Number place value) counters = refl
  level_made declared (Expr-F.Spot spot) counters = refl
  level_made declared (Expr-F.Tuple parts) counters = ap joined_all (parts_made counters parts)
  level_made declared (Expr-F.Call name args) counters = ap (λ es. call name.text (joined_all es)) (parts_made counters args)
  level_made declared (Expr-F.Not place inner) counters = ap complement (inner.2 counters)
  level_made declared (Expr-F.Chain op first rest) counters =
      chain_made counters op (first.0 counters) rest ∙ ap (λ e. chained op e (each_at counters (map (λ p. p.1) rest))) (first.2 counters)
  level_made declared (Expr-F.Shift first moves) counters =
      shifts_made counters (first.0 counters) moves ∙ ap (λ e. shifted counters e moves) (first.2 counters)
  level_made declared (Expr-F.Refresh place inner k) counters =
      ap (refresh (natural (computed k counters).value)) (inner.2 counters)

  -- the expression that is walked is the one that is unrolled
  pub walk_unrolls : (declared : List Decl) (e : Expr) (counters : List Counter)
      → (walk_of w signatures declared e counters).is ≡ unrolled_expression declared e counters
  walk_unrolls declared =
      exprs_related (walk_level w signatures declared) (λ link. record { place = link.place; operand = link.operand })
      (expression_level declared) (λ link. link.operand) Makes MakesLink (level_made declared) (λ y. y.operand.2)
