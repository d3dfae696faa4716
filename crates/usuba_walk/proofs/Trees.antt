-- The walk through an expression, variant by variant.
use Rattle.std.proofs.Common.{◌≡◌, ℕ, List, [], ◌∷◌, map, refl, sym, ap, ◌∙◌}
use Rattle.tor_edge.specs.declared.place.Place.{Place}
use Rattle.usuba_trees.specs.declared.BitOp.{BitOp}
use Rattle.usuba_trees.specs.declared.Decl.{Decl}
use Rattle.usuba_trees.specs.declared.Expr.{Expr, fold-Expr, fold-roll-Expr, roll-Expr, map-Expr}
use Rattle.usuba_trees.specs.declared.Expr.TheOpen.{Expr-F}
use Rattle.usuba_trees.specs.declared.Expr.TheVariants as e
use Rattle.usuba_trees.specs.declared.Index.{Index}
use Rattle.usuba_trees.specs.declared.Link.{Link, fold-Link, fold_out-Link}
use Rattle.usuba_trees.specs.declared.ShiftLink.{ShiftLink}
use Rattle.usuba_trees.specs.declared.Spot.{Spot}
use Rattle.usuba_trees.specs.declared.Word.{Word}
use Rattle.usuba_model.specs.Cells.{spot_read}
use Rattle.usuba_model.specs.Indexes.{Counter, computed}
use Rattle.usuba_model.specs.Unrolled.{number, cells}
use Rattle.usuba_model.specs.Walk.{Signature, Walked, Walk, WalkedLink, number_step, spot_step, walked_at, walked_parts, walked_call, walked_complement, walked_chain, walked_shifts, walked_refresh, walk_level, walk_of}

module _ (w : ℕ) (signatures : List Signature) (declared : List Decl) where
  abbrev link_of : Link → WalkedLink
  link_of link = record { place = link.place; operand = walk_of w signatures declared link.operand }

  -- what the walk makes of one layer of a tree
  abbrev level : Expr-F Expr Link → Walk
  level layer =
      walk_level w signatures declared
      (map-Expr Expr Link Walk WalkedLink
      (fold-Expr Walk WalkedLink (walk_level w signatures declared) (λ link. record { place = link.place; operand = link.operand }))
      (fold-Link Walk WalkedLink (walk_level w signatures declared) (λ link. record { place = link.place; operand = link.operand }))
      layer)

  -- the walk goes layer by layer
  walked-layer : (layer : Expr-F Expr Link) (a : Expr) → roll-Expr layer ≡ a → walk_of w signatures declared a ≡ level layer
  walked-layer layer a rolls =
      ap (walk_of w signatures declared) (sym rolls)
      ∙ fold-roll-Expr Walk WalkedLink (walk_level w signatures declared) (λ link. record { place = link.place; operand = link.operand }) layer

  links-are : (links : List Link)
      → map (fold-Link Walk WalkedLink (walk_level w signatures declared) (λ link. record { place = link.place; operand = link.operand })) links
      ≡ map link_of links
  links-are [] = refl
  links-are (link ∷ links) =
      cc (fold_out-Link Walk WalkedLink (walk_level w signatures declared) (λ link. record { place = link.place; operand = link.operand }) link, links-are links)

  -- the walks through some expressions
  abbrev pub parts_of : List Counter → List Expr → List Walked
  parts_of counters parts = walked_at counters (map (walk_of w signatures declared) parts)

  -- further operands, with their walks
  abbrev pub links_of : List Link → List WalkedLink
  links_of links = map link_of links

  module _ (counters : List Counter) where
    -- the walk through a number
    pub walked-number : (place : Place) (value : ℕ) → walk_of w signatures declared (e.Number place value) counters
        ≡ record { is = number value; steps = number_step w place value ∷ [] }
    walked-number place value =
        ap (λ walk. walk counters) (walked-layer (Expr-F.Number place value) (e.Number place value) (e.rolls-Number place value))

    -- the walk through a spot
    pub walked-spot : (spot : Spot) → walk_of w signatures declared (e.Spot spot) counters
        ≡ record { is = cells (spot_read declared counters spot).cells; steps = spot_step spot.name.place (spot_read declared counters spot) ∷ [] }
    walked-spot spot = ap (λ walk. walk counters) (walked-layer (Expr-F.Spot spot) (e.Spot spot) (e.rolls-Spot spot))

    -- the walk through a tuple
    pub walked-tuple : (parts : List Expr) → walk_of w signatures declared (e.Tuple parts) counters ≡ walked_parts (parts_of counters parts)
    walked-tuple parts = ap (λ walk. walk counters) (walked-layer (Expr-F.Tuple parts) (e.Tuple parts) (e.rolls-Tuple parts))

    -- the walk through a call
    pub walked-call : (name : Word) (args : List Expr) → walk_of w signatures declared (e.Call name args) counters
        ≡ walked_call signatures name.text name.place (walked_parts (parts_of counters args))
    walked-call name args =
        ap (λ walk. walk counters) (walked-layer (Expr-F.Call name args) (e.Call name args) (e.rolls-Call name args))

    -- the walk through a complement
    pub walked-not : (place : Place) (inner : Expr) → walk_of w signatures declared (e.Not place inner) counters
        ≡ walked_complement signatures place (walk_of w signatures declared inner counters)
    walked-not place inner =
        ap (λ walk. walk counters) (walked-layer (Expr-F.Not place inner) (e.Not place inner) (e.rolls-Not place inner))

    -- the walk through a chain
    pub walked-chain : (op : BitOp) (first : Expr) (rest : List Link) → walk_of w signatures declared (e.Chain op first rest) counters
        ≡ walked_chain signatures counters op (walk_of w signatures declared first counters) (links_of rest)
    walked-chain op first rest =
        ap (λ walk. walk counters) (walked-layer (Expr-F.Chain op first rest) (e.Chain op first rest) (e.rolls-Chain op first rest))
        ∙ ap (walked_chain signatures counters op (walk_of w signatures declared first counters)) (links-are rest)

    -- the walk through shifts
    pub walked-shift : (first : Expr) (moves : List ShiftLink) → walk_of w signatures declared (e.Shift first moves) counters
        ≡ walked_shifts w signatures counters (walk_of w signatures declared first counters) moves
    walked-shift first moves =
        ap (λ walk. walk counters) (walked-layer (Expr-F.Shift first moves) (e.Shift first moves) (e.rolls-Shift first moves))

    -- the walk through a refresh
    pub walked-refresh : (place : Place) (inner : Expr) (k : Index) → walk_of w signatures declared (e.Refresh place inner k) counters
        ≡ walked_refresh signatures place (walk_of w signatures declared inner counters) (computed k counters)
    walked-refresh place inner k =
        ap (λ walk. walk counters) (walked-layer (Expr-F.Refresh place inner k) (e.Refresh place inner k) (e.rolls-Refresh place inner k))
