-- What the rules of the grammar relate to tokens is derived by the table, and the actions make it.
use Rattle.std.proofs.Common.{ℕ, zero, suc, ◌<◌, List, [], ◌∷◌, refl, ap, sym, Some, None, arith}
use Rattle.ll_reader.specs.declared.grammar.Item.TheVariants as due
use Rattle.tor_edge.specs.declared.place.Place.{Place}
use Rattle.usuba_parts.specs.ExpressionActions.{chained, shifted}
use Rattle.usuba_parts.specs.IndexActions.{index_chained}
use Rattle.usuba_parts.specs.declared.part.Part.{Part}
use Rattle.usuba_parts.specs.declared.part.Part.TheVariants as part
use Rattle.usuba_syntax.specs.Declarations as declarations
use Rattle.usuba_syntax.specs.Exprs as exprs
use Rattle.usuba_syntax.specs.Files as files
use Rattle.usuba_syntax.specs.Indexes as indexes
use Rattle.usuba_syntax.specs.Items as items_of
use Rattle.usuba_syntax.specs.Terminals as terminal
use Rattle.usuba_syntax.specs.declared.rule.TheConstants as rules
use Rattle.usuba_tokens.specs.declared.token.Sign.TheVariants as sign
use Rattle.usuba_tokens.specs.declared.token.Token.{Token}
use Rattle.usuba_trees.specs.declared.BitOp.TheVariants as op
use Rattle.usuba_trees.specs.declared.Decl.{Decl}
use Rattle.usuba_trees.specs.declared.Def.{Def}
use Rattle.usuba_trees.specs.declared.Equation.{Equation}
use Rattle.usuba_trees.specs.declared.Expr.{Expr}
use Rattle.usuba_trees.specs.declared.Expr.TheVariants as tree
use Rattle.usuba_trees.specs.declared.Grid.{Grid}
use Rattle.usuba_trees.specs.declared.File.{File}
use Rattle.usuba_trees.specs.declared.Index.{Index}
use Rattle.usuba_trees.specs.declared.IndexLink.{IndexLink}
use Rattle.usuba_trees.specs.declared.Item.{Item}
use Rattle.usuba_trees.specs.declared.Item.TheVariants as item
use Rattle.usuba_trees.specs.declared.Link.{Link}
use Rattle.usuba_trees.specs.declared.Loop.{Loop}
use Rattle.usuba_trees.specs.declared.Pick.{Pick}
use Rattle.usuba_trees.specs.declared.Shape.{Shape}
use Rattle.usuba_trees.specs.declared.ShiftLink.{ShiftLink}
use Rattle.usuba_trees.specs.declared.Spot.{Spot}
use Rattle.usuba_trees.specs.declared.Word.{Word}
use Rattle.usuba_parts.specs.Bases.{base_of}
use Rattle.usuba_trees.specs.Made.{loop_of}
use Rattle.usuba_syntax.proofs.Backwards.{backwards, reverse-backwards, backwards-append}
use Rattle.usuba_syntax.proofs.DeclarationRows.{node_made, grid_made}
use Rattle.usuba_syntax.proofs.DeclarationRows as declaration_row
use Rattle.usuba_syntax.proofs.ExpressionRows as expression_row
use Rattle.usuba_syntax.proofs.IndexRows as index_row
use Rattle.usuba_syntax.proofs.ItemRows as item_row
use Rattle.usuba_syntax.proofs.Runs.{Runs, run_nil, run_token, run_rule}

no_defs : {a : List Token} → Runs (due.Rule rules.MORE_DEFS ∷ []) a (part.Defs [] ∷ []) a
no_defs = declaration_row.by_no_more_defs run_nil (λ rest. refl)

no_numbers : {a : List Token} → Runs (due.Rule rules.MORE_NUMBERS ∷ []) a (part.Numbers [] ∷ []) a
no_numbers = declaration_row.by_no_more_numbers run_nil (λ rest. refl)

no_locals : {a : List Token} → Runs (due.Rule rules.LOCALS ∷ []) a (part.Decls [] ∷ []) a
no_locals = declaration_row.by_no_locals run_nil (λ rest. refl)

no_decls : {a : List Token} → Runs (due.Rule rules.MORE_DECLS ∷ []) a (part.Decls [] ∷ []) a
no_decls = declaration_row.by_no_more_decls run_nil (λ rest. refl)

no_dims : {a : List Token} → Runs (due.Rule rules.DIMS ∷ []) a (part.Numbers [] ∷ []) a
no_dims = declaration_row.by_no_more_dims run_nil (λ rest. refl)

no_items : {a : List Token} → Runs (due.Rule rules.ITEMS ∷ []) a (part.Items [] ∷ []) a
no_items = item_row.by_no_items run_nil (λ rest. refl)

no_items_behind : {a : List Token} → Runs (due.Rule rules.AFTER_EQUATION ∷ []) a (part.Items [] ∷ []) a
no_items_behind = item_row.by_nothing_after_equation run_nil (λ rest. refl)

no_spots : {a : List Token} → Runs (due.Rule rules.MORE_SPOTS ∷ []) a (part.Spots [] ∷ []) a
no_spots = item_row.by_no_more_spots run_nil (λ rest. refl)

no_picks : {a : List Token} → Runs (due.Rule rules.PICKS ∷ []) a (part.Picks [] ∷ []) a
no_picks = index_row.by_no_more_picks run_nil (λ rest. refl)

no_high : {a : List Token} → Runs (due.Rule rules.HIGH ∷ []) a (part.High None ∷ []) a
no_high = index_row.by_no_high run_nil (λ rest. refl)

no_ors : {a : List Token} → Runs (due.Rule rules.OR_LINKS ∷ []) a (part.Links [] ∷ []) a
no_ors = expression_row.by_no_more_xors run_nil (λ rest. refl)

no_xors : {a : List Token} → Runs (due.Rule rules.XOR_LINKS ∷ []) a (part.Links [] ∷ []) a
no_xors = expression_row.by_no_more_ands run_nil (λ rest. refl)

no_ands : {a : List Token} → Runs (due.Rule rules.AND_LINKS ∷ []) a (part.Links [] ∷ []) a
no_ands = expression_row.by_no_more_shifts run_nil (λ rest. refl)

no_shifts : {a : List Token} → Runs (due.Rule rules.SHIFT_LINKS ∷ []) a (part.Shifts [] ∷ []) a
no_shifts = expression_row.by_no_more_amounts run_nil (λ rest. refl)

no_exprs : {a : List Token} → Runs (due.Rule rules.MORE_EXPRS ∷ []) a (part.Exprs [] ∷ []) a
no_exprs = expression_row.by_no_more_exprs run_nil (λ rest. refl)

no_sums : {a : List Token} → Runs (due.Rule rules.SUM_LINKS ∷ []) a (part.IndexLinks [] ∷ []) a
no_sums = index_row.by_no_more_products run_nil (λ rest. refl)

no_products : {a : List Token} → Runs (due.Rule rules.PRODUCT_LINKS ∷ []) a (part.IndexLinks [] ∷ []) a
no_products = index_row.by_no_more_atoms run_nil (λ rest. refl)

more_numbers : {a b : List Token} {at : Place} {p : Part} → Runs (due.Rule rules.NUMBERS ∷ []) a (p ∷ []) b → Runs (due.Rule rules.MORE_NUMBERS ∷ []) (terminal.sign sign.Comma at ∷ a) (p ∷ []) b
more_numbers f = declaration_row.by_more_numbers (run_token _ (run_rule f run_nil)) (λ rest. refl)

more_decls : {a b : List Token} {at : Place} {p : Part} → Runs (due.Rule rules.DECLS ∷ []) a (p ∷ []) b → Runs (due.Rule rules.MORE_DECLS ∷ []) (terminal.sign sign.Comma at ∷ a) (p ∷ []) b
more_decls f = declaration_row.by_more_decls (run_token _ (run_rule f run_nil)) (λ rest. refl)

more_spots : {a b : List Token} {at : Place} {p : Part} → Runs (due.Rule rules.SPOTS ∷ []) a (p ∷ []) b → Runs (due.Rule rules.MORE_SPOTS ∷ []) (terminal.sign sign.Comma at ∷ a) (p ∷ []) b
more_spots f = item_row.by_more_spots (run_token _ (run_rule f run_nil)) (λ rest. refl)

more_exprs : {a b : List Token} {at : Place} {p : Part} → Runs (due.Rule rules.EXPRS ∷ []) a (p ∷ []) b → Runs (due.Rule rules.MORE_EXPRS ∷ []) (terminal.sign sign.Comma at ∷ a) (p ∷ []) b
more_exprs f = expression_row.by_more_exprs (run_token _ (run_rule f run_nil)) (λ rest. refl)

after_loop_semicolon : {a b : List Token} {at : Place} {p : Part} → Runs (due.Rule rules.ITEMS ∷ []) a (p ∷ []) b → Runs (due.Rule rules.AFTER_LOOP ∷ []) (terminal.sign sign.Semicolon at ∷ a) (p ∷ []) b
after_loop_semicolon f = item_row.by_semicolon_after_loop (run_token _ (run_rule f run_nil)) (λ rest. refl)

after_equation : {a b : List Token} {at : Place} {p : Part} → Runs (due.Rule rules.ITEMS ∷ []) a (p ∷ []) b → Runs (due.Rule rules.AFTER_EQUATION ∷ []) (terminal.sign sign.Semicolon at ∷ a) (p ∷ []) b
after_equation f = item_row.by_semicolon_after_equation (run_token _ (run_rule f run_nil)) (λ rest. refl)

body : {a b : List Token} {at end : Place} {p : Part} → Runs (due.Rule rules.ITEMS ∷ []) a (p ∷ []) (terminal.sign sign.CloseCurly end ∷ b) → Runs (due.Rule rules.BODY ∷ []) (terminal.sign sign.OpenCurly at ∷ a) (p ∷ []) b
body f = item_row.by_body (run_token _ (run_rule f (run_token _ run_nil))) (λ rest. refl)

spot_group : {a b : List Token} {at end : Place} {p : Part} → Runs (due.Rule rules.SPOTS ∷ []) a (p ∷ []) (terminal.sign sign.CloseRound end ∷ b) → Runs (due.Rule rules.SPOT_GROUP ∷ []) (terminal.sign sign.OpenRound at ∷ a) (p ∷ []) b
spot_group f = item_row.by_spot_group (run_token _ (run_rule f (run_token _ run_nil))) (λ rest. refl)

expr_group : {a b : List Token} {at end : Place} {p : Part} → Runs (due.Rule rules.EXPRS ∷ []) a (p ∷ []) (terminal.sign sign.CloseRound end ∷ b) → Runs (due.Rule rules.EXPR_GROUP ∷ []) (terminal.sign sign.OpenRound at ∷ a) (p ∷ []) b
expr_group f = expression_row.by_expr_group (run_token _ (run_rule f (run_token _ run_nil))) (λ rest. refl)

index_group : {a b : List Token} {at end : Place} {p : Part} → Runs (due.Rule rules.INDEX ∷ []) a (p ∷ []) (terminal.sign sign.CloseRound end ∷ b) → Runs (due.Rule rules.INDEX_GROUP ∷ []) (terminal.sign sign.OpenRound at ∷ a) (p ∷ []) b
index_group f = index_row.by_index_group (run_token _ (run_rule f (run_token _ run_nil))) (λ rest. refl)

after_loop : {a b : List Token} {p : Part} → Runs (due.Rule rules.ITEMS ∷ []) a (p ∷ []) b → Runs (due.Rule rules.AFTER_LOOP ∷ []) a (p ∷ []) b
after_loop f = item_row.by_nothing_after_loop (run_rule f run_nil) (λ rest. refl)

more_defs : {a b : List Token} {p : Part} → Runs (due.Rule rules.DEFS ∷ []) a (p ∷ []) b → Runs (due.Rule rules.MORE_DEFS ∷ []) a (p ∷ []) b
more_defs f = declaration_row.by_more_defs (run_rule f run_nil) (λ rest. refl)

high : {a b : List Token} {i : Index} {at : Place} → Runs (due.Rule rules.INDEX ∷ []) a (part.Index i ∷ []) b → Runs (due.Rule rules.HIGH ∷ []) (terminal.sign sign.Dots at ∷ a) (part.High (Some i) ∷ []) b
high f = index_row.by_high (run_token _ (run_rule f run_nil)) (λ rest. refl)

complement : {a b : List Token} {e : Expr} {at : Place} → Runs (due.Rule rules.UNARY ∷ []) a (part.Expr e ∷ []) b → Runs (due.Rule rules.COMPLEMENT ∷ []) (terminal.sign sign.Tilde at ∷ a) (part.Expr (tree.Not at e) ∷ []) b
complement f = expression_row.by_complement (run_token _ (run_rule f run_nil)) (λ rest. refl)

call_behind : {a b : List Token} {es : List Expr} → Runs (due.Rule rules.EXPR_GROUP ∷ []) a (part.Exprs es ∷ []) b → Runs (due.Rule rules.AFTER_NAME ∷ []) a (part.Exprs es ∷ []) b
call_behind f = expression_row.by_arguments (run_rule f run_nil) (λ rest. refl)

picks_behind : {a b : List Token} {ps : List Pick} → Runs (due.Rule rules.PICKS ∷ []) a (part.Picks ps ∷ []) b → Runs (due.Rule rules.AFTER_NAME ∷ []) a (part.Picks ps ∷ []) b
picks_behind f = expression_row.by_picks_of_name (run_rule f run_nil) (λ rest. refl)

bounds : {a b c : List Token} {i j : Index} {at comma end : Place} → Runs (due.Rule rules.INDEX ∷ []) a (part.Index i ∷ []) (terminal.sign sign.Comma comma ∷ b)
    → Runs (due.Rule rules.INDEX ∷ []) b (part.Index j ∷ []) (terminal.sign sign.CloseSquare end ∷ c)
    → Runs (due.Rule rules.BOUNDS ∷ []) (terminal.sign sign.OpenSquare at ∷ a) (part.Bounds i j ∷ []) c
bounds f g = item_row.by_bounds (run_token _ (run_rule f (run_token _ (run_rule g (run_token _ run_nil))))) (λ rest. refl)

refresh_args : {a b c : List Token} {e : Expr} {i : Index} {at comma end : Place} → Runs (due.Rule rules.EXPR ∷ []) a (part.Expr e ∷ []) (terminal.sign sign.Comma comma ∷ b)
    → Runs (due.Rule rules.INDEX ∷ []) b (part.Index i ∷ []) (terminal.sign sign.CloseRound end ∷ c)
    → Runs (due.Rule rules.REFRESH_ARGS ∷ []) (terminal.sign sign.OpenRound at ∷ a) (part.Refreshed e i ∷ []) c
refresh_args f g = expression_row.by_refresh_args (run_token _ (run_rule f (run_token _ (run_rule g (run_token _ run_nil))))) (λ rest. refl)

c_name : {t : Token} {a : List Token} {w : Word} → terminal.IsName t w → Runs (due.Rule rules.NAME ∷ []) (t ∷ a) (part.Word w ∷ []) a
c_name terminal.word = index_row.by_word_name (run_token _ run_nil) (λ rest. refl)
c_name terminal.in_as_name = index_row.by_in_name (run_token _ run_nil) (λ rest. refl)
c_name terminal.type_word_as_name = index_row.by_type_word_name (run_token _ run_nil) (λ rest. refl)

c_number : {t : Token} {a : List Token} {n : ℕ} → terminal.IsNumber t n → Runs (due.Rule rules.NUMBER ∷ []) (t ∷ a) (part.Number (record { place = t.place; value = n }) ∷ []) a
c_number (terminal.number {n = zero}) = index_row.by_zero_number (run_token _ run_nil) (λ rest. refl)
c_number (terminal.number {n = suc n}) = index_row.by_positive_number (run_token _ run_nil) (λ rest. refl)
c_number terminal.too_big = index_row.by_big_number (run_token _ run_nil) (λ rest. refl)

c_positive_number : {t : Token} {a : List Token} {n : ℕ} → terminal.IsNumber t n → 0 < n → Runs (due.Rule rules.POSITIVE_NUMBER ∷ []) (t ∷ a) (part.Number (record { place = t.place; value = n }) ∷ []) a
c_positive_number (terminal.number {n = zero}) h = absurd (omega arith)
c_positive_number (terminal.number {n = suc n}) h = index_row.by_positive_dim (run_token _ run_nil) (λ rest. refl)
c_positive_number terminal.too_big h = index_row.by_big_dim (run_token _ run_nil) (λ rest. refl)

mutual
  -- the rows derive index, and make its tree
  pub c_index : {a b : List Token} {x : Index} → indexes.IsIndex a x b → Runs (due.Rule rules.INDEX ∷ []) a (part.Index x ∷ []) b
  c_index (indexes.one_product x) = index_row.by_index (run_rule (c_product x) (run_rule no_sums run_nil)) (λ rest. refl)
  c_index (indexes.sum {e = e} {l = l} {ls = ls} x y) = index_row.by_index (run_rule (c_product x) (run_rule (c_sum_links y) run_nil)) (λ rest. ap (λ xs. part.Index (index_chained e xs) ∷ rest) (reverse-backwards (l ∷ ls)))

  -- the rows derive sum links, and make its tree
  pub c_sum_links : {a b : List Token} {x : List IndexLink} → indexes.IsSumLinks a x b → Runs (due.Rule rules.SUM_LINKS ∷ []) a (part.IndexLinks (backwards x) ∷ []) b
  c_sum_links indexes.no_more_products = no_sums
  c_sum_links (indexes.next_product indexes.plus x y) = index_row.by_sum (run_token _ (run_rule (c_product x) (run_rule (c_sum_links y) run_nil))) (λ rest. refl)
  c_sum_links (indexes.next_product indexes.minus x y) = index_row.by_difference (run_token _ (run_rule (c_product x) (run_rule (c_sum_links y) run_nil))) (λ rest. refl)

  -- the rows derive product, and make its tree
  pub c_product : {a b : List Token} {x : Index} → indexes.IsProduct a x b → Runs (due.Rule rules.PRODUCT ∷ []) a (part.Index x ∷ []) b
  c_product (indexes.one_atom x) = index_row.by_product (run_rule (c_atom x) (run_rule no_products run_nil)) (λ rest. refl)
  c_product (indexes.product {e = e} {l = l} {ls = ls} x y) = index_row.by_product (run_rule (c_atom x) (run_rule (c_product_links y) run_nil)) (λ rest. ap (λ xs. part.Index (index_chained e xs) ∷ rest) (reverse-backwards (l ∷ ls)))

  -- the rows derive product links, and make its tree
  pub c_product_links : {a b : List Token} {x : List IndexLink} → indexes.IsProductLinks a x b → Runs (due.Rule rules.PRODUCT_LINKS ∷ []) a (part.IndexLinks (backwards x) ∷ []) b
  c_product_links indexes.no_more_atoms = no_products
  c_product_links (indexes.next_atom indexes.times x y) = index_row.by_times (run_token _ (run_rule (c_atom x) (run_rule (c_product_links y) run_nil))) (λ rest. refl)
  c_product_links (indexes.next_atom indexes.over x y) = index_row.by_over (run_token _ (run_rule (c_atom x) (run_rule (c_product_links y) run_nil))) (λ rest. refl)
  c_product_links (indexes.next_atom indexes.remainder x y) = index_row.by_remainder (run_token _ (run_rule (c_atom x) (run_rule (c_product_links y) run_nil))) (λ rest. refl)

  -- the rows derive atom, and make its tree
  pub c_atom : {a b : List Token} {x : Index} → indexes.IsAtom a x b → Runs (due.Rule rules.ATOM ∷ []) a (part.Index x ∷ []) b
  c_atom (indexes.index_number n) = index_row.by_number_atom (run_rule (c_number n) run_nil) (λ rest. refl)
  c_atom (indexes.counter n) = index_row.by_counter_atom (run_rule (c_name n) run_nil) (λ rest. refl)
  c_atom (indexes.index_in_brackets x) = index_row.by_atom_in_brackets (run_rule (index_group (c_index x)) run_nil) (λ rest. refl)

-- the rows derive amount, and make its tree
pub c_amount : {a b : List Token} {x : Index} → indexes.IsAmount a x b → Runs (due.Rule rules.ATOM ∷ []) a (part.Index x ∷ []) b
c_amount (indexes.amount_number n) = index_row.by_number_atom (run_rule (c_number n) run_nil) (λ rest. refl)
c_amount (indexes.amount_counter n) = index_row.by_counter_atom (run_rule (c_name n) run_nil) (λ rest. refl)
c_amount (indexes.amount_in_brackets x) = index_row.by_atom_in_brackets (run_rule (index_group (c_index x)) run_nil) (λ rest. refl)

-- the rows derive pick, and make its tree
pub c_pick : {a b : List Token} {x : Pick} → exprs.IsPick a x b → Runs (due.Rule rules.PICK ∷ []) a (part.Pick x ∷ []) b
c_pick (exprs.one_part x) = index_row.by_pick (run_token _ (run_rule (c_index x) (run_rule no_high (run_token _ run_nil)))) (λ rest. refl)
c_pick (exprs.range x y) = index_row.by_pick (run_token _ (run_rule (c_index x) (run_rule (high (c_index y)) (run_token _ run_nil)))) (λ rest. refl)

-- the rows derive picks, and make its tree
pub c_picks : {a b : List Token} {x : List Pick} → exprs.IsPicks a x b → Runs (due.Rule rules.PICKS ∷ []) a (part.Picks (backwards x) ∷ []) b
c_picks exprs.no_more_picks = no_picks
c_picks (exprs.next_pick x y) = index_row.by_next_pick (run_rule (c_pick x) (run_rule (c_picks y) run_nil)) (λ rest. refl)

-- the rows derive spot, and make its tree
pub c_spot : {a b : List Token} {x : Spot} → exprs.IsSpot a x b → Runs (due.Rule rules.SPOT ∷ []) a (part.Spot x ∷ []) b
c_spot (exprs.spot {w = w} {ps = ps} n x) = index_row.by_spot (run_rule (c_name n) (run_rule (c_picks x) run_nil)) (λ rest. ap (λ xs. part.Spot (record { name = w; picks = xs }) ∷ rest) (reverse-backwards ps))

-- the rows derive shift links, and make its tree
pub c_shift_links : {a b : List Token} {x : List ShiftLink} → exprs.IsShiftLinks a x b → Runs (due.Rule rules.SHIFT_LINKS ∷ []) a (part.Shifts (backwards x) ∷ []) b
c_shift_links exprs.no_more_shifts = no_shifts
c_shift_links (exprs.next_shift exprs.left x y) = expression_row.by_left_shift (run_token _ (run_rule (c_amount x) (run_rule (c_shift_links y) run_nil))) (λ rest. refl)
c_shift_links (exprs.next_shift exprs.right x y) = expression_row.by_right_shift (run_token _ (run_rule (c_amount x) (run_rule (c_shift_links y) run_nil))) (λ rest. refl)
c_shift_links (exprs.next_shift exprs.rotate_left x y) = expression_row.by_left_rotation (run_token _ (run_rule (c_amount x) (run_rule (c_shift_links y) run_nil))) (λ rest. refl)
c_shift_links (exprs.next_shift exprs.rotate_right x y) = expression_row.by_right_rotation (run_token _ (run_rule (c_amount x) (run_rule (c_shift_links y) run_nil))) (λ rest. refl)

mutual
  -- the rows derive expr, and make its tree
  pub c_expr : {a b : List Token} {x : Expr} → exprs.IsExpr a x b → Runs (due.Rule rules.EXPR ∷ []) a (part.Expr x ∷ []) b
  c_expr (exprs.one_xors x) = expression_row.by_expr (run_rule (c_xors x) (run_rule no_ors run_nil)) (λ rest. refl)
  c_expr (exprs.ors {e = e} {l = l} {ls = ls} x y) = expression_row.by_expr (run_rule (c_xors x) (run_rule (c_or_links y) run_nil)) (λ rest. ap (λ xs. part.Expr (chained op.Or e xs) ∷ rest) (reverse-backwards (l ∷ ls)))

  -- the rows derive or links, and make its tree
  pub c_or_links : {a b : List Token} {x : List Link} → exprs.IsOrLinks a x b → Runs (due.Rule rules.OR_LINKS ∷ []) a (part.Links (backwards x) ∷ []) b
  c_or_links exprs.no_more_xors = no_ors
  c_or_links (exprs.next_xors x y) = expression_row.by_next_xors (run_token _ (run_rule (c_xors x) (run_rule (c_or_links y) run_nil))) (λ rest. refl)

  -- the rows derive xors, and make its tree
  pub c_xors : {a b : List Token} {x : Expr} → exprs.IsXors a x b → Runs (due.Rule rules.XORS ∷ []) a (part.Expr x ∷ []) b
  c_xors (exprs.one_ands x) = expression_row.by_xors (run_rule (c_ands x) (run_rule no_xors run_nil)) (λ rest. refl)
  c_xors (exprs.xors {e = e} {l = l} {ls = ls} x y) = expression_row.by_xors (run_rule (c_ands x) (run_rule (c_xor_links y) run_nil)) (λ rest. ap (λ xs. part.Expr (chained op.Xor e xs) ∷ rest) (reverse-backwards (l ∷ ls)))

  -- the rows derive xor links, and make its tree
  pub c_xor_links : {a b : List Token} {x : List Link} → exprs.IsXorLinks a x b → Runs (due.Rule rules.XOR_LINKS ∷ []) a (part.Links (backwards x) ∷ []) b
  c_xor_links exprs.no_more_ands = no_xors
  c_xor_links (exprs.next_ands x y) = expression_row.by_next_ands (run_token _ (run_rule (c_ands x) (run_rule (c_xor_links y) run_nil))) (λ rest. refl)

  -- the rows derive ands, and make its tree
  pub c_ands : {a b : List Token} {x : Expr} → exprs.IsAnds a x b → Runs (due.Rule rules.ANDS ∷ []) a (part.Expr x ∷ []) b
  c_ands (exprs.one_shifts x) = expression_row.by_ands (run_rule (c_shifts x) (run_rule no_ands run_nil)) (λ rest. refl)
  c_ands (exprs.ands {e = e} {l = l} {ls = ls} x y) = expression_row.by_ands (run_rule (c_shifts x) (run_rule (c_and_links y) run_nil)) (λ rest. ap (λ xs. part.Expr (chained op.And e xs) ∷ rest) (reverse-backwards (l ∷ ls)))

  -- the rows derive and links, and make its tree
  pub c_and_links : {a b : List Token} {x : List Link} → exprs.IsAndLinks a x b → Runs (due.Rule rules.AND_LINKS ∷ []) a (part.Links (backwards x) ∷ []) b
  c_and_links exprs.no_more_operands = no_ands
  c_and_links (exprs.next_operand x y) = expression_row.by_next_shifts (run_token _ (run_rule (c_shifts x) (run_rule (c_and_links y) run_nil))) (λ rest. refl)

  -- the rows derive shifts, and make its tree
  pub c_shifts : {a b : List Token} {x : Expr} → exprs.IsShifts a x b → Runs (due.Rule rules.SHIFTS ∷ []) a (part.Expr x ∷ []) b
  c_shifts (exprs.one_unary x) = expression_row.by_shifts (run_rule (c_unary x) (run_rule no_shifts run_nil)) (λ rest. refl)
  c_shifts (exprs.shifts {e = e} {l = l} {ls = ls} x y) = expression_row.by_shifts (run_rule (c_unary x) (run_rule (c_shift_links y) run_nil)) (λ rest. ap (λ xs. part.Expr (shifted e xs) ∷ rest) (reverse-backwards (l ∷ ls)))

  -- the rows derive unary, and make its tree
  pub c_unary : {a b : List Token} {x : Expr} → exprs.IsUnary a x b → Runs (due.Rule rules.UNARY ∷ []) a (part.Expr x ∷ []) b
  c_unary (exprs.complement x) = expression_row.by_complemented (run_rule (complement (c_unary x)) run_nil) (λ rest. refl)
  c_unary (exprs.one_primary x) = expression_row.by_not_complemented (run_rule (c_primary x) run_nil) (λ rest. refl)

  -- the rows derive primary, and make its tree
  pub c_primary : {a b : List Token} {x : Expr} → exprs.IsPrimary a x b → Runs (due.Rule rules.PRIMARY ∷ []) a (part.Expr x ∷ []) b
  c_primary (exprs.number n) = expression_row.by_number_expr (run_rule (c_number n) run_nil) (λ rest. refl)
  c_primary (exprs.one_spot (exprs.spot {w = w} {ps = ps} n x)) = expression_row.by_name_expr (run_rule (c_name n) (run_rule (picks_behind (c_picks x)) run_nil)) (λ rest. ap (λ xs. part.Expr (tree.Spot (record { name = w; picks = xs })) ∷ rest) (reverse-backwards ps))
  c_primary (exprs.call {w = w} {es = es} n x) = expression_row.by_name_expr (run_rule (c_name n) (run_rule (call_behind (expr_group (c_exprs x))) run_nil)) (λ rest. ap (λ xs. part.Expr (tree.Call w xs) ∷ rest) (reverse-backwards es))
  c_primary (exprs.refresh x y) = expression_row.by_refresh_expr (run_token _ (run_rule (refresh_args (c_expr x) (c_index y)) run_nil)) (λ rest. refl)
  c_primary (exprs.tuple {es = es} x) = expression_row.by_tuple (run_rule (expr_group (c_exprs x)) run_nil) (λ rest. ap (λ xs. part.Expr (tree.Tuple xs) ∷ rest) (reverse-backwards es))

  -- the rows derive exprs, and make its tree
  pub c_exprs : {a b : List Token} {x : List Expr} → exprs.IsExprs a x b → Runs (due.Rule rules.EXPRS ∷ []) a (part.Exprs (backwards x) ∷ []) b
  c_exprs (exprs.one_expr x) = expression_row.by_exprs (run_rule (c_expr x) (run_rule no_exprs run_nil)) (λ rest. refl)
  c_exprs (exprs.next_expr x y) = expression_row.by_exprs (run_rule (c_expr x) (run_rule (more_exprs (c_exprs y)) run_nil)) (λ rest. refl)

-- the rows derive spots, and make its tree
pub c_spots : {a b : List Token} {x : List Spot} → items_of.IsSpots a x b → Runs (due.Rule rules.SPOTS ∷ []) a (part.Spots (backwards x) ∷ []) b
c_spots (items_of.last_spot x) = item_row.by_spots (run_rule (c_spot x) (run_rule no_spots run_nil)) (λ rest. refl)
c_spots (items_of.next_spot x y) = item_row.by_spots (run_rule (c_spot x) (run_rule (more_spots (c_spots y)) run_nil)) (λ rest. refl)

-- the rows derive left, and make its tree
pub c_left : {a b : List Token} {x : List Spot} → items_of.IsLeft a x b → Runs (due.Rule rules.LEFT ∷ []) a (part.Spots (backwards x) ∷ []) b
c_left (items_of.one_spot x) = item_row.by_one_spot (run_rule (c_spot x) run_nil) (λ rest. refl)
c_left (items_of.spots_in_brackets x) = item_row.by_spots_in_brackets (run_rule (spot_group (c_spots x)) run_nil) (λ rest. refl)

-- the rows derive equation, and make its tree
pub c_equation : {a b : List Token} {x : Equation} → items_of.IsEquation a x b → Runs (due.Rule rules.EQUATION ∷ []) a (part.Item (item.Equation x) ∷ []) b
c_equation (items_of.equation {left = left} {at = at} {e = e} x y) = item_row.by_equation (run_rule (c_left x) (run_token _ (run_rule (c_expr y) run_nil))) (λ rest. ap (λ xs. part.Item (item.Equation (record { left = xs; equal = at; right = e })) ∷ rest) (reverse-backwards left))

mutual
  -- the rows derive items, and make its tree
  pub c_items : {a b : List Token} {x : List Item} → items_of.IsItems a x b → Runs (due.Rule rules.ITEMS ∷ []) a (part.Items (backwards x) ∷ []) b
  c_items items_of.no_item = no_items
  c_items (items_of.loop_then x y) = item_row.by_loop_first (run_rule (c_loop x) (run_rule (after_loop (c_items y)) run_nil)) (λ rest. refl)
  c_items (items_of.loop_semicolon_then x y) = item_row.by_loop_first (run_rule (c_loop x) (run_rule (after_loop_semicolon (c_items y)) run_nil)) (λ rest. refl)
  c_items (items_of.last_equation x) = item_row.by_equation_first (run_rule (c_equation x) (run_rule no_items_behind run_nil)) (λ rest. refl)
  c_items (items_of.equation_then x y) = item_row.by_equation_first (run_rule (c_equation x) (run_rule (after_equation (c_items y)) run_nil)) (λ rest. refl)

  -- the rows derive loop, and make its tree
  pub c_loop : {a b : List Token} {x : Loop} → items_of.IsLoop a x b → Runs (due.Rule rules.LOOP ∷ []) a (part.Item (item.Loop x) ∷ []) b
  c_loop (items_of.forall_in {w = w} {low = low} {high = high} {is = is} {at = at} n x y z) = item_row.by_loop (run_token _ (run_rule (c_name n) (run_token _ (run_rule (bounds (c_index x) (c_index y)) (run_rule (body (c_items z)) run_nil))))) (λ rest. ap (λ xs. part.Item (item.Loop (loop_of at w low high xs)) ∷ rest) (reverse-backwards is))

-- the rows derive dims, and make its tree
pub c_dims : {a b : List Token} {x : List ℕ} → declarations.IsDims a x b → Runs (due.Rule rules.DIMS ∷ []) a (part.Numbers (backwards x) ∷ []) b
c_dims declarations.no_more_dims = no_dims
c_dims (declarations.next_dim n h x) = declaration_row.by_next_dim (run_token _ (run_rule (c_positive_number n h) (run_token _ (run_rule (c_dims x) run_nil)))) (λ rest. refl)

-- the rows derive shape, and make its tree
pub c_shape : {a b : List Token} {x : Shape} → declarations.IsShape a x b → Runs (due.Rule rules.SHAPE ∷ []) a (part.Shape x ∷ []) b
c_shape (declarations.shape {word = word} {at = at} {ns = ns} x) = declaration_row.by_shape (run_token _ (run_rule (c_dims x) run_nil)) (λ rest. ap (λ xs. part.Shape (record { base = base_of word.base; count = word.count; dims = xs; place = at }) ∷ rest) (reverse-backwards ns))

group : {a b : List Token} {s : Shape} {at : Place} → Runs (due.Rule rules.SHAPE ∷ []) a (part.Shape s ∷ []) b → Runs (due.Rule rules.MORE_NAMES ∷ []) (terminal.sign sign.Colon at ∷ a) (part.Group s [] ∷ []) b
group f = declaration_row.by_type_of_names (run_token _ (run_rule f run_nil)) (λ rest. refl)

-- a group of names behind the first, with its type
more_names : {a b c : List Token} {ws : List Word} {s : Shape} {at colon : Place} → declarations.IsNames a ws (terminal.sign sign.Colon colon ∷ b) → Runs (due.Rule rules.SHAPE ∷ []) b (part.Shape s ∷ []) c
    → Runs (due.Rule rules.MORE_NAMES ∷ []) (terminal.sign sign.Comma at ∷ a) (part.Group s (backwards (declarations.decls_of s ws)) ∷ []) c
more_names (declarations.last_name n) f = declaration_row.by_next_name (run_token _ (run_rule (c_name n) (run_rule (group f) run_nil))) (λ rest. refl)
more_names (declarations.next_name n x) f = declaration_row.by_next_name (run_token _ (run_rule (c_name n) (run_rule (more_names x f) run_nil))) (λ rest. refl)

-- the rows derive decl, and make its tree
pub c_decl : {a b : List Token} {x : List Decl} → declarations.IsDecl a x b → Runs (due.Rule rules.DECL ∷ []) a (part.Decls (backwards x) ∷ []) b
c_decl (declarations.decl (declarations.last_name n) s) = declaration_row.by_decl (run_rule (c_name n) (run_rule (group (c_shape s)) run_nil)) (λ rest. refl)
c_decl (declarations.decl (declarations.next_name n x) s) = declaration_row.by_decl (run_rule (c_name n) (run_rule (more_names x (c_shape s)) run_nil)) (λ rest. refl)

-- the rows derive decls, and make its tree
pub c_decls : {a b : List Token} {x : List Decl} → declarations.IsDecls a x b → Runs (due.Rule rules.DECLS ∷ []) a (part.Decls (backwards x) ∷ []) b
c_decls (declarations.last_decl x) = declaration_row.by_decls (run_rule (c_decl x) (run_rule no_decls run_nil)) (λ rest. refl)
c_decls (declarations.next_decl {ds = ds} {es = es} x y) = declaration_row.by_decls (run_rule (c_decl x) (run_rule (more_decls (c_decls y)) run_nil)) (λ rest. ap (λ xs. part.Decls xs ∷ rest) (sym (backwards-append ds es)))

-- the rows derive results, and make its tree
pub c_results : {a b : List Token} {x : List Decl} → declarations.IsResults a x b → Runs (due.Rule rules.RESULTS ∷ []) a (part.Decls (backwards x) ∷ []) b
c_results (declarations.results_in_brackets x) = declaration_row.by_results_in_brackets (run_token _ (run_rule (c_decls x) (run_token _ run_nil))) (λ rest. refl)
c_results (declarations.bare_results x) = declaration_row.by_bare_results (run_rule (c_decls x) run_nil) (λ rest. refl)

-- the rows derive locals, and make its tree
pub c_locals : {a b : List Token} {x : List Decl} → declarations.IsLocals a x b → Runs (due.Rule rules.LOCALS ∷ []) a (part.Decls (backwards x) ∷ []) b
c_locals declarations.no_locals = no_locals
c_locals (declarations.locals x) = declaration_row.by_locals (run_token _ (run_rule (c_decls x) run_nil)) (λ rest. refl)

-- the rows derive numbers, and make its tree
pub c_numbers : {a b : List Token} {x : List ℕ} → files.IsNumbers a x b → Runs (due.Rule rules.NUMBERS ∷ []) a (part.Numbers (backwards x) ∷ []) b
c_numbers (files.last_number n) = declaration_row.by_numbers_of_grid (run_rule (c_number n) (run_rule no_numbers run_nil)) (λ rest. refl)
c_numbers (files.next_number n x) = declaration_row.by_numbers_of_grid (run_rule (c_number n) (run_rule (more_numbers (c_numbers x)) run_nil)) (λ rest. refl)

-- the rows derive grid, and make its tree
pub c_grid : {a b : List Token} {x : Grid} → files.IsGrid a x b → Runs (due.Rule rules.GRID ∷ []) a (part.Grid x ∷ []) b
c_grid (files.grid {w = w} {ins = ins} {outs = outs} {ns = ns} n x y z) = declaration_row.by_grid (run_rule (c_name n) (run_token _ (run_rule (c_decls x) (run_token _ (run_token _ (run_rule (c_results y) (run_token _ (run_rule (c_numbers z) (run_token _ run_nil))))))))) (λ rest. grid_made w ins outs ns rest)

-- the rows derive plain def, and make its tree
pub c_plain_def : {a b : List Token} {x : Def} → files.IsPlainDef a x b → Runs (due.Rule rules.PLAIN_DEF ∷ []) a (part.Def x ∷ []) b
c_plain_def (files.node_def (files.node {w = w} {ins = ins} {outs = outs} {vars = vars} {is = is} n x y z i)) = declaration_row.by_node_def (run_token _ (run_rule (c_name n) (run_token _ (run_rule (c_decls x) (run_token _ (run_token _ (run_rule (c_results y) (run_rule (c_locals z) (run_token _ (run_rule (c_items i) (run_token _ run_nil))))))))))) (λ rest. node_made w ins outs vars is rest)
c_plain_def (files.table_def x) = declaration_row.by_table_def (run_token _ (run_rule (c_grid x) run_nil)) (λ rest. refl)
c_plain_def (files.perm_def x) = declaration_row.by_perm_def (run_token _ (run_rule (c_grid x) run_nil)) (λ rest. refl)

-- the rows derive def, and make its tree
pub c_def : {a b : List Token} {x : Def} → files.IsDef a x b → Runs (due.Rule rules.DEF ∷ []) a (part.Def x ∷ []) b
c_def (files.plain x) = declaration_row.by_plain_def (run_rule (c_plain_def x) run_nil) (λ rest. refl)
c_def (files.inline x) = declaration_row.by_inline_def (run_token _ (run_rule (c_plain_def x) run_nil)) (λ rest. refl)
c_def (files.no_inline x) = declaration_row.by_no_inline_def (run_token _ (run_rule (c_plain_def x) run_nil)) (λ rest. refl)

-- the rows derive defs, and make its tree
pub c_defs : {a b : List Token} {x : List Def} → files.IsDefs a x b → Runs (due.Rule rules.DEFS ∷ []) a (part.Defs (backwards x) ∷ []) b
c_defs (files.last_def x) = declaration_row.by_defs (run_rule (c_def x) (run_rule no_defs run_nil)) (λ rest. refl)
c_defs (files.next_def x y) = declaration_row.by_defs (run_rule (c_def x) (run_rule (more_defs (c_defs y)) run_nil)) (λ rest. refl)

-- the rows derive file, and make its tree
pub c_file : {a : List Token} {f : File} → files.IsFile a f → Runs (due.Rule rules.FILE ∷ []) a (part.File f ∷ []) []
c_file (files.file {ds = ds} x) = declaration_row.by_file (run_rule (c_defs x) run_nil) (λ rest. ap (λ xs. part.File (record { defs = xs }) ∷ rest) (reverse-backwards ds))
