-- What a rule of the grammar leaves of tokens that are so is so.
use Rattle.std.proofs.Common.{ℕ, List}
use Rattle.usuba_syntax.specs.Exprs as exprs
use Rattle.usuba_syntax.specs.Files as files
use Rattle.usuba_syntax.specs.Indexes as indexes
use Rattle.usuba_syntax.specs.Items as items_of
use Rattle.usuba_tokens.specs.declared.token.Token.{Token}
use Rattle.usuba_trees.specs.declared.Equation.{Equation}
use Rattle.usuba_trees.specs.declared.Expr.{Expr}
use Rattle.usuba_trees.specs.declared.Index.{Index}
use Rattle.usuba_trees.specs.declared.IndexLink.{IndexLink}
use Rattle.usuba_trees.specs.declared.Item.{Item}
use Rattle.usuba_trees.specs.declared.Link.{Link}
use Rattle.usuba_trees.specs.declared.Loop.{Loop}
use Rattle.usuba_trees.specs.declared.Pick.{Pick}
use Rattle.usuba_trees.specs.declared.ShiftLink.{ShiftLink}
use Rattle.usuba_trees.specs.declared.Spot.{Spot}
use Rattle.source_shapes.proofs.Tokens.{AreShaped}

mutual
  past_index : {a b : List Token} {x : Index} → indexes.IsIndex a x b → AreShaped a → AreShaped b
  past_index (indexes.one_product x) h = past_product x h
  past_index (indexes.sum x y) h = past_sum_links y (past_product x h)

  past_sum_links : {a b : List Token} {x : List IndexLink} → indexes.IsSumLinks a x b → AreShaped a → AreShaped b
  past_sum_links indexes.no_more_products h = h
  past_sum_links (indexes.next_product s x y) h = past_sum_links y (past_product x h.1)

  past_product : {a b : List Token} {x : Index} → indexes.IsProduct a x b → AreShaped a → AreShaped b
  past_product (indexes.one_atom x) h = past_atom x h
  past_product (indexes.product x y) h = past_product_links y (past_atom x h)

  past_product_links : {a b : List Token} {x : List IndexLink} → indexes.IsProductLinks a x b → AreShaped a → AreShaped b
  past_product_links indexes.no_more_atoms h = h
  past_product_links (indexes.next_atom s x y) h = past_product_links y (past_atom x h.1)

  past_atom : {a b : List Token} {x : Index} → indexes.IsAtom a x b → AreShaped a → AreShaped b
  past_atom (indexes.index_number n) h = h.1
  past_atom (indexes.counter n) h = h.1
  past_atom (indexes.index_in_brackets x) h = (past_index x h.1).1

past_amount : {a b : List Token} {x : Index} → indexes.IsAmount a x b → AreShaped a → AreShaped b
past_amount (indexes.amount_number n) h = h.1
past_amount (indexes.amount_counter n) h = h.1
past_amount (indexes.amount_in_brackets x) h = (past_index x h.1).1

past_pick : {a b : List Token} {x : Pick} → exprs.IsPick a x b → AreShaped a → AreShaped b
past_pick (exprs.one_part x) h = (past_index x h.1).1
past_pick (exprs.range x y) h = (past_index y (past_index x h.1).1).1

past_picks : {a b : List Token} {x : List Pick} → exprs.IsPicks a x b → AreShaped a → AreShaped b
past_picks exprs.no_more_picks h = h
past_picks (exprs.next_pick x y) h = past_picks y (past_pick x h)

past_spot : {a b : List Token} {x : Spot} → exprs.IsSpot a x b → AreShaped a → AreShaped b
past_spot (exprs.spot n x) h = past_picks x h.1

past_shift_links : {a b : List Token} {x : List ShiftLink} → exprs.IsShiftLinks a x b → AreShaped a → AreShaped b
past_shift_links exprs.no_more_shifts h = h
past_shift_links (exprs.next_shift s x y) h = past_shift_links y (past_amount x h.1)

mutual
  past_expr : {a b : List Token} {x : Expr} → exprs.IsExpr a x b → AreShaped a → AreShaped b
  past_expr (exprs.one_xors x) h = past_xors x h
  past_expr (exprs.ors x y) h = past_or_links y (past_xors x h)

  past_or_links : {a b : List Token} {x : List Link} → exprs.IsOrLinks a x b → AreShaped a → AreShaped b
  past_or_links exprs.no_more_xors h = h
  past_or_links (exprs.next_xors x y) h = past_or_links y (past_xors x h.1)

  past_xors : {a b : List Token} {x : Expr} → exprs.IsXors a x b → AreShaped a → AreShaped b
  past_xors (exprs.one_ands x) h = past_ands x h
  past_xors (exprs.xors x y) h = past_xor_links y (past_ands x h)

  past_xor_links : {a b : List Token} {x : List Link} → exprs.IsXorLinks a x b → AreShaped a → AreShaped b
  past_xor_links exprs.no_more_ands h = h
  past_xor_links (exprs.next_ands x y) h = past_xor_links y (past_ands x h.1)

  past_ands : {a b : List Token} {x : Expr} → exprs.IsAnds a x b → AreShaped a → AreShaped b
  past_ands (exprs.one_shifts x) h = past_shifts x h
  past_ands (exprs.ands x y) h = past_and_links y (past_shifts x h)

  past_and_links : {a b : List Token} {x : List Link} → exprs.IsAndLinks a x b → AreShaped a → AreShaped b
  past_and_links exprs.no_more_operands h = h
  past_and_links (exprs.next_operand x y) h = past_and_links y (past_shifts x h.1)

  past_shifts : {a b : List Token} {x : Expr} → exprs.IsShifts a x b → AreShaped a → AreShaped b
  past_shifts (exprs.one_unary x) h = past_unary x h
  past_shifts (exprs.shifts x y) h = past_shift_links y (past_unary x h)

  past_unary : {a b : List Token} {x : Expr} → exprs.IsUnary a x b → AreShaped a → AreShaped b
  past_unary (exprs.complement x) h = past_unary x h.1
  past_unary (exprs.one_primary x) h = past_primary x h

  past_primary : {a b : List Token} {x : Expr} → exprs.IsPrimary a x b → AreShaped a → AreShaped b
  past_primary (exprs.number n) h = h.1
  past_primary (exprs.one_spot x) h = past_spot x h
  past_primary (exprs.call n x) h = (past_exprs x h.1.1).1
  past_primary (exprs.refresh x y) h = (past_index y (past_expr x h.1.1).1).1
  past_primary (exprs.tuple x) h = (past_exprs x h.1).1

  past_exprs : {a b : List Token} {x : List Expr} → exprs.IsExprs a x b → AreShaped a → AreShaped b
  past_exprs (exprs.one_expr x) h = past_expr x h
  past_exprs (exprs.next_expr x y) h = past_exprs y (past_expr x h).1

past_spots : {a b : List Token} {x : List Spot} → items_of.IsSpots a x b → AreShaped a → AreShaped b
past_spots (items_of.last_spot x) h = past_spot x h
past_spots (items_of.next_spot x y) h = past_spots y (past_spot x h).1

past_left : {a b : List Token} {x : List Spot} → items_of.IsLeft a x b → AreShaped a → AreShaped b
past_left (items_of.one_spot x) h = past_spot x h
past_left (items_of.spots_in_brackets x) h = (past_spots x h.1).1

past_equation : {a b : List Token} {x : Equation} → items_of.IsEquation a x b → AreShaped a → AreShaped b
past_equation (items_of.equation x y) h = past_expr y (past_left x h).1

mutual
  -- past the items of a node
  pub past_items : {a b : List Token} {x : List Item} → items_of.IsItems a x b → AreShaped a → AreShaped b
  past_items items_of.no_item h = h
  past_items (items_of.loop_then x y) h = past_items y (past_loop x h)
  past_items (items_of.loop_semicolon_then x y) h = past_items y (past_loop x h).1
  past_items (items_of.last_equation x) h = past_equation x h
  past_items (items_of.equation_then x y) h = past_items y (past_equation x h).1

  past_loop : {a b : List Token} {x : Loop} → items_of.IsLoop a x b → AreShaped a → AreShaped b
  past_loop (items_of.forall_in n x y z) h = (past_items z (past_index y (past_index x h.1.1.1.1).1).1.1).1

-- past the entries of a table or a permutation
pub past_numbers : {a b : List Token} {x : List ℕ} → files.IsNumbers a x b → AreShaped a → AreShaped b
past_numbers (files.last_number n) h = h.1
past_numbers (files.next_number n x) h = past_numbers x h.1.1
