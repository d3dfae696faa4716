-- The rows of items, each above two lemmas. `by_row` derives a text of its rule.
-- `made_row`: its action makes what its rule means.
use Rattle.std.proofs.Common.{List, ◌∷◌, ◌≡◌, refl, ap, reverse}
use Rattle.tor_edge.specs.declared.place.Place.{Place}
use Rattle.usuba_parts.specs.declared.part.Part.{Part}
use Rattle.usuba_parts.specs.declared.part.Part.TheVariants as part
use Rattle.usuba_syntax.specs.Items as items_of
use Rattle.usuba_tokens.specs.declared.token.Token.{Token}
use Rattle.usuba_trees.specs.declared.Index.{Index}
use Rattle.usuba_trees.specs.declared.Item.{Item}
use Rattle.usuba_trees.specs.declared.Item.TheVariants as item
use Rattle.usuba_trees.specs.declared.Word.{Word}
use Rattle.usuba_trees.specs.Made.{loop_of}
use Rattle.usuba_syntax.proofs.Backwards.{backwards, reverse-backwards}
use Rattle.usuba_syntax.proofs.Meaning.{Reads, Makes, nil, token, rule, is_forall, is_open_round, is_close_round}
use Rattle.usuba_syntax.proofs.Meaning.{is_open_square, is_close_square, is_open_curly, is_close_curly, is_comma}
use Rattle.usuba_syntax.proofs.Meaning.{is_semicolon, is_equals, is_in, m_items, m_after_loop_semicolon}
use Rattle.usuba_syntax.proofs.Meaning.{m_after_loop, m_after_equation, m_no_items, m_loop, m_equation, m_body}
use Rattle.usuba_syntax.proofs.Meaning.{m_left, m_spot_group, m_spots, m_more_spots, m_no_spots, m_spot, m_expr}
use Rattle.usuba_syntax.proofs.Meaning.{m_index, m_name, m_bounds}
use Rattle.ll_reader.specs.Derivation.{items}
use Rattle.usuba_syntax.specs.declared.table.items.TheConstants as row
use Rattle.usuba_syntax.proofs.Runs.{Derived, run_by}

-- a loop from items that were built backwards
loop_made : (at : Place) (w : Word) (low high : Index) (is : List Item) (rest : List Part) →
    ◌≡◌ {A = List Part} (part.Item (item.Loop (loop_of at w low high (reverse (backwards is)))) ∷ rest)
    (part.Item (item.Loop (loop_of at w low high is)) ∷ rest)
loop_made at w low high is rest =
    ap (λ xs. part.Item (item.Loop (loop_of at w low high xs)) ∷ rest) (reverse-backwards is)

-- items: loop after_loop
pub by_loop_first : {a b : List Token} {ps : List Part} {v : Part}
    → Derived row.LOOP_FIRST row.LOOP_FIRST_ACTION a ps v b
by_loop_first = run_by 27 row.LOOP_FIRST refl

-- the action makes what the rule means
pub made_loop_first : {a b : List Token} {ps : List Part}
    → Reads (items row.LOOP_FIRST) a ps b → Makes row.LOOP_FIRST.rule row.LOOP_FIRST_ACTION a ps b
made_loop_first (rule (m_loop x) (rule (m_after_loop_semicolon y) nil)) =
    (_, m_items (items_of.loop_semicolon_then x y), λ rest. refl, λ rest. refl)
made_loop_first (rule (m_loop x) (rule (m_after_loop y) nil)) =
    (_, m_items (items_of.loop_then x y), λ rest. refl, λ rest. refl)

-- items: equation after_equation
pub by_equation_first : {a b : List Token} {ps : List Part} {v : Part}
    → Derived row.EQUATION_FIRST row.EQUATION_FIRST_ACTION a ps v b
by_equation_first = run_by 28 row.EQUATION_FIRST refl

-- the action makes what the rule means
pub made_equation_first : {a b : List Token} {ps : List Part}
    → Reads (items row.EQUATION_FIRST) a ps b → Makes row.EQUATION_FIRST.rule row.EQUATION_FIRST_ACTION a ps b
made_equation_first (rule (m_equation x) (rule (m_after_equation y) nil)) =
    (_, m_items (items_of.equation_then x y), λ rest. refl, λ rest. refl)
made_equation_first (rule (m_equation x) (rule m_no_items nil)) =
    (_, m_items (items_of.last_equation x), λ rest. refl, λ rest. refl)

-- items: nothing
pub by_no_items : {a b : List Token} {ps : List Part} {v : Part} → Derived row.NO_ITEMS row.NO_ITEMS_ACTION a ps v b
by_no_items = run_by 29 row.NO_ITEMS refl

-- the action makes what the rule means
pub made_no_items : {a b : List Token} {ps : List Part}
    → Reads (items row.NO_ITEMS) a ps b → Makes row.NO_ITEMS.rule row.NO_ITEMS_ACTION a ps b
made_no_items nil = (_, m_items items_of.no_item, λ rest. refl, λ rest. refl)

-- after_loop: `;` items
pub by_semicolon_after_loop : {a b : List Token} {ps : List Part} {v : Part}
    → Derived row.SEMICOLON_AFTER_LOOP row.SEMICOLON_AFTER_LOOP_ACTION a ps v b
by_semicolon_after_loop = run_by 30 row.SEMICOLON_AFTER_LOOP refl

-- the action makes what the rule means
pub made_semicolon_after_loop : {a b : List Token} {ps : List Part}
    → Reads (items row.SEMICOLON_AFTER_LOOP) a ps b
    → Makes row.SEMICOLON_AFTER_LOOP.rule row.SEMICOLON_AFTER_LOOP_ACTION a ps b
made_semicolon_after_loop (token is_semicolon (rule (m_items x) nil)) =
    (_, m_after_loop_semicolon x, λ rest. refl, λ rest. refl)

-- after_loop: items
pub by_nothing_after_loop : {a b : List Token} {ps : List Part} {v : Part}
    → Derived row.NOTHING_AFTER_LOOP row.NOTHING_AFTER_LOOP_ACTION a ps v b
by_nothing_after_loop = run_by 31 row.NOTHING_AFTER_LOOP refl

-- the action makes what the rule means
pub made_nothing_after_loop : {a b : List Token} {ps : List Part}
    → Reads (items row.NOTHING_AFTER_LOOP) a ps b
    → Makes row.NOTHING_AFTER_LOOP.rule row.NOTHING_AFTER_LOOP_ACTION a ps b
made_nothing_after_loop (rule (m_items x) nil) = (_, m_after_loop x, λ rest. refl, λ rest. refl)

-- after_equation: `;` items
pub by_semicolon_after_equation : {a b : List Token} {ps : List Part} {v : Part}
    → Derived row.SEMICOLON_AFTER_EQUATION row.SEMICOLON_AFTER_EQUATION_ACTION a ps v b
by_semicolon_after_equation = run_by 32 row.SEMICOLON_AFTER_EQUATION refl

-- the action makes what the rule means
pub made_semicolon_after_equation : {a b : List Token} {ps : List Part}
    → Reads (items row.SEMICOLON_AFTER_EQUATION) a ps b
    → Makes row.SEMICOLON_AFTER_EQUATION.rule row.SEMICOLON_AFTER_EQUATION_ACTION a ps b
made_semicolon_after_equation (token is_semicolon (rule (m_items x) nil)) =
    (_, m_after_equation x, λ rest. refl, λ rest. refl)

-- after_equation: nothing
pub by_nothing_after_equation : {a b : List Token} {ps : List Part} {v : Part}
    → Derived row.NOTHING_AFTER_EQUATION row.NOTHING_AFTER_EQUATION_ACTION a ps v b
by_nothing_after_equation = run_by 33 row.NOTHING_AFTER_EQUATION refl

-- the action makes what the rule means
pub made_nothing_after_equation : {a b : List Token} {ps : List Part}
    → Reads (items row.NOTHING_AFTER_EQUATION) a ps b
    → Makes row.NOTHING_AFTER_EQUATION.rule row.NOTHING_AFTER_EQUATION_ACTION a ps b
made_nothing_after_equation nil = (_, m_no_items, λ rest. refl, λ rest. refl)

-- loop: `forall` name `in` bounds body
pub by_loop : {a b : List Token} {ps : List Part} {v : Part} → Derived row.LOOP row.LOOP_ACTION a ps v b
by_loop = run_by 34 row.LOOP refl

-- the action makes what the rule means
pub made_loop : {a b : List Token} {ps : List Part}
    → Reads (items row.LOOP) a ps b → Makes row.LOOP.rule row.LOOP_ACTION a ps b
made_loop (token is_forall (rule (m_name n) (token is_in (rule (m_bounds x y) (rule (m_body {is = is} z) nil))))) =
    (_, m_loop (items_of.forall_in n x y z), λ rest. loop_made _ _ _ _ is rest, λ rest. refl)

-- bounds: `[` index `,` index `]`
pub by_bounds : {a b : List Token} {ps : List Part} {v : Part} → Derived row.BOUNDS row.BOUNDS_ACTION a ps v b
by_bounds = run_by 35 row.BOUNDS refl

-- the action makes what the rule means
pub made_bounds : {a b : List Token} {ps : List Part}
    → Reads (items row.BOUNDS) a ps b → Makes row.BOUNDS.rule row.BOUNDS_ACTION a ps b
made_bounds (token is_open_square (rule (m_index x) (token is_comma (rule (m_index y)
    (token is_close_square nil))))) =
    (_, m_bounds x y, λ rest. refl, λ rest. refl)

-- body: `{` items `}`
pub by_body : {a b : List Token} {ps : List Part} {v : Part} → Derived row.BODY row.BODY_ACTION a ps v b
by_body = run_by 36 row.BODY refl

-- the action makes what the rule means
pub made_body : {a b : List Token} {ps : List Part}
    → Reads (items row.BODY) a ps b → Makes row.BODY.rule row.BODY_ACTION a ps b
made_body (token is_open_curly (rule (m_items x) (token is_close_curly nil))) =
    (_, m_body x, λ rest. refl, λ rest. refl)

-- equation: left `=` expr
pub by_equation : {a b : List Token} {ps : List Part} {v : Part} → Derived row.EQUATION row.EQUATION_ACTION a ps v b
by_equation = run_by 37 row.EQUATION refl

-- the action makes what the rule means
pub made_equation : {a b : List Token} {ps : List Part}
    → Reads (items row.EQUATION) a ps b → Makes row.EQUATION.rule row.EQUATION_ACTION a ps b
made_equation (rule (m_left {ss = ss} x) (token (is_equals {at = at}) (rule (m_expr {e = e} y) nil))) = (
  _,
  m_equation (items_of.equation x y),
  λ rest. ap (λ xs. part.Item (item.Equation (record { left = xs; equal = at; right = e })) ∷ rest)
      (reverse-backwards ss),
  λ rest. refl,
)

-- left: spot
pub by_one_spot : {a b : List Token} {ps : List Part} {v : Part} → Derived row.ONE_SPOT row.ONE_SPOT_ACTION a ps v b
by_one_spot = run_by 38 row.ONE_SPOT refl

-- the action makes what the rule means
pub made_one_spot : {a b : List Token} {ps : List Part}
    → Reads (items row.ONE_SPOT) a ps b → Makes row.ONE_SPOT.rule row.ONE_SPOT_ACTION a ps b
made_one_spot (rule (m_spot x) nil) = (_, m_left (items_of.one_spot x), λ rest. refl, λ rest. refl)

-- left: spot_group
pub by_spots_in_brackets : {a b : List Token} {ps : List Part} {v : Part}
    → Derived row.SPOTS_IN_BRACKETS row.SPOTS_IN_BRACKETS_ACTION a ps v b
by_spots_in_brackets = run_by 39 row.SPOTS_IN_BRACKETS refl

-- the action makes what the rule means
pub made_spots_in_brackets : {a b : List Token} {ps : List Part}
    → Reads (items row.SPOTS_IN_BRACKETS) a ps b → Makes row.SPOTS_IN_BRACKETS.rule row.SPOTS_IN_BRACKETS_ACTION a ps b
made_spots_in_brackets (rule (m_spot_group x) nil) =
    (_, m_left (items_of.spots_in_brackets x), λ rest. refl, λ rest. refl)

-- spot_group: `(` spots `)`
pub by_spot_group : {a b : List Token} {ps : List Part} {v : Part}
    → Derived row.SPOT_GROUP row.SPOT_GROUP_ACTION a ps v b
by_spot_group = run_by 40 row.SPOT_GROUP refl

-- the action makes what the rule means
pub made_spot_group : {a b : List Token} {ps : List Part}
    → Reads (items row.SPOT_GROUP) a ps b → Makes row.SPOT_GROUP.rule row.SPOT_GROUP_ACTION a ps b
made_spot_group (token is_open_round (rule (m_spots x) (token is_close_round nil))) =
    (_, m_spot_group x, λ rest. refl, λ rest. refl)

-- spots: spot more_spots
pub by_spots : {a b : List Token} {ps : List Part} {v : Part} → Derived row.SPOTS row.SPOTS_ACTION a ps v b
by_spots = run_by 41 row.SPOTS refl

-- the action makes what the rule means
pub made_spots : {a b : List Token} {ps : List Part}
    → Reads (items row.SPOTS) a ps b → Makes row.SPOTS.rule row.SPOTS_ACTION a ps b
made_spots (rule (m_spot x) (rule m_no_spots nil)) = (_, m_spots (items_of.last_spot x), λ rest. refl, λ rest. refl)
made_spots (rule (m_spot x) (rule (m_more_spots y) nil)) =
    (_, m_spots (items_of.next_spot x y), λ rest. refl, λ rest. refl)

-- more_spots: `,` spots
pub by_more_spots : {a b : List Token} {ps : List Part} {v : Part}
    → Derived row.MORE_SPOTS row.MORE_SPOTS_ACTION a ps v b
by_more_spots = run_by 42 row.MORE_SPOTS refl

-- the action makes what the rule means
pub made_more_spots : {a b : List Token} {ps : List Part}
    → Reads (items row.MORE_SPOTS) a ps b → Makes row.MORE_SPOTS.rule row.MORE_SPOTS_ACTION a ps b
made_more_spots (token is_comma (rule (m_spots x) nil)) = (_, m_more_spots x, λ rest. refl, λ rest. refl)

-- more_spots: nothing
pub by_no_more_spots : {a b : List Token} {ps : List Part} {v : Part}
    → Derived row.NO_MORE_SPOTS row.NO_MORE_SPOTS_ACTION a ps v b
by_no_more_spots = run_by 43 row.NO_MORE_SPOTS refl

-- the action makes what the rule means
pub made_no_more_spots : {a b : List Token} {ps : List Part}
    → Reads (items row.NO_MORE_SPOTS) a ps b → Makes row.NO_MORE_SPOTS.rule row.NO_MORE_SPOTS_ACTION a ps b
made_no_more_spots nil = (_, m_no_spots, λ rest. refl, λ rest. refl)
