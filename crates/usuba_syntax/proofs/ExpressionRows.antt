-- The rows of expressions, each above two lemmas. `by_row` derives a text of its rule.
-- `made_row`: its action makes what its rule means.
use Rattle.std.proofs.Common.{List, ◌∷◌, refl, ap}
use Rattle.usuba_parts.specs.ExpressionActions.{chained, shifted}
use Rattle.usuba_parts.specs.declared.part.Part.{Part}
use Rattle.usuba_parts.specs.declared.part.Part.TheVariants as part
use Rattle.usuba_syntax.specs.Exprs as exprs
use Rattle.usuba_syntax.specs.Indexes as indexes
use Rattle.usuba_tokens.specs.declared.token.Token.{Token}
use Rattle.usuba_trees.specs.declared.BitOp.TheVariants as op
use Rattle.usuba_trees.specs.declared.Expr.TheVariants as tree
use Rattle.usuba_trees.specs.declared.Index.{Index}
use Rattle.usuba_syntax.proofs.Backwards.{reverse-backwards}
use Rattle.usuba_syntax.proofs.Meaning.{Reads, Makes, nil, token, rule, is_refresh, is_open_round, is_close_round}
use Rattle.usuba_syntax.proofs.Meaning.{is_comma, is_tilde, is_ampersand, is_caret, is_bar, is_shift_left}
use Rattle.usuba_syntax.proofs.Meaning.{is_shift_right, is_rotate_left, is_rotate_right, m_picks, m_expr}
use Rattle.usuba_syntax.proofs.Meaning.{m_or_links, m_xors, m_xor_links, m_ands, m_and_links, m_shifts}
use Rattle.usuba_syntax.proofs.Meaning.{m_shift_links, m_unary, m_complement, m_primary, m_call, m_picks_suffix}
use Rattle.usuba_syntax.proofs.Meaning.{m_expr_group, m_exprs, m_more_exprs, m_no_exprs, m_index, m_atom, m_name}
use Rattle.usuba_syntax.proofs.Meaning.{m_number, m_refresh_args}
use Rattle.ll_reader.specs.Derivation.{items}
use Rattle.usuba_syntax.specs.declared.table.expressions.TheConstants as row
use Rattle.usuba_syntax.proofs.Runs.{Derived, run_by}

-- an atom stands as an amount
amount_of : {a b : List Token} {e : Index} → indexes.IsAtom a e b → indexes.IsAmount a e b
amount_of (indexes.index_number n) = indexes.amount_number n
amount_of (indexes.counter n) = indexes.amount_counter n
amount_of (indexes.index_in_brackets x) = indexes.amount_in_brackets x

-- expr: xors or_links
pub by_expr : {a b : List Token} {ps : List Part} {v : Part} → Derived row.EXPR row.EXPR_ACTION a ps v b
by_expr = run_by 50 row.EXPR refl

-- the action makes what the rule means
pub made_expr : {a b : List Token} {ps : List Part}
    → Reads (items row.EXPR) a ps b → Makes row.EXPR.rule row.EXPR_ACTION a ps b
made_expr (rule (m_xors x) (rule (m_or_links exprs.no_more_xors) nil)) =
    (_, m_expr (exprs.one_xors x), λ rest. refl, λ rest. refl)
made_expr (rule (m_xors {e = e} x) (rule (m_or_links {ls = ls} (exprs.next_xors y ys)) nil)) = (
  _,
  m_expr (exprs.ors x (exprs.next_xors y ys)),
  λ rest. ap (λ xs. part.Expr (chained op.Or e xs) ∷ rest) (reverse-backwards ls),
  λ rest. refl,
)

-- or_links: `|` xors or_links
pub by_next_xors : {a b : List Token} {ps : List Part} {v : Part}
    → Derived row.NEXT_XORS row.NEXT_XORS_ACTION a ps v b
by_next_xors = run_by 51 row.NEXT_XORS refl

-- the action makes what the rule means
pub made_next_xors : {a b : List Token} {ps : List Part}
    → Reads (items row.NEXT_XORS) a ps b → Makes row.NEXT_XORS.rule row.NEXT_XORS_ACTION a ps b
made_next_xors (token is_bar (rule (m_xors x) (rule (m_or_links y) nil))) =
    (_, m_or_links (exprs.next_xors x y), λ rest. refl, λ rest. refl)

-- or_links: nothing
pub by_no_more_xors : {a b : List Token} {ps : List Part} {v : Part}
    → Derived row.NO_MORE_XORS row.NO_MORE_XORS_ACTION a ps v b
by_no_more_xors = run_by 52 row.NO_MORE_XORS refl

-- the action makes what the rule means
pub made_no_more_xors : {a b : List Token} {ps : List Part}
    → Reads (items row.NO_MORE_XORS) a ps b → Makes row.NO_MORE_XORS.rule row.NO_MORE_XORS_ACTION a ps b
made_no_more_xors nil = (_, m_or_links exprs.no_more_xors, λ rest. refl, λ rest. refl)

-- xors: ands xor_links
pub by_xors : {a b : List Token} {ps : List Part} {v : Part} → Derived row.XORS row.XORS_ACTION a ps v b
by_xors = run_by 53 row.XORS refl

-- the action makes what the rule means
pub made_xors : {a b : List Token} {ps : List Part}
    → Reads (items row.XORS) a ps b → Makes row.XORS.rule row.XORS_ACTION a ps b
made_xors (rule (m_ands x) (rule (m_xor_links exprs.no_more_ands) nil)) =
    (_, m_xors (exprs.one_ands x), λ rest. refl, λ rest. refl)
made_xors (rule (m_ands {e = e} x) (rule (m_xor_links {ls = ls} (exprs.next_ands y ys)) nil)) = (
  _,
  m_xors (exprs.xors x (exprs.next_ands y ys)),
  λ rest. ap (λ xs. part.Expr (chained op.Xor e xs) ∷ rest) (reverse-backwards ls),
  λ rest. refl,
)

-- xor_links: `^` ands xor_links
pub by_next_ands : {a b : List Token} {ps : List Part} {v : Part}
    → Derived row.NEXT_ANDS row.NEXT_ANDS_ACTION a ps v b
by_next_ands = run_by 54 row.NEXT_ANDS refl

-- the action makes what the rule means
pub made_next_ands : {a b : List Token} {ps : List Part}
    → Reads (items row.NEXT_ANDS) a ps b → Makes row.NEXT_ANDS.rule row.NEXT_ANDS_ACTION a ps b
made_next_ands (token is_caret (rule (m_ands x) (rule (m_xor_links y) nil))) =
    (_, m_xor_links (exprs.next_ands x y), λ rest. refl, λ rest. refl)

-- xor_links: nothing
pub by_no_more_ands : {a b : List Token} {ps : List Part} {v : Part}
    → Derived row.NO_MORE_ANDS row.NO_MORE_ANDS_ACTION a ps v b
by_no_more_ands = run_by 55 row.NO_MORE_ANDS refl

-- the action makes what the rule means
pub made_no_more_ands : {a b : List Token} {ps : List Part}
    → Reads (items row.NO_MORE_ANDS) a ps b → Makes row.NO_MORE_ANDS.rule row.NO_MORE_ANDS_ACTION a ps b
made_no_more_ands nil = (_, m_xor_links exprs.no_more_ands, λ rest. refl, λ rest. refl)

-- ands: shifts and_links
pub by_ands : {a b : List Token} {ps : List Part} {v : Part} → Derived row.ANDS row.ANDS_ACTION a ps v b
by_ands = run_by 56 row.ANDS refl

-- the action makes what the rule means
pub made_ands : {a b : List Token} {ps : List Part}
    → Reads (items row.ANDS) a ps b → Makes row.ANDS.rule row.ANDS_ACTION a ps b
made_ands (rule (m_shifts x) (rule (m_and_links exprs.no_more_operands) nil)) =
    (_, m_ands (exprs.one_shifts x), λ rest. refl, λ rest. refl)
made_ands (rule (m_shifts {e = e} x) (rule (m_and_links {ls = ls} (exprs.next_operand y ys)) nil)) = (
  _,
  m_ands (exprs.ands x (exprs.next_operand y ys)),
  λ rest. ap (λ xs. part.Expr (chained op.And e xs) ∷ rest) (reverse-backwards ls),
  λ rest. refl,
)

-- and_links: `&` shifts and_links
pub by_next_shifts : {a b : List Token} {ps : List Part} {v : Part}
    → Derived row.NEXT_SHIFTS row.NEXT_SHIFTS_ACTION a ps v b
by_next_shifts = run_by 57 row.NEXT_SHIFTS refl

-- the action makes what the rule means
pub made_next_shifts : {a b : List Token} {ps : List Part}
    → Reads (items row.NEXT_SHIFTS) a ps b → Makes row.NEXT_SHIFTS.rule row.NEXT_SHIFTS_ACTION a ps b
made_next_shifts (token is_ampersand (rule (m_shifts x) (rule (m_and_links y) nil))) =
    (_, m_and_links (exprs.next_operand x y), λ rest. refl, λ rest. refl)

-- and_links: nothing
pub by_no_more_shifts : {a b : List Token} {ps : List Part} {v : Part}
    → Derived row.NO_MORE_SHIFTS row.NO_MORE_SHIFTS_ACTION a ps v b
by_no_more_shifts = run_by 58 row.NO_MORE_SHIFTS refl

-- the action makes what the rule means
pub made_no_more_shifts : {a b : List Token} {ps : List Part}
    → Reads (items row.NO_MORE_SHIFTS) a ps b → Makes row.NO_MORE_SHIFTS.rule row.NO_MORE_SHIFTS_ACTION a ps b
made_no_more_shifts nil = (_, m_and_links exprs.no_more_operands, λ rest. refl, λ rest. refl)

-- shifts: unary shift_links
pub by_shifts : {a b : List Token} {ps : List Part} {v : Part} → Derived row.SHIFTS row.SHIFTS_ACTION a ps v b
by_shifts = run_by 59 row.SHIFTS refl

-- the action makes what the rule means
pub made_shifts : {a b : List Token} {ps : List Part}
    → Reads (items row.SHIFTS) a ps b → Makes row.SHIFTS.rule row.SHIFTS_ACTION a ps b
made_shifts (rule (m_unary x) (rule (m_shift_links exprs.no_more_shifts) nil)) =
    (_, m_shifts (exprs.one_unary x), λ rest. refl, λ rest. refl)
made_shifts (rule (m_unary {e = e} x) (rule (m_shift_links {ls = ls} (exprs.next_shift s y ys)) nil)) = (
  _,
  m_shifts (exprs.shifts x (exprs.next_shift s y ys)),
  λ rest. ap (λ xs. part.Expr (shifted e xs) ∷ rest) (reverse-backwards ls),
  λ rest. refl,
)

-- shift_links: `<<` atom shift_links
pub by_left_shift : {a b : List Token} {ps : List Part} {v : Part}
    → Derived row.LEFT_SHIFT row.LEFT_SHIFT_ACTION a ps v b
by_left_shift = run_by 60 row.LEFT_SHIFT refl

-- the action makes what the rule means
pub made_left_shift : {a b : List Token} {ps : List Part}
    → Reads (items row.LEFT_SHIFT) a ps b → Makes row.LEFT_SHIFT.rule row.LEFT_SHIFT_ACTION a ps b
made_left_shift (token is_shift_left (rule (m_atom x) (rule (m_shift_links y) nil))) =
    (_, m_shift_links (exprs.next_shift exprs.left (amount_of x) y), λ rest. refl, λ rest. refl)

-- shift_links: `>>` atom shift_links
pub by_right_shift : {a b : List Token} {ps : List Part} {v : Part}
    → Derived row.RIGHT_SHIFT row.RIGHT_SHIFT_ACTION a ps v b
by_right_shift = run_by 61 row.RIGHT_SHIFT refl

-- the action makes what the rule means
pub made_right_shift : {a b : List Token} {ps : List Part}
    → Reads (items row.RIGHT_SHIFT) a ps b → Makes row.RIGHT_SHIFT.rule row.RIGHT_SHIFT_ACTION a ps b
made_right_shift (token is_shift_right (rule (m_atom x) (rule (m_shift_links y) nil))) =
    (_, m_shift_links (exprs.next_shift exprs.right (amount_of x) y), λ rest. refl, λ rest. refl)

-- shift_links: `<<<` atom shift_links
pub by_left_rotation : {a b : List Token} {ps : List Part} {v : Part}
    → Derived row.LEFT_ROTATION row.LEFT_ROTATION_ACTION a ps v b
by_left_rotation = run_by 62 row.LEFT_ROTATION refl

-- the action makes what the rule means
pub made_left_rotation : {a b : List Token} {ps : List Part}
    → Reads (items row.LEFT_ROTATION) a ps b → Makes row.LEFT_ROTATION.rule row.LEFT_ROTATION_ACTION a ps b
made_left_rotation (token is_rotate_left (rule (m_atom x) (rule (m_shift_links y) nil))) =
    (_, m_shift_links (exprs.next_shift exprs.rotate_left (amount_of x) y), λ rest. refl, λ rest. refl)

-- shift_links: `>>>` atom shift_links
pub by_right_rotation : {a b : List Token} {ps : List Part} {v : Part}
    → Derived row.RIGHT_ROTATION row.RIGHT_ROTATION_ACTION a ps v b
by_right_rotation = run_by 63 row.RIGHT_ROTATION refl

-- the action makes what the rule means
pub made_right_rotation : {a b : List Token} {ps : List Part}
    → Reads (items row.RIGHT_ROTATION) a ps b → Makes row.RIGHT_ROTATION.rule row.RIGHT_ROTATION_ACTION a ps b
made_right_rotation (token is_rotate_right (rule (m_atom x) (rule (m_shift_links y) nil))) =
    (_, m_shift_links (exprs.next_shift exprs.rotate_right (amount_of x) y), λ rest. refl, λ rest. refl)

-- shift_links: nothing
pub by_no_more_amounts : {a b : List Token} {ps : List Part} {v : Part}
    → Derived row.NO_MORE_AMOUNTS row.NO_MORE_AMOUNTS_ACTION a ps v b
by_no_more_amounts = run_by 64 row.NO_MORE_AMOUNTS refl

-- the action makes what the rule means
pub made_no_more_amounts : {a b : List Token} {ps : List Part}
    → Reads (items row.NO_MORE_AMOUNTS) a ps b → Makes row.NO_MORE_AMOUNTS.rule row.NO_MORE_AMOUNTS_ACTION a ps b
made_no_more_amounts nil = (_, m_shift_links exprs.no_more_shifts, λ rest. refl, λ rest. refl)

-- unary: complement
pub by_complemented : {a b : List Token} {ps : List Part} {v : Part}
    → Derived row.COMPLEMENTED row.COMPLEMENTED_ACTION a ps v b
by_complemented = run_by 65 row.COMPLEMENTED refl

-- the action makes what the rule means
pub made_complemented : {a b : List Token} {ps : List Part}
    → Reads (items row.COMPLEMENTED) a ps b → Makes row.COMPLEMENTED.rule row.COMPLEMENTED_ACTION a ps b
made_complemented (rule (m_complement x) nil) = (_, m_unary (exprs.complement x), λ rest. refl, λ rest. refl)

-- unary: primary
pub by_not_complemented : {a b : List Token} {ps : List Part} {v : Part}
    → Derived row.NOT_COMPLEMENTED row.NOT_COMPLEMENTED_ACTION a ps v b
by_not_complemented = run_by 66 row.NOT_COMPLEMENTED refl

-- the action makes what the rule means
pub made_not_complemented : {a b : List Token} {ps : List Part}
    → Reads (items row.NOT_COMPLEMENTED) a ps b → Makes row.NOT_COMPLEMENTED.rule row.NOT_COMPLEMENTED_ACTION a ps b
made_not_complemented (rule (m_primary x) nil) = (_, m_unary (exprs.one_primary x), λ rest. refl, λ rest. refl)

-- complement: `~` unary
pub by_complement : {a b : List Token} {ps : List Part} {v : Part}
    → Derived row.COMPLEMENT row.COMPLEMENT_ACTION a ps v b
by_complement = run_by 67 row.COMPLEMENT refl

-- the action makes what the rule means
pub made_complement : {a b : List Token} {ps : List Part}
    → Reads (items row.COMPLEMENT) a ps b → Makes row.COMPLEMENT.rule row.COMPLEMENT_ACTION a ps b
made_complement (token is_tilde (rule (m_unary x) nil)) = (_, m_complement x, λ rest. refl, λ rest. refl)

-- primary: number
pub by_number_expr : {a b : List Token} {ps : List Part} {v : Part}
    → Derived row.NUMBER_EXPR row.NUMBER_EXPR_ACTION a ps v b
by_number_expr = run_by 68 row.NUMBER_EXPR refl

-- the action makes what the rule means
pub made_number_expr : {a b : List Token} {ps : List Part}
    → Reads (items row.NUMBER_EXPR) a ps b → Makes row.NUMBER_EXPR.rule row.NUMBER_EXPR_ACTION a ps b
made_number_expr (rule (m_number n) nil) = (_, m_primary (exprs.number n), λ rest. refl, λ rest. refl)

-- primary: name after_name
pub by_name_expr : {a b : List Token} {ps : List Part} {v : Part}
    → Derived row.NAME_EXPR row.NAME_EXPR_ACTION a ps v b
by_name_expr = run_by 69 row.NAME_EXPR refl

-- the action makes what the rule means
pub made_name_expr : {a b : List Token} {ps : List Part}
    → Reads (items row.NAME_EXPR) a ps b → Makes row.NAME_EXPR.rule row.NAME_EXPR_ACTION a ps b
made_name_expr (rule (m_name {w = w} n) (rule (m_call {es = es} x) nil)) = (
  _,
  m_primary (exprs.call n x),
  λ rest. ap (λ xs. part.Expr (tree.Call w xs) ∷ rest) (reverse-backwards es),
  λ rest. refl,
)
made_name_expr (rule (m_name {w = w} n) (rule (m_picks_suffix {ps = ps} x) nil)) = (
  _,
  m_primary (exprs.one_spot (exprs.spot n x)),
  λ rest. ap (λ xs. part.Expr (tree.Spot (record { name = w; picks = xs })) ∷ rest) (reverse-backwards ps),
  λ rest. refl,
)

-- primary: `refresh` refresh_args
pub by_refresh_expr : {a b : List Token} {ps : List Part} {v : Part}
    → Derived row.REFRESH_EXPR row.REFRESH_EXPR_ACTION a ps v b
by_refresh_expr = run_by 70 row.REFRESH_EXPR refl

-- the action makes what the rule means
pub made_refresh_expr : {a b : List Token} {ps : List Part}
    → Reads (items row.REFRESH_EXPR) a ps b → Makes row.REFRESH_EXPR.rule row.REFRESH_EXPR_ACTION a ps b
made_refresh_expr (token is_refresh (rule (m_refresh_args x y) nil)) =
    (_, m_primary (exprs.refresh x y), λ rest. refl, λ rest. refl)

-- primary: expr_group
pub by_tuple : {a b : List Token} {ps : List Part} {v : Part} → Derived row.TUPLE row.TUPLE_ACTION a ps v b
by_tuple = run_by 71 row.TUPLE refl

-- the action makes what the rule means
pub made_tuple : {a b : List Token} {ps : List Part}
    → Reads (items row.TUPLE) a ps b → Makes row.TUPLE.rule row.TUPLE_ACTION a ps b
made_tuple (rule (m_expr_group {es = es} x) nil) = (
  _,
  m_primary (exprs.tuple x),
  λ rest. ap (λ xs. part.Expr (tree.Tuple xs) ∷ rest) (reverse-backwards es),
  λ rest. refl,
)

-- after_name: expr_group
pub by_arguments : {a b : List Token} {ps : List Part} {v : Part}
    → Derived row.ARGUMENTS row.ARGUMENTS_ACTION a ps v b
by_arguments = run_by 72 row.ARGUMENTS refl

-- the action makes what the rule means
pub made_arguments : {a b : List Token} {ps : List Part}
    → Reads (items row.ARGUMENTS) a ps b → Makes row.ARGUMENTS.rule row.ARGUMENTS_ACTION a ps b
made_arguments (rule (m_expr_group x) nil) = (_, m_call x, λ rest. refl, λ rest. refl)

-- after_name: picks
pub by_picks_of_name : {a b : List Token} {ps : List Part} {v : Part}
    → Derived row.PICKS_OF_NAME row.PICKS_OF_NAME_ACTION a ps v b
by_picks_of_name = run_by 73 row.PICKS_OF_NAME refl

-- the action makes what the rule means
pub made_picks_of_name : {a b : List Token} {ps : List Part}
    → Reads (items row.PICKS_OF_NAME) a ps b → Makes row.PICKS_OF_NAME.rule row.PICKS_OF_NAME_ACTION a ps b
made_picks_of_name (rule (m_picks x) nil) = (_, m_picks_suffix x, λ rest. refl, λ rest. refl)

-- expr_group: `(` exprs `)`
pub by_expr_group : {a b : List Token} {ps : List Part} {v : Part}
    → Derived row.EXPR_GROUP row.EXPR_GROUP_ACTION a ps v b
by_expr_group = run_by 74 row.EXPR_GROUP refl

-- the action makes what the rule means
pub made_expr_group : {a b : List Token} {ps : List Part}
    → Reads (items row.EXPR_GROUP) a ps b → Makes row.EXPR_GROUP.rule row.EXPR_GROUP_ACTION a ps b
made_expr_group (token is_open_round (rule (m_exprs x) (token is_close_round nil))) =
    (_, m_expr_group x, λ rest. refl, λ rest. refl)

-- exprs: expr more_exprs
pub by_exprs : {a b : List Token} {ps : List Part} {v : Part} → Derived row.EXPRS row.EXPRS_ACTION a ps v b
by_exprs = run_by 75 row.EXPRS refl

-- the action makes what the rule means
pub made_exprs : {a b : List Token} {ps : List Part}
    → Reads (items row.EXPRS) a ps b → Makes row.EXPRS.rule row.EXPRS_ACTION a ps b
made_exprs (rule (m_expr x) (rule m_no_exprs nil)) = (_, m_exprs (exprs.one_expr x), λ rest. refl, λ rest. refl)
made_exprs (rule (m_expr x) (rule (m_more_exprs y) nil)) =
    (_, m_exprs (exprs.next_expr x y), λ rest. refl, λ rest. refl)

-- more_exprs: `,` exprs
pub by_more_exprs : {a b : List Token} {ps : List Part} {v : Part}
    → Derived row.MORE_EXPRS row.MORE_EXPRS_ACTION a ps v b
by_more_exprs = run_by 76 row.MORE_EXPRS refl

-- the action makes what the rule means
pub made_more_exprs : {a b : List Token} {ps : List Part}
    → Reads (items row.MORE_EXPRS) a ps b → Makes row.MORE_EXPRS.rule row.MORE_EXPRS_ACTION a ps b
made_more_exprs (token is_comma (rule (m_exprs x) nil)) = (_, m_more_exprs x, λ rest. refl, λ rest. refl)

-- more_exprs: nothing
pub by_no_more_exprs : {a b : List Token} {ps : List Part} {v : Part}
    → Derived row.NO_MORE_EXPRS row.NO_MORE_EXPRS_ACTION a ps v b
by_no_more_exprs = run_by 77 row.NO_MORE_EXPRS refl

-- the action makes what the rule means
pub made_no_more_exprs : {a b : List Token} {ps : List Part}
    → Reads (items row.NO_MORE_EXPRS) a ps b → Makes row.NO_MORE_EXPRS.rule row.NO_MORE_EXPRS_ACTION a ps b
made_no_more_exprs nil = (_, m_no_exprs, λ rest. refl, λ rest. refl)

-- refresh_args: `(` expr `,` index `)`
pub by_refresh_args : {a b : List Token} {ps : List Part} {v : Part}
    → Derived row.REFRESH_ARGS row.REFRESH_ARGS_ACTION a ps v b
by_refresh_args = run_by 78 row.REFRESH_ARGS refl

-- the action makes what the rule means
pub made_refresh_args : {a b : List Token} {ps : List Part}
    → Reads (items row.REFRESH_ARGS) a ps b → Makes row.REFRESH_ARGS.rule row.REFRESH_ARGS_ACTION a ps b
made_refresh_args (token is_open_round (rule (m_expr x) (token is_comma (rule (m_index y)
    (token is_close_round nil))))) =
    (_, m_refresh_args x y, λ rest. refl, λ rest. refl)
