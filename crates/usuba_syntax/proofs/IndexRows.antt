-- The rows of indexes, picks, spots, names and numbers, each above two lemmas. `by_row` derives a text of its rule.
-- `made_row`: its action makes what its rule means.
use Rattle.std.proofs.Common.{List, ◌∷◌, refl, ap, arith}
use Rattle.usuba_parts.specs.IndexActions.{index_chained}
use Rattle.usuba_parts.specs.declared.part.Part.{Part}
use Rattle.usuba_parts.specs.declared.part.Part.TheVariants as part
use Rattle.usuba_syntax.specs.Exprs as exprs
use Rattle.usuba_syntax.specs.Indexes as indexes
use Rattle.usuba_syntax.specs.Terminals as terminal
use Rattle.usuba_tokens.specs.declared.token.Token.{Token}
use Rattle.usuba_syntax.proofs.Backwards.{reverse-backwards}
use Rattle.usuba_syntax.proofs.Meaning.{Reads, Makes, nil, token, rule, is_open_round, is_close_round}
use Rattle.usuba_syntax.proofs.Meaning.{is_open_square, is_close_square, is_plus, is_minus, is_star, is_slash}
use Rattle.usuba_syntax.proofs.Meaning.{is_percent, is_dots, is_in, is_type_word, is_word, is_zero, is_positive}
use Rattle.usuba_syntax.proofs.Meaning.{is_too_big, m_spot, m_picks, m_pick, m_high, m_no_high, m_index}
use Rattle.usuba_syntax.proofs.Meaning.{m_sum_links, m_product, m_product_links, m_atom, m_index_group, m_name}
use Rattle.usuba_syntax.proofs.Meaning.{m_number, m_positive_number}
use Rattle.ll_reader.specs.Derivation.{items}
use Rattle.usuba_syntax.specs.declared.table.indexes.TheConstants as row
use Rattle.usuba_syntax.proofs.Runs.{Derived, run_by}

-- spot: name picks
pub by_spot : {a b : List Token} {ps : List Part} {v : Part} → Derived row.SPOT row.SPOT_ACTION a ps v b
by_spot = run_by 44 row.SPOT refl

-- the action makes what the rule means
pub made_spot : {a b : List Token} {ps : List Part}
    → Reads (items row.SPOT) a ps b → Makes row.SPOT.rule row.SPOT_ACTION a ps b
made_spot (rule (m_name {w = w} n) (rule (m_picks {ps = ps} x) nil)) = (
  _,
  m_spot (exprs.spot n x),
  λ rest. ap (λ xs. part.Spot (record { name = w; picks = xs }) ∷ rest) (reverse-backwards ps),
  λ rest. refl,
)

-- picks: pick picks
pub by_next_pick : {a b : List Token} {ps : List Part} {v : Part}
    → Derived row.NEXT_PICK row.NEXT_PICK_ACTION a ps v b
by_next_pick = run_by 45 row.NEXT_PICK refl

-- the action makes what the rule means
pub made_next_pick : {a b : List Token} {ps : List Part}
    → Reads (items row.NEXT_PICK) a ps b → Makes row.NEXT_PICK.rule row.NEXT_PICK_ACTION a ps b
made_next_pick (rule (m_pick x) (rule (m_picks y) nil)) =
    (_, m_picks (exprs.next_pick x y), λ rest. refl, λ rest. refl)

-- picks: nothing
pub by_no_more_picks : {a b : List Token} {ps : List Part} {v : Part}
    → Derived row.NO_MORE_PICKS row.NO_MORE_PICKS_ACTION a ps v b
by_no_more_picks = run_by 46 row.NO_MORE_PICKS refl

-- the action makes what the rule means
pub made_no_more_picks : {a b : List Token} {ps : List Part}
    → Reads (items row.NO_MORE_PICKS) a ps b → Makes row.NO_MORE_PICKS.rule row.NO_MORE_PICKS_ACTION a ps b
made_no_more_picks nil = (_, m_picks exprs.no_more_picks, λ rest. refl, λ rest. refl)

-- pick: `[` index high `]`
pub by_pick : {a b : List Token} {ps : List Part} {v : Part} → Derived row.PICK row.PICK_ACTION a ps v b
by_pick = run_by 47 row.PICK refl

-- the action makes what the rule means
pub made_pick : {a b : List Token} {ps : List Part}
    → Reads (items row.PICK) a ps b → Makes row.PICK.rule row.PICK_ACTION a ps b
made_pick (token is_open_square (rule (m_index x) (rule m_no_high (token is_close_square nil)))) =
    (_, m_pick (exprs.one_part x), λ rest. refl, λ rest. refl)
made_pick (token is_open_square (rule (m_index x) (rule (m_high y) (token is_close_square nil)))) =
    (_, m_pick (exprs.range x y), λ rest. refl, λ rest. refl)

-- high: `..` index
pub by_high : {a b : List Token} {ps : List Part} {v : Part} → Derived row.HIGH row.HIGH_ACTION a ps v b
by_high = run_by 48 row.HIGH refl

-- the action makes what the rule means
pub made_high : {a b : List Token} {ps : List Part}
    → Reads (items row.HIGH) a ps b → Makes row.HIGH.rule row.HIGH_ACTION a ps b
made_high (token is_dots (rule (m_index x) nil)) = (_, m_high x, λ rest. refl, λ rest. refl)

-- high: nothing
pub by_no_high : {a b : List Token} {ps : List Part} {v : Part} → Derived row.NO_HIGH row.NO_HIGH_ACTION a ps v b
by_no_high = run_by 49 row.NO_HIGH refl

-- the action makes what the rule means
pub made_no_high : {a b : List Token} {ps : List Part}
    → Reads (items row.NO_HIGH) a ps b → Makes row.NO_HIGH.rule row.NO_HIGH_ACTION a ps b
made_no_high nil = (_, m_no_high, λ rest. refl, λ rest. refl)

-- index: product sum_links
pub by_index : {a b : List Token} {ps : List Part} {v : Part} → Derived row.INDEX row.INDEX_ACTION a ps v b
by_index = run_by 79 row.INDEX refl

-- the action makes what the rule means
pub made_index : {a b : List Token} {ps : List Part}
    → Reads (items row.INDEX) a ps b → Makes row.INDEX.rule row.INDEX_ACTION a ps b
made_index (rule (m_product x) (rule (m_sum_links indexes.no_more_products) nil)) =
    (_, m_index (indexes.one_product x), λ rest. refl, λ rest. refl)
made_index (rule (m_product {e = e} x) (rule (m_sum_links {ls = ls} (indexes.next_product s y ys)) nil)) = (
  _,
  m_index (indexes.sum x (indexes.next_product s y ys)),
  λ rest. ap (λ xs. part.Index (index_chained e xs) ∷ rest) (reverse-backwards ls),
  λ rest. refl,
)

-- sum_links: `+` product sum_links
pub by_sum : {a b : List Token} {ps : List Part} {v : Part} → Derived row.SUM row.SUM_ACTION a ps v b
by_sum = run_by 80 row.SUM refl

-- the action makes what the rule means
pub made_sum : {a b : List Token} {ps : List Part}
    → Reads (items row.SUM) a ps b → Makes row.SUM.rule row.SUM_ACTION a ps b
made_sum (token is_plus (rule (m_product x) (rule (m_sum_links y) nil))) =
    (_, m_sum_links (indexes.next_product indexes.plus x y), λ rest. refl, λ rest. refl)

-- sum_links: `-` product sum_links
pub by_difference : {a b : List Token} {ps : List Part} {v : Part}
    → Derived row.DIFFERENCE row.DIFFERENCE_ACTION a ps v b
by_difference = run_by 81 row.DIFFERENCE refl

-- the action makes what the rule means
pub made_difference : {a b : List Token} {ps : List Part}
    → Reads (items row.DIFFERENCE) a ps b → Makes row.DIFFERENCE.rule row.DIFFERENCE_ACTION a ps b
made_difference (token is_minus (rule (m_product x) (rule (m_sum_links y) nil))) =
    (_, m_sum_links (indexes.next_product indexes.minus x y), λ rest. refl, λ rest. refl)

-- sum_links: nothing
pub by_no_more_products : {a b : List Token} {ps : List Part} {v : Part}
    → Derived row.NO_MORE_PRODUCTS row.NO_MORE_PRODUCTS_ACTION a ps v b
by_no_more_products = run_by 82 row.NO_MORE_PRODUCTS refl

-- the action makes what the rule means
pub made_no_more_products : {a b : List Token} {ps : List Part}
    → Reads (items row.NO_MORE_PRODUCTS) a ps b → Makes row.NO_MORE_PRODUCTS.rule row.NO_MORE_PRODUCTS_ACTION a ps b
made_no_more_products nil = (_, m_sum_links indexes.no_more_products, λ rest. refl, λ rest. refl)

-- product: atom product_links
pub by_product : {a b : List Token} {ps : List Part} {v : Part} → Derived row.PRODUCT row.PRODUCT_ACTION a ps v b
by_product = run_by 83 row.PRODUCT refl

-- the action makes what the rule means
pub made_product : {a b : List Token} {ps : List Part}
    → Reads (items row.PRODUCT) a ps b → Makes row.PRODUCT.rule row.PRODUCT_ACTION a ps b
made_product (rule (m_atom x) (rule (m_product_links indexes.no_more_atoms) nil)) =
    (_, m_product (indexes.one_atom x), λ rest. refl, λ rest. refl)
made_product (rule (m_atom {e = e} x) (rule (m_product_links {ls = ls} (indexes.next_atom s y ys)) nil)) = (
  _,
  m_product (indexes.product x (indexes.next_atom s y ys)),
  λ rest. ap (λ xs. part.Index (index_chained e xs) ∷ rest) (reverse-backwards ls),
  λ rest. refl,
)

-- product_links: `*` atom product_links
pub by_times : {a b : List Token} {ps : List Part} {v : Part} → Derived row.TIMES row.TIMES_ACTION a ps v b
by_times = run_by 84 row.TIMES refl

-- the action makes what the rule means
pub made_times : {a b : List Token} {ps : List Part}
    → Reads (items row.TIMES) a ps b → Makes row.TIMES.rule row.TIMES_ACTION a ps b
made_times (token is_star (rule (m_atom x) (rule (m_product_links y) nil))) =
    (_, m_product_links (indexes.next_atom indexes.times x y), λ rest. refl, λ rest. refl)

-- product_links: `/` atom product_links
pub by_over : {a b : List Token} {ps : List Part} {v : Part} → Derived row.OVER row.OVER_ACTION a ps v b
by_over = run_by 85 row.OVER refl

-- the action makes what the rule means
pub made_over : {a b : List Token} {ps : List Part}
    → Reads (items row.OVER) a ps b → Makes row.OVER.rule row.OVER_ACTION a ps b
made_over (token is_slash (rule (m_atom x) (rule (m_product_links y) nil))) =
    (_, m_product_links (indexes.next_atom indexes.over x y), λ rest. refl, λ rest. refl)

-- product_links: `%` atom product_links
pub by_remainder : {a b : List Token} {ps : List Part} {v : Part}
    → Derived row.REMAINDER row.REMAINDER_ACTION a ps v b
by_remainder = run_by 86 row.REMAINDER refl

-- the action makes what the rule means
pub made_remainder : {a b : List Token} {ps : List Part}
    → Reads (items row.REMAINDER) a ps b → Makes row.REMAINDER.rule row.REMAINDER_ACTION a ps b
made_remainder (token is_percent (rule (m_atom x) (rule (m_product_links y) nil))) =
    (_, m_product_links (indexes.next_atom indexes.remainder x y), λ rest. refl, λ rest. refl)

-- product_links: nothing
pub by_no_more_atoms : {a b : List Token} {ps : List Part} {v : Part}
    → Derived row.NO_MORE_ATOMS row.NO_MORE_ATOMS_ACTION a ps v b
by_no_more_atoms = run_by 87 row.NO_MORE_ATOMS refl

-- the action makes what the rule means
pub made_no_more_atoms : {a b : List Token} {ps : List Part}
    → Reads (items row.NO_MORE_ATOMS) a ps b → Makes row.NO_MORE_ATOMS.rule row.NO_MORE_ATOMS_ACTION a ps b
made_no_more_atoms nil = (_, m_product_links indexes.no_more_atoms, λ rest. refl, λ rest. refl)

-- atom: number
pub by_number_atom : {a b : List Token} {ps : List Part} {v : Part}
    → Derived row.NUMBER_ATOM row.NUMBER_ATOM_ACTION a ps v b
by_number_atom = run_by 88 row.NUMBER_ATOM refl

-- the action makes what the rule means
pub made_number_atom : {a b : List Token} {ps : List Part}
    → Reads (items row.NUMBER_ATOM) a ps b → Makes row.NUMBER_ATOM.rule row.NUMBER_ATOM_ACTION a ps b
made_number_atom (rule (m_number n) nil) = (_, m_atom (indexes.index_number n), λ rest. refl, λ rest. refl)

-- atom: name
pub by_counter_atom : {a b : List Token} {ps : List Part} {v : Part}
    → Derived row.COUNTER_ATOM row.COUNTER_ATOM_ACTION a ps v b
by_counter_atom = run_by 89 row.COUNTER_ATOM refl

-- the action makes what the rule means
pub made_counter_atom : {a b : List Token} {ps : List Part}
    → Reads (items row.COUNTER_ATOM) a ps b → Makes row.COUNTER_ATOM.rule row.COUNTER_ATOM_ACTION a ps b
made_counter_atom (rule (m_name n) nil) = (_, m_atom (indexes.counter n), λ rest. refl, λ rest. refl)

-- atom: index_group
pub by_atom_in_brackets : {a b : List Token} {ps : List Part} {v : Part}
    → Derived row.ATOM_IN_BRACKETS row.ATOM_IN_BRACKETS_ACTION a ps v b
by_atom_in_brackets = run_by 90 row.ATOM_IN_BRACKETS refl

-- the action makes what the rule means
pub made_atom_in_brackets : {a b : List Token} {ps : List Part}
    → Reads (items row.ATOM_IN_BRACKETS) a ps b → Makes row.ATOM_IN_BRACKETS.rule row.ATOM_IN_BRACKETS_ACTION a ps b
made_atom_in_brackets (rule (m_index_group x) nil) =
    (_, m_atom (indexes.index_in_brackets x), λ rest. refl, λ rest. refl)

-- index_group: `(` index `)`
pub by_index_group : {a b : List Token} {ps : List Part} {v : Part}
    → Derived row.INDEX_GROUP row.INDEX_GROUP_ACTION a ps v b
by_index_group = run_by 91 row.INDEX_GROUP refl

-- the action makes what the rule means
pub made_index_group : {a b : List Token} {ps : List Part}
    → Reads (items row.INDEX_GROUP) a ps b → Makes row.INDEX_GROUP.rule row.INDEX_GROUP_ACTION a ps b
made_index_group (token is_open_round (rule (m_index x) (token is_close_round nil))) =
    (_, m_index_group x, λ rest. refl, λ rest. refl)

-- name: WORD
pub by_word_name : {a b : List Token} {ps : List Part} {v : Part}
    → Derived row.WORD_NAME row.WORD_NAME_ACTION a ps v b
by_word_name = run_by 92 row.WORD_NAME refl

-- the action makes what the rule means
pub made_word_name : {a b : List Token} {ps : List Part}
    → Reads (items row.WORD_NAME) a ps b → Makes row.WORD_NAME.rule row.WORD_NAME_ACTION a ps b
made_word_name (token is_word nil) = (_, m_name terminal.word, λ rest. refl, λ rest. refl)

-- name: TYPEWORD
pub by_type_word_name : {a b : List Token} {ps : List Part} {v : Part}
    → Derived row.TYPE_WORD_NAME row.TYPE_WORD_NAME_ACTION a ps v b
by_type_word_name = run_by 93 row.TYPE_WORD_NAME refl

-- the action makes what the rule means
pub made_type_word_name : {a b : List Token} {ps : List Part}
    → Reads (items row.TYPE_WORD_NAME) a ps b → Makes row.TYPE_WORD_NAME.rule row.TYPE_WORD_NAME_ACTION a ps b
made_type_word_name (token is_type_word nil) = (_, m_name terminal.type_word_as_name, λ rest. refl, λ rest. refl)

-- name: `in`
pub by_in_name : {a b : List Token} {ps : List Part} {v : Part} → Derived row.IN_NAME row.IN_NAME_ACTION a ps v b
by_in_name = run_by 94 row.IN_NAME refl

-- the action makes what the rule means
pub made_in_name : {a b : List Token} {ps : List Part}
    → Reads (items row.IN_NAME) a ps b → Makes row.IN_NAME.rule row.IN_NAME_ACTION a ps b
made_in_name (token is_in nil) = (_, m_name terminal.in_as_name, λ rest. refl, λ rest. refl)

-- number: ZERO
pub by_zero_number : {a b : List Token} {ps : List Part} {v : Part}
    → Derived row.ZERO_NUMBER row.ZERO_NUMBER_ACTION a ps v b
by_zero_number = run_by 95 row.ZERO_NUMBER refl

-- the action makes what the rule means
pub made_zero_number : {a b : List Token} {ps : List Part}
    → Reads (items row.ZERO_NUMBER) a ps b → Makes row.ZERO_NUMBER.rule row.ZERO_NUMBER_ACTION a ps b
made_zero_number (token is_zero nil) = (_, m_number terminal.number, λ rest. refl, λ rest. refl)

-- number: POSITIVE
pub by_positive_number : {a b : List Token} {ps : List Part} {v : Part}
    → Derived row.POSITIVE_NUMBER row.POSITIVE_NUMBER_ACTION a ps v b
by_positive_number = run_by 96 row.POSITIVE_NUMBER refl

-- the action makes what the rule means
pub made_positive_number : {a b : List Token} {ps : List Part}
    → Reads (items row.POSITIVE_NUMBER) a ps b → Makes row.POSITIVE_NUMBER.rule row.POSITIVE_NUMBER_ACTION a ps b
made_positive_number (token is_positive nil) = (_, m_number terminal.number, λ rest. refl, λ rest. refl)

-- number: TOO_BIG
pub by_big_number : {a b : List Token} {ps : List Part} {v : Part}
    → Derived row.BIG_NUMBER row.BIG_NUMBER_ACTION a ps v b
by_big_number = run_by 97 row.BIG_NUMBER refl

-- the action makes what the rule means
pub made_big_number : {a b : List Token} {ps : List Part}
    → Reads (items row.BIG_NUMBER) a ps b → Makes row.BIG_NUMBER.rule row.BIG_NUMBER_ACTION a ps b
made_big_number (token is_too_big nil) = (_, m_number terminal.too_big, λ rest. refl, λ rest. refl)

-- positive_number: POSITIVE
pub by_positive_dim : {a b : List Token} {ps : List Part} {v : Part}
    → Derived row.POSITIVE_DIM row.POSITIVE_DIM_ACTION a ps v b
by_positive_dim = run_by 98 row.POSITIVE_DIM refl

-- the action makes what the rule means
pub made_positive_dim : {a b : List Token} {ps : List Part}
    → Reads (items row.POSITIVE_DIM) a ps b → Makes row.POSITIVE_DIM.rule row.POSITIVE_DIM_ACTION a ps b
made_positive_dim (token is_positive nil) =
    (_, m_positive_number terminal.number (omega arith), λ rest. refl, λ rest. refl)

-- positive_number: TOO_BIG
pub by_big_dim : {a b : List Token} {ps : List Part} {v : Part} → Derived row.BIG_DIM row.BIG_DIM_ACTION a ps v b
by_big_dim = run_by 99 row.BIG_DIM refl

-- the action makes what the rule means
pub made_big_dim : {a b : List Token} {ps : List Part}
    → Reads (items row.BIG_DIM) a ps b → Makes row.BIG_DIM.rule row.BIG_DIM_ACTION a ps b
made_big_dim (token is_too_big nil) =
    (_, m_positive_number terminal.too_big (omega arith), λ rest. refl, λ rest. refl)
