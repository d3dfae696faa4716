-- Expressions of the subset are derived by the table.
use Rattle.std.proofs.Common.{ℕ, ◌≤◌, List, [], ◌∷◌, refl, arith}
use Rattle.ll_reader.specs.declared.grammar.Item.TheVariants as due
use Rattle.tor_edge.specs.declared.place.Place.{Place}
use Rattle.c_grammar.specs.declared.rule.TheConstants as rules
use Rattle.c_grammar.specs.declared.table.expressions.TheConstants as expression_row
use Rattle.c_tokens.specs.declared.token.Keyword.TheVariants as keyword
use Rattle.c_tokens.specs.declared.token.Sign.{Sign}
use Rattle.c_tokens.specs.declared.token.Sign.TheVariants as sign
use Rattle.c_tokens.specs.declared.token.Token.{Token}
use Rattle.c_tree.specs.declared.CExpr.{CExpr}
use Rattle.c_tree.specs.declared.CIndex.{CIndex}
use Rattle.c_tree.specs.declared.COp.{COp}
use Rattle.c_subset.specs.Expressions.{IsIdx, number_idx, name_idx, IsOp, xor, and, or, shift_left, shift_right, minus, IsEx, cell, word_ex, number_ex, random_ex, two}
use Rattle.c_subset.specs.Terminals as terminal
use Rattle.c_subset.proofs.Runs.{Runs, run_nil, run_sign, run_word, run_rule, run_by, run_deep}
use Rattle.c_subset.proofs.Leaves.{run_name, run_number}

-- an index
pub run_idx : {room : ℕ} {c : List ℕ} {a : List Token} (t : Token) (i : CIndex) → IsIdx t i → Runs room (due.Rule rules.IDX ∷ []) c (t ∷ a) c a
run_idx t i (number_idx {n = n} {at = at}) = run_by 42 expression_row.NUMBER_IDX refl refl (run_number n at)
run_idx t i (name_idx {text = text} {at = at}) = run_by 43 expression_row.NAME_IDX refl refl (run_name text at)

run_op : {room : ℕ} {c : List ℕ} {a : List Token} (s : Sign) (o : COp) (at : Place) → IsOp s o
    → Runs room (due.Rule rules.OP ∷ []) c (terminal.sign s at ∷ a) c a
run_op s o at xor = run_by 50 expression_row.XOR refl refl (run_sign sign.Caret at run_nil)
run_op s o at and = run_by 51 expression_row.AND refl refl (run_sign sign.Ampersand at run_nil)
run_op s o at or = run_by 52 expression_row.OR refl refl (run_sign sign.Bar at run_nil)
run_op s o at shift_left = run_by 53 expression_row.SHL refl refl (run_sign sign.ShiftLeft at run_nil)
run_op s o at shift_right = run_by 54 expression_row.SHR refl refl (run_sign sign.ShiftRight at run_nil)
run_op s o at minus = run_by 55 expression_row.SUB refl refl (run_sign sign.Minus at run_nil)

-- an expression
pub run_ex : {c : List ℕ} (room : ℕ) → room ≤ 128 → (a : List Token) (e : CExpr) (b : List Token) → IsEx room a e b
    → Runs room (due.Rule rules.EX ∷ []) c a c b
run_ex room few a e b (cell {array = array} {t = t} {i = i} {at = at} {word = word} {close = close} {of = of} {square = square} {end = end} x) =
    run_by 44 expression_row.BRACKETS refl refl (run_sign sign.OpenRound at (run_by 48 expression_row.CELL refl refl
    (run_word keyword.Word word refl (run_sign sign.CloseRound close
    (run_rule (run_name array of) (run_sign sign.OpenSquare square
    (run_rule (run_idx t i x) (run_sign sign.CloseSquare end run_nil))))))))
run_ex room few a e b (word_ex {text = text} {at = at}) = run_by 45 expression_row.NAME_EX refl refl (run_name text at)
run_ex room few a e b (number_ex {n = n} {at = at} {round = round} {of = of} {end = end}) =
    run_by 46 expression_row.NUMBER_EX refl refl (run_word keyword.Constant at refl (run_sign sign.OpenRound round
    (run_rule (run_number n of) (run_sign sign.CloseRound end run_nil))))
run_ex room few a e b (random_ex {at = at} {round = round} {end = end}) =
    run_by 47 expression_row.RANDOM_EX refl refl (run_word keyword.Random at refl (run_sign sign.OpenRound round (run_sign sign.CloseRound end run_nil)))
run_ex room few a e b (two {room = less} {s = s} {o = o} {left = left} {right = right} {at = at} {of = of} {end = end} is x y) =
    run_by 44 expression_row.BRACKETS refl refl (run_sign sign.OpenRound at (run_deep 49 expression_row.TWO refl refl few
    (run_rule (run_ex less (omega (arith, few)) _ left _ x) (run_rule (run_op s o of is) (run_rule (run_ex less (omega (arith, few)) _ right _ y)
    (run_sign sign.CloseRound end run_nil))))))
