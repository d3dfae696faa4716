-- What a row of the table makes of what its items mean is what its rule means.
use Rattle.std.proofs.Common.{◌≡◌, ℕ, zero, suc, ◌+◌, ◌-◌, ◌≤◌, Bool, true, false, List, [], ◌∷◌, ◌++◌, Some, refl, sym, ap, subst, arith}
use Rattle.std.specs.Prelude.{if◌then◌else◌}
use Rattle.ll_reader.specs.Depth.{items_at}
use Rattle.ll_reader.specs.declared.grammar.Item as Items
use Rattle.ll_reader.specs.declared.grammar.Item.TheVariants as due
use Rattle.ll_reader.specs.declared.grammar.Production.{Production}
use Rattle.tor_edge.specs.declared.place.Place.{Place}
use Rattle.c_grammar.specs.declared.table.TheConstants.{PRODUCTIONS}
use Rattle.c_grammar.specs.declared.table.expressions.TheConstants as expression_row
use Rattle.c_grammar.specs.declared.table.files.TheConstants as file_row
use Rattle.c_grammar.specs.declared.table.statements.TheConstants as statement_row
use Rattle.c_tokens.specs.declared.token.Keyword.TheVariants as keyword
use Rattle.c_tokens.specs.declared.token.Sign.TheVariants as sign
use Rattle.c_tokens.specs.declared.token.Token.{Token}
use Rattle.c_tree.specs.declared.CArg.{CArg}
use Rattle.c_tree.specs.declared.CExpr.{CExpr}
use Rattle.c_tree.specs.declared.CLow.{CLow}
use Rattle.c_tree.specs.declared.CParam.{CParam}
use Rattle.c_subset.specs.Expressions.{number_idx, name_idx, IsLow, number_low, after_low, xor, and, or, shift_left, shift_right, minus, IsEx, cell, word_ex, number_ex, random_ex, two}
use Rattle.c_subset.specs.Files.{IsParam, array_param, word_param, IsParams, last_param, next_param, gadget, no_gadget, next_gadget, rows, no_slots, slots, IsArg, out_arg, in_arg, slot_arg, number_arg, IsArgs, last_arg, next_arg, no_call, next_call}
use Rattle.c_subset.specs.Statements.{no_stmt, next_stmt, assign, declare, for_counter}
use Rattle.c_subset.specs.Terminals as terminal
use Rattle.c_subset.proofs.Meaning.{IsMoreParams, none_more, one_more, IsMoreArgs, none_more_args, one_more_arg, one_call, body, masked, IsHead, head, IsSteps, steps, Made, token, rule}
use Rattle.c_subset.proofs.Meaning.{of_ampersand, of_bar, of_caret, of_close_curly, of_close_round, of_close_square, of_comma, of_constant, of_counter, of_equals, of_few, of_for, of_in, of_less, of_many, of_masked, of_minus, of_name, of_one, of_open_curly, of_open_round, of_open_square, of_out, of_past, of_plus, of_plus_plus, of_random, of_reg, of_semicolon, of_shares, of_shift_left, of_shift_right, of_slots, of_static, of_unsigned, of_void, of_word, of_zero}
use Rattle.c_subset.proofs.Meaning.{m_arg, m_args, m_assign, m_body, m_call, m_calls, m_declare, m_ex, m_few_rows, m_file, m_gadget, m_gadgets, m_head, m_idx, m_inner, m_low, m_many_rows, m_masked, m_name, m_number, m_op, m_param, m_params, m_rows, m_slots, m_steps, m_stmt, m_stmt_in_loop, m_stmt_in_two_loops, m_stmts, m_stmts_in_loop, m_stmts_in_two_loops}

-- what a row makes of what its items mean, in so many brackets
abbrev pub Row : Production → Type 0
Row p = (δ : ℕ) (u : Bool) (c : List ℕ) (a : List Token) (more : List (Items.Item × ℕ))
    → Made (items_at δ (Some p) ++ more) u c a → Made ((due.Rule p.rule, δ) ∷ more) u c a

-- a parameter and those behind it
params_of : {a b c : List Token} {p : CParam} {ps : List CParam} → IsParam a p b → IsMoreParams b ps c → IsParams a (p ∷ ps) c
params_of x none_more = last_param x
params_of x (one_more y more) = next_param x (params_of y more)

args_of : {a b c : List Token} {x : CArg} {xs : List CArg} → IsArg a x b → IsMoreArgs b xs c → IsArgs a (x ∷ xs) c
args_of x none_more_args = last_arg x
args_of x (one_more_arg y more) = next_arg x (args_of y more)

-- an expression within more room
roomier : {n : ℕ} {a b : List Token} {e : CExpr} (m : ℕ) → n ≤ m → IsEx n a e b → IsEx m a e b
roomier m most (cell i) = cell i
roomier m most word_ex = word_ex
roomier m most number_ex = number_ex
roomier m most random_ex = random_ex
roomier zero most (two o x y) = absurd (omega (arith, most))
roomier (suc m) most (two o x y) = two o (roomier m (omega (arith, most)) x) (roomier m (omega (arith, most)) y)

widened : (δ : ℕ) {a b : List Token} {e : CExpr} → IsEx (128 - δ) a e b → IsEx 128 a e b
widened δ x = roomier 128 (omega arith) x

deeper : (δ : ℕ) {a b : List Token} {e : CExpr} → δ + 1 ≤ 128 → IsEx (suc (128 - (δ + 1))) a e b → IsEx (128 - δ) a e b
deeper δ {a = a} {b = b} {e = e} few x =
    let same : suc (128 - (δ + 1)) ≡ 128 - δ = omega (arith, few) in subst (λ (n : ℕ). IsEx n a e b) same x

-- the head of a loop, whose steps are over its counter
headed : {d text : List ℕ} {l : CLow} {at round unsigned of equals semicolon : Place} {a m b : List Token}
    → d ≡ text → IsLow a l (terminal.sign sign.Semicolon semicolon ∷ m) → IsSteps m d b
    → IsHead (terminal.keyword keyword.For at ∷ terminal.sign sign.OpenRound round ∷ terminal.keyword keyword.Unsigned unsigned
    ∷ terminal.name text of ∷ terminal.sign sign.Equals equals ∷ a) text l b
headed {m = m} {b = b} same low s = over low (subst (λ (n : List ℕ). IsSteps m n b) same s)
  where
    over : {text : List ℕ} {l : CLow} {at round unsigned of equals semicolon : Place} {a m b : List Token}
        → IsLow a l (terminal.sign sign.Semicolon semicolon ∷ m) → IsSteps m text b
        → IsHead (terminal.keyword keyword.For at ∷ terminal.sign sign.OpenRound round ∷ terminal.keyword keyword.Unsigned unsigned
        ∷ terminal.name text of ∷ terminal.sign sign.Equals equals ∷ a) text l b
    over low steps = head low

same_if : (u : Bool) (c : List ℕ) → (if u then c else c) ≡ c
same_if true c = refl
same_if false c = refl

-- file: gadgets masked
row_file : Row file_row.FILE
row_file δ u c a more (rule (m_gadgets g) (rule (m_masked m) r)) = rule (m_file g m) r

-- gadgets: gadget gadgets
row_next_gadget : Row file_row.NEXT_GADGET
row_next_gadget δ u c a more (rule (m_gadget x) (rule (m_gadgets y) r)) = rule (m_gadgets (next_gadget x y)) r

-- gadgets: nothing
row_no_more_gadgets : Row file_row.NO_MORE_GADGETS
row_no_more_gadgets δ u c a more r = rule (m_gadgets no_gadget) r

-- gadget: `static void` name `(` param params `)` `{` stmts `}`
row_gadget : Row file_row.GADGET
row_gadget δ u c a more (token of_static _ (token of_void _ (rule m_name (token of_open_round _ (rule (m_param p) (rule (m_params ps) (token of_close_round _ (token of_open_curly _ (rule (m_stmts ss) (token of_close_curly _ r)))))))))) = rule (m_gadget (gadget (params_of p ps) ss)) r

-- params: `,` param params
row_next_param : Row file_row.NEXT_PARAM
row_next_param δ u c a more (token of_comma _ (rule (m_param p) (rule (m_params ps) r))) = rule (m_params (one_more p ps)) r

-- params: nothing
row_no_more_params : Row file_row.NO_MORE_PARAMS
row_no_more_params δ u c a more r = rule (m_params none_more) r

-- param: `reg` name `[` `D` `]`
row_array_param : Row file_row.ARRAY_PARAM
row_array_param δ u c a more (token of_reg _ (rule m_name (token of_open_square _ (token of_shares _ (token of_close_square _ r))))) = rule (m_param array_param) r

-- param: `uint64_t` name
row_word_param : Row file_row.WORD_PARAM
row_word_param δ u c a more (token of_word _ (rule m_name r)) = rule (m_param word_param) r

-- stmts: stmt stmts
row_next_stmt : Row statement_row.NEXT_STMT
row_next_stmt δ u c a more (rule (m_stmt x) (rule (m_stmts y) r)) = rule (m_stmts (next_stmt x y)) r

-- stmts: nothing
row_no_more_stmts : Row statement_row.NO_MORE_STMTS
row_no_more_stmts δ u c a more r = rule (m_stmts no_stmt) r

-- stmt: assign
row_assign : Row statement_row.ASSIGN
row_assign δ u c a more (rule (m_assign f) r) = rule (m_stmt (f 2)) r

-- stmt: let
row_let : Row statement_row.LET
row_let δ u c a more (rule (m_declare f) r) = rule (m_stmt (f 2)) r

-- stmt: head `{` stmts_in_loop `}`
row_loop : Row statement_row.LOOP
row_loop δ u c a more (rule (m_head (head l)) (token of_open_curly _ (rule (m_stmts_in_loop ss) (token of_close_curly _ r)))) = rule (m_stmt (for_counter l ss)) r

-- stmts_in_loop: stmt_in_loop stmts_in_loop
row_next_stmt_in_loop : Row statement_row.NEXT_STMT_IN_LOOP
row_next_stmt_in_loop δ u c a more (rule (m_stmt_in_loop x) (rule (m_stmts_in_loop y) r)) = rule (m_stmts_in_loop (next_stmt x y)) r

-- stmts_in_loop: nothing
row_no_more_stmts_in_loop : Row statement_row.NO_MORE_STMTS_IN_LOOP
row_no_more_stmts_in_loop δ u c a more r = rule (m_stmts_in_loop no_stmt) r

-- stmt_in_loop: assign
row_assign_in_loop : Row statement_row.ASSIGN_IN_LOOP
row_assign_in_loop δ u c a more (rule (m_assign f) r) = rule (m_stmt_in_loop (f 1)) r

-- stmt_in_loop: let
row_let_in_loop : Row statement_row.LET_IN_LOOP
row_let_in_loop δ u c a more (rule (m_declare f) r) = rule (m_stmt_in_loop (f 1)) r

-- stmt_in_loop: head `{` stmts_in_two_loops `}`
row_loop_in_loop : Row statement_row.LOOP_IN_LOOP
row_loop_in_loop δ u c a more (rule (m_head (head l)) (token of_open_curly _ (rule (m_stmts_in_two_loops ss) (token of_close_curly _ r)))) = rule (m_stmt_in_loop (for_counter l ss)) r

-- stmts_in_two_loops: stmt_in_two_loops stmts_in_two_loops
row_next_stmt_in_two_loops : Row statement_row.NEXT_STMT_IN_TWO_LOOPS
row_next_stmt_in_two_loops δ u c a more (rule (m_stmt_in_two_loops x) (rule (m_stmts_in_two_loops y) r)) = rule (m_stmts_in_two_loops (next_stmt x y)) r

-- stmts_in_two_loops: nothing
row_no_more_stmts_in_two_loops : Row statement_row.NO_MORE_STMTS_IN_TWO_LOOPS
row_no_more_stmts_in_two_loops δ u c a more r = rule (m_stmts_in_two_loops no_stmt) r

-- stmt_in_two_loops: assign
row_assign_in_two_loops : Row statement_row.ASSIGN_IN_TWO_LOOPS
row_assign_in_two_loops δ u c a more (rule (m_assign f) r) = rule (m_stmt_in_two_loops (f 0)) r

-- stmt_in_two_loops: let
row_let_in_two_loops : Row statement_row.LET_IN_TWO_LOOPS
row_let_in_two_loops δ u c a more (rule (m_declare f) r) = rule (m_stmt_in_two_loops (f 0)) r

-- assign: name `[` idx `]` `=` `(` `reg` `)` ex `;`
row_assignment : Row statement_row.ASSIGNMENT
row_assignment δ u c a more (rule m_name (token of_open_square _ (rule (m_idx i) (token of_close_square _ (token of_equals _ (token of_open_round _ (token of_reg _ (token of_close_round _ (rule (m_ex e) (token of_semicolon _ r)))))))))) = rule (m_assign (λ loops. assign i (widened _ e))) r

-- declare: `uint64_t` name `=` ex `;`
row_declaration : Row statement_row.DECLARATION
row_declaration δ u c a more (token of_word _ (rule m_name (token of_equals _ (rule (m_ex e) (token of_semicolon _ r))))) = rule (m_declare (λ loops. declare (widened _ e))) r

-- head: `for` `(` `unsigned` name `=` low `;` steps
row_head : Row statement_row.HEAD
row_head δ u c a more (token of_for _ (token of_open_round _ (token of_unsigned _ (rule m_name (token of_equals _ (rule (m_low l same) (token of_semicolon _ (rule (m_steps s) r)))))))) = rule (m_head (headed (same refl) l s)) r

-- steps: counter `<` `D` `;` counter `++` `)`, where counter is the name behind the last `unsigned`
row_steps : Row statement_row.STEPS
row_steps δ u c a more (token {at = again} of_counter _ (token {at = less} of_less _ (token {at = shares} of_shares _
    (token {at = second} of_semicolon _ (token {at = once} of_counter _ (token {at = plus} of_plus_plus _
    (token {at = end} {a = b} of_close_round _ r))))))) =
    rule (m_steps (subst (λ (n : List ℕ). IsSteps (terminal.name c again ∷ terminal.sign sign.Less less
    ∷ terminal.keyword keyword.Shares shares ∷ terminal.sign sign.Semicolon second ∷ terminal.name n once
    ∷ terminal.sign sign.PlusPlus plus ∷ terminal.sign sign.CloseRound end ∷ b) c b) (sym (same_if u c)) steps)) r

-- low: number
row_number_low : Row statement_row.NUMBER_LOW
row_number_low δ u c a more (rule m_number r) = rule (m_low number_low (λ is. refl)) r

-- low: name `+` `1`
row_after_low : Row statement_row.AFTER_LOW
row_after_low δ u c a more (rule (m_name {text = text}) (token of_plus _ (token of_one _ r))) =
    rule (m_low after_low (λ is. ap (λ (b : Bool). if b then text else c) is)) r

-- masked: `void masked` `(` `reg out` rows `,` `reg in` rows `)` body
row_masked : Row file_row.MASKED
row_masked δ u c a more (token of_void _ (token of_masked _ (token of_open_round _ (token of_reg _ (token of_out _ (rule (m_rows x) (token of_comma _ (token of_reg _ (token of_in _ (rule (m_rows y) (token of_close_round _ (rule (m_body z) r)))))))))))) = rule (m_masked (masked x y z)) r

-- rows: `[` few_rows `]` `[` `D` `]`
row_rows : Row file_row.ROWS
row_rows δ u c a more (token of_open_square _ (rule (m_few_rows some most) (token of_close_square _ (token of_open_square _ (token of_shares _ (token of_close_square _ r)))))) = rule (m_rows (rows some most)) r

-- body: `{` slots calls `}`
row_body : Row file_row.BODY
row_body δ u c a more (token of_open_curly _ (rule (m_slots s) (rule (m_calls cs) (token of_close_curly _ r)))) = rule (m_body (body s cs)) r

-- slots: `reg v` `[` many_rows `]` `[` `D` `]` `;`
row_slots : Row file_row.SLOTS
row_slots δ u c a more (token of_reg _ (token of_slots _ (token of_open_square _ (rule (m_many_rows some most) (token of_close_square _ (token of_open_square _ (token of_shares _ (token of_close_square _ (token of_semicolon _ r))))))))) = rule (m_slots (slots (rows some most))) r

-- slots: nothing
row_no_slots : Row file_row.NO_SLOTS
row_no_slots δ u c a more r = rule (m_slots no_slots) r

-- calls: call calls
row_next_call : Row file_row.NEXT_CALL
row_next_call δ u c a more (rule (m_call (one_call f)) (rule (m_calls cs) r)) = rule (m_calls (f _ _ cs)) r

-- calls: nothing
row_no_more_calls : Row file_row.NO_MORE_CALLS
row_no_more_calls δ u c a more r = rule (m_calls no_call) r

-- call: name `(` arg args `)` `;`
row_call : Row file_row.CALL
row_call δ u c a more (rule m_name (token of_open_round _ (rule (m_arg x) (rule (m_args xs) (token of_close_round _ (token of_semicolon _ r)))))) = rule (m_call (one_call (λ cs c rest. next_call (args_of x xs) rest))) r

-- args: `,` arg args
row_next_arg : Row file_row.NEXT_ARG
row_next_arg δ u c a more (token of_comma _ (rule (m_arg x) (rule (m_args xs) r))) = rule (m_args (one_more_arg x xs)) r

-- args: nothing
row_no_more_args : Row file_row.NO_MORE_ARGS
row_no_more_args δ u c a more r = rule (m_args none_more_args) r

-- arg: `out` `[` number `]`
row_out_arg : Row file_row.OUT_ARG
row_out_arg δ u c a more (token of_out _ (token of_open_square _ (rule m_number (token of_close_square _ r)))) = rule (m_arg out_arg) r

-- arg: `in` `[` number `]`
row_in_arg : Row file_row.IN_ARG
row_in_arg δ u c a more (token of_in _ (token of_open_square _ (rule m_number (token of_close_square _ r)))) = rule (m_arg in_arg) r

-- arg: `v` `[` number `]`
row_slot_arg : Row file_row.SLOT_ARG
row_slot_arg δ u c a more (token of_slots _ (token of_open_square _ (rule m_number (token of_close_square _ r)))) = rule (m_arg slot_arg) r

-- arg: `UINT64_C` `(` number `)`
row_number_arg : Row file_row.NUMBER_ARG
row_number_arg δ u c a more (token of_constant _ (token of_open_round _ (rule m_number (token of_close_round _ r)))) = rule (m_arg number_arg) r

-- idx: number
row_number_idx : Row expression_row.NUMBER_IDX
row_number_idx δ u c a more (rule m_number r) = rule (m_idx number_idx) r

-- idx: name
row_name_idx : Row expression_row.NAME_IDX
row_name_idx δ u c a more (rule m_name r) = rule (m_idx name_idx) r

-- ex: `(` inner
row_brackets : Row expression_row.BRACKETS
row_brackets δ u c a more (token of_open_round _ (rule (m_inner f) r)) = rule (m_ex (f _)) r

-- ex: name
row_name_ex : Row expression_row.NAME_EX
row_name_ex δ u c a more (rule m_name r) = rule (m_ex word_ex) r

-- ex: `UINT64_C` `(` number `)`
row_number_ex : Row expression_row.NUMBER_EX
row_number_ex δ u c a more (token of_constant _ (token of_open_round _ (rule m_number (token of_close_round _ r)))) = rule (m_ex number_ex) r

-- ex: `tornado_random` `(` `)`
row_random_ex : Row expression_row.RANDOM_EX
row_random_ex δ u c a more (token of_random _ (token of_open_round _ (token of_close_round _ r))) = rule (m_ex random_ex) r

-- inner: `uint64_t` `)` name `[` idx `]`
row_cell : Row expression_row.CELL
row_cell δ u c a more (token of_word _ (token of_close_round _ (rule m_name (token of_open_square _ (rule (m_idx i) (token of_close_square _ r)))))) = rule (m_inner (λ at. cell i)) r

-- inner: ex op ex `)`
row_two : Row expression_row.TWO
row_two δ u c a more (rule (m_ex x) (rule (m_op o) (rule (m_ex y) (token of_close_round few r)))) =
    rule (m_inner (λ at. deeper δ few (two o x y))) r

-- op: `^`
row_xor : Row expression_row.XOR
row_xor δ u c a more (token of_caret _ r) = rule (m_op xor) r

-- op: `&`
row_and : Row expression_row.AND
row_and δ u c a more (token of_ampersand _ r) = rule (m_op and) r

-- op: `|`
row_or : Row expression_row.OR
row_or δ u c a more (token of_bar _ r) = rule (m_op or) r

-- op: `<<`
row_shl : Row expression_row.SHL
row_shl δ u c a more (token of_shift_left _ r) = rule (m_op shift_left) r

-- op: `>>`
row_shr : Row expression_row.SHR
row_shr δ u c a more (token of_shift_right _ r) = rule (m_op shift_right) r

-- op: `-`
row_sub : Row expression_row.SUB
row_sub δ u c a more (token of_minus _ r) = rule (m_op minus) r

-- name: a name
row_other_name : Row expression_row.OTHER_NAME
row_other_name δ u c a more (token of_name _ r) = rule m_name r

-- name: the name behind the last `unsigned`
row_counter_name : Row expression_row.COUNTER_NAME
row_counter_name δ u c a more (token of_counter _ r) = rule m_name r

-- number: 0
row_zero_number : Row expression_row.ZERO_NUMBER
row_zero_number δ u c a more (token of_zero _ r) = rule m_number r

-- number: 1
row_one_number : Row expression_row.ONE_NUMBER
row_one_number δ u c a more (token of_one _ r) = rule m_number r

-- number: 2 to 32,768
row_few_number : Row expression_row.FEW_NUMBER
row_few_number δ u c a more (token (of_few some most) _ r) = rule m_number r

-- number: 32,769 to 131,072
row_many_number : Row expression_row.MANY_NUMBER
row_many_number δ u c a more (token (of_many some most) _ r) = rule m_number r

-- number: more
row_past_number : Row expression_row.PAST_NUMBER
row_past_number δ u c a more (token of_past _ r) = rule m_number r

-- few_rows: 1
row_one_row : Row expression_row.ONE_ROW
row_one_row δ u c a more (token of_one _ r) = rule (m_few_rows (omega arith) (omega arith)) r

-- few_rows: 2 to 32,768
row_few_rows : Row expression_row.FEW_ROWS
row_few_rows δ u c a more (token (of_few some most) _ r) = rule (m_few_rows some most) r

-- many_rows: 1
row_one_slot : Row expression_row.ONE_SLOT
row_one_slot δ u c a more (token of_one _ r) = rule (m_many_rows (omega arith) (omega arith)) r

-- many_rows: 2 to 32,768
row_few_slots : Row expression_row.FEW_SLOTS
row_few_slots δ u c a more (token (of_few some most) _ r) = rule (m_many_rows some (omega (arith, most))) r

-- many_rows: 32,769 to 131,072
row_many_slots : Row expression_row.MANY_SLOTS
row_many_slots δ u c a more (token (of_many some most) _ r) = rule (m_many_rows some most) r

-- the rows of a table
abbrev pub AllRows : List Production → Type 0
AllRows [] = Unit {0}
AllRows (p ∷ ps) = Row p × AllRows ps

-- each row of the grammar's table
pub all_rows : AllRows PRODUCTIONS
all_rows =
    (row_file, (row_next_gadget, (row_no_more_gadgets, (row_gadget, (row_next_param, (row_no_more_params, (row_array_param, (row_word_param, (row_next_stmt, (row_no_more_stmts, (row_assign, (row_let, (row_loop, (row_next_stmt_in_loop, (row_no_more_stmts_in_loop, (row_assign_in_loop, (row_let_in_loop, (row_loop_in_loop, (row_next_stmt_in_two_loops, (row_no_more_stmts_in_two_loops, (row_assign_in_two_loops, (row_let_in_two_loops, (row_assignment, (row_declaration, (row_head, (row_steps, (row_number_low, (row_after_low, (row_masked, (row_rows, (row_body, (row_slots, (row_no_slots, (row_next_call, (row_no_more_calls, (row_call, (row_next_arg, (row_no_more_args, (row_out_arg, (row_in_arg, (row_slot_arg, (row_number_arg, (row_number_idx, (row_name_idx, (row_brackets, (row_name_ex, (row_number_ex, (row_random_ex, (row_cell, (row_two, (row_xor, (row_and, (row_or, (row_shl, (row_shr, (row_sub, (row_other_name, (row_counter_name, (row_zero_number, (row_one_number, (row_few_number, (row_many_number, (row_past_number, (row_one_row, (row_few_rows, (row_one_slot, (row_few_slots, (row_many_slots, tt))))))))))))))))))))))))))))))))))))))))))))))))))))))))))))))))))))
