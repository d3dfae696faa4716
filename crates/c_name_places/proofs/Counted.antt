-- As many names as there are among the tokens, rule by rule.
use Rattle.std.proofs.Common.{◌≡◌, ℕ, ◌+◌, true, List, [], ◌∷◌, ◌++◌, length, map, refl, ap, ◌∙◌, arith, length-append}
use Rattle.std.proofs.lemmas.List.{length-map}
use Rattle.c_tokens.specs.declared.token.Sign.TheVariants as sign
use Rattle.c_tokens.specs.declared.token.Token.{Token}
use Rattle.c_tree.specs.declared.CArg.{CArg}
use Rattle.c_tree.specs.declared.CCall.{CCall}
use Rattle.c_tree.specs.declared.CExpr.{CExpr}
use Rattle.c_tree.specs.declared.CFun.{CFun}
use Rattle.c_tree.specs.declared.CIndex.{CIndex}
use Rattle.c_tree.specs.declared.CLow.{CLow}
use Rattle.c_tree.specs.declared.CParam.{CParam}
use Rattle.c_tree.specs.declared.CStmt.{CStmt}
use Rattle.c_subset.specs.Expressions.{IsIdx, number_idx, name_idx, IsLow, number_low, after_low, IsEx, cell, word_ex, number_ex, random_ex, two}
use Rattle.c_subset.specs.Files.{IsParam, array_param, word_param, IsParams, last_param, next_param, IsGadget, gadget, IsGadgets, no_gadget, next_gadget, IsRows, rows, IsSlots, no_slots, slots, IsArg, out_arg, in_arg, slot_arg, number_arg, IsArgs, last_arg, next_arg, IsCalls, no_call, next_call, file}
use Rattle.c_subset.specs.Statements.{IsStmts, no_stmt, next_stmt, IsStmt, assign, declare, for_counter}
use Rattle.c_subset.specs.Terminals as terminal
use Rattle.c_names.proofs.Passing.{none_is_bad}
use Rattle.c_names.specs.Names.{all_checked, call_is_right, checked, expression_names, gadget_names, gadgets_names, head_names, index_names, low_names, names_of, parameter_checked, with_name}
use Rattle.c_names.specs.Scope.{InScope}
use Rattle.c_names.specs.declared.scope.Role.TheVariants.{Counter}
use Rattle.c_name_places.proofs.Trees.{assign_names, cell_names, let_names, loop_names, number_names, random_names, two_names, word_names}
use Rattle.c_name_places.specs.Laws.{BadOrRight, NamesHavePlaces}
use Rattle.c_name_places.specs.Places.{names_at}

-- how many names stand among tokens
abbrev count : List Token → ℕ
count tokens = length (names_at tokens)

idx_count : (t : Token) (i : CIndex) (scope : List InScope) (rest : List Token) → IsIdx t i → length (index_names scope i) + count rest ≡ count (t ∷ rest)
idx_count t i scope rest number_idx = omega arith
idx_count t i scope rest name_idx = omega arith

low_count : (before : List Token) (l : CLow) (after : List Token) (scope : List InScope) → IsLow before l after → length (low_names scope l) + count after ≡ count before
low_count before l after scope number_low = omega arith
low_count before l after scope after_low = omega arith

ex_count : (room : ℕ) (before : List Token) (x : CExpr) (after : List Token) (scope : List InScope) → IsEx room before x after → length (expression_names x scope) + count after ≡ count before
ex_count room before x after scope (cell {array = array} {t = t} {i = i} {end = end} is) =
    let names = ap length (cell_names array i scope) in
    let index = idx_count t i scope (terminal.sign sign.CloseSquare end ∷ after) is in
    omega (arith, names, index)
ex_count room before x after scope (word_ex {text = text}) = let names = ap length (word_names text scope) in omega (arith, names)
ex_count room before x after scope (number_ex {n = n}) = let names = ap length (number_names n scope) in omega (arith, names)
ex_count room before x after scope random_ex = let names = ap length (random_names scope) in omega (arith, names)
ex_count room before x after scope (two {room = less} {s = s} {o = o} {left = left} {right = right} {of = of} {end = end} {a = a} {b = b} {c = c} is y z) =
    let names = ap length (two_names o left right scope) in
    let first = ex_count less a left (terminal.sign s of ∷ b) scope y in
    let second = ex_count less b right (terminal.sign sign.CloseRound end ∷ c) scope z in
    omega (arith, names, length-append (expression_names left scope) (expression_names right scope), first, second)

mutual
  stmts_count : (loops : ℕ) (before : List Token) (ss : List CStmt) (after : List Token) (scope : List InScope) → IsStmts loops before ss after
      → length (all_checked (map checked ss) scope).names + count after ≡ count before
  stmts_count loops before ss after scope no_stmt = omega arith
  stmts_count loops before ss after scope (next_stmt {s = s} {ss = rest} {b = middle} x y) =
      let first = stmt_count loops before s middle scope x in
      let others = stmts_count loops middle rest after (checked s scope).scope y in
      omega (arith, length-append (checked s scope).names (all_checked (map checked rest) (checked s scope).scope).names, first, others)

  stmt_count : (loops : ℕ) (before : List Token) (s : CStmt) (after : List Token) (scope : List InScope) → IsStmt loops before s after
      → length (checked s scope).names + count after ≡ count before
  stmt_count loops before s after scope (assign {array = array} {t = t} {i = i} {e = x} {close = close} {equals = equals} {round = round} {reg = reg} {end = end} {semicolon = semicolon} {a = a} is y) =
      let names = ap length (assign_names array i x scope) in
      let value = ex_count 128 a x (terminal.sign sign.Semicolon semicolon ∷ after) scope y in
      let index = idx_count t i scope a is in
      omega (arith, names, length-append (index_names scope i) (expression_names x scope), index, value)
  stmt_count loops before s after scope (declare {text = text} {e = x} {semicolon = semicolon} {a = a} y) =
      let names = ap length (let_names text x scope) in
      let value = ex_count 128 a x (terminal.sign sign.Semicolon semicolon ∷ after) scope y in
      omega (arith, names, value)
  stmt_count loops before s after scope (for_counter {loops = less} {counter = counter} {l = l} {ss = ss} {close = close} {a = a} {b = b} is y) =
      let names = ap length (loop_names counter l ss scope) in
      let low = low_count a l _ scope is in
      let body = stmts_count less b ss (terminal.sign sign.CloseCurly close ∷ after) (with_name scope counter Counter) y in
      omega (
        arith,
        names,
        length-append (head_names scope counter l) (all_checked (map checked ss) (with_name scope counter Counter)).names,
        low,
        body,
        length-append (low_names scope l) (true ∷ true ∷ []),
      )

param_count : (before : List Token) (p : CParam) (after : List Token) (scope : List InScope) → IsParam before p after → length (parameter_checked p scope).names + count after ≡ count before
param_count before p after scope array_param = omega arith
param_count before p after scope word_param = omega arith

params_count : (before : List Token) (ps : List CParam) (after : List Token) (scope : List InScope) → IsParams before ps after
    → length (all_checked (map parameter_checked ps) scope).names + count after ≡ count before
params_count before ps after scope (last_param {p = p} x) =
    let first = param_count before p after scope x in
    omega (arith, length-append (parameter_checked p scope).names [], first)
params_count before ps after scope (next_param {p = p} {ps = rest} {comma = comma} {b = middle} x y) =
    let first = param_count before p (terminal.sign sign.Comma comma ∷ middle) scope x in
    let others = params_count middle rest after (parameter_checked p scope).scope y in
    omega (arith, length-append (parameter_checked p scope).names (all_checked (map parameter_checked rest) (parameter_checked p scope).scope).names, first, others)

gadget_count : (before : List Token) (g : CFun) (after : List Token) (earlier : List CFun) → IsGadget before g after → length (gadget_names earlier g) + count after ≡ count before
gadget_count before g after earlier (gadget {ps = ps} {ss = ss} {end = end} {curly = curly} {close = close} {a = a} {b = b} x y) =
    let inner = (all_checked (map parameter_checked ps) []).scope in
    let first = params_count a ps (terminal.sign sign.CloseRound end ∷ terminal.sign sign.OpenCurly curly ∷ b) [] x in
    let body = stmts_count 2 b ss (terminal.sign sign.CloseCurly close ∷ after) inner y in
    omega (arith, length-append (all_checked (map parameter_checked ps) []).names (all_checked (map checked ss) inner).names, first, body)

gadgets_count : (before : List Token) (gs : List CFun) (after : List Token) (earlier : List CFun) → IsGadgets before gs after → length (gadgets_names earlier gs) + count after ≡ count before
gadgets_count before gs after earlier no_gadget = omega arith
gadgets_count before gs after earlier (next_gadget {g = g} {gs = rest} {b = middle} x y) =
    let first = gadget_count before g middle earlier x in
    let others = gadgets_count middle rest after (earlier ++ g ∷ []) y in
    omega (arith, length-append (gadget_names earlier g) (gadgets_names (earlier ++ g ∷ []) rest), first, others)

rows_count : (most : ℕ) (before : List Token) (n : ℕ) (after : List Token) → IsRows most before n after → count after ≡ count before
rows_count most before n after (rows low high) = refl

slots_count : (before : List Token) (n : ℕ) (after : List Token) → IsSlots before n after → count after ≡ count before
slots_count before n after no_slots = refl
slots_count before n after (slots {semicolon = semicolon} {a = a} x) = rows_count 131072 a n (terminal.sign sign.Semicolon semicolon ∷ after) x

arg_count : (before : List Token) (x : CArg) (after : List Token) → IsArg before x after → count after ≡ count before
arg_count before x after out_arg = refl
arg_count before x after in_arg = refl
arg_count before x after slot_arg = refl
arg_count before x after number_arg = refl

args_count : (before : List Token) (xs : List CArg) (after : List Token) → IsArgs before xs after → count after ≡ count before
args_count before xs after (last_arg {x = x} is) = arg_count before x after is
args_count before xs after (next_arg {x = x} {xs = rest} {comma = comma} {b = middle} is y) =
    args_count middle rest after y ∙ arg_count before x (terminal.sign sign.Comma comma ∷ middle) is

calls_count : (before : List Token) (cs : List CCall) (after : List Token) → IsCalls before cs after → length cs + count after ≡ count before
calls_count before cs after no_call = omega arith
calls_count before cs after (next_call {xs = xs} {cs = rest} {end = end} {semicolon = semicolon} {a = a} {b = b} x y) =
    let arguments = args_count a xs (terminal.sign sign.CloseRound end ∷ terminal.sign sign.Semicolon semicolon ∷ b) x in
    let others = calls_count b rest after y in
    omega (arith, arguments, others)

pub names_have_places : NamesHavePlaces
names_have_places bits tokens tree (file {outputs = outputs} {inputs = inputs} {slots = n} {gs = gs} {cs = cs} {close = close} {a = a} {b = b} {c = c} {d = d} {e = e} x y z u v) =
    let gadgets = gadgets_count tokens gs _ [] x in
    let out = rows_count 32768 b outputs _ y in
    let in_rows = rows_count 32768 c inputs _ z in
    let slot_rows = slots_count d n e u in
    let calls = calls_count e cs (terminal.sign sign.CloseCurly close ∷ []) v in
    omega
    (arith, length-append (gadgets_names [] gs) (map (call_is_right gs) cs), length-map cs (call_is_right gs), gadgets, out, in_rows, slot_rows, calls)

pub bad_or_right : BadOrRight
bad_or_right bits tokens tree is =
    let same = names_have_places bits tokens tree is in
    none_is_bad (names_of tree) (names_at tokens) (omega (arith, same))
