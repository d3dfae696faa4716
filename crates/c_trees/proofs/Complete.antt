-- The tree that is made of the tokens of a file is that file.
use Rattle.std.proofs.Common.{◌≡◌, ℕ, zero, suc, ◌<◌, ◌≤◌, Bool, false, true, List, [], ◌∷◌, length, drop, refl, sym, ap, ◌∙◌, subst, arith}
use Rattle.std.specs.Prelude.{if◌then◌else◌}
use Rattle.std.proofs.lemmas.Bool.Decides.{nat_tests}
use Rattle.tor_edge.specs.declared.place.Place.{Place}
use Rattle.c_tokens.specs.declared.token.Keyword.TheVariants as keyword
use Rattle.c_tokens.specs.declared.token.Sign.{Sign}
use Rattle.c_tokens.specs.declared.token.Sign.TheVariants as sign
use Rattle.c_tokens.specs.declared.token.Token.{Token}
use Rattle.c_tree.specs.declared.CArg.{CArg}
use Rattle.c_tree.specs.declared.CCall.{CCall}
use Rattle.c_tree.specs.declared.CExpr.{CExpr}
use Rattle.c_tree.specs.declared.CExpr.TheVariants as tree
use Rattle.c_tree.specs.declared.CFile.{CFile}
use Rattle.c_tree.specs.declared.CFun.{CFun}
use Rattle.c_tree.specs.declared.CIndex.{CIndex}
use Rattle.c_tree.specs.declared.CLow.{CLow}
use Rattle.c_tree.specs.declared.COp.{COp}
use Rattle.c_tree.specs.declared.CParam.{CParam}
use Rattle.c_tree.specs.declared.CStmt.{CStmt}
use Rattle.c_tree.specs.declared.CStmt.TheVariants as statement
use Rattle.c_subset.specs.Expressions.{IsIdx, number_idx, name_idx, IsLow, number_low, after_low, IsOp, xor, and, or, shift_left, shift_right, minus, IsEx, cell, word_ex, number_ex, random_ex, two}
use Rattle.c_subset.specs.Files.{IsParam, array_param, word_param, IsParams, last_param, next_param, IsGadget, gadget, IsGadgets, no_gadget, next_gadget, rows, IsSlots, no_slots, slots, IsArg, out_arg, in_arg, slot_arg, number_arg, IsArgs, last_arg, next_arg, IsCalls, no_call, next_call, IsFile, file}
use Rattle.c_subset.specs.Statements.{IsStmts, no_stmt, next_stmt, IsStmt, assign, declare, for_counter}
use Rattle.c_subset.specs.Terminals as terminal
use Rattle.c_trees.specs.State.Making as making
use Rattle.c_trees.proofs.Short.{short_stmts, short_params, short_gadgets, short_args, short_calls}

made_idx : {t : Token} {i : CIndex} → IsIdx t i → making.idx_of t.kind ≡ i
made_idx number_idx = refl
made_idx name_idx = refl

made_op : {s : Sign} {o : COp} → IsOp s o → making.op_of_sign s ≡ o
made_op xor = refl
made_op and = refl
made_op or = refl
made_op shift_left = refl
made_op shift_right = refl
made_op minus = refl

-- a bracket before an expression begins an operation
opens_two : {room : ℕ} {a b : List Token} {e : CExpr} (next : List Token → CExpr × List Token) (text : List Token) → IsEx room a e b
    → making.bracket_of next (making.first_of a) text ≡ making.two_of next (next (drop 1 text))
opens_two next text (cell i) = refl
opens_two next text word_ex = refl
opens_two next text number_ex = refl
opens_two next text random_ex = refl
opens_two next text (two o x y) = refl

made_ex : (room : ℕ) {a b : List Token} {e : CExpr} (n : ℕ) → room < n → IsEx room a e b → making.ex_of n a ≡ (e, b)
made_ex room zero few x = absurd (omega (arith, few))
made_ex room (suc n) few (cell {array = array} {a = a} i) = ap (λ x. (tree.Cell array x, a)) (made_idx i)
made_ex room (suc n) few word_ex = refl
made_ex room (suc n) few number_ex = refl
made_ex room (suc n) few random_ex = refl
made_ex room (suc n) few (two {room = less} {s = s} {left = left} {right = right} {at = at} {of = of} {a = a} {b = m} {c = c} o x y) =
    opens_two (making.ex_of n) (terminal.sign sign.OpenRound at ∷ a) x
    ∙ ap (making.two_of (making.ex_of n)) (made_ex less n (omega (arith, few)) x)
    ∙ ap (λ r. (tree.Two (making.op_of_sign s) left r.0, drop 1 r.1)) (made_ex less n (omega (arith, few)) y)
    ∙ ap (λ p. (tree.Two p left right, c)) (made_op o)

made_low : {a b : List Token} {l : CLow} → IsLow a l b → making.low_by (making.is_name (making.first_of a)) a ≡ (l, b)
made_low number_low = refl
made_low after_low = refl

-- one item more
more_items : {X : Type 0} (ends : List Token → Bool) (next : List Token → X × List Token) (n : ℕ) (a b m : List Token) (x : X)
    (xs : List X) → ends a ≡ false → next a ≡ (x, m) → making.items_of ends next n m ≡ (xs, b)
    → making.items_of ends next (suc n) a ≡ (x ∷ xs, b)
more_items ends next n a b m x xs goes first rest =
    ap (λ (e : Bool). if e then ([], a) else ((next a).0 ∷ (making.items_of ends next n (next a).1).0, (making.items_of ends next n (next a).1).1)) goes
    ∙ ap (λ y. (y.0 ∷ (making.items_of ends next n y.1).0, (making.items_of ends next n y.1).1)) first
    ∙ ap (λ y. (x ∷ y.0, y.1)) rest

no_items : {X : Type 0} (ends : List Token → Bool) (next : List Token → X × List Token) (n : ℕ) (a : List Token)
    → ends a ≡ true → making.items_of ends next n a ≡ ([], a)
no_items ends next zero a here = refl
no_items ends next (suc n) a here =
    ap (λ (e : Bool). if e then ([], a) else ((next a).0 ∷ (making.items_of ends next n (next a).1).0, (making.items_of ends next n (next a).1).1)) here

stmt_goes : {loops : ℕ} {a b : List Token} {s : CStmt} → IsStmt loops a s b → making.closes a ≡ false
stmt_goes (assign i x) = refl
stmt_goes (declare x) = refl
stmt_goes (for_counter l x) = refl

mutual
  made_stmts : {loops : ℕ} {a b : List Token} {ss : List CStmt} {at : Place} (n : ℕ) → length ss ≤ n
      → IsStmts loops a ss (terminal.sign sign.CloseCurly at ∷ b)
      → making.items_of making.closes (making.stmt_of loops) n a ≡ (ss, terminal.sign sign.CloseCurly at ∷ b)
  made_stmts {loops = loops} {a = a} n few no_stmt = no_items making.closes (making.stmt_of loops) n a refl
  made_stmts zero few (next_stmt x y) = absurd (omega (arith, few))
  made_stmts {loops = loops} {a = a} {b = b} {at = at} (suc n) few (next_stmt {s = s} {ss = ss} {b = m} x y) =
      more_items making.closes (making.stmt_of loops) n a (terminal.sign sign.CloseCurly at ∷ b) m s ss (stmt_goes x) (made_stmt x)
      (made_stmts n (omega (arith, few)) y)

  made_stmt : {loops : ℕ} {a b : List Token} {s : CStmt} → IsStmt loops a s b → making.stmt_of loops a ≡ (s, b)
  made_stmt {loops = zero} (assign {array = array} {t = t} {i = i} {e = e} {b = b} i_is x) =
      ap (λ r. (statement.Assign array (making.idx_of t.kind) r.0, drop 1 r.1)) (made_ex 128 129 (omega arith) x)
      ∙ ap (λ j. (statement.Assign array j e, b)) (made_idx i_is)
  made_stmt {loops = suc loops} (assign {array = array} {t = t} {i = i} {e = e} {b = b} i_is x) =
      ap (λ r. (statement.Assign array (making.idx_of t.kind) r.0, drop 1 r.1)) (made_ex 128 129 (omega arith) x)
      ∙ ap (λ j. (statement.Assign array j e, b)) (made_idx i_is)
  made_stmt {loops = zero} (declare {text = text} x) = ap (λ r. (statement.Let text r.0, drop 1 r.1)) (made_ex 128 129 (omega arith) x)
  made_stmt {loops = suc loops} (declare {text = text} x) = ap (λ r. (statement.Let text r.0, drop 1 r.1)) (made_ex 128 129 (omega arith) x)
  made_stmt {loops = suc loops} (for_counter {counter = counter} {l = l} {ss = ss} {b = m} low body) =
      let inside : length ss ≤ length m = let short = short_stmts body in omega (arith, short) in
      ap (λ r. (statement.For counter r.0 (making.stmts_of loops (drop 9 r.1)).0, drop 1 (making.stmts_of loops (drop 9 r.1)).1)) (made_low low)
      ∙ ap (λ r. (statement.For counter l r.0, drop 1 r.1)) (made_stmts (length m) inside body)

made_param : {a b : List Token} {p : CParam} → IsParam a p b → making.param_of a ≡ (p, b)
made_param array_param = refl
made_param word_param = refl

more_made_params : {a b : List Token} {p : CParam} {ps : List CParam} {at : Place} (n : ℕ) → length ps ≤ n
    → IsParams a (p ∷ ps) (terminal.sign sign.CloseRound at ∷ b)
    → (m : List Token) × (making.param_of a ≡ (p, m))
    × (making.items_of making.ends_list making.next_param n m ≡ (ps, terminal.sign sign.CloseRound at ∷ b))
more_made_params {b = b} {at = at} n few (last_param x) =
    (terminal.sign sign.CloseRound at ∷ b, made_param x, no_items making.ends_list making.next_param n (terminal.sign sign.CloseRound at ∷ b) refl)
more_made_params zero few (next_param x (last_param y)) = absurd (omega (arith, few))
more_made_params zero few (next_param x (next_param y z)) = absurd (omega (arith, few))
more_made_params {b = b} {at = at} (suc n) few (next_param {comma = comma} {b = m} x (last_param {p = q} y)) = (
  terminal.sign sign.Comma comma ∷ m,
  made_param x,
  more_items making.ends_list making.next_param n (terminal.sign sign.Comma comma ∷ m) (terminal.sign sign.CloseRound at ∷ b)
      (terminal.sign sign.CloseRound at ∷ b) q [] refl (made_param y)
      (no_items making.ends_list making.next_param n (terminal.sign sign.CloseRound at ∷ b) refl),
)
more_made_params {b = b} {at = at} (suc n) few (next_param {comma = comma} {b = m} x (next_param {p = q} {ps = qs} y z)) =
    let rest = more_made_params n (omega (arith, few)) (next_param y z) in (
      terminal.sign sign.Comma comma ∷ m,
      made_param x,
      more_items making.ends_list making.next_param n (terminal.sign sign.Comma comma ∷ m) (terminal.sign sign.CloseRound at ∷ b)
          rest.0 q qs refl rest.1 rest.2,
    )

made_params : {a b : List Token} {ps : List CParam} {at : Place} → IsParams a ps (terminal.sign sign.CloseRound at ∷ b)
    → making.params_of a ≡ (ps, terminal.sign sign.CloseRound at ∷ b)
made_params {b = b} {at = at} (last_param {p = p} x) =
    ap (λ r. making.with_first r.0 (making.more_params r.1)) (made_param x)
    ∙ ap (making.with_first p) (no_items making.ends_list making.next_param (length (terminal.sign sign.CloseRound at ∷ b)) (terminal.sign sign.CloseRound at ∷ b) refl)
made_params {b = b} {at = at} (next_param {p = p} {ps = ps} {comma = comma} {b = m} x y) =
    let short : length ps ≤ length (terminal.sign sign.Comma comma ∷ m) = let s = short_params y in omega (arith, s) in
    let rest = more_made_params (length (terminal.sign sign.Comma comma ∷ m)) short (next_param x y) in
    ap (λ r. making.with_first r.0 (making.more_params r.1)) (made_param x)
    ∙ ap (making.with_first p) (ap (making.items_of making.ends_list making.next_param (length (terminal.sign sign.Comma comma ∷ m)))
    (ap (λ r. r.1) (sym (made_param x) ∙ rest.1)) ∙ rest.2)

made_gadget : {a b : List Token} {g : CFun} → IsGadget a g b → making.gadget_of a ≡ (g, b)
made_gadget (gadget {text = text} {ps = ps} {ss = ss} {b = m} x y) =
    let few : length ss ≤ length m = let s = short_stmts y in omega (arith, s) in
    ap (λ r. (record { name = text; params = r.0; body = (making.stmts_of 2 (drop 2 r.1)).0 }, drop 1 (making.stmts_of 2 (drop 2 r.1)).1)) (made_params x)
    ∙ ap (λ r. (record { name = text; params = ps; body = r.0 }, drop 1 r.1)) (made_stmts (length m) few y)

gadget_goes : {a b : List Token} {g : CFun} → IsGadget a g b → making.ends_gadgets a ≡ false
gadget_goes (gadget x y) = refl

made_gadgets : {a b : List Token} {gs : List CFun} {at : Place} (n : ℕ) → length gs ≤ n
    → IsGadgets a gs (terminal.keyword keyword.Void at ∷ b)
    → making.items_of making.ends_gadgets making.gadget_of n a ≡ (gs, terminal.keyword keyword.Void at ∷ b)
made_gadgets {a = a} n few no_gadget = no_items making.ends_gadgets making.gadget_of n a refl
made_gadgets zero few (next_gadget x y) = absurd (omega (arith, few))
made_gadgets {a = a} {b = b} {at = at} (suc n) few (next_gadget {g = g} {gs = gs} {b = m} x y) =
    more_items making.ends_gadgets making.gadget_of n a (terminal.keyword keyword.Void at ∷ b) m g gs (gadget_goes x) (made_gadget x)
    (made_gadgets n (omega (arith, few)) y)

made_arg : {a b : List Token} {p : CArg} → IsArg a p b → making.arg_of a ≡ (p, b)
made_arg out_arg = refl
made_arg in_arg = refl
made_arg slot_arg = refl
made_arg number_arg = refl

more_made_args : {a b : List Token} {p : CArg} {ps : List CArg} {at : Place} (n : ℕ) → length ps ≤ n
    → IsArgs a (p ∷ ps) (terminal.sign sign.CloseRound at ∷ b)
    → (m : List Token) × (making.arg_of a ≡ (p, m))
    × (making.items_of making.ends_list making.next_arg n m ≡ (ps, terminal.sign sign.CloseRound at ∷ b))
more_made_args {b = b} {at = at} n few (last_arg x) =
    (terminal.sign sign.CloseRound at ∷ b, made_arg x, no_items making.ends_list making.next_arg n (terminal.sign sign.CloseRound at ∷ b) refl)
more_made_args zero few (next_arg x (last_arg y)) = absurd (omega (arith, few))
more_made_args zero few (next_arg x (next_arg y z)) = absurd (omega (arith, few))
more_made_args {b = b} {at = at} (suc n) few (next_arg {comma = comma} {b = m} x (last_arg {x = q} y)) = (
  terminal.sign sign.Comma comma ∷ m,
  made_arg x,
  more_items making.ends_list making.next_arg n (terminal.sign sign.Comma comma ∷ m) (terminal.sign sign.CloseRound at ∷ b)
      (terminal.sign sign.CloseRound at ∷ b) q [] refl (made_arg y)
      (no_items making.ends_list making.next_arg n (terminal.sign sign.CloseRound at ∷ b) refl),
)
more_made_args {b = b} {at = at} (suc n) few (next_arg {comma = comma} {b = m} x (next_arg {x = q} {xs = qs} y z)) =
    let rest = more_made_args n (omega (arith, few)) (next_arg y z) in (
      terminal.sign sign.Comma comma ∷ m,
      made_arg x,
      more_items making.ends_list making.next_arg n (terminal.sign sign.Comma comma ∷ m) (terminal.sign sign.CloseRound at ∷ b)
          rest.0 q qs refl rest.1 rest.2,
    )

made_args : {a b : List Token} {ps : List CArg} {at : Place} → IsArgs a ps (terminal.sign sign.CloseRound at ∷ b)
    → making.args_of a ≡ (ps, terminal.sign sign.CloseRound at ∷ b)
made_args {b = b} {at = at} (last_arg {x = p} x) =
    ap (λ r. making.with_first r.0 (making.more_args r.1)) (made_arg x)
    ∙ ap (making.with_first p) (no_items making.ends_list making.next_arg (length (terminal.sign sign.CloseRound at ∷ b)) (terminal.sign sign.CloseRound at ∷ b) refl)
made_args {b = b} {at = at} (next_arg {x = p} {xs = ps} {comma = comma} {b = m} x y) =
    let short : length ps ≤ length (terminal.sign sign.Comma comma ∷ m) = let s = short_args y in omega (arith, s) in
    let rest = more_made_args (length (terminal.sign sign.Comma comma ∷ m)) short (next_arg x y) in
    ap (λ r. making.with_first r.0 (making.more_args r.1)) (made_arg x)
    ∙ ap (making.with_first p) (ap (making.items_of making.ends_list making.next_arg (length (terminal.sign sign.Comma comma ∷ m)))
    (ap (λ r. r.1) (sym (made_arg x) ∙ rest.1)) ∙ rest.2)

made_calls : {a b : List Token} {cs : List CCall} {at : Place} (n : ℕ) → length cs ≤ n
    → IsCalls a cs (terminal.sign sign.CloseCurly at ∷ b)
    → making.items_of making.closes making.call_of n a ≡ (cs, terminal.sign sign.CloseCurly at ∷ b)
made_calls {a = a} n few no_call = no_items making.closes making.call_of n a refl
made_calls zero few (next_call x y) = absurd (omega (arith, few))
made_calls {a = a} {b = b} {at = at} (suc n) few (next_call {text = text} {xs = xs} {cs = cs} {b = m} x y) =
    more_items making.closes making.call_of n a (terminal.sign sign.CloseCurly at ∷ b) m (record { gadget = text; args = xs }) cs refl
    (ap (λ r. (record { gadget = text; args = r.0 }, drop 2 r.1)) (made_args x)) (made_calls n (omega (arith, few)) y)

narrowed : (n most : ℕ) → n ≤ most → most ≤ 131072 → making.narrow n ≡ n
narrowed n most few small = grind (arith, nat_tests)

made_slots : {a b : List Token} {n : ℕ} {cs : List CCall} {at : Place} → IsSlots a n b → IsCalls b cs (terminal.sign sign.CloseCurly at ∷ [])
    → making.slots_of a ≡ (n, b)
made_slots no_slots no_call = refl
made_slots no_slots (next_call x y) = refl
made_slots {b = b} {n = n} (slots (rows some most)) calls = ap (λ m. (m, b)) (narrowed n 131072 most (omega arith))

-- the tree that is made of the tokens of a file is that file
pub made_file : (bits : ℕ) (tokens : List Token) (f : CFile) → IsFile bits tokens f → making.file_of bits tokens ≡ f
made_file bits tokens f (file {outputs = o} {inputs = i} {slots = n} {gs = gs} {cs = cs} {e = e} gadgets (rows {of = p} s1 m1) (rows s2 m2) third calls) =
    let few : length gs ≤ length tokens = let s = short_gadgets gadgets in omega (arith, s) in
    let less : length cs ≤ length e = let s = short_calls calls in omega (arith, s) in
    ap (λ r.
    let outputs = drop 5 r.1 in
    let inputs = drop 9 outputs in
    let slots = making.slots_of (drop 8 inputs) in
    record {
      reg_bits = bits;
      gadgets = r.0;
      outputs = making.rows_in outputs;
      inputs = making.rows_in inputs;
      slots = slots.0;
      calls = (making.calls_of slots.1).0;
    }) (made_gadgets (length tokens) few gadgets)
    ∙ ap (λ r. record { reg_bits = bits; gadgets = gs; outputs = making.narrow o; inputs = making.narrow i; slots = r.0; calls = (making.calls_of r.1).0 }) (made_slots third calls)
    ∙ ap (λ r. record { reg_bits = bits; gadgets = gs; outputs = making.narrow o; inputs = making.narrow i; slots = n; calls = r.0 }) (made_calls (length e) less calls)
    ∙ ap (λ k. record { reg_bits = bits; gadgets = gs; outputs = k; inputs = making.narrow i; slots = n; calls = cs }) (narrowed o 32768 m1 (omega arith))
    ∙ ap (λ k. record { reg_bits = bits; gadgets = gs; outputs = o; inputs = k; slots = n; calls = cs }) (narrowed i 32768 m2 (omega arith))

-- so what is made is that file
pub made_is : (bits : ℕ) (tokens : List Token) (f g : CFile) → IsFile bits tokens f → g ≡ making.file_of bits tokens → IsFile bits tokens g
made_is bits tokens f g x is = subst (λ (h : CFile). IsFile bits tokens h) (sym (made_file bits tokens f x) ∙ sym is) x
