-- Tokens are one file at most.
use Rattle.std.proofs.Common.{◌≡◌, ℕ, List, [], ◌∷◌, refl, sym, ap, subst}
use Rattle.tor_edge.specs.declared.place.Place.{Place}
use Rattle.c_tokens.specs.declared.token.Keyword.TheVariants as keyword
use Rattle.c_tokens.specs.declared.token.Sign.{Sign}
use Rattle.c_tokens.specs.declared.token.Sign.TheVariants as sign
use Rattle.c_tokens.specs.declared.token.Token.{Token}
use Rattle.c_tokens.specs.declared.token.TokenKind.{TokenKind}
use Rattle.c_tokens.specs.declared.token.TokenKind.TheVariants as kind
use Rattle.c_tree.specs.declared.CArg.{CArg}
use Rattle.c_tree.specs.declared.CCall.{CCall}
use Rattle.c_tree.specs.declared.CExpr.{CExpr}
use Rattle.c_tree.specs.declared.CExpr.TheVariants as tree
use Rattle.c_tree.specs.declared.CFile.{CFile}
use Rattle.c_tree.specs.declared.CFun.{CFun}
use Rattle.c_tree.specs.declared.CIndex.{CIndex}
use Rattle.c_tree.specs.declared.CLow.{CLow}
use Rattle.c_tree.specs.declared.COp.{COp}
use Rattle.c_tree.specs.declared.CParam.{CParam}
use Rattle.c_tree.specs.declared.CStmt.{CStmt}
use Rattle.c_subset.specs.Expressions.{IsIdx, number_idx, name_idx, IsLow, number_low, after_low, IsOp, xor, and, or, shift_left, shift_right, minus, IsEx, cell, word_ex, number_ex, random_ex, two}
use Rattle.c_subset.specs.Files.{IsParam, array_param, word_param, IsParams, last_param, next_param, IsGadget, gadget, IsGadgets, no_gadget, next_gadget, IsRows, rows, IsSlots, no_slots, slots, IsArg, out_arg, in_arg, slot_arg, number_arg, IsArgs, last_arg, next_arg, IsCalls, no_call, next_call, IsFile, file}
use Rattle.c_subset.specs.Statements.{IsStmts, no_stmt, next_stmt, IsStmt, assign, declare, for_counter}
use Rattle.c_subset.specs.Terminals as terminal

-- two trees are one, and so are the tokens behind them
abbrev Same : {T : Type 0} → T → T → List Token → List Token → Type 0
Same x y b c = (x ≡ y) × (b ≡ c)

-- the kind of the first token
first_kind : List Token → TokenKind
first_kind [] = kind.Number 0
first_kind (t ∷ rest) = t.kind

same_sign : {s r : Sign} {at of : Place} {a b : List Token} → terminal.sign s at ∷ a ≡ terminal.sign r of ∷ b → r ≡ s
unfolding first_kind
same_sign {s = s} {r = r} e = let kinds : kind.Sign s ≡ kind.Sign r = ap first_kind e in cc

not_comma : {at of : Place} {a b : List Token} → terminal.sign sign.CloseRound at ∷ a ≡ terminal.sign sign.Comma of ∷ b → ⊥
not_comma e = let signs : sign.Comma ≡ sign.CloseRound = same_sign e in absurd (cc)

one_idx : {t : Token} {i j : CIndex} → IsIdx t i → IsIdx t j → i ≡ j
one_idx number_idx number_idx = refl
one_idx name_idx name_idx = refl

one_low : {a b c : List Token} {l m : CLow} → IsLow a l b → IsLow a m c → Same l m b c
one_low number_low number_low = (refl, refl)
one_low after_low after_low = (refl, refl)

one_op : {s : Sign} {o p : COp} → IsOp s o → IsOp s p → o ≡ p
one_op xor xor = refl
one_op and and = refl
one_op or or = refl
one_op shift_left shift_left = refl
one_op shift_right shift_right = refl
one_op minus minus = refl

one_ex : {room : ℕ} {a b c : List Token} {e f : CExpr} → IsEx room a e b → IsEx room a f c → Same e f b c
one_ex (cell {array = array} x) (cell y) = (ap (λ i. tree.Cell array i) (one_idx x y), refl)
one_ex (cell x) (two o l r) = elim l [ ]
one_ex word_ex word_ex = (refl, refl)
one_ex number_ex number_ex = (refl, refl)
one_ex random_ex random_ex = (refl, refl)
one_ex (two o l r) (cell y) = elim l [ ]
one_ex {b = b} {c = c} (two {room = room} {s = s} {o = o} {left = left} {right = right} {end = end} {b = m} op l r) (two {s = s'} {o = o'} {left = left'} {right = right'} {end = end'} {b = m'} op' l' r') =
    let first = one_ex l l' in
    let signs : s' ≡ s = same_sign first.1 in
    let rest : m' ≡ m = let e = first.1 in cc in
    let second = one_ex r (subst (λ (x : List Token). IsEx room x right' (terminal.sign sign.CloseRound end' ∷ c)) rest r') in
    let operators : o ≡ o' = one_op op (subst (λ (x : Sign). IsOp x o') signs op') in
    let lefts : left ≡ left' = first.0 in
    let rights : right ≡ right' = second.0 in
    (cc, let e = second.1 in cc)

mutual
  one_stmts : {loops : ℕ} {a b c : List Token} {ss ts : List CStmt} {at of : Place}
      → IsStmts loops a ss (terminal.sign sign.CloseCurly at ∷ b) → IsStmts loops a ts (terminal.sign sign.CloseCurly of ∷ c)
      → Same ss ts b c
  one_stmts no_stmt no_stmt = (refl, refl)
  one_stmts no_stmt (next_stmt x y) = elim x [ ]
  one_stmts (next_stmt x y) no_stmt = elim x [ ]
  one_stmts {loops = loops} {c = c} {of = of} (next_stmt {s = s} {ss = ss} {b = m} x y) (next_stmt {s = s'} {ss = ss'} {b = m'} x' y') =
      let first = one_stmt x x' in
      let second = one_stmts y (subst (λ (l : List Token). IsStmts loops l ss' (terminal.sign sign.CloseCurly of ∷ c)) (sym first.1) y') in
      let heads : s ≡ s' = first.0 in
      let tails : ss ≡ ss' = second.0 in
      (cc, second.1)

  one_stmt : {loops : ℕ} {a b c : List Token} {s t : CStmt} → IsStmt loops a s b → IsStmt loops a t c → Same s t b c
  one_stmt (assign {i = i} {e = e} x y) (assign {i = i'} {e = e'} x' y') =
      let indexes : i ≡ i' = one_idx x x' in
      let second = one_ex y y' in
      let values : e ≡ e' = second.0 in
      (cc, let q = second.1 in cc)
  one_stmt (declare {e = e} y) (declare {e = e'} y') =
      let second = one_ex y y' in
      let values : e ≡ e' = second.0 in
      (cc, let q = second.1 in cc)
  one_stmt {c = c} (for_counter {loops = loops} {l = l} {ss = ss} {b = m} x y) (for_counter {l = l'} {ss = ss'} {close = close'} {b = m'} x' y') =
      let first = one_low x x' in
      let rest : m' ≡ m = let e = first.1 in cc in
      let second = one_stmts y (subst (λ (n : List Token). IsStmts loops n ss' (terminal.sign sign.CloseCurly close' ∷ c)) rest y') in
      let lows : l ≡ l' = first.0 in
      let bodies : ss ≡ ss' = second.0 in
      (cc, second.1)

one_param : {a b c : List Token} {p q : CParam} → IsParam a p b → IsParam a q c → Same p q b c
one_param array_param array_param = (refl, refl)
one_param word_param word_param = (refl, refl)

one_params : {a b c : List Token} {ps qs : List CParam} {at of : Place}
    → IsParams a ps (terminal.sign sign.CloseRound at ∷ b) → IsParams a qs (terminal.sign sign.CloseRound of ∷ c) → Same ps qs b c
one_params (last_param x) (last_param y) = let first = one_param x y in (ap (λ p. p ∷ []) first.0, let e = first.1 in cc)
one_params (last_param x) (next_param y more) = absurd (not_comma (one_param x y).1)
one_params (next_param x more) (last_param y) = absurd (not_comma (sym (one_param x y).1))
one_params {c = c} {of = of} (next_param {p = p} {ps = ps} {b = m} x more) (next_param {p = q} {ps = qs} {b = n} y others) =
    let first = one_param x y in
    let rest : n ≡ m = let e = first.1 in cc in
    let second = one_params more (subst (λ (l : List Token). IsParams l qs (terminal.sign sign.CloseRound of ∷ c)) rest others) in
    let heads : p ≡ q = first.0 in
    let tails : ps ≡ qs = second.0 in
    (cc, second.1)

one_gadget : {a b c : List Token} {g h : CFun} → IsGadget a g b → IsGadget a h c → Same g h b c
one_gadget {c = c} (gadget {ps = ps} {ss = ss} {b = m} x y) (gadget {ps = qs} {ss = ts} {close = close} {b = n} x' y') =
    let first = one_params x x' in
    let rest : n ≡ m = let e = first.1 in cc in
    let second = one_stmts y (subst (λ (l : List Token). IsStmts 2 l ts (terminal.sign sign.CloseCurly close ∷ c)) rest y') in
    let params : ps ≡ qs = first.0 in
    let bodies : ss ≡ ts = second.0 in
    (cc, second.1)

one_gadgets : {a b c : List Token} {gs hs : List CFun} {at of : Place}
    → IsGadgets a gs (terminal.keyword keyword.Void at ∷ b) → IsGadgets a hs (terminal.keyword keyword.Void of ∷ c) → Same gs hs b c
one_gadgets no_gadget no_gadget = (refl, refl)
one_gadgets no_gadget (next_gadget x y) = elim x [ ]
one_gadgets (next_gadget x y) no_gadget = elim x [ ]
one_gadgets {c = c} {of = of} (next_gadget {g = g} {gs = gs} x y) (next_gadget {g = h} {gs = hs} x' y') =
    let first = one_gadget x x' in
    let second = one_gadgets y (subst (λ (l : List Token). IsGadgets l hs (terminal.keyword keyword.Void of ∷ c)) (sym first.1) y') in
    let heads : g ≡ h = first.0 in
    let tails : gs ≡ hs = second.0 in
    (cc, second.1)

one_rows : {most n m : ℕ} {a b c : List Token} → IsRows most a n b → IsRows most a m c → Same n m b c
one_rows (rows some most) (rows some' most') = (refl, refl)

one_arg : {a b c : List Token} {x y : CArg} → IsArg a x b → IsArg a y c → Same x y b c
one_arg out_arg out_arg = (refl, refl)
one_arg in_arg in_arg = (refl, refl)
one_arg slot_arg slot_arg = (refl, refl)
one_arg number_arg number_arg = (refl, refl)

one_args : {a b c : List Token} {xs ys : List CArg} {at of : Place}
    → IsArgs a xs (terminal.sign sign.CloseRound at ∷ b) → IsArgs a ys (terminal.sign sign.CloseRound of ∷ c) → Same xs ys b c
one_args (last_arg x) (last_arg y) = let first = one_arg x y in (ap (λ p. p ∷ []) first.0, let e = first.1 in cc)
one_args (last_arg x) (next_arg y more) = absurd (not_comma (one_arg x y).1)
one_args (next_arg x more) (last_arg y) = absurd (not_comma (sym (one_arg x y).1))
one_args {c = c} {of = of} (next_arg {x = p} {xs = ps} {b = m} x more) (next_arg {x = q} {xs = qs} {b = n} y others) =
    let first = one_arg x y in
    let rest : n ≡ m = let e = first.1 in cc in
    let second = one_args more (subst (λ (l : List Token). IsArgs l qs (terminal.sign sign.CloseRound of ∷ c)) rest others) in
    let heads : p ≡ q = first.0 in
    let tails : ps ≡ qs = second.0 in
    (cc, second.1)

one_calls : {a b c : List Token} {xs ys : List CCall} {at of : Place}
    → IsCalls a xs (terminal.sign sign.CloseCurly at ∷ b) → IsCalls a ys (terminal.sign sign.CloseCurly of ∷ c) → xs ≡ ys
one_calls no_call no_call = refl
one_calls {c = c} {of = of} (next_call {xs = xs} {cs = cs} {b = m} x y) (next_call {xs = ys} {cs = ds} {b = n} x' y') =
    let first = one_args x x' in
    let rest : n ≡ m = let e = first.1 in cc in
    let second = one_calls y (subst (λ (l : List Token). IsCalls l ds (terminal.sign sign.CloseCurly of ∷ c)) rest y') in
    let args : xs ≡ ys = first.0 in
    cc

-- the declaration of `v` and the calls behind it
one_body : {a b c : List Token} {n m : ℕ} {xs ys : List CCall} {at of : Place}
    → IsSlots a n b → IsSlots a m c → IsCalls b xs (terminal.sign sign.CloseCurly at ∷ [])
    → IsCalls c ys (terminal.sign sign.CloseCurly of ∷ []) → (n ≡ m) × (xs ≡ ys)
one_body no_slots no_slots x y = (refl, one_calls x y)
one_body no_slots (slots r) x y = elim x [ ]
one_body (slots r) no_slots x y = elim y [ ]
one_body {ys = ys} {of = of} (slots {b = b} r) (slots {b = c} s) x y =
    let first = one_rows r s in
    let rest : c ≡ b = let e = first.1 in cc in
    (first.0, one_calls x (subst (λ (l : List Token). IsCalls l ys (terminal.sign sign.CloseCurly of ∷ [])) rest y))

-- tokens are one file at most
pub one_file : (bits : ℕ) (tokens : List Token) (first second : CFile) → IsFile bits tokens first → IsFile bits tokens second
    → first ≡ second
one_file bits tokens f g (file {outputs = o} {inputs = i} {slots = n} {gs = gs} {cs = cs} {b = b} {c = c} {d = d} x1 x2 x3 x4 x5)
    (file {outputs = o'} {inputs = i'} {slots = n'} {gs = gs'} {cs = cs'} {comma = comma'} {again = again'} {in_at = in_at'} {end = end'} {curly = curly'} {close = close'} {b = b'} {c = c'} {d = d'} {e = e'} y1 y2 y3 y4 y5) =
    let gadgets = one_gadgets x1 y1 in
    let first : b' ≡ b = let q = gadgets.1 in cc in
    let outs = one_rows x2 (subst (λ (l : List Token). IsRows 32768 l o' (terminal.sign sign.Comma comma'
    ∷ terminal.keyword keyword.Reg again' ∷ terminal.keyword keyword.In in_at' ∷ c')) first y2) in
    let second : c' ≡ c = let q = outs.1 in cc in
    let ins = one_rows x3 (subst (λ (l : List Token). IsRows 32768 l i' (terminal.sign sign.CloseRound end'
    ∷ terminal.sign sign.OpenCurly curly' ∷ d')) second y3) in
    let third : d' ≡ d = let q = ins.1 in cc in
    let bodies = one_body x4 (subst (λ (l : List Token). IsSlots l n' e') third y4) x5 y5 in
    let p1 : gs ≡ gs' = gadgets.0 in
    let p2 : o ≡ o' = outs.0 in
    let p3 : i ≡ i' = ins.0 in
    let p4 : n ≡ n' = bodies.0 in
    let p5 : cs ≡ cs' = bodies.1 in
    cc
