-- A text of a rule leaves no more tokens than there are.
use Rattle.std.proofs.Common.{ℕ, ◌+◌, ◌<◌, ◌≤◌, List, length, arith}
use Rattle.c_tokens.specs.declared.token.Token.{Token}
use Rattle.c_tree.specs.declared.CArg.{CArg}
use Rattle.c_tree.specs.declared.CCall.{CCall}
use Rattle.c_tree.specs.declared.CExpr.{CExpr}
use Rattle.c_tree.specs.declared.CFun.{CFun}
use Rattle.c_tree.specs.declared.CLow.{CLow}
use Rattle.c_tree.specs.declared.CParam.{CParam}
use Rattle.c_tree.specs.declared.CStmt.{CStmt}
use Rattle.c_subset.specs.Expressions.{IsLow, number_low, after_low, IsEx, cell, word_ex, number_ex, random_ex, two}
use Rattle.c_subset.specs.Files.{IsParam, array_param, word_param, IsParams, last_param, next_param, IsGadget, gadget, IsGadgets, no_gadget, next_gadget, IsArg, out_arg, in_arg, slot_arg, number_arg, IsArgs, last_arg, next_arg, IsCalls, no_call, next_call}
use Rattle.c_subset.specs.Statements.{IsStmts, no_stmt, next_stmt, IsStmt, assign, declare, for_counter}

short_low : {a b : List Token} {l : CLow} → IsLow a l b → length b < length a
short_low number_low = omega arith
short_low after_low = omega arith

short_ex : {room : ℕ} {a b : List Token} {e : CExpr} → IsEx room a e b → length b < length a
short_ex (cell i) = omega arith
short_ex word_ex = omega arith
short_ex number_ex = omega arith
short_ex random_ex = omega arith
short_ex (two o x y) = let first = short_ex x in let second = short_ex y in omega (arith, first, second)

mutual
  pub short_stmts : {loops : ℕ} {a b : List Token} {ss : List CStmt} → IsStmts loops a ss b → length ss + length b ≤ length a
  short_stmts no_stmt = omega arith
  short_stmts (next_stmt x y) = let first = short_stmt x in let rest = short_stmts y in omega (arith, first, rest)

  short_stmt : {loops : ℕ} {a b : List Token} {s : CStmt} → IsStmt loops a s b → length b < length a
  short_stmt (assign i x) = let first = short_ex x in omega (arith, first)
  short_stmt (declare x) = let first = short_ex x in omega (arith, first)
  short_stmt (for_counter l x) = let first = short_low l in let rest = short_stmts x in omega (arith, first, rest)

short_param : {a b : List Token} {p : CParam} → IsParam a p b → length b < length a
short_param array_param = omega arith
short_param word_param = omega arith

pub short_params : {a b : List Token} {ps : List CParam} → IsParams a ps b → length ps + length b ≤ length a
short_params (last_param x) = let first = short_param x in omega (arith, first)
short_params (next_param x y) = let first = short_param x in let rest = short_params y in omega (arith, first, rest)

short_gadget : {a b : List Token} {g : CFun} → IsGadget a g b → length b < length a
short_gadget (gadget x y) = let first = short_params x in let rest = short_stmts y in omega (arith, first, rest)

pub short_gadgets : {a b : List Token} {gs : List CFun} → IsGadgets a gs b → length gs + length b ≤ length a
short_gadgets no_gadget = omega arith
short_gadgets (next_gadget x y) = let first = short_gadget x in let rest = short_gadgets y in omega (arith, first, rest)

short_arg : {a b : List Token} {x : CArg} → IsArg a x b → length b < length a
short_arg out_arg = omega arith
short_arg in_arg = omega arith
short_arg slot_arg = omega arith
short_arg number_arg = omega arith

pub short_args : {a b : List Token} {xs : List CArg} → IsArgs a xs b → length xs + length b ≤ length a
short_args (last_arg x) = let first = short_arg x in omega (arith, first)
short_args (next_arg x y) = let first = short_arg x in let rest = short_args y in omega (arith, first, rest)

pub short_calls : {a b : List Token} {cs : List CCall} → IsCalls a cs b → length cs + length b ≤ length a
short_calls no_call = omega arith
short_calls (next_call x y) = let first = short_args x in let rest = short_calls y in omega (arith, first, rest)
