-- Statements of the subset are derived by the table.
use Rattle.std.proofs.Common.{◌≡◌, ℕ, zero, suc, ◌≤◌, List, [], ◌∷◌, ◌++◌, refl, sym, subst, arith, eq-eqb}
use Rattle.std.specs.Str.{bytes_eq}
use Rattle.std.specs.Prelude.{true, false, if◌then◌else◌, Bool}
use Rattle.ll_reader.specs.Derivation.{Derives}
use Rattle.ll_reader.specs.Derivation as derivation
use Rattle.ll_reader.specs.declared.grammar.Item.{Item}
use Rattle.ll_reader.specs.declared.grammar.Item.TheVariants as due
use Rattle.ll_reader.specs.declared.grammar.Step.TheVariants.{Take}
use Rattle.tor_edge.specs.declared.place.Place.{Place}
use Rattle.c_grammar.specs.Classes.{classes_from, class_of_name}
use Rattle.c_grammar.specs.declared.class.TheConstants as class
use Rattle.c_grammar.specs.declared.rule.TheConstants as rules
use Rattle.c_grammar.specs.declared.table.TheConstants.{PRODUCTIONS}
use Rattle.c_grammar.specs.declared.table.statements.TheConstants as statement_row
use Rattle.c_tokens.specs.declared.token.Keyword.TheVariants as keyword
use Rattle.c_tokens.specs.declared.token.Sign.TheVariants as sign
use Rattle.c_tokens.specs.declared.token.Token.{Token}
use Rattle.c_tree.specs.declared.CExpr.{CExpr}
use Rattle.c_tree.specs.declared.CIndex.{CIndex}
use Rattle.c_tree.specs.declared.CLow.{CLow}
use Rattle.c_tree.specs.declared.CStmt.{CStmt}
use Rattle.c_subset.specs.Expressions.{IsIdx, IsEx, IsLow, number_low, after_low}
use Rattle.c_subset.specs.Statements.{IsStmts, no_stmt, next_stmt, IsStmt, assign, declare, for_counter}
use Rattle.c_subset.specs.Terminals as terminal
use Rattle.c_subset.proofs.Runs.{deep, bare, bare_items, taken, Runs, run_nil, run_sign, run_word, run_rule, run_by}
use Rattle.c_subset.proofs.Leaves.{named, run_name, run_number}
use Rattle.c_subset.proofs.ExpressionRuns.{run_idx, run_ex}

-- where a loop begins
run_low : {c : List ℕ} (a : List Token) (l : CLow) (b : List Token) → IsLow a l b → Runs 128 (due.Rule rules.LOW ∷ []) c a c b
run_low a l b (number_low {n = n} {at = at}) = run_by 26 statement_row.NUMBER_LOW refl refl (run_number n at)
run_low a l b (after_low {text = text} {at = at} {plus = plus} {one = one} {a = rest}) =
    run_by 27 statement_row.AFTER_LOW refl refl (run_rule (run_name text at) (run_sign sign.Plus plus (one_token one)))
  where
    one_token : {c : List ℕ} {a : List Token} (at : Place) → Runs 128 (due.Token class.ONE ∷ []) c (terminal.number 1 at ∷ a) c a
    one_token at = record { run = λ rest steps end d all. (Take ∷ steps, derivation.token d, taken 128 _ all) }

-- the name behind the last `unsigned`
run_counter : {is : List Item} {d : List ℕ} {a b : List Token} (counter : List ℕ) (at : Place) → Runs 128 is counter a d b
    → Runs 128 (due.Token class.COUNTER ∷ is) counter (terminal.name counter at ∷ a) d b
run_counter {is = is} {a = a} counter at r = record {
  run = λ rest steps end e all.
      let (more, x, within) = r.run rest steps end e all in (
        Take ∷ more,
        subst (λ (b : Bool). Derives PRODUCTIONS (due.Token class.COUNTER ∷ is ++ bare rest)
            ((if b then class.COUNTER else class.NAME) ∷ classes_from false counter a ++ end) (Take ∷ more)) (sym (same counter)) (derivation.token x),
        taken 128 _ within,
      );
}
  where
    same : (text : List ℕ) → bytes_eq text text ≡ true
    same [] = refl
    same (x ∷ text) = rw (eq-eqb x x refl, same text) refl

-- `unsigned` and the name behind it
run_declared : {is : List Item} {c d : List ℕ} {a b : List Token} (counter : List ℕ) (at of : Place) → Runs 128 is counter a d b
    → Runs 128 (due.Token class.UNSIGNED ∷ due.Rule rules.NAME ∷ is) c (terminal.keyword keyword.Unsigned at ∷ terminal.name counter of ∷ a) d b
run_declared {is = is} {c = c} {a = a} counter at of r = record {
  run = λ rest steps end e all.
      let (more, x, within) = r.run rest steps end e all in
      let same = bare_items 0 is rest in
      let classes = classes_from false counter a ++ end in
      let (most, y, shallow) = named 128 (deep 0 is ++ rest) more classes (bytes_eq c counter)
      (subst (λ (l : List Item). Derives PRODUCTIONS l classes more) (sym same) x) within in (
        Take ∷ most,
        derivation.token (subst (λ (l : List Item). Derives PRODUCTIONS (due.Rule rules.NAME ∷ l)
            (class_of_name c counter ∷ classes) most) same y),
        taken 128 _ shallow,
      );
}

-- the rule of statements that stand where so many loops may yet stand inside one another
abbrev stmts_rule : ℕ → ℕ
stmts_rule zero = rules.STMTS_IN_TWO_LOOPS
stmts_rule (suc zero) = rules.STMTS_IN_LOOP
stmts_rule (suc (suc n)) = rules.STMTS

-- and of one statement
abbrev stmt_rule : ℕ → ℕ
stmt_rule zero = rules.STMT_IN_TWO_LOOPS
stmt_rule (suc zero) = rules.STMT_IN_LOOP
stmt_rule (suc (suc n)) = rules.STMT

run_head : {c : List ℕ} (a : List Token) (l : CLow) (b : List Token) (counter : List ℕ)
    (at round unsigned of equals semicolon again less shares second once plus end : Place)
    → IsLow a l (terminal.sign sign.Semicolon semicolon ∷ terminal.name counter again ∷ terminal.sign sign.Less less
    ∷ terminal.keyword keyword.Shares shares ∷ terminal.sign sign.Semicolon second ∷ terminal.name counter once
    ∷ terminal.sign sign.PlusPlus plus ∷ terminal.sign sign.CloseRound end ∷ b)
    → Runs 128 (due.Rule rules.HEAD ∷ []) c (terminal.keyword keyword.For at ∷ terminal.sign sign.OpenRound round
    ∷ terminal.keyword keyword.Unsigned unsigned ∷ terminal.name counter of ∷ terminal.sign sign.Equals equals ∷ a) counter b
run_head a l b counter at round unsigned of equals semicolon again less shares second once plus end low =
    run_by 24 statement_row.HEAD refl refl (run_word keyword.For at refl (run_sign sign.OpenRound round (run_declared counter unsigned of
    (run_sign sign.Equals equals (run_rule (run_low a l _ low) (run_sign sign.Semicolon semicolon (run_rule
    (run_by 25 statement_row.STEPS refl refl (run_counter counter again (run_sign sign.Less less (run_word keyword.Shares shares refl
    (run_sign sign.Semicolon second (run_counter counter once (run_sign sign.PlusPlus plus
    (run_sign sign.CloseRound end run_nil)))))))) run_nil)))))))

-- an assignment or a declaration, in whatever loops
run_assign : {c : List ℕ} (array : List ℕ) (t : Token) (i : CIndex) (e : CExpr) (a b : List Token)
    (at square close equals round reg end semicolon : Place)
    → IsIdx t i → IsEx 128 a e (terminal.sign sign.Semicolon semicolon ∷ b)
    → Runs 128 (due.Rule rules.ASSIGN ∷ []) c (terminal.name array at ∷ terminal.sign sign.OpenSquare square ∷ t
    ∷ terminal.sign sign.CloseSquare close ∷ terminal.sign sign.Equals equals ∷ terminal.sign sign.OpenRound round
    ∷ terminal.keyword keyword.Reg reg ∷ terminal.sign sign.CloseRound end ∷ a) c b
run_assign array t i e a b at square close equals round reg end semicolon x y =
    run_by 22 statement_row.ASSIGNMENT refl refl (run_rule (run_name array at) (run_sign sign.OpenSquare square (run_rule (run_idx t i x)
    (run_sign sign.CloseSquare close (run_sign sign.Equals equals (run_sign sign.OpenRound round
    (run_word keyword.Reg reg refl (run_sign sign.CloseRound end (run_rule (run_ex 128 (omega arith) a e _ y)
    (run_sign sign.Semicolon semicolon run_nil))))))))))

run_declare : {c : List ℕ} (text : List ℕ) (e : CExpr) (a b : List Token) (at of equals semicolon : Place)
    → IsEx 128 a e (terminal.sign sign.Semicolon semicolon ∷ b)
    → Runs 128 (due.Rule rules.DECLARE ∷ []) c (terminal.keyword keyword.Word at ∷ terminal.name text of
    ∷ terminal.sign sign.Equals equals ∷ a) c b
run_declare text e a b at of equals semicolon y =
    run_by 23 statement_row.DECLARATION refl refl (run_word keyword.Word at refl (run_rule (run_name text of) (run_sign sign.Equals equals
    (run_rule (run_ex 128 (omega arith) a e _ y) (run_sign sign.Semicolon semicolon run_nil)))))

-- a text of a rule, and some name is behind the last `unsigned` after it
abbrev pub Goes : ℕ → List ℕ → List Token → List Token → Type 0
Goes r c a b = (d : List ℕ) × Runs 128 (due.Rule r ∷ []) c a d b

mutual
  -- statements
  pub run_stmts : (loops : ℕ) → loops ≤ 2 → (c : List ℕ) (a : List Token) (ss : List CStmt) (b : List Token)
      → IsStmts loops a ss b → Goes (stmts_rule loops) c a b
  run_stmts zero few c a ss b no_stmt = (c, run_by 19 statement_row.NO_MORE_STMTS_IN_TWO_LOOPS refl refl run_nil)
  run_stmts zero few c a ss b (next_stmt {s = s} {ss = rest} {b = m} x y) =
      let (d, f) = run_stmt 0 few c a s m x in
      let (e, g) = run_stmts 0 few d m rest b y in
      (e, run_by 18 statement_row.NEXT_STMT_IN_TWO_LOOPS refl refl (run_rule f (run_rule g run_nil)))
  run_stmts (suc zero) few c a ss b no_stmt = (c, run_by 14 statement_row.NO_MORE_STMTS_IN_LOOP refl refl run_nil)
  run_stmts (suc zero) few c a ss b (next_stmt {s = s} {ss = rest} {b = m} x y) =
      let (d, f) = run_stmt 1 few c a s m x in
      let (e, g) = run_stmts 1 few d m rest b y in
      (e, run_by 13 statement_row.NEXT_STMT_IN_LOOP refl refl (run_rule f (run_rule g run_nil)))
  run_stmts (suc (suc zero)) few c a ss b no_stmt = (c, run_by 9 statement_row.NO_MORE_STMTS refl refl run_nil)
  run_stmts (suc (suc zero)) few c a ss b (next_stmt {s = s} {ss = rest} {b = m} x y) =
      let (d, f) = run_stmt 2 few c a s m x in
      let (e, g) = run_stmts 2 few d m rest b y in
      (e, run_by 8 statement_row.NEXT_STMT refl refl (run_rule f (run_rule g run_nil)))
  run_stmts (suc (suc (suc n))) few c a ss b x = absurd (omega (arith, few))

  -- a statement
  run_stmt : (loops : ℕ) → loops ≤ 2 → (c : List ℕ) (a : List Token) (s : CStmt) (b : List Token)
      → IsStmt loops a s b → Goes (stmt_rule loops) c a b
  run_stmt zero few c before s b (assign {array = array} {t = t} {i = i} {e = e} {at = at} {square = square} {close = close} {equals = equals} {round = round} {reg = reg} {end = end} {semicolon = semicolon} {a = a} x y) =
      (c, run_by 20 statement_row.ASSIGN_IN_TWO_LOOPS refl refl (run_rule (run_assign array t i e a b at square close equals round reg end semicolon x y) run_nil))
  run_stmt zero few c before s b (declare {text = text} {e = e} {at = at} {of = of} {equals = equals} {semicolon = semicolon} {a = a} y) =
      (c, run_by 21 statement_row.LET_IN_TWO_LOOPS refl refl (run_rule (run_declare text e a b at of equals semicolon y) run_nil))
  run_stmt (suc zero) few c before s b (assign {array = array} {t = t} {i = i} {e = e} {at = at} {square = square} {close = close} {equals = equals} {round = round} {reg = reg} {end = end} {semicolon = semicolon} {a = a} x y) =
      (c, run_by 15 statement_row.ASSIGN_IN_LOOP refl refl (run_rule (run_assign array t i e a b at square close equals round reg end semicolon x y) run_nil))
  run_stmt (suc zero) few c before s b (declare {text = text} {e = e} {at = at} {of = of} {equals = equals} {semicolon = semicolon} {a = a} y) =
      (c, run_by 16 statement_row.LET_IN_LOOP refl refl (run_rule (run_declare text e a b at of equals semicolon y) run_nil))
  run_stmt (suc zero) few c before s after (for_counter {counter = counter} {l = l} {ss = ss} {at = at} {round = round} {unsigned = unsigned} {of = of} {equals = equals} {semicolon = semicolon} {again = again} {less = less} {shares = shares} {second = second} {once = once} {plus = plus} {end = end} {curly = curly} {close = close} {a = a} {b = b} x y) =
      let (d, f) = run_stmts 0 (omega arith) counter b ss (terminal.sign sign.CloseCurly close ∷ after) y in (
        d,
        run_by 17 statement_row.LOOP_IN_LOOP refl refl (run_rule (run_head a l (terminal.sign sign.OpenCurly curly ∷ b) counter at round unsigned of equals semicolon again less shares second once plus end x)
            (run_sign sign.OpenCurly curly (run_rule f (run_sign sign.CloseCurly close run_nil)))),
      )
  run_stmt (suc (suc zero)) few c before s b (assign {array = array} {t = t} {i = i} {e = e} {at = at} {square = square} {close = close} {equals = equals} {round = round} {reg = reg} {end = end} {semicolon = semicolon} {a = a} x y) =
      (c, run_by 10 statement_row.ASSIGN refl refl (run_rule (run_assign array t i e a b at square close equals round reg end semicolon x y) run_nil))
  run_stmt (suc (suc zero)) few c before s b (declare {text = text} {e = e} {at = at} {of = of} {equals = equals} {semicolon = semicolon} {a = a} y) =
      (c, run_by 11 statement_row.LET refl refl (run_rule (run_declare text e a b at of equals semicolon y) run_nil))
  run_stmt (suc (suc zero)) few c before s after (for_counter {counter = counter} {l = l} {ss = ss} {at = at} {round = round} {unsigned = unsigned} {of = of} {equals = equals} {semicolon = semicolon} {again = again} {less = less} {shares = shares} {second = second} {once = once} {plus = plus} {end = end} {curly = curly} {close = close} {a = a} {b = b} x y) =
      let (d, f) = run_stmts 1 (omega arith) counter b ss (terminal.sign sign.CloseCurly close ∷ after) y in (
        d,
        run_by 12 statement_row.LOOP refl refl (run_rule (run_head a l (terminal.sign sign.OpenCurly curly ∷ b) counter at round unsigned of equals semicolon again less shares second once plus end x)
            (run_sign sign.OpenCurly curly (run_rule f (run_sign sign.CloseCurly close run_nil)))),
      )
  run_stmt (suc (suc (suc n))) few c a s b x = absurd (omega (arith, few))
