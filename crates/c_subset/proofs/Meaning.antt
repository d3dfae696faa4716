-- What the tokens of a class are, and what is due is made of.
use Rattle.std.proofs.Common.{◌≡◌, ℕ, ◌-◌, ◌≤◌, Bool, true, false, List, [], ◌∷◌, refl, sym, subst, arith, eqb, eqb-true}
use Rattle.std.specs.Prelude.{nat_le, if◌then◌else◌}
use Rattle.std.proofs.lemmas.Bool.Decides.{nat_tests}
use Rattle.std.specs.Str.{bytes_eq}
use Rattle.std.proofs.lemmas.Bool.{leb-true}
use Rattle.std.proofs.lemmas.Slice.Eq.{bytes_eq-Decides}
use Rattle.ll_reader.specs.declared.grammar.Item as Items
use Rattle.ll_reader.specs.declared.grammar.Item.TheVariants as due
use Rattle.tor_edge.specs.declared.place.Place.{Place}
use Rattle.c_grammar.specs.Classes.{class_of, is_unsigned, counter_after}
use Rattle.c_grammar.specs.declared.class.TheConstants as class
use Rattle.c_grammar.specs.declared.rule.TheConstants as rules
use Rattle.c_tokens.specs.declared.token.Keyword.TheVariants as keyword
use Rattle.c_tokens.specs.declared.token.Sign.{Sign}
use Rattle.c_tokens.specs.declared.token.Sign.TheVariants as sign
use Rattle.c_tokens.specs.declared.token.Token.{Token}
use Rattle.c_tokens.specs.declared.token.TokenKind.{TokenKind}
use Rattle.c_tokens.specs.declared.token.TokenKind.TheVariants as kind
use Rattle.c_tree.specs.declared.CArg.{CArg}
use Rattle.c_tree.specs.declared.CCall.{CCall}
use Rattle.c_tree.specs.declared.CExpr.{CExpr}
use Rattle.c_tree.specs.declared.CFun.{CFun}
use Rattle.c_tree.specs.declared.CIndex.{CIndex}
use Rattle.c_tree.specs.declared.CLow.{CLow}
use Rattle.c_tree.specs.declared.COp.{COp}
use Rattle.c_tree.specs.declared.CParam.{CParam}
use Rattle.c_tree.specs.declared.CStmt.{CStmt}
use Rattle.c_subset.specs.Expressions.{IsIdx, IsLow, IsOp, IsEx}
use Rattle.c_subset.specs.Files.{IsParam, IsGadget, IsGadgets, IsRows, IsSlots, IsArg, IsCalls}
use Rattle.c_subset.specs.Statements.{IsStmts, IsStmt}
use Rattle.c_subset.specs.Terminals as terminal

-- the tokens of a class, where this is the name behind the last `unsigned`
pub data IsOf (c : List ℕ) : ℕ → TokenKind → Type 0 where
  of_static : IsOf c class.STATIC (kind.Keyword keyword.Static)
  of_void : IsOf c class.VOID (kind.Keyword keyword.Void)
  of_reg : IsOf c class.REG (kind.Keyword keyword.Reg)
  of_word : IsOf c class.WORD (kind.Keyword keyword.Word)
  of_unsigned : IsOf c class.UNSIGNED (kind.Keyword keyword.Unsigned)
  of_for : IsOf c class.FOR (kind.Keyword keyword.For)
  of_shares : IsOf c class.SHARES (kind.Keyword keyword.Shares)
  of_constant : IsOf c class.CONSTANT (kind.Keyword keyword.Constant)
  of_random : IsOf c class.RANDOM (kind.Keyword keyword.Random)
  of_masked : IsOf c class.MASKED (kind.Keyword keyword.Masked)
  of_out : IsOf c class.OUT (kind.Keyword keyword.Out)
  of_in : IsOf c class.IN (kind.Keyword keyword.In)
  of_slots : IsOf c class.SLOTS (kind.Keyword keyword.Slots)
  of_open_round : IsOf c class.OPEN_ROUND (kind.Sign sign.OpenRound)
  of_close_round : IsOf c class.CLOSE_ROUND (kind.Sign sign.CloseRound)
  of_open_square : IsOf c class.OPEN_SQUARE (kind.Sign sign.OpenSquare)
  of_close_square : IsOf c class.CLOSE_SQUARE (kind.Sign sign.CloseSquare)
  of_open_curly : IsOf c class.OPEN_CURLY (kind.Sign sign.OpenCurly)
  of_close_curly : IsOf c class.CLOSE_CURLY (kind.Sign sign.CloseCurly)
  of_comma : IsOf c class.COMMA (kind.Sign sign.Comma)
  of_semicolon : IsOf c class.SEMICOLON (kind.Sign sign.Semicolon)
  of_equals : IsOf c class.EQUALS (kind.Sign sign.Equals)
  of_less : IsOf c class.LESS (kind.Sign sign.Less)
  of_plus : IsOf c class.PLUS (kind.Sign sign.Plus)
  of_plus_plus : IsOf c class.PLUS_PLUS (kind.Sign sign.PlusPlus)
  of_minus : IsOf c class.MINUS (kind.Sign sign.Minus)
  of_caret : IsOf c class.CARET (kind.Sign sign.Caret)
  of_ampersand : IsOf c class.AMPERSAND (kind.Sign sign.Ampersand)
  of_bar : IsOf c class.BAR (kind.Sign sign.Bar)
  of_shift_left : IsOf c class.SHIFT_LEFT (kind.Sign sign.ShiftLeft)
  of_shift_right : IsOf c class.SHIFT_RIGHT (kind.Sign sign.ShiftRight)
  of_counter : IsOf c class.COUNTER (kind.Name c)
  of_name : {text : List ℕ} → IsOf c class.NAME (kind.Name text)
  of_zero : {n : ℕ} → IsOf c class.ZERO (kind.Number n)
  of_one : IsOf c class.ONE (kind.Number 1)
  of_few : {n : ℕ} → 1 ≤ n → n ≤ 32768 → IsOf c class.FEW_ROWS (kind.Number n)
  of_many : {n : ℕ} → 1 ≤ n → n ≤ 131072 → IsOf c class.MANY_ROWS (kind.Number n)
  of_past : {n : ℕ} → IsOf c class.PAST_ROWS (kind.Number n)

name_of : (c text : List ℕ) (b : Bool) → (b ≡ true → c ≡ text) → IsOf c (if b then class.COUNTER else class.NAME) (kind.Name text)
name_of c text true same = subst (λ (t : List ℕ). IsOf c class.COUNTER (kind.Name t)) (same refl) of_counter
name_of c text false same = of_name

number_of : (c : List ℕ) (n : ℕ) (zero one few many : Bool) → (zero ≡ false → 1 ≤ n) → (one ≡ true → n ≡ 1)
    → (few ≡ true → n ≤ 32768) → (many ≡ true → n ≤ 131072)
    → IsOf c (if zero then class.ZERO else (if one then class.ONE else (if few then class.FEW_ROWS else (if many then class.MANY_ROWS else class.PAST_ROWS)))) (kind.Number n)
number_of c n true one few many some is most more = of_zero
number_of c n false true few many some is most more = subst (λ (m : ℕ). IsOf c class.ONE (kind.Number m)) (sym (is refl)) of_one
number_of c n false false true many some is most more = of_few (some refl) (most refl)
number_of c n false false false true some is most more = of_many (some refl) (more refl)
number_of c n false false false false some is most more = of_past

not_zero : (n : ℕ) → eqb n 0 ≡ false → 1 ≤ n
not_zero n is = grind (arith, nat_tests)

-- each token is of its class
pub is_of : (c : List ℕ) (k : TokenKind) → IsOf c (class_of c k) k
is_of c (kind.Keyword keyword.Static) = of_static
is_of c (kind.Keyword keyword.Void) = of_void
is_of c (kind.Keyword keyword.Reg) = of_reg
is_of c (kind.Keyword keyword.Word) = of_word
is_of c (kind.Keyword keyword.Unsigned) = of_unsigned
is_of c (kind.Keyword keyword.For) = of_for
is_of c (kind.Keyword keyword.Shares) = of_shares
is_of c (kind.Keyword keyword.Constant) = of_constant
is_of c (kind.Keyword keyword.Random) = of_random
is_of c (kind.Keyword keyword.Masked) = of_masked
is_of c (kind.Keyword keyword.Out) = of_out
is_of c (kind.Keyword keyword.In) = of_in
is_of c (kind.Keyword keyword.Slots) = of_slots
is_of c (kind.Sign sign.OpenRound) = of_open_round
is_of c (kind.Sign sign.CloseRound) = of_close_round
is_of c (kind.Sign sign.OpenSquare) = of_open_square
is_of c (kind.Sign sign.CloseSquare) = of_close_square
is_of c (kind.Sign sign.OpenCurly) = of_open_curly
is_of c (kind.Sign sign.CloseCurly) = of_close_curly
is_of c (kind.Sign sign.Comma) = of_comma
is_of c (kind.Sign sign.Semicolon) = of_semicolon
is_of c (kind.Sign sign.Equals) = of_equals
is_of c (kind.Sign sign.Less) = of_less
is_of c (kind.Sign sign.Plus) = of_plus
is_of c (kind.Sign sign.PlusPlus) = of_plus_plus
is_of c (kind.Sign sign.Minus) = of_minus
is_of c (kind.Sign sign.Caret) = of_caret
is_of c (kind.Sign sign.Ampersand) = of_ampersand
is_of c (kind.Sign sign.Bar) = of_bar
is_of c (kind.Sign sign.ShiftLeft) = of_shift_left
is_of c (kind.Sign sign.ShiftRight) = of_shift_right
is_of c (kind.Name text) = name_of c text (bytes_eq c text) (bytes_eq-Decides c text).0
is_of c (kind.Number n) =
    number_of c n (eqb n 0) (eqb n 1) (nat_le n 32768) (nat_le n 131072) (not_zero n) (eqb-true n 1) (leb-true n 32768) (leb-true n 131072)

-- (`,` param)*
pub data IsMoreParams : List Token → List CParam → List Token → Type 0 where
  none_more : {a : List Token} → IsMoreParams a [] a
  one_more : {p : CParam} {ps : List CParam} {at : Place} {a b c : List Token} → IsParam a p b → IsMoreParams b ps c
      → IsMoreParams (terminal.sign sign.Comma at ∷ a) (p ∷ ps) c

-- (`,` arg)*
pub data IsMoreArgs : List Token → List CArg → List Token → Type 0 where
  none_more_args : {a : List Token} → IsMoreArgs a [] a
  one_more_arg : {x : CArg} {xs : List CArg} {at : Place} {a b c : List Token} → IsArg a x b → IsMoreArgs b xs c
      → IsMoreArgs (terminal.sign sign.Comma at ∷ a) (x ∷ xs) c

-- call
pub data IsCall : List Token → CCall → List Token → Type 0 where
  one_call : {x : CCall} {a b : List Token} → ((cs : List CCall) (c : List Token) → IsCalls b cs c → IsCalls a (x ∷ cs) c) → IsCall a x b

-- `{` slots call* `}`
pub data IsBody : List Token → ℕ → List CCall → List Token → Type 0 where
  body : {n : ℕ} {cs : List CCall} {curly close : Place} {a b c : List Token}
      → IsSlots a n b → IsCalls b cs (terminal.sign sign.CloseCurly close ∷ c)
      → IsBody (terminal.sign sign.OpenCurly curly ∷ a) n cs c

-- `void masked` and what stands behind it
pub data IsMasked : List Token → ℕ → ℕ → ℕ → List CCall → List Token → Type 0 where
  masked : {outputs inputs n : ℕ} {cs : List CCall} {void at round reg out comma again in_at end : Place} {a b c d : List Token}
      → IsRows 32768 a outputs (terminal.sign sign.Comma comma ∷ terminal.keyword keyword.Reg again ∷ terminal.keyword keyword.In in_at ∷ b)
      → IsRows 32768 b inputs (terminal.sign sign.CloseRound end ∷ c) → IsBody c n cs d
      → IsMasked (terminal.keyword keyword.Void void ∷ terminal.keyword keyword.Masked at ∷ terminal.sign sign.OpenRound round
      ∷ terminal.keyword keyword.Reg reg ∷ terminal.keyword keyword.Out out ∷ a) outputs inputs n cs d

-- the head of a loop, with its counter
pub data IsHead : List Token → List ℕ → CLow → List Token → Type 0 where
  head : {counter : List ℕ} {l : CLow} {at round unsigned of equals semicolon again less shares second once plus end : Place} {a b : List Token}
      → IsLow a l (terminal.sign sign.Semicolon semicolon ∷ terminal.name counter again ∷ terminal.sign sign.Less less
      ∷ terminal.keyword keyword.Shares shares ∷ terminal.sign sign.Semicolon second ∷ terminal.name counter once
      ∷ terminal.sign sign.PlusPlus plus ∷ terminal.sign sign.CloseRound end ∷ b)
      → IsHead (terminal.keyword keyword.For at ∷ terminal.sign sign.OpenRound round ∷ terminal.keyword keyword.Unsigned unsigned
      ∷ terminal.name counter of ∷ terminal.sign sign.Equals equals ∷ a) counter l b

-- the steps of a loop over a counter
pub data IsSteps : List Token → List ℕ → List Token → Type 0 where
  steps : {counter : List ℕ} {again less shares second once plus end : Place} {b : List Token}
      → IsSteps (terminal.name counter again ∷ terminal.sign sign.Less less
      ∷ terminal.keyword keyword.Shares shares ∷ terminal.sign sign.Semicolon second ∷ terminal.name counter once
      ∷ terminal.sign sign.PlusPlus plus ∷ terminal.sign sign.CloseRound end ∷ b) counter b

-- What a text of a rule means that stands in so many brackets: of the states before and after it, whether it stands right
-- behind `unsigned`, and the name behind the last one.
pub data Means : ℕ → ℕ → Bool → List ℕ → List Token → Bool → List ℕ → List Token → Type 0 where
  m_file : {δ : ℕ} {u v : Bool} {c d : List ℕ} {a b : List Token} {m : List Token} {gs : List CFun} {cs : List CCall} {outputs inputs n : ℕ} → IsGadgets a gs m → IsMasked m outputs inputs n cs b → Means rules.FILE δ u c a v d b
  m_gadgets : {δ : ℕ} {u v : Bool} {c d : List ℕ} {a b : List Token} {gs : List CFun} → IsGadgets a gs b → Means rules.GADGETS δ u c a v d b
  m_gadget : {δ : ℕ} {u v : Bool} {c d : List ℕ} {a b : List Token} {g : CFun} → IsGadget a g b → Means rules.GADGET δ u c a v d b
  m_params : {δ : ℕ} {u v : Bool} {c d : List ℕ} {a b : List Token} {ps : List CParam} → IsMoreParams a ps b → Means rules.PARAMS δ u c a v d b
  m_param : {δ : ℕ} {u v : Bool} {c d : List ℕ} {a b : List Token} {p : CParam} → IsParam a p b → Means rules.PARAM δ u c a v d b
  m_stmts : {δ : ℕ} {u v : Bool} {c d : List ℕ} {a b : List Token} {ss : List CStmt} → IsStmts 2 a ss b → Means rules.STMTS δ u c a v d b
  m_stmts_in_loop : {δ : ℕ} {u v : Bool} {c d : List ℕ} {a b : List Token} {ss : List CStmt} → IsStmts 1 a ss b → Means rules.STMTS_IN_LOOP δ u c a v d b
  m_stmts_in_two_loops : {δ : ℕ} {u v : Bool} {c d : List ℕ} {a b : List Token} {ss : List CStmt} → IsStmts 0 a ss b → Means rules.STMTS_IN_TWO_LOOPS δ u c a v d b
  m_stmt : {δ : ℕ} {u v : Bool} {c d : List ℕ} {a b : List Token} {s : CStmt} → IsStmt 2 a s b → Means rules.STMT δ u c a v d b
  m_stmt_in_loop : {δ : ℕ} {u v : Bool} {c d : List ℕ} {a b : List Token} {s : CStmt} → IsStmt 1 a s b → Means rules.STMT_IN_LOOP δ u c a v d b
  m_stmt_in_two_loops : {δ : ℕ} {u v : Bool} {c d : List ℕ} {a b : List Token} {s : CStmt} → IsStmt 0 a s b → Means rules.STMT_IN_TWO_LOOPS δ u c a v d b
  m_assign : {δ : ℕ} {u v : Bool} {c d : List ℕ} {a b : List Token} {s : CStmt} → ((loops : ℕ) → IsStmt loops a s b) → Means rules.ASSIGN δ u c a v d b
  m_declare : {δ : ℕ} {u v : Bool} {c d : List ℕ} {a b : List Token} {s : CStmt} → ((loops : ℕ) → IsStmt loops a s b) → Means rules.DECLARE δ u c a v d b
  m_head : {δ : ℕ} {u v : Bool} {c d : List ℕ} {a b : List Token} {counter : List ℕ} {l : CLow} → IsHead a counter l b → Means rules.HEAD δ u c a v d b
  m_steps : {δ : ℕ} {u v : Bool} {c d : List ℕ} {a b : List Token} → IsSteps a c b → Means rules.STEPS δ u c a v d b
  m_low : {δ : ℕ} {u v : Bool} {c d : List ℕ} {a b : List Token} {l : CLow} → IsLow a l b → (u ≡ false → d ≡ c) → Means rules.LOW δ u c a v d b
  m_masked : {δ : ℕ} {u v : Bool} {c d : List ℕ} {a b : List Token} {outputs inputs n : ℕ} {cs : List CCall} → IsMasked a outputs inputs n cs b → Means rules.MASKED δ u c a v d b
  m_rows : {δ : ℕ} {u v : Bool} {c d : List ℕ} {a b : List Token} {n : ℕ} → IsRows 32768 a n b → Means rules.ROWS δ u c a v d b
  m_body : {δ : ℕ} {u v : Bool} {c d : List ℕ} {a b : List Token} {n : ℕ} {cs : List CCall} → IsBody a n cs b → Means rules.BODY δ u c a v d b
  m_slots : {δ : ℕ} {u v : Bool} {c d : List ℕ} {a b : List Token} {n : ℕ} → IsSlots a n b → Means rules.SLOTS δ u c a v d b
  m_calls : {δ : ℕ} {u v : Bool} {c d : List ℕ} {a b : List Token} {cs : List CCall} → IsCalls a cs b → Means rules.CALLS δ u c a v d b
  m_call : {δ : ℕ} {u v : Bool} {c d : List ℕ} {a b : List Token} {x : CCall} → IsCall a x b → Means rules.CALL δ u c a v d b
  m_args : {δ : ℕ} {u v : Bool} {c d : List ℕ} {a b : List Token} {xs : List CArg} → IsMoreArgs a xs b → Means rules.ARGS δ u c a v d b
  m_arg : {δ : ℕ} {u v : Bool} {c d : List ℕ} {a b : List Token} {x : CArg} → IsArg a x b → Means rules.ARG δ u c a v d b
  m_idx : {δ : ℕ} {u v : Bool} {c d : List ℕ} {t : Token} {b : List Token} {i : CIndex} → IsIdx t i → Means rules.IDX δ u c (t ∷ b) v d b
  m_ex : {δ : ℕ} {u v : Bool} {c d : List ℕ} {a b : List Token} {e : CExpr} → IsEx (128 - δ) a e b → Means rules.EX δ u c a v d b
  m_inner : {δ : ℕ} {u v : Bool} {c d : List ℕ} {a b : List Token} {e : CExpr}
      → ((at : Place) → IsEx (128 - δ) (terminal.sign sign.OpenRound at ∷ a) e b) → Means rules.INNER δ u c a v d b
  m_op : {δ : ℕ} {u v : Bool} {c d : List ℕ} {s : Sign} {at : Place} {b : List Token} {o : COp} → IsOp s o
      → Means rules.OP δ u c (terminal.sign s at ∷ b) v d b
  m_name : {δ : ℕ} {u : Bool} {c : List ℕ} {text : List ℕ} {at : Place} {b : List Token}
      → Means rules.NAME δ u c (terminal.name text at ∷ b) false (if u then text else c) b
  m_number : {δ : ℕ} {u : Bool} {c : List ℕ} {n : ℕ} {at : Place} {b : List Token}
      → Means rules.NUMBER δ u c (terminal.number n at ∷ b) false c b
  m_few_rows : {δ : ℕ} {u v : Bool} {c d : List ℕ} {n : ℕ} {at : Place} {b : List Token} → 1 ≤ n → n ≤ 32768
      → Means rules.FEW_ROWS δ u c (terminal.number n at ∷ b) v d b
  m_many_rows : {δ : ℕ} {u v : Bool} {c d : List ℕ} {n : ℕ} {at : Place} {b : List Token} → 1 ≤ n → n ≤ 131072
      → Means rules.MANY_ROWS δ u c (terminal.number n at ∷ b) v d b

-- what is due, each in so many brackets, is made of these tokens and the end
pub data Made : List (Items.Item × ℕ) → Bool → List ℕ → List Token → Type 0 where
  ended : {δ : ℕ} {more : List (Items.Item × ℕ)} {u : Bool} {c : List ℕ} → Made ((due.Token class.END, δ) ∷ more) u c []
  token : {k δ : ℕ} {t : TokenKind} {at : Place} {more : List (Items.Item × ℕ)} {u : Bool} {c : List ℕ} {a : List Token}
      → IsOf c k t → δ ≤ 128 → Made more (is_unsigned t) (counter_after u c t) a
      → Made ((due.Token k, δ) ∷ more) u c (record { kind = t; place = at } ∷ a)
  rule : {r δ : ℕ} {more : List (Items.Item × ℕ)} {u v : Bool} {c d : List ℕ} {a b : List Token}
      → Means r δ u c a v d b → Made more v d b → Made ((due.Rule r, δ) ∷ more) u c a
