-- What the rules of the table mean: which parts they make of which tokens.
use Rattle.std.proofs.Common.{ℕ, zero, suc, ◌<◌, List, [], ◌∷◌, ◌++◌, ◌≡◌, Some, None, IsTrue}
use Rattle.ll_reader.specs.declared.grammar.Item as Items
use Rattle.ll_reader.specs.declared.grammar.Item.TheVariants as due
use Rattle.tor_edge.specs.declared.place.Place.{Place}
use Rattle.usuba_parts.specs.Actions.{act, fits}
use Rattle.usuba_parts.specs.declared.action.Action.{Action}
use Rattle.usuba_parts.specs.declared.part.Part.{Part}
use Rattle.usuba_parts.specs.declared.part.Part.TheVariants as part
use Rattle.usuba_syntax.specs.Classes.{class_of, class_of_kind, class_of_keyword, class_of_sign}
use Rattle.usuba_syntax.specs.Declarations as declarations
use Rattle.usuba_syntax.specs.Exprs as exprs
use Rattle.usuba_syntax.specs.Files as files
use Rattle.usuba_syntax.specs.Indexes as indexes
use Rattle.usuba_syntax.specs.Items as items_of
use Rattle.usuba_syntax.specs.Terminals as terminal
use Rattle.usuba_syntax.specs.Values.{part_of}
use Rattle.usuba_syntax.specs.declared.class.TheConstants as class
use Rattle.usuba_syntax.specs.declared.rule.TheConstants as rules
use Rattle.usuba_tokens.specs.declared.token.Keyword.{Keyword}
use Rattle.usuba_tokens.specs.declared.token.Keyword.TheVariants as keyword
use Rattle.usuba_tokens.specs.declared.token.Sign.{Sign}
use Rattle.usuba_tokens.specs.declared.token.Sign.TheVariants as sign
use Rattle.usuba_tokens.specs.declared.token.Token.{Token}
use Rattle.usuba_tokens.specs.declared.token.TokenKind.{TokenKind}
use Rattle.usuba_tokens.specs.declared.token.TokenKind.TheVariants as kind
use Rattle.usuba_tokens.specs.declared.token.TypeWord.{TypeWord}
use Rattle.usuba_trees.specs.declared.Decl.{Decl}
use Rattle.usuba_trees.specs.declared.Def.{Def}
use Rattle.usuba_trees.specs.declared.Equation.{Equation}
use Rattle.usuba_trees.specs.declared.Expr.{Expr}
use Rattle.usuba_trees.specs.declared.Expr.TheVariants as tree
use Rattle.usuba_trees.specs.declared.Grid.{Grid}
use Rattle.usuba_trees.specs.declared.Index.{Index}
use Rattle.usuba_trees.specs.declared.IndexLink.{IndexLink}
use Rattle.usuba_trees.specs.declared.Item.{Item}
use Rattle.usuba_trees.specs.declared.Item.TheVariants as item
use Rattle.usuba_trees.specs.declared.Link.{Link}
use Rattle.usuba_trees.specs.declared.Loop.{Loop}
use Rattle.usuba_trees.specs.declared.Pick.{Pick}
use Rattle.usuba_trees.specs.declared.Shape.{Shape}
use Rattle.usuba_trees.specs.declared.ShiftLink.{ShiftLink}
use Rattle.usuba_trees.specs.declared.Spot.{Spot}
use Rattle.usuba_trees.specs.declared.Word.{Word}
use Rattle.usuba_syntax.proofs.Backwards.{backwards}

-- `Is class token`: the token is of the class with this number
pub data Is : ℕ → Token → Type 0 where
  is_node : {at : Place} → Is class.NODE (terminal.keyword keyword.Node at)
  is_table : {at : Place} → Is class.TABLE (terminal.keyword keyword.Table at)
  is_perm : {at : Place} → Is class.PERM (terminal.keyword keyword.Perm at)
  is_returns : {at : Place} → Is class.RETURNS (terminal.keyword keyword.Returns at)
  is_vars : {at : Place} → Is class.VARS (terminal.keyword keyword.Vars at)
  is_let : {at : Place} → Is class.LET (terminal.keyword keyword.Let at)
  is_tel : {at : Place} → Is class.TEL (terminal.keyword keyword.Tel at)
  is_forall : {at : Place} → Is class.FORALL (terminal.keyword keyword.Forall at)
  is_refresh : {at : Place} → Is class.REFRESH (terminal.keyword keyword.Refresh at)
  is_inline : {at : Place} → Is class.INLINE (terminal.keyword keyword.Inline at)
  is_no_inline : {at : Place} → Is class.NO_INLINE (terminal.keyword keyword.NoInline at)
  is_open_round : {at : Place} → Is class.OPEN_ROUND (terminal.sign sign.OpenRound at)
  is_close_round : {at : Place} → Is class.CLOSE_ROUND (terminal.sign sign.CloseRound at)
  is_open_square : {at : Place} → Is class.OPEN_SQUARE (terminal.sign sign.OpenSquare at)
  is_close_square : {at : Place} → Is class.CLOSE_SQUARE (terminal.sign sign.CloseSquare at)
  is_open_curly : {at : Place} → Is class.OPEN_CURLY (terminal.sign sign.OpenCurly at)
  is_close_curly : {at : Place} → Is class.CLOSE_CURLY (terminal.sign sign.CloseCurly at)
  is_comma : {at : Place} → Is class.COMMA (terminal.sign sign.Comma at)
  is_semicolon : {at : Place} → Is class.SEMICOLON (terminal.sign sign.Semicolon at)
  is_colon : {at : Place} → Is class.COLON (terminal.sign sign.Colon at)
  is_equals : {at : Place} → Is class.EQUALS (terminal.sign sign.Equals at)
  is_tilde : {at : Place} → Is class.TILDE (terminal.sign sign.Tilde at)
  is_ampersand : {at : Place} → Is class.AMPERSAND (terminal.sign sign.Ampersand at)
  is_caret : {at : Place} → Is class.CARET (terminal.sign sign.Caret at)
  is_bar : {at : Place} → Is class.BAR (terminal.sign sign.Bar at)
  is_shift_left : {at : Place} → Is class.SHIFT_LEFT (terminal.sign sign.ShiftLeft at)
  is_shift_right : {at : Place} → Is class.SHIFT_RIGHT (terminal.sign sign.ShiftRight at)
  is_rotate_left : {at : Place} → Is class.ROTATE_LEFT (terminal.sign sign.RotateLeft at)
  is_rotate_right : {at : Place} → Is class.ROTATE_RIGHT (terminal.sign sign.RotateRight at)
  is_plus : {at : Place} → Is class.PLUS (terminal.sign sign.Plus at)
  is_minus : {at : Place} → Is class.MINUS (terminal.sign sign.Minus at)
  is_star : {at : Place} → Is class.STAR (terminal.sign sign.Star at)
  is_slash : {at : Place} → Is class.SLASH (terminal.sign sign.Slash at)
  is_percent : {at : Place} → Is class.PERCENT (terminal.sign sign.Percent at)
  is_dots : {at : Place} → Is class.DOTS (terminal.sign sign.Dots at)
  is_in : {text : List ℕ} {at : Place} → Is class.IN (terminal.in_word text at)
  is_type_word : {word : TypeWord} {at : Place} → Is class.TYPE_WORD (terminal.type_word word at)
  is_word : {text : List ℕ} {at : Place} → Is class.WORD (record { kind = kind.Word text; place = at })
  is_zero : {at : Place} → Is class.ZERO (record { kind = kind.Number (Some zero); place = at })
  is_positive : {n : ℕ} {at : Place} → Is class.POSITIVE (record { kind = kind.Number (Some (suc n)); place = at })
  is_too_big : {at : Place} → Is class.TOO_BIG (record { kind = kind.Number None; place = at })

keyword_is : (k : Keyword) (at : Place) → Is (class_of_keyword k) (terminal.keyword k at)
keyword_is keyword.Node at = is_node
keyword_is keyword.Table at = is_table
keyword_is keyword.Perm at = is_perm
keyword_is keyword.Returns at = is_returns
keyword_is keyword.Vars at = is_vars
keyword_is keyword.Let at = is_let
keyword_is keyword.Tel at = is_tel
keyword_is keyword.Forall at = is_forall
keyword_is keyword.Refresh at = is_refresh
keyword_is keyword.Inline at = is_inline
keyword_is keyword.NoInline at = is_no_inline

sign_is : (s : Sign) (at : Place) → Is (class_of_sign s) (terminal.sign s at)
sign_is sign.OpenRound at = is_open_round
sign_is sign.CloseRound at = is_close_round
sign_is sign.OpenSquare at = is_open_square
sign_is sign.CloseSquare at = is_close_square
sign_is sign.OpenCurly at = is_open_curly
sign_is sign.CloseCurly at = is_close_curly
sign_is sign.Comma at = is_comma
sign_is sign.Semicolon at = is_semicolon
sign_is sign.Colon at = is_colon
sign_is sign.Equals at = is_equals
sign_is sign.Tilde at = is_tilde
sign_is sign.Ampersand at = is_ampersand
sign_is sign.Caret at = is_caret
sign_is sign.Bar at = is_bar
sign_is sign.ShiftLeft at = is_shift_left
sign_is sign.ShiftRight at = is_shift_right
sign_is sign.RotateLeft at = is_rotate_left
sign_is sign.RotateRight at = is_rotate_right
sign_is sign.Plus at = is_plus
sign_is sign.Minus at = is_minus
sign_is sign.Star at = is_star
sign_is sign.Slash at = is_slash
sign_is sign.Percent at = is_percent
sign_is sign.Dots at = is_dots

kind_is : (k : TokenKind) (at : Place) → Is (class_of_kind k) (record { kind = k; place = at })
kind_is (kind.Keyword k) at = keyword_is k at
kind_is (kind.Sign s) at = sign_is s at
kind_is (kind.In text) at = is_in
kind_is (kind.TypeWord word) at = is_type_word
kind_is (kind.Word text) at = is_word
kind_is (kind.Number None) at = is_too_big
kind_is (kind.Number (Some zero)) at = is_zero
kind_is (kind.Number (Some (suc n))) at = is_positive

-- each token is of its class
pub token_is : (t : Token) → Is (class_of t) t
token_is t = kind_is t.kind t.place

-- `Means rule before part after`: the tokens `before` are a text of the rule with this number that makes this part, and then
-- the tokens `after`
pub data Means : ℕ → List Token → Part → List Token → Type 0 where
  m_file : {a b : List Token} {ds : List Def} → files.IsDefs a ds b → Means rules.FILE a (part.File (record { defs = ds })) b
  m_defs : {a b : List Token} {ds : List Def} → files.IsDefs a ds b → Means rules.DEFS a (part.Defs (backwards ds)) b
  m_more_defs : {a b : List Token} {ds : List Def} → files.IsDefs a ds b → Means rules.MORE_DEFS a (part.Defs (backwards ds)) b
  m_no_defs : {a : List Token} → Means rules.MORE_DEFS a (part.Defs []) a
  m_def : {a b : List Token} {d : Def} → files.IsDef a d b → Means rules.DEF a (part.Def d) b
  m_plain_def : {a b : List Token} {d : Def} → files.IsPlainDef a d b → Means rules.PLAIN_DEF a (part.Def d) b
  m_grid : {a b : List Token} {g : Grid} → files.IsGrid a g b → Means rules.GRID a (part.Grid g) b
  m_numbers : {a b : List Token} {ns : List ℕ} → files.IsNumbers a ns b → Means rules.NUMBERS a (part.Numbers (backwards ns)) b
  m_more_numbers : {a b : List Token} {ns : List ℕ} {comma : Place} → files.IsNumbers a ns b → Means rules.MORE_NUMBERS (terminal.sign sign.Comma comma ∷ a) (part.Numbers (backwards ns)) b
  m_no_numbers : {a : List Token} → Means rules.MORE_NUMBERS a (part.Numbers []) a
  m_locals : {a b : List Token} {ds : List Decl} → declarations.IsLocals a ds b → Means rules.LOCALS a (part.Decls (backwards ds)) b
  m_results : {a b : List Token} {ds : List Decl} → declarations.IsResults a ds b → Means rules.RESULTS a (part.Decls (backwards ds)) b
  m_decls : {a b : List Token} {ds : List Decl} → declarations.IsDecls a ds b → Means rules.DECLS a (part.Decls (backwards ds)) b
  m_more_decls : {a b : List Token} {ds : List Decl} {comma : Place} → declarations.IsDecls a ds b → Means rules.MORE_DECLS (terminal.sign sign.Comma comma ∷ a) (part.Decls (backwards ds)) b
  m_no_decls : {a : List Token} → Means rules.MORE_DECLS a (part.Decls []) a
  m_decl : {a b : List Token} {ds : List Decl} → declarations.IsDecl a ds b → Means rules.DECL a (part.Decls (backwards ds)) b
  m_alike : {a b c : List Token} {ws : List Word} {s : Shape} {comma colon : Place} → declarations.IsNames a ws (terminal.sign sign.Colon colon ∷ b) → declarations.IsShape b s c → Means rules.MORE_NAMES (terminal.sign sign.Comma comma ∷ a) (part.Group s (backwards (declarations.decls_of s ws))) c
  m_group : {a b : List Token} {s : Shape} {colon : Place} → declarations.IsShape a s b → Means rules.MORE_NAMES (terminal.sign sign.Colon colon ∷ a) (part.Group s []) b
  m_shape : {a b : List Token} {s : Shape} → declarations.IsShape a s b → Means rules.SHAPE a (part.Shape s) b
  m_dims : {a b : List Token} {ns : List ℕ} → declarations.IsDims a ns b → Means rules.DIMS a (part.Numbers (backwards ns)) b
  m_items : {a b : List Token} {is : List Item} → items_of.IsItems a is b → Means rules.ITEMS a (part.Items (backwards is)) b
  m_after_loop_semicolon : {a b : List Token} {is : List Item} {at : Place} → items_of.IsItems a is b → Means rules.AFTER_LOOP (terminal.sign sign.Semicolon at ∷ a) (part.Items (backwards is)) b
  m_after_loop : {a b : List Token} {is : List Item} → items_of.IsItems a is b → Means rules.AFTER_LOOP a (part.Items (backwards is)) b
  m_after_equation : {a b : List Token} {is : List Item} {at : Place} → items_of.IsItems a is b → Means rules.AFTER_EQUATION (terminal.sign sign.Semicolon at ∷ a) (part.Items (backwards is)) b
  m_no_items : {a : List Token} → Means rules.AFTER_EQUATION a (part.Items []) a
  m_loop : {a b : List Token} {l : Loop} → items_of.IsLoop a l b → Means rules.LOOP a (part.Item (item.Loop l)) b
  m_equation : {a b : List Token} {e : Equation} → items_of.IsEquation a e b → Means rules.EQUATION a (part.Item (item.Equation e)) b
  m_body : {a b : List Token} {is : List Item} {at end : Place} → items_of.IsItems a is (terminal.sign sign.CloseCurly end ∷ b) → Means rules.BODY (terminal.sign sign.OpenCurly at ∷ a) (part.Items (backwards is)) b
  m_left : {a b : List Token} {ss : List Spot} → items_of.IsLeft a ss b → Means rules.LEFT a (part.Spots (backwards ss)) b
  m_spot_group : {a b : List Token} {ss : List Spot} {at end : Place} → items_of.IsSpots a ss (terminal.sign sign.CloseRound end ∷ b) → Means rules.SPOT_GROUP (terminal.sign sign.OpenRound at ∷ a) (part.Spots (backwards ss)) b
  m_spots : {a b : List Token} {ss : List Spot} → items_of.IsSpots a ss b → Means rules.SPOTS a (part.Spots (backwards ss)) b
  m_more_spots : {a b : List Token} {ss : List Spot} {comma : Place} → items_of.IsSpots a ss b → Means rules.MORE_SPOTS (terminal.sign sign.Comma comma ∷ a) (part.Spots (backwards ss)) b
  m_no_spots : {a : List Token} → Means rules.MORE_SPOTS a (part.Spots []) a
  m_spot : {a b : List Token} {s : Spot} → exprs.IsSpot a s b → Means rules.SPOT a (part.Spot s) b
  m_picks : {a b : List Token} {ps : List Pick} → exprs.IsPicks a ps b → Means rules.PICKS a (part.Picks (backwards ps)) b
  m_pick : {a b : List Token} {p : Pick} → exprs.IsPick a p b → Means rules.PICK a (part.Pick p) b
  m_high : {a b : List Token} {i : Index} {at : Place} → indexes.IsIndex a i b → Means rules.HIGH (terminal.sign sign.Dots at ∷ a) (part.High (Some i)) b
  m_no_high : {a : List Token} → Means rules.HIGH a (part.High None) a
  m_expr : {a b : List Token} {e : Expr} → exprs.IsExpr a e b → Means rules.EXPR a (part.Expr e) b
  m_or_links : {a b : List Token} {ls : List Link} → exprs.IsOrLinks a ls b → Means rules.OR_LINKS a (part.Links (backwards ls)) b
  m_xors : {a b : List Token} {e : Expr} → exprs.IsXors a e b → Means rules.XORS a (part.Expr e) b
  m_xor_links : {a b : List Token} {ls : List Link} → exprs.IsXorLinks a ls b → Means rules.XOR_LINKS a (part.Links (backwards ls)) b
  m_ands : {a b : List Token} {e : Expr} → exprs.IsAnds a e b → Means rules.ANDS a (part.Expr e) b
  m_and_links : {a b : List Token} {ls : List Link} → exprs.IsAndLinks a ls b → Means rules.AND_LINKS a (part.Links (backwards ls)) b
  m_shifts : {a b : List Token} {e : Expr} → exprs.IsShifts a e b → Means rules.SHIFTS a (part.Expr e) b
  m_shift_links : {a b : List Token} {ls : List ShiftLink} → exprs.IsShiftLinks a ls b → Means rules.SHIFT_LINKS a (part.Shifts (backwards ls)) b
  m_unary : {a b : List Token} {e : Expr} → exprs.IsUnary a e b → Means rules.UNARY a (part.Expr e) b
  m_complement : {a b : List Token} {e : Expr} {at : Place} → exprs.IsUnary a e b → Means rules.COMPLEMENT (terminal.sign sign.Tilde at ∷ a) (part.Expr (tree.Not at e)) b
  m_primary : {a b : List Token} {e : Expr} → exprs.IsPrimary a e b → Means rules.PRIMARY a (part.Expr e) b
  m_call : {a b : List Token} {es : List Expr} {at end : Place} → exprs.IsExprs a es (terminal.sign sign.CloseRound end ∷ b) → Means rules.AFTER_NAME (terminal.sign sign.OpenRound at ∷ a) (part.Exprs (backwards es)) b
  m_picks_suffix : {a b : List Token} {ps : List Pick} → exprs.IsPicks a ps b → Means rules.AFTER_NAME a (part.Picks (backwards ps)) b
  m_expr_group : {a b : List Token} {es : List Expr} {at end : Place} → exprs.IsExprs a es (terminal.sign sign.CloseRound end ∷ b) → Means rules.EXPR_GROUP (terminal.sign sign.OpenRound at ∷ a) (part.Exprs (backwards es)) b
  m_exprs : {a b : List Token} {es : List Expr} → exprs.IsExprs a es b → Means rules.EXPRS a (part.Exprs (backwards es)) b
  m_more_exprs : {a b : List Token} {es : List Expr} {comma : Place} → exprs.IsExprs a es b → Means rules.MORE_EXPRS (terminal.sign sign.Comma comma ∷ a) (part.Exprs (backwards es)) b
  m_no_exprs : {a : List Token} → Means rules.MORE_EXPRS a (part.Exprs []) a
  m_index : {a b : List Token} {e : Index} → indexes.IsIndex a e b → Means rules.INDEX a (part.Index e) b
  m_sum_links : {a b : List Token} {ls : List IndexLink} → indexes.IsSumLinks a ls b → Means rules.SUM_LINKS a (part.IndexLinks (backwards ls)) b
  m_product : {a b : List Token} {e : Index} → indexes.IsProduct a e b → Means rules.PRODUCT a (part.Index e) b
  m_product_links : {a b : List Token} {ls : List IndexLink} → indexes.IsProductLinks a ls b → Means rules.PRODUCT_LINKS a (part.IndexLinks (backwards ls)) b
  m_atom : {a b : List Token} {e : Index} → indexes.IsAtom a e b → Means rules.ATOM a (part.Index e) b
  m_index_group : {a b : List Token} {e : Index} {at end : Place} → indexes.IsIndex a e (terminal.sign sign.CloseRound end ∷ b) → Means rules.INDEX_GROUP (terminal.sign sign.OpenRound at ∷ a) (part.Index e) b
  m_name : {a : List Token} {t : Token} {w : Word} → terminal.IsName t w → Means rules.NAME (t ∷ a) (part.Word w) a
  m_number : {a : List Token} {t : Token} {n : ℕ} → terminal.IsNumber t n → Means rules.NUMBER (t ∷ a) (part.Number (record { place = t.place; value = n })) a
  m_positive_number : {a : List Token} {t : Token} {n : ℕ} → terminal.IsNumber t n → 0 < n → Means rules.POSITIVE_NUMBER (t ∷ a) (part.Number (record { place = t.place; value = n })) a
  m_bounds : {a b c : List Token} {i j : Index} {at comma end : Place} → indexes.IsIndex a i (terminal.sign sign.Comma comma ∷ b) → indexes.IsIndex b j (terminal.sign sign.CloseSquare end ∷ c) → Means rules.BOUNDS (terminal.sign sign.OpenSquare at ∷ a) (part.Bounds i j) c
  m_refresh_args : {a b c : List Token} {e : Expr} {i : Index} {at comma end : Place} → exprs.IsExpr a e (terminal.sign sign.Comma comma ∷ b) → indexes.IsIndex b i (terminal.sign sign.CloseRound end ∷ c) → Means rules.REFRESH_ARGS (terminal.sign sign.OpenRound at ∷ a) (part.Refreshed e i) c

-- `Reads items before parts after`: the tokens `before` are what the items make, one after another, and then the tokens `after`
pub data Reads : List Items.Item → List Token → List Part → List Token → Type 0 where
  nil : {a : List Token} → Reads [] a [] a
  token : {c : ℕ} {t : Token} {a b : List Token} {ps : List Part} {is : List Items.Item}
      → Is c t → Reads is a ps b → Reads (due.Token c ∷ is) (t ∷ a) (part_of t ∷ ps) b
  rule : {r : ℕ} {p : Part} {a b c : List Token} {ps : List Part} {is : List Items.Item}
      → Means r a p b → Reads is b ps c → Reads (due.Rule r ∷ is) a (p ∷ ps) c

-- what the action makes of the parts of these tokens is what the rule means, and it can be done
abbrev pub Makes : ℕ → Action → List Token → List Part → List Token → Type 0
Makes r a before ps after =
    (v : Part) × Means r before v after × ((rest : List Part) → act a (ps ++ rest) ≡ v ∷ rest) ×
    ((rest : List Part) → IsTrue (fits a (ps ++ rest)))
