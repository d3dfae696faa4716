-- The tree that tokens begin with, and the tokens behind it, where they are a text of the rule. Of other tokens it is any.
use Rattle.std.specs.Prelude.{ℕ, zero, suc, ◌^◌, nat_lt, Bool, true, false, not, if◌then◌else◌, List, [], ◌∷◌, length, drop}
use Rattle.c_tokens.specs.declared.token.Keyword.{Keyword}
use Rattle.c_tokens.specs.declared.token.Keyword.TheVariants as keyword
use Rattle.c_tokens.specs.declared.token.Sign.{Sign}
use Rattle.c_tokens.specs.declared.token.Sign.TheVariants as sign
use Rattle.c_tokens.specs.declared.token.Token.{Token}
use Rattle.c_tokens.specs.declared.token.TokenKind.{TokenKind}
use Rattle.c_tokens.specs.declared.token.TokenKind.TheVariants as kind
use Rattle.c_tree.specs.declared.CArg.{CArg}
use Rattle.c_tree.specs.declared.CArg.TheVariants as arg
use Rattle.c_tree.specs.declared.CCall.{CCall}
use Rattle.c_tree.specs.declared.CExpr.{CExpr}
use Rattle.c_tree.specs.declared.CExpr.TheVariants as tree
use Rattle.c_tree.specs.declared.CFile.{CFile}
use Rattle.c_tree.specs.declared.CFun.{CFun}
use Rattle.c_tree.specs.declared.CIndex.{CIndex}
use Rattle.c_tree.specs.declared.CIndex.TheVariants as index
use Rattle.c_tree.specs.declared.CLow.{CLow}
use Rattle.c_tree.specs.declared.CLow.TheVariants as low
use Rattle.c_tree.specs.declared.COp.{COp}
use Rattle.c_tree.specs.declared.COp.TheVariants as op
use Rattle.c_tree.specs.declared.CParam.{CParam}
use Rattle.c_tree.specs.declared.CParam.TheVariants as param
use Rattle.c_tree.specs.declared.CStmt.{CStmt}
use Rattle.c_tree.specs.declared.CStmt.TheVariants as statement
use Rattle.c_trees.specs.declared.first.First.{First}
use Rattle.c_trees.specs.declared.first.First.TheVariants as first

-- the name of a token
abbrev pub name_of : TokenKind → List ℕ
name_of (kind.Keyword k) = []
name_of (kind.Sign s) = []
name_of (kind.Name text) = text
name_of (kind.Number n) = []

-- its number
abbrev pub number_of : TokenKind → ℕ
number_of (kind.Keyword k) = 0
number_of (kind.Sign s) = 0
number_of (kind.Name text) = 0
number_of (kind.Number n) = n

-- its sign as an operator
abbrev pub op_of_sign : Sign → COp
op_of_sign sign.OpenRound = op.Sub
op_of_sign sign.CloseRound = op.Sub
op_of_sign sign.OpenSquare = op.Sub
op_of_sign sign.CloseSquare = op.Sub
op_of_sign sign.OpenCurly = op.Sub
op_of_sign sign.CloseCurly = op.Sub
op_of_sign sign.Comma = op.Sub
op_of_sign sign.Semicolon = op.Sub
op_of_sign sign.Equals = op.Sub
op_of_sign sign.Less = op.Sub
op_of_sign sign.Plus = op.Sub
op_of_sign sign.PlusPlus = op.Sub
op_of_sign sign.Minus = op.Sub
op_of_sign sign.Caret = op.Xor
op_of_sign sign.Ampersand = op.And
op_of_sign sign.Bar = op.Or
op_of_sign sign.ShiftLeft = op.Shl
op_of_sign sign.ShiftRight = op.Shr

-- a token as an operator; one that is none as that of a difference
abbrev pub op_of : TokenKind → COp
op_of (kind.Keyword k) = op.Sub
op_of (kind.Sign s) = op_of_sign s
op_of (kind.Name text) = op.Sub
op_of (kind.Number n) = op.Sub

-- it as an index
abbrev pub idx_of : TokenKind → CIndex
idx_of (kind.Keyword k) = index.Number 0
idx_of (kind.Sign s) = index.Number 0
idx_of (kind.Name text) = index.Counter text
idx_of (kind.Number n) = index.Number n

-- what a choice is made by: the first token
abbrev pub first_of_keyword : Keyword → First
first_of_keyword keyword.Static = first.Other
first_of_keyword keyword.Void = first.Void
first_of_keyword keyword.Reg = first.Reg
first_of_keyword keyword.Word = first.Word
first_of_keyword keyword.Unsigned = first.Other
first_of_keyword keyword.For = first.For
first_of_keyword keyword.Shares = first.Other
first_of_keyword keyword.Constant = first.Constant
first_of_keyword keyword.Random = first.Random
first_of_keyword keyword.Masked = first.Other
first_of_keyword keyword.Out = first.Out
first_of_keyword keyword.In = first.In
first_of_keyword keyword.Slots = first.Slots

-- a sign as what a choice is made by
abbrev pub first_of_sign : Sign → First
first_of_sign sign.OpenRound = first.Bracket
first_of_sign sign.CloseRound = first.Other
first_of_sign sign.OpenSquare = first.Other
first_of_sign sign.CloseSquare = first.Other
first_of_sign sign.OpenCurly = first.Other
first_of_sign sign.CloseCurly = first.Close
first_of_sign sign.Comma = first.Comma
first_of_sign sign.Semicolon = first.Other
first_of_sign sign.Equals = first.Other
first_of_sign sign.Less = first.Other
first_of_sign sign.Plus = first.Other
first_of_sign sign.PlusPlus = first.Other
first_of_sign sign.Minus = first.Other
first_of_sign sign.Caret = first.Other
first_of_sign sign.Ampersand = first.Other
first_of_sign sign.Bar = first.Other
first_of_sign sign.ShiftLeft = first.Other
first_of_sign sign.ShiftRight = first.Other

-- a token as what a choice is made by
abbrev pub first_of_kind : TokenKind → First
first_of_kind (kind.Keyword k) = first_of_keyword k
first_of_kind (kind.Sign s) = first_of_sign s
first_of_kind (kind.Name text) = first.Name
first_of_kind (kind.Number n) = first.Number

-- the same of the first of some tokens
abbrev pub first_of : List Token → First
first_of [] = first.Other
first_of (t ∷ rest) = first_of_kind t.kind

-- the name that the first token is
abbrev pub name_in : List Token → List ℕ
name_in [] = []
name_in (t ∷ rest) = name_of t.kind

-- the number that the first token is
abbrev pub number_in : List Token → ℕ
number_in [] = 0
number_in (t ∷ rest) = number_of t.kind

-- the operator that the first token is
abbrev pub op_in : List Token → COp
op_in [] = op.Sub
op_in (t ∷ rest) = op_of t.kind

-- the index that the first token is
abbrev pub idx_in : List Token → CIndex
idx_in [] = index.Number 0
idx_in (t ∷ rest) = idx_of t.kind

-- an operation of two expressions, the second behind the first and an operator
abbrev pub two_of : (List Token → CExpr × List Token) → CExpr × List Token → CExpr × List Token
two_of next left =
    let right = next (drop 1 left.1) in (tree.Two (op_in left.1) left.0 right.0, drop 1 right.1)

-- an expression in brackets
abbrev pub bracket_of : (List Token → CExpr × List Token) → First → List Token → CExpr × List Token
bracket_of next first.Word text = (tree.Cell (name_in (drop 3 text)) (idx_in (drop 5 text)), drop 7 text)
bracket_of next first.Bracket text = two_of next (next (drop 1 text))
bracket_of next first.Name text = two_of next (next (drop 1 text))
bracket_of next first.Number text = two_of next (next (drop 1 text))
bracket_of next first.Constant text = two_of next (next (drop 1 text))
bracket_of next first.Random text = two_of next (next (drop 1 text))
bracket_of next first.For text = two_of next (next (drop 1 text))
bracket_of next first.Reg text = two_of next (next (drop 1 text))
bracket_of next first.Void text = two_of next (next (drop 1 text))
bracket_of next first.Out text = two_of next (next (drop 1 text))
bracket_of next first.In text = two_of next (next (drop 1 text))
bracket_of next first.Slots text = two_of next (next (drop 1 text))
bracket_of next first.Comma text = two_of next (next (drop 1 text))
bracket_of next first.Close text = two_of next (next (drop 1 text))
bracket_of next first.Other text = two_of next (next (drop 1 text))

-- an expression that begins with such a token, where one inside it is read so
abbrev pub ex_by : (List Token → CExpr × List Token) → First → List Token → CExpr × List Token
ex_by next first.Bracket text = bracket_of next (first_of (drop 1 text)) text
ex_by next first.Name text = (tree.Word (name_in text), drop 1 text)
ex_by next first.Constant text = (tree.Number (number_in (drop 2 text)), drop 4 text)
ex_by next first.Number text = (tree.Random, drop 3 text)
ex_by next first.Random text = (tree.Random, drop 3 text)
ex_by next first.Word text = (tree.Random, drop 3 text)
ex_by next first.For text = (tree.Random, drop 3 text)
ex_by next first.Reg text = (tree.Random, drop 3 text)
ex_by next first.Void text = (tree.Random, drop 3 text)
ex_by next first.Out text = (tree.Random, drop 3 text)
ex_by next first.In text = (tree.Random, drop 3 text)
ex_by next first.Slots text = (tree.Random, drop 3 text)
ex_by next first.Comma text = (tree.Random, drop 3 text)
ex_by next first.Close text = (tree.Random, drop 3 text)
ex_by next first.Other text = (tree.Random, drop 3 text)

-- an expression, with fewer brackets inside it than so many
abbrev pub ex_of : ℕ → List Token → CExpr × List Token
ex_of zero text = (tree.Random, text)
ex_of (suc room) text = ex_by (ex_of room) (first_of text) text

-- where a loop begins
abbrev pub low_by : Bool → List Token → CLow × List Token
low_by true text = (low.After (name_in text), drop 3 text)
low_by false text = (low.Number (number_in text), drop 1 text)

-- a name
abbrev pub is_name : First → Bool
is_name first.Bracket = false
is_name first.Name = true
is_name first.Number = false
is_name first.Constant = false
is_name first.Random = false
is_name first.Word = false
is_name first.For = false
is_name first.Reg = false
is_name first.Void = false
is_name first.Out = false
is_name first.In = false
is_name first.Slots = false
is_name first.Comma = false
is_name first.Close = false
is_name first.Other = false

-- a closing curly bracket
abbrev pub is_close : First → Bool
is_close first.Bracket = false
is_close first.Name = false
is_close first.Number = false
is_close first.Constant = false
is_close first.Random = false
is_close first.Word = false
is_close first.For = false
is_close first.Reg = false
is_close first.Void = false
is_close first.Out = false
is_close first.In = false
is_close first.Slots = false
is_close first.Comma = false
is_close first.Close = true
is_close first.Other = false

-- the word `void`
abbrev pub is_void : First → Bool
is_void first.Bracket = false
is_void first.Name = false
is_void first.Number = false
is_void first.Constant = false
is_void first.Random = false
is_void first.Word = false
is_void first.For = false
is_void first.Reg = false
is_void first.Void = true
is_void first.Out = false
is_void first.In = false
is_void first.Slots = false
is_void first.Comma = false
is_void first.Close = false
is_void first.Other = false

-- the word `reg`
abbrev pub is_reg : First → Bool
is_reg first.Bracket = false
is_reg first.Name = false
is_reg first.Number = false
is_reg first.Constant = false
is_reg first.Random = false
is_reg first.Word = false
is_reg first.For = false
is_reg first.Reg = true
is_reg first.Void = false
is_reg first.Out = false
is_reg first.In = false
is_reg first.Slots = false
is_reg first.Comma = false
is_reg first.Close = false
is_reg first.Other = false

-- a comma
abbrev pub is_comma : First → Bool
is_comma first.Bracket = false
is_comma first.Name = false
is_comma first.Number = false
is_comma first.Constant = false
is_comma first.Random = false
is_comma first.Word = false
is_comma first.For = false
is_comma first.Reg = false
is_comma first.Void = false
is_comma first.Out = false
is_comma first.In = false
is_comma first.Slots = false
is_comma first.Comma = true
is_comma first.Close = false
is_comma first.Other = false

-- texts of a rule, one after another, up to where they end, or so many
abbrev pub items_of : {X : Type 0} → (List Token → Bool) → (List Token → X × List Token) → ℕ → List Token → List X × List Token
items_of ends next zero text = ([], text)
items_of ends next (suc n) text =
    if ends text then ([], text)
    else ((next text).0 ∷ (items_of ends next n (next text).1).0, (items_of ends next n (next text).1).1)

-- an item before others
abbrev pub with_first : {X : Type 0} → X → List X × List Token → List X × List Token
with_first item others = (item ∷ others.0, others.1)

-- statements and calls end before a closing curly bracket
abbrev pub closes : List Token → Bool
closes text = is_close (first_of text)

-- gadgets end before the word `void`, which begins the masked function
abbrev pub ends_gadgets : List Token → Bool
ends_gadgets text = is_void (first_of text)

-- parameters and arguments end where no comma follows
abbrev pub ends_list : List Token → Bool
ends_list text = not (is_comma (first_of text))

-- an assignment to an array's cell
abbrev pub assign_of : List Token → CStmt × List Token
assign_of text =
    (statement.Assign (name_in text) (idx_in (drop 2 text)) (ex_of 129 (drop 8 text)).0, drop 1 (ex_of 129 (drop 8 text)).1)

-- a declaration of a word
abbrev pub let_of : List Token → CStmt × List Token
let_of text = (statement.Let (name_in (drop 1 text)) (ex_of 129 (drop 3 text)).0, drop 1 (ex_of 129 (drop 3 text)).1)

-- the start of a loop
abbrev pub low_in : List Token → CLow × List Token
low_in text = low_by (is_name (first_of (drop 5 text))) (drop 5 text)

-- a loop, where the statements inside it are read so
abbrev pub for_of : (List Token → List CStmt × List Token) → List Token → CStmt × List Token
for_of next text = (
  statement.For (name_in (drop 3 text)) (low_in text).0 (next (drop 9 (low_in text).1)).0,
  drop 1 (next (drop 9 (low_in text).1)).1,
)

-- a statement that begins with such a token, where the statements inside a loop are read so
abbrev pub stmt_by : (List Token → List CStmt × List Token) → First → List Token → CStmt × List Token
stmt_by next first.Word text = let_of text
stmt_by next first.For text = for_of next text
stmt_by next first.Bracket text = assign_of text
stmt_by next first.Name text = assign_of text
stmt_by next first.Number text = assign_of text
stmt_by next first.Constant text = assign_of text
stmt_by next first.Random text = assign_of text
stmt_by next first.Reg text = assign_of text
stmt_by next first.Void text = assign_of text
stmt_by next first.Out text = assign_of text
stmt_by next first.In text = assign_of text
stmt_by next first.Slots text = assign_of text
stmt_by next first.Comma text = assign_of text
stmt_by next first.Close text = assign_of text
stmt_by next first.Other text = assign_of text

-- a statement with at most so many loops inside one another
abbrev pub stmt_of : ℕ → List Token → CStmt × List Token
stmt_of zero text = stmt_by (λ rest. ([], rest)) (first_of text) text
stmt_of (suc loops) text = stmt_by (λ rest. items_of closes (stmt_of loops) (length rest) rest) (first_of text) text

-- statements up to the brace
abbrev pub stmts_of : ℕ → List Token → List CStmt × List Token
stmts_of loops text = items_of closes (stmt_of loops) (length text) text

-- a parameter: an array where it begins with `reg`, else a word
abbrev pub param_by : Bool → List Token → CParam × List Token
param_by true text = (param.Array (name_in (drop 1 text)), drop 5 text)
param_by false text = (param.Word (name_in (drop 1 text)), drop 2 text)

-- a parameter
abbrev pub param_of : List Token → CParam × List Token
param_of text = param_by (is_reg (first_of text)) text

-- a parameter behind a comma
abbrev pub next_param : List Token → CParam × List Token
next_param text = param_of (drop 1 text)

-- those behind a comma
abbrev pub more_params : List Token → List CParam × List Token
more_params text = items_of ends_list next_param (length text) text

-- the parameters of a gadget
abbrev pub params_of : List Token → List CParam × List Token
params_of text = with_first (param_of text).0 (more_params (param_of text).1)

-- a gadget
abbrev pub gadget_of : List Token → CFun × List Token
gadget_of text =
    let params = params_of (drop 4 text) in
    let body = stmts_of 2 (drop 2 params.1) in
    (record { name = name_in (drop 2 text); params = params.0; body = body.0 }, drop 1 body.1)

-- gadgets up to the masked function
abbrev pub gadgets_of : List Token → List CFun × List Token
gadgets_of text = items_of ends_gadgets gadget_of (length text) text

-- an argument that begins with such a token
abbrev pub arg_by : First → List Token → CArg × List Token
arg_by first.Out text = (arg.Out (number_in (drop 2 text)), drop 4 text)
arg_by first.In text = (arg.Input (number_in (drop 2 text)), drop 4 text)
arg_by first.Slots text = (arg.Slot (number_in (drop 2 text)), drop 4 text)
arg_by first.Bracket text = (arg.Number (number_in (drop 2 text)), drop 4 text)
arg_by first.Name text = (arg.Number (number_in (drop 2 text)), drop 4 text)
arg_by first.Number text = (arg.Number (number_in (drop 2 text)), drop 4 text)
arg_by first.Constant text = (arg.Number (number_in (drop 2 text)), drop 4 text)
arg_by first.Random text = (arg.Number (number_in (drop 2 text)), drop 4 text)
arg_by first.Word text = (arg.Number (number_in (drop 2 text)), drop 4 text)
arg_by first.For text = (arg.Number (number_in (drop 2 text)), drop 4 text)
arg_by first.Reg text = (arg.Number (number_in (drop 2 text)), drop 4 text)
arg_by first.Void text = (arg.Number (number_in (drop 2 text)), drop 4 text)
arg_by first.Comma text = (arg.Number (number_in (drop 2 text)), drop 4 text)
arg_by first.Close text = (arg.Number (number_in (drop 2 text)), drop 4 text)
arg_by first.Other text = (arg.Number (number_in (drop 2 text)), drop 4 text)

-- an argument
abbrev pub arg_of : List Token → CArg × List Token
arg_of text = arg_by (first_of text) text

-- an argument behind a comma
abbrev pub next_arg : List Token → CArg × List Token
next_arg text = arg_of (drop 1 text)

-- the arguments behind commas
abbrev pub more_args : List Token → List CArg × List Token
more_args text = items_of ends_list next_arg (length text) text

-- the arguments of a call
abbrev pub args_of : List Token → List CArg × List Token
args_of text = with_first (arg_of text).0 (more_args (arg_of text).1)

-- a call of a gadget
abbrev pub call_of : List Token → CCall × List Token
call_of text = let args = args_of (drop 2 text) in (record { gadget = name_in text; args = args.0 }, drop 2 args.1)

-- calls up to the closing curly bracket
abbrev pub calls_of : List Token → List CCall × List Token
calls_of text = items_of closes call_of (length text) text

-- a number below 2^32
abbrev pub narrow : ℕ → ℕ
narrow n = if nat_lt n (2 ^ 32) then n else 0

-- the number of rows of `in` or `out`
abbrev pub rows_in : List Token → ℕ
rows_in text = narrow (number_in (drop 1 text))

-- the number of slots where they are declared, else none
abbrev pub slots_by : Bool → List Token → ℕ × List Token
slots_by true text = (narrow (number_in (drop 3 text)), drop 9 text)
slots_by false text = (0, text)

-- the number of slots
abbrev pub slots_of : List Token → ℕ × List Token
slots_of text = slots_by (is_reg (first_of text)) text

-- a file with a type of so many bits
abbrev pub file_of : ℕ → List Token → CFile
file_of bits text =
    let gadgets = gadgets_of text in
    let outputs = drop 5 gadgets.1 in
    let inputs = drop 9 outputs in
    let slots = slots_of (drop 8 inputs) in
    record {
      reg_bits = bits;
      gadgets = gadgets.0;
      outputs = rows_in outputs;
      inputs = rows_in inputs;
      slots = slots.0;
      calls = (calls_of slots.1).0;
    }
