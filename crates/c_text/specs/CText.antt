-- How a file of the C subset is printed: tokens with the blanks and the ends of lines that stand between them.
use Rattle.std.specs.Prelude.{ℕ, zero, suc, ◌+◌, List, [], ◌∷◌, ◌++◌, flat_map, codes, decimal, min}
use Rattle.c_tree.specs.declared.CArg.{CArg}
use Rattle.c_tree.specs.declared.CArg.TheVariants as argument
use Rattle.c_tree.specs.declared.CCall.{CCall}
use Rattle.c_tree.specs.declared.CExpr.{CExpr, fold-CExpr}
use Rattle.c_tree.specs.declared.CExpr.TheOpen.{CExpr-F}
use Rattle.c_tree.specs.declared.CFile.{CFile}
use Rattle.c_tree.specs.declared.CFun.{CFun}
use Rattle.c_tree.specs.declared.CIndex.{CIndex}
use Rattle.c_tree.specs.declared.CIndex.TheVariants.{Number, Counter}
use Rattle.c_tree.specs.declared.CLow.{CLow}
use Rattle.c_tree.specs.declared.CLow.TheVariants as low
use Rattle.c_tree.specs.declared.COp.{COp}
use Rattle.c_tree.specs.declared.COp.TheVariants.{Xor, And, Or, Shl, Shr, Sub}
use Rattle.c_tree.specs.declared.CParam.{CParam}
use Rattle.c_tree.specs.declared.CParam.TheVariants.{Array, Word}
use Rattle.c_tree.specs.declared.CStmt.{CStmt, fold-CStmt}
use Rattle.c_tree.specs.declared.CStmt.TheOpen.{CStmt-F}

-- the text of a further item of a list: a comma and a blank come first
abbrev pub further_text : {A : Type 0} → (A → List ℕ) → A → List ℕ
further_text text item = codes ", " ++ text item

-- the texts of items, parted by a comma and a blank
abbrev pub listed : {A : Type 0} → (A → List ℕ) → List A → List ℕ
listed text [] = []
listed text (item ∷ items) = text item ++ flat_map (further_text text) items

-- a constant
abbrev pub constant_text : ℕ → List ℕ
constant_text n = codes "UINT64_C(" ++ decimal n ++ codes ")"

-- an index: a number or a counter
abbrev pub index_text : CIndex → List ℕ
index_text (Number n) = decimal n
index_text (Counter name) = name

-- an element of an array
abbrev pub cell_text : List ℕ → CIndex → List ℕ
cell_text array index = array ++ codes "[" ++ index_text index ++ codes "]"

-- an operator
abbrev pub operator_text : COp → List ℕ
operator_text Xor = codes "^"
operator_text And = codes "&"
operator_text Or = codes "|"
operator_text Shl = codes "<<"
operator_text Shr = codes ">>"
operator_text Sub = codes "-"

-- one level of an expression, from the texts of its operands
abbrev pub expression_level : CExpr-F (List ℕ) → List ℕ
expression_level (CExpr-F.Cell array index) = codes "(uint64_t)" ++ cell_text array index
expression_level (CExpr-F.Word name) = name
expression_level (CExpr-F.Number n) = constant_text n
expression_level CExpr-F.Random = codes "tornado_random()"
expression_level (CExpr-F.Two op left right) =
    codes "(" ++ left ++ codes " " ++ operator_text op ++ codes " " ++ right ++ codes ")"

-- an expression
abbrev pub expression_text : CExpr → List ℕ
expression_text = fold-CExpr (List ℕ) expression_level

-- where a loop begins
abbrev pub low_text : CLow → List ℕ
low_text (low.Number n) = decimal n
low_text (low.After name) = name ++ codes " + 1"

-- two blanks for each pair of braces round a line
abbrev pub indentation : ℕ → List ℕ
indentation zero = []
indentation (suc depth) = codes "  " ++ indentation depth

-- how deep a line stands inside a pair of braces more: a file of the C subset has at most three round a line, and what
-- is deeper stands with the third
abbrev pub inner_depth : ℕ → ℕ
inner_depth depth = min (depth + 1) 3

-- the first line of a loop, without its indentation
abbrev pub loop_text : List ℕ → CLow → List ℕ
loop_text counter start =
    codes "for (unsigned " ++ counter ++ codes " = " ++ low_text start ++ codes "; " ++ counter ++ codes " < D; "
    ++ counter ++ codes "++) {\n"

-- one level of a statement at a depth, from the texts of the statements inside
abbrev pub statement_level : CStmt-F (ℕ → List ℕ) → ℕ → List ℕ
statement_level (CStmt-F.Assign array index value) depth =
    indentation depth ++ cell_text array index ++ codes " = (reg)" ++ expression_text value ++ codes ";\n"
statement_level (CStmt-F.Let name value) depth =
    indentation depth ++ codes "uint64_t " ++ name ++ codes " = " ++ expression_text value ++ codes ";\n"
statement_level (CStmt-F.For counter start body) depth =
    indentation depth ++ loop_text counter start ++ flat_map (λ statement. statement (inner_depth depth)) body
    ++ indentation depth ++ codes "}\n"

-- a statement at a depth
abbrev pub statement_text : CStmt → ℕ → List ℕ
statement_text = fold-CStmt (ℕ → List ℕ) statement_level

-- statements at a depth
abbrev pub statements_text : ℕ → List CStmt → List ℕ
statements_text depth statements = flat_map (λ statement. statement_text statement depth) statements

-- a parameter of a gadget
abbrev pub parameter_text : CParam → List ℕ
parameter_text (Array name) = codes "reg " ++ name ++ codes "[D]"
parameter_text (Word name) = codes "uint64_t " ++ name

-- a gadget
abbrev pub gadget_text : CFun → List ℕ
gadget_text gadget =
    codes "static void " ++ gadget.name ++ codes "(" ++ listed parameter_text gadget.params ++ codes ") {\n"
    ++ statements_text 1 gadget.body ++ codes "}\n"

-- an argument of a call
abbrev pub argument_text : CArg → List ℕ
argument_text (argument.Out n) = codes "out[" ++ decimal n ++ codes "]"
argument_text (argument.Input n) = codes "in[" ++ decimal n ++ codes "]"
argument_text (argument.Slot n) = codes "v[" ++ decimal n ++ codes "]"
argument_text (argument.Number n) = constant_text n

-- the line of a call in `masked`
abbrev pub call_text : CCall → List ℕ
call_text call =
    codes "  " ++ call.gadget ++ codes "(" ++ listed argument_text call.args ++ codes ");\n"

-- the first six lines: the type `reg` has so many bits
abbrev pub head_text : ℕ → List ℕ
head_text bits =
    codes "#include <stdint.h>\n#ifndef D\n#define D 2\n#endif\ntypedef uint" ++ decimal bits
    ++ codes "_t reg;\nuint64_t tornado_random(void);\n"

-- the first line of `masked`
abbrev pub masked_text : ℕ → ℕ → List ℕ
masked_text outputs inputs =
    codes "void masked(reg out[" ++ decimal outputs ++ codes "][D], reg in[" ++ decimal inputs ++ codes "][D]) {\n"

-- the declaration of `v`, where there are slots
abbrev pub slots_text : ℕ → List ℕ
slots_text zero = []
slots_text (suc n) = codes "  reg v[" ++ decimal (suc n) ++ codes "][D];\n"

-- the text of a file
abbrev pub c_text : CFile → List ℕ
c_text file =
    head_text file.reg_bits ++ flat_map gadget_text file.gadgets ++ masked_text file.outputs file.inputs
    ++ slots_text file.slots ++ flat_map call_text file.calls ++ codes "}\n"
