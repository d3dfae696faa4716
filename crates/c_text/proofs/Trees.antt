-- The texts of expressions and statements, form by form.
use Rattle.std.proofs.Common.{◌≡◌, ℕ, List, [], ◌∷◌, ◌++◌, flat_map, map, refl, sym, ap, ◌∙◌, codes}
use Rattle.c_tree.specs.declared.CExpr.{CExpr, fold-roll-CExpr, roll-CExpr, map-CExpr}
use Rattle.c_tree.specs.declared.CExpr.TheVariants as e
use Rattle.c_tree.specs.declared.CExpr.TheOpen.{CExpr-F}
use Rattle.c_tree.specs.declared.CIndex.{CIndex}
use Rattle.c_tree.specs.declared.CLow.{CLow}
use Rattle.c_tree.specs.declared.COp.{COp}
use Rattle.c_tree.specs.declared.CStmt.{CStmt, fold-roll-CStmt, roll-CStmt, map-CStmt}
use Rattle.c_tree.specs.declared.CStmt.TheVariants as s
use Rattle.c_tree.specs.declared.CStmt.TheOpen.{CStmt-F}
use Rattle.c_text.specs.CText.{expression_level, expression_text, cell_text, constant_text, operator_text}
use Rattle.c_text.specs.CText.{statement_level, statement_text, indentation, inner_depth, loop_text}
use Rattle.c_text.proofs.Joining.{two_is, loop_is}

expression-layer : (layer : CExpr-F CExpr) (a : CExpr) → roll-CExpr layer ≡ a
    → expression_text a ≡ expression_level (map-CExpr CExpr (List ℕ) expression_text layer)
expression-layer layer a rolls = ap expression_text (sym rolls) ∙ fold-roll-CExpr (List ℕ) expression_level layer

-- an element of an array
pub expression-cell : (a : CExpr) (array : List ℕ) (index : CIndex) → a ≡ e.Cell array index
    → expression_text a ≡ codes "(uint64_t)" ++ cell_text array index
expression-cell a array index is = expression-layer (CExpr-F.Cell array index) a (e.rolls-Cell array index ∙ sym is)

-- a name
pub expression-word : (a : CExpr) (name : List ℕ) → a ≡ e.Word name → expression_text a ≡ name
expression-word a name is = expression-layer (CExpr-F.Word name) a (e.rolls-Word name ∙ sym is)

-- a constant
pub expression-number : (a : CExpr) (n : ℕ) → a ≡ e.Number n → expression_text a ≡ constant_text n
expression-number a n is = expression-layer (CExpr-F.Number n) a (e.rolls-Number n ∙ sym is)

-- a random word
pub expression-random : (a : CExpr) → a ≡ e.Random → expression_text a ≡ codes "tornado_random()"
expression-random a is = expression-layer CExpr-F.Random a (e.rolls-Random ∙ sym is)

-- two operands
pub expression-two : (a : CExpr) (op : COp) (left right : CExpr) → a ≡ e.Two op left right
    → expression_text a
    ≡ codes "(" ++ expression_text left ++ codes " " ++ operator_text op ++ codes " " ++ expression_text right
    ++ codes ")"
expression-two a op left right is =
    expression-layer (CExpr-F.Two op left right) a (e.rolls-Two op left right ∙ sym is)

statement-layer : (layer : CStmt-F CStmt) (a : CStmt) → roll-CStmt layer ≡ a
    → statement_text a ≡ statement_level (map-CStmt CStmt (ℕ → List ℕ) statement_text layer)
statement-layer layer a rolls = ap statement_text (sym rolls) ∙ fold-roll-CStmt (ℕ → List ℕ) statement_level layer

-- an assignment
pub statement-assign : (a : CStmt) (array : List ℕ) (index : CIndex) (value : CExpr) (depth : ℕ)
    → a ≡ s.Assign array index value
    → statement_text a depth
    ≡ indentation depth ++ cell_text array index ++ codes " = (reg)" ++ expression_text value ++ codes ";\n"
statement-assign a array index value depth is =
    ap (λ (f : ℕ → List ℕ). f depth)
    (statement-layer (CStmt-F.Assign array index value) a (s.rolls-Assign array index value ∙ sym is))

-- a declaration
pub statement-let : (a : CStmt) (name : List ℕ) (value : CExpr) (depth : ℕ) → a ≡ s.Let name value
    → statement_text a depth
    ≡ indentation depth ++ codes "uint64_t " ++ name ++ codes " = " ++ expression_text value ++ codes ";\n"
statement-let a name value depth is =
    ap (λ (f : ℕ → List ℕ). f depth) (statement-layer (CStmt-F.Let name value) a (s.rolls-Let name value ∙ sym is))

-- the text of a statement inside a loop that stands at a depth
abbrev pub inner_text : ℕ → CStmt → List ℕ
inner_text depth statement = statement_text statement (inner_depth depth)

texts-of : (depth : ℕ) (body : List CStmt)
    → flat_map (λ (f : ℕ → List ℕ). f (inner_depth depth)) (map statement_text body) ≡ flat_map (inner_text depth) body
texts-of depth [] = refl
texts-of depth (statement ∷ body) = ap (λ (rest : List ℕ). inner_text depth statement ++ rest) (texts-of depth body)

-- a loop
pub statement-for : (a : CStmt) (counter : List ℕ) (low : CLow) (body : List CStmt) (depth : ℕ)
    → a ≡ s.For counter low body
    → statement_text a depth
    ≡ indentation depth ++ loop_text counter low ++ flat_map (inner_text depth) body ++ indentation depth ++ codes "}\n"
statement-for a counter low body depth is =
    ap (λ (f : ℕ → List ℕ). f depth)
    (statement-layer (CStmt-F.For counter low body) a (s.rolls-For counter low body ∙ sym is))
    ∙ ap (λ (inside : List ℕ). indentation depth ++ loop_text counter low ++ inside ++ indentation depth ++ codes "}\n")
    (texts-of depth body)

-- two operands in brackets, part by part
pub two_operands : (a : CExpr) (op : COp) (left right : CExpr) → a ≡ e.Two op left right
    → codes "(" ++ (expression_text left ++ ((codes " " ++ operator_text op ++ codes " ")
    ++ (expression_text right ++ codes ")")))
    ≡ expression_text a
two_operands a op left right is =
    two_is (expression_text left) (operator_text op) (expression_text right)
    ∙ sym (expression-two a op left right is)

-- a loop, part by part
pub loop_parts : (a : CStmt) (counter : List ℕ) (low : CLow) (body : List CStmt) (depth : ℕ)
    → a ≡ s.For counter low body
    → (indentation depth ++ loop_text counter low) ++ (flat_map (inner_text depth) body ++ (indentation depth
    ++ codes "}\n"))
    ≡ statement_text a depth
loop_parts a counter low body depth is =
    loop_is depth (loop_text counter low) (flat_map (inner_text depth) body)
    ∙ sym (statement-for a counter low body depth is)
