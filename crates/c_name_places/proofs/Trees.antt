-- How many names expressions and statements have, form by form.
use Rattle.std.proofs.Common.{◌≡◌, ℕ, Bool, List, [], ◌∷◌, ◌++◌, map, sym, ap, ◌∙◌}
use Rattle.c_tree.specs.declared.CExpr.{CExpr, fold-roll-CExpr}
use Rattle.c_tree.specs.declared.CExpr.TheOpen.{CExpr-F}
use Rattle.c_tree.specs.declared.CExpr.TheVariants as e
use Rattle.c_tree.specs.declared.CIndex.{CIndex}
use Rattle.c_tree.specs.declared.CLow.{CLow}
use Rattle.c_tree.specs.declared.COp.{COp}
use Rattle.c_tree.specs.declared.CStmt.{CStmt, fold-roll-CStmt}
use Rattle.c_tree.specs.declared.CStmt.TheOpen.{CStmt-F}
use Rattle.c_tree.specs.declared.CStmt.TheVariants as s
use Rattle.c_names.specs.Names.{Checked, all_checked, checked, expression_level, expression_names, head_names, index_names, statement_level, with_name}
use Rattle.c_names.specs.Scope.{InScope, role_of, is_array, is_new, is_word}
use Rattle.c_names.specs.declared.scope.Role.TheVariants.{Counter}

pub cell_names : (array : List ℕ) (i : CIndex) (scope : List InScope) → expression_names (e.Cell array i) scope ≡ (is_array (role_of scope array) ∷ []) ++ index_names scope i
cell_names array i scope =
    ap (λ (f : List InScope → List Bool). f scope)
    (ap expression_names (sym (e.rolls-Cell array i)) ∙ fold-roll-CExpr (List InScope → List Bool) expression_level (CExpr-F.Cell array i))

pub word_names : (text : List ℕ) (scope : List InScope) → expression_names (e.Word text) scope ≡ is_word (role_of scope text) ∷ []
word_names text scope =
    ap (λ (f : List InScope → List Bool). f scope)
    (ap expression_names (sym (e.rolls-Word text)) ∙ fold-roll-CExpr (List InScope → List Bool) expression_level (CExpr-F.Word text))

pub number_names : (n : ℕ) (scope : List InScope) → expression_names (e.Number n) scope ≡ []
number_names n scope =
    ap (λ (f : List InScope → List Bool). f scope)
    (ap expression_names (sym (e.rolls-Number n)) ∙ fold-roll-CExpr (List InScope → List Bool) expression_level (CExpr-F.Number n))

pub random_names : (scope : List InScope) → expression_names e.Random scope ≡ []
random_names scope =
    ap (λ (f : List InScope → List Bool). f scope)
    (ap expression_names (sym e.rolls-Random) ∙ fold-roll-CExpr (List InScope → List Bool) expression_level CExpr-F.Random)

pub two_names : (op : COp) (left right : CExpr) (scope : List InScope) → expression_names (e.Two op left right) scope ≡ expression_names left scope ++ expression_names right scope
two_names op left right scope =
    ap (λ (f : List InScope → List Bool). f scope)
    (ap expression_names (sym (e.rolls-Two op left right)) ∙ fold-roll-CExpr (List InScope → List Bool) expression_level (CExpr-F.Two op left right))

pub assign_names : (array : List ℕ) (i : CIndex) (x : CExpr) (scope : List InScope)
    → (checked (s.Assign array i x) scope).names ≡ (is_array (role_of scope array) ∷ []) ++ (index_names scope i ++ expression_names x scope)
assign_names array i x scope =
    ap (λ (f : List InScope → Checked). (f scope).names)
    (ap checked (sym (s.rolls-Assign array i x)) ∙ fold-roll-CStmt (List InScope → Checked) statement_level (CStmt-F.Assign array i x))

pub let_names : (text : List ℕ) (x : CExpr) (scope : List InScope) → (checked (s.Let text x) scope).names ≡ (is_new (role_of scope text) ∷ []) ++ expression_names x scope
let_names text x scope =
    ap (λ (f : List InScope → Checked). (f scope).names)
    (ap checked (sym (s.rolls-Let text x)) ∙ fold-roll-CStmt (List InScope → Checked) statement_level (CStmt-F.Let text x))

pub loop_names : (counter : List ℕ) (low : CLow) (body : List CStmt) (scope : List InScope)
    → (checked (s.For counter low body) scope).names ≡ head_names scope counter low ++ (all_checked (map checked body) (with_name scope counter Counter)).names
loop_names counter low body scope =
    ap (λ (f : List InScope → Checked). (f scope).names)
    (ap checked (sym (s.rolls-For counter low body)) ∙ fold-roll-CStmt (List InScope → Checked) statement_level (CStmt-F.For counter low body))
