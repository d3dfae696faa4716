-- The names of an expression with two operands, and of a loop.
use Rattle.std.proofs.Common.{◌≡◌, ℕ, Bool, List, ◌++◌, map, sym, ap, ◌∙◌}
use Rattle.c_tree.specs.declared.CExpr.{CExpr, fold-roll-CExpr}
use Rattle.c_tree.specs.declared.CExpr.TheOpen.{CExpr-F}
use Rattle.c_tree.specs.declared.CExpr.TheVariants as e
use Rattle.c_tree.specs.declared.CLow.{CLow}
use Rattle.c_tree.specs.declared.COp.{COp}
use Rattle.c_tree.specs.declared.CStmt.{CStmt, fold-roll-CStmt}
use Rattle.c_tree.specs.declared.CStmt.TheOpen.{CStmt-F}
use Rattle.c_tree.specs.declared.CStmt.TheVariants as s
use Rattle.c_names.specs.Names.{Checked, expression_level, expression_names, head_names, all_checked, checked, statement_level, with_name}
use Rattle.c_names.specs.Scope.{InScope}
use Rattle.c_names.specs.declared.scope.Role.TheVariants.{Counter}

pub two_names : (op : COp) (left right : CExpr) (scope : List InScope) → expression_names (e.Two op left right) scope ≡ expression_names left scope ++ expression_names right scope
two_names op left right scope =
    ap (λ (f : List InScope → List Bool). f scope)
    (ap expression_names (sym (e.rolls-Two op left right)) ∙ fold-roll-CExpr (List InScope → List Bool) expression_level (CExpr-F.Two op left right))

pub loop_names : (counter : List ℕ) (low : CLow) (body : List CStmt) (scope : List InScope)
    → (checked (s.For counter low body) scope).names ≡ head_names scope counter low ++ (all_checked (map checked body) (with_name scope counter Counter)).names
loop_names counter low body scope =
    ap (λ (f : List InScope → Checked). (f scope).names)
    (ap checked (sym (s.rolls-For counter low body)) ∙ fold-roll-CStmt (List InScope → Checked) statement_level (CStmt-F.For counter low body))
