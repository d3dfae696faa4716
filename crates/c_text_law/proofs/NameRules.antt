-- Where each name of an expression, a statement or a gadget is right, rule by rule.
use Rattle.std.proofs.Common.{◌≡◌, ℕ, Bool, true, List, [], ◌∷◌, ◌++◌, ◌&&◌, refl, sym, ap, subst, map, take, length}
use Rattle.std.proofs.Common.{◌∙◌}
use Rattle.std.specs.Prelude.{not, is_some}
use Rattle.std.specs.List.{list_all}
use Rattle.std.proofs.lemmas.List.Folds.{list_all-append}
use Rattle.c_tree.specs.declared.CExpr.{CExpr}
use Rattle.c_tree.specs.declared.CExpr.TheVariants as e
use Rattle.c_tree.specs.declared.CFun.{CFun}
use Rattle.c_tree.specs.declared.CIndex.{CIndex}
use Rattle.c_tree.specs.declared.CLow.{CLow}
use Rattle.c_tree.specs.declared.COp.{COp}
use Rattle.c_tree.specs.declared.CParam.{CParam}
use Rattle.c_tree.specs.declared.CStmt.TheVariants as s
use Rattle.c_tree.specs.declared.CStmt.{CStmt, fold-roll-CStmt}
use Rattle.c_tree.specs.declared.CStmt.TheOpen.{CStmt-F}
use Rattle.c_names.specs.Names.{Checked, all_checked, checked, expression_names, gadget_called, gadget_names}
use Rattle.c_names.specs.Names.{gadgets_names, head_names, index_names, inner_names, low_names, parameter_checked}
use Rattle.c_names.specs.Names.{statement_level, with_name}
use Rattle.c_names.specs.Scope.{InScope, role_of, is_array, is_new, is_word}
use Rattle.c_names.specs.declared.scope.Role.TheVariants.{Counter, Word}
use Rattle.c_name_places.proofs.Trees.{assign_names, cell_names, let_names, loop_names, number_names, random_names}
use Rattle.c_name_places.proofs.Trees.{two_names, word_names}

-- each of these names is right
abbrev pub AreRight : List Bool → Type 0
AreRight names = list_all (λ right. right) names ≡ true

-- a right name before right ones
pub more_right : (name : Bool) (names : List Bool) → name ≡ true → AreRight names → AreRight (name ∷ names)
more_right name names first others =
    subst (λ (b : Bool). (b && list_all (λ right. right) names) ≡ true) (sym first) others

-- right names before right ones
pub all_right : (names others : List Bool) → AreRight names → AreRight others → AreRight (names ++ others)
all_right names others first second =
    list_all-append (λ right. right) names others
    ∙ subst (λ (b : Bool). (b && list_all (λ right. right) others) ≡ true) (sym first) second

same_right : (names others : List Bool) → names ≡ others → AreRight others → AreRight names
same_right names others same right = ap (list_all (λ right. right)) same ∙ right

-- each name of an expression is right in this scope
pub record ExRight (value : CExpr) (scope : List InScope) : Type 0 where
  pub names : AreRight (expression_names value scope)

-- an element of an array
pub cell_right : (array : List ℕ) (i : CIndex) (scope : List InScope) → is_array (role_of scope array) ≡ true
    → AreRight (index_names scope i) → ExRight (e.Cell array i) scope
cell_right array i scope is names = record {
  names = same_right _ _ (cell_names array i scope)
      (more_right (is_array (role_of scope array)) (index_names scope i) is names);
}

-- a word that stands alone
pub word_right : (name : List ℕ) (scope : List InScope) → is_word (role_of scope name) ≡ true
    → ExRight (e.Word name) scope
word_right name scope is = record {
  names = same_right _ _ (word_names name scope) (more_right (is_word (role_of scope name)) [] is refl);
}

-- a number has no names
pub number_right : (n : ℕ) (scope : List InScope) → ExRight (e.Number n) scope
number_right n scope = record { names = same_right _ _ (number_names n scope) refl }

-- nor has a draw
pub random_right : (scope : List InScope) → ExRight e.Random scope
random_right scope = record { names = same_right _ _ (random_names scope) refl }

-- two operands
pub two_right : (op : COp) (left right : CExpr) (scope : List InScope) → ExRight left scope → ExRight right scope
    → ExRight (e.Two op left right) scope
two_right op left right scope first second = record {
  names = same_right _ _ (two_names op left right scope)
      (all_right (expression_names left scope) (expression_names right scope) first.names second.names);
}

-- each name of a statement is right in this scope, and these names are in scope behind it
pub record StmtRight (statement : CStmt) (before after : List InScope) : Type 0 where
  pub names : AreRight (checked statement before).names
  pub scope : (checked statement before).scope ≡ after

-- the same of statements in turn
pub record StmtsRight (statements : List CStmt) (before after : List InScope) : Type 0 where
  pub names : AreRight (all_checked (map checked statements) before).names
  pub scope : (all_checked (map checked statements) before).scope ≡ after

-- an assignment leaves the scope as it is
pub assign_right : (array : List ℕ) (i : CIndex) (value : CExpr) (scope : List InScope)
    → is_array (role_of scope array) ≡ true → AreRight (index_names scope i) → ExRight value scope
    → StmtRight (s.Assign array i value) scope scope
assign_right array i value scope is names right = record {
  names = same_right _ _ (assign_names array i value scope)
      (more_right (is_array (role_of scope array)) (index_names scope i ++ expression_names value scope) is
      (all_right (index_names scope i) (expression_names value scope) names right.names));
  scope = ap (λ (f : List InScope → Checked). (f scope).scope)
      (ap checked (sym (s.rolls-Assign array i value))
      ∙ fold-roll-CStmt (List InScope → Checked) statement_level (CStmt-F.Assign array i value));
}

-- a declared word comes into scope
pub let_right : (name : List ℕ) (value : CExpr) (scope : List InScope) → is_new (role_of scope name) ≡ true
    → ExRight value scope → StmtRight (s.Let name value) scope (with_name scope name Word)
let_right name value scope new right = record {
  names = same_right _ _ (let_names name value scope)
      (more_right (is_new (role_of scope name)) (expression_names value scope) new right.names);
  scope = ap (λ (f : List InScope → Checked). (f scope).scope)
      (ap checked (sym (s.rolls-Let name value))
      ∙ fold-roll-CStmt (List InScope → Checked) statement_level (CStmt-F.Let name value));
}

-- a loop leaves the scope as it is, whatever its body declares
pub for_right : (counter : List ℕ) (low : CLow) (body : List CStmt) (scope after : List InScope)
    → is_new (role_of scope counter) ≡ true → AreRight (low_names scope low)
    → StmtsRight body (with_name scope counter Counter) after → take (length scope) after ≡ scope
    → StmtRight (s.For counter low body) scope scope
for_right counter low body scope after new start inner back = record {
  names = same_right _ _ (loop_names counter low body scope)
      (all_right (head_names scope counter low) _
      (more_right (is_new (role_of scope counter)) (low_names scope low ++ (true ∷ true ∷ [])) new
      (all_right (low_names scope low) (true ∷ true ∷ []) start refl))
      inner.names);
  scope = ap (λ (f : List InScope → Checked). (f scope).scope)
      (ap checked (sym (s.rolls-For counter low body))
      ∙ fold-roll-CStmt (List InScope → Checked) statement_level (CStmt-F.For counter low body))
      ∙ ap (take (length scope)) inner.scope ∙ back;
}

-- no statement
pub no_stmt_right : (scope : List InScope) → StmtsRight [] scope scope
no_stmt_right scope = record { names = refl; scope = refl }

-- a statement before others
pub next_stmt_right : (first : CStmt) (others : List CStmt) (scope middle after : List InScope)
    → StmtRight first scope middle → StmtsRight others middle after → StmtsRight (first ∷ others) scope after
next_stmt_right first others scope middle after x y =
    let behind : StmtsRight others (checked first scope).scope after
    = subst (λ (known : List InScope). StmtsRight others known after) (sym x.scope) y in
    record {
      names = all_right (checked first scope).names _ x.names behind.names;
      scope = behind.scope;
    }

-- the parameters of a gadget as they are looked at
abbrev pub entered : List CParam → Checked
entered parameters = all_checked (map parameter_checked parameters) []

-- each name inside a gadget is right
pub record GadgetRight (gadget : CFun) : Type 0 where
  pub names : AreRight (inner_names gadget)

-- a gadget, by its parameters and its body
pub gadget_right : (name : List ℕ) (parameters : List CParam) (body : List CStmt) (after : List InScope)
    → AreRight (entered parameters).names → StmtsRight body (entered parameters).scope after
    → GadgetRight (record { name = name; params = parameters; body = body })
gadget_right name parameters body after first inner =
    record { names = all_right (entered parameters).names _ first inner.names }

-- each name of gadgets is right behind these
pub record GadgetsRight (earlier gadgets : List CFun) : Type 0 where
  pub names : AreRight (gadgets_names earlier gadgets)

-- no gadget
pub no_gadget_right : (earlier : List CFun) → GadgetsRight earlier []
no_gadget_right earlier = record { names = refl }

-- a gadget with a name of its own before others
pub next_gadget_right : (earlier : List CFun) (gadget : CFun) (gadgets : List CFun)
    → not (is_some (gadget_called earlier gadget.name)) ≡ true → GadgetRight gadget
    → GadgetsRight (earlier ++ gadget ∷ []) gadgets → GadgetsRight earlier (gadget ∷ gadgets)
next_gadget_right earlier gadget gadgets new inner others = record {
  names = all_right (gadget_names earlier gadget) _
      (more_right (not (is_some (gadget_called earlier gadget.name))) (inner_names gadget) new inner.names)
      others.names;
}
