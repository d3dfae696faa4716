-- The names of a file in text order: for each whether it is right where it stands.
use Rattle.std.specs.Prelude.{ℕ, Bool, true, false, not, if◌then◌else◌, List, [], ◌∷◌}
use Rattle.std.specs.Prelude.{◌++◌, map, take, length, Option, None, Some, bytes_eq, find, is_some}
use Rattle.c_tree.specs.declared.CArg.{CArg}
use Rattle.c_tree.specs.declared.CArg.TheVariants as argument
use Rattle.c_tree.specs.declared.CCall.{CCall}
use Rattle.c_tree.specs.declared.CExpr.{CExpr, fold-CExpr}
use Rattle.c_tree.specs.declared.CExpr.TheOpen.{CExpr-F}
use Rattle.c_tree.specs.declared.CFile.{CFile}
use Rattle.c_tree.specs.declared.CFun.{CFun}
use Rattle.c_tree.specs.declared.CIndex.{CIndex}
use Rattle.c_tree.specs.declared.CIndex.TheVariants as c_index
use Rattle.c_tree.specs.declared.CLow.{CLow}
use Rattle.c_tree.specs.declared.CLow.TheVariants as c_low
use Rattle.c_tree.specs.declared.CParam.{CParam}
use Rattle.c_tree.specs.declared.CParam.TheVariants as parameter
use Rattle.c_tree.specs.declared.CStmt.{CStmt, fold-CStmt}
use Rattle.c_tree.specs.declared.CStmt.TheOpen.{CStmt-F}
use Rattle.c_names.specs.Scope.{InScope, role_of, is_array, is_word, is_counter, is_new}
use Rattle.c_names.specs.declared.scope.Role.{Role}
use Rattle.c_names.specs.declared.scope.Role.TheVariants.{Array, Word, Counter}
use Rattle.tor_edge.specs.declared.place.Place.{Place}

-- a name in an index is a counter in scope
abbrev pub index_names : List InScope → CIndex → List Bool
index_names scope (c_index.Number n) = []
index_names scope (c_index.Counter name) = is_counter (role_of scope name) ∷ []

-- a name in the start of a loop is a counter in scope
abbrev pub low_names : List InScope → CLow → List Bool
low_names scope (c_low.Number n) = []
low_names scope (c_low.After name) = is_counter (role_of scope name) ∷ []

-- the names of an expression, given those of its operands: an array before its index, a word that stands alone
abbrev pub expression_level : CExpr-F (List InScope → List Bool) → List InScope → List Bool
expression_level (CExpr-F.Cell array index) scope = (is_array (role_of scope array) ∷ []) ++ index_names scope index
expression_level (CExpr-F.Word name) scope = is_word (role_of scope name) ∷ []
expression_level (CExpr-F.Number n) scope = []
expression_level CExpr-F.Random scope = []
expression_level (CExpr-F.Two op left right) scope = left scope ++ right scope

-- the names of an expression
abbrev pub expression_names : CExpr → List InScope → List Bool
expression_names = fold-CExpr (List InScope → List Bool) expression_level

-- the names of a statement, and the names in scope after it
pub record Checked : Type 0 where
  pub names : List Bool
  pub scope : List InScope

-- statements in turn
abbrev pub all_checked : List (List InScope → Checked) → List InScope → Checked
all_checked [] scope = record { names = []; scope = scope }
all_checked (first ∷ others) scope = record {
  names = (first scope).names ++ (all_checked others (first scope).scope).names;
  scope = (all_checked others (first scope).scope).scope;
}

-- the scope with one more name
abbrev pub with_name : List InScope → List ℕ → Role → List InScope
with_name scope name role = scope ++ record { name = name; role = role } ∷ []

-- the names at the head of a loop: its counter, which is declared there; its start; and its counter twice more
abbrev pub head_names : List InScope → List ℕ → CLow → List Bool
head_names scope counter low = (is_new (role_of scope counter) ∷ []) ++ (low_names scope low ++ (true ∷ true ∷ []))

-- a statement, given those inside it. A word is in scope from the end of its statement to the end of the braces in
-- which that stands, and a counter between the braces of its loop
abbrev pub statement_level : CStmt-F (List InScope → Checked) → List InScope → Checked
statement_level (CStmt-F.Assign array index value) scope = record {
  names = (is_array (role_of scope array) ∷ []) ++ (index_names scope index ++ expression_names value scope);
  scope = scope;
}
statement_level (CStmt-F.Let name value) scope = record {
  names = (is_new (role_of scope name) ∷ []) ++ expression_names value scope;
  scope = with_name scope name Word;
}
statement_level (CStmt-F.For counter low body) scope = record {
  names = head_names scope counter low ++ (all_checked body (with_name scope counter Counter)).names;
  scope = take (length scope) (all_checked body (with_name scope counter Counter)).scope;
}

-- a statement
abbrev pub checked : CStmt → List InScope → Checked
checked = fold-CStmt (List InScope → Checked) statement_level

-- a parameter, which is in scope from its declaration on
abbrev pub parameter_checked : CParam → List InScope → Checked
parameter_checked (parameter.Array name) scope =
    record { names = is_new (role_of scope name) ∷ []; scope = with_name scope name Array }
parameter_checked (parameter.Word name) scope =
    record { names = is_new (role_of scope name) ∷ []; scope = with_name scope name Word }

-- the first gadget with this name
abbrev pub gadget_called : List CFun → List ℕ → Option CFun
gadget_called gadgets name = find (λ gadget. bytes_eq gadget.name name) gadgets

-- the names of a gadget's parameters and of its body
abbrev pub inner_names : CFun → List Bool
inner_names gadget =
    (all_checked (map parameter_checked gadget.params) []).names
    ++ (all_checked (map checked gadget.body) (all_checked (map parameter_checked gadget.params) []).scope).names

-- the names of a gadget, where these stand before it: its own is none of theirs
abbrev pub gadget_names : List CFun → CFun → List Bool
gadget_names earlier gadget = (not (is_some (gadget_called earlier gadget.name)) ∷ []) ++ inner_names gadget

-- the names of gadgets, where these stand before them
abbrev pub gadgets_names : List CFun → List CFun → List Bool
gadgets_names earlier [] = []
gadgets_names earlier (gadget ∷ gadgets) =
    gadget_names earlier gadget ++ gadgets_names (earlier ++ gadget ∷ []) gadgets

-- a parameter takes an argument: an array a row of `out`, `in` or `v`, and a word a number
abbrev pub takes : CParam → CArg → Bool
takes (parameter.Array name) (argument.Out k) = true
takes (parameter.Array name) (argument.Input k) = true
takes (parameter.Array name) (argument.Slot k) = true
takes (parameter.Array name) (argument.Number n) = false
takes (parameter.Word name) (argument.Out k) = false
takes (parameter.Word name) (argument.Input k) = false
takes (parameter.Word name) (argument.Slot k) = false
takes (parameter.Word name) (argument.Number n) = true

-- the arguments are as many as the parameters, and each is taken
abbrev pub take_all : List CParam → List CArg → Bool
take_all [] [] = true
take_all [] (a ∷ arguments) = false
take_all (p ∷ parameters) [] = false
take_all (p ∷ parameters) (a ∷ arguments) = if takes p a then take_all parameters arguments else false

-- a call names a gadget, and its arguments fit
abbrev pub call_fits : Option CFun → List CArg → Bool
call_fits None arguments = false
call_fits (Some gadget) arguments = take_all gadget.params arguments

-- the name of a call is right: it is that of a gadget, and the arguments fit
abbrev pub call_is_right : List CFun → CCall → Bool
call_is_right gadgets call = call_fits (gadget_called gadgets call.gadget) call.args

-- the names of a file
abbrev pub names_of : CFile → List Bool
names_of file = gadgets_names [] file.gadgets ++ map (call_is_right file.gadgets) file.calls

-- the place of the first name that is not right, where the names of a file stand at these places
abbrev pub first_bad : List Bool → List Place → Option Place
first_bad [] places = None
first_bad (right ∷ names) [] = None
first_bad (right ∷ names) (place ∷ places) = if right then first_bad names places else Some place
