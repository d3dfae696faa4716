-- The statement of the law that the code of an expression gives the value of the expression.
use Rattle.std.specs.Prelude.{◌≡◌, ℕ, List, [], ◌∷◌, ◌++◌, length, Some, option_map}
use Rattle.usuba_trees.specs.declared.Decl.{Decl}
use Rattle.usuba_model.specs.Assignments.{cells_read}
use Rattle.usuba_model.specs.Cells.{Cell}
use Rattle.usuba_model.specs.Operations.{calls_of}
use Rattle.usuba_model.specs.Rounds.{Operators, Environment, Callees, value_of}
use Rattle.usuba_model.specs.Unrolled.{Expression, cells, number, nothing, joined, call, complement, operation, shift, refresh}
use Rattle.usuba_model.specs.Walk.{Signature, signature_of, size_of}
use Rattle.usuba_model.specs.Numbers.{cell_number, callee_number}
use Rattle.usuba_code.specs.Code.{code_of}
use Rattle.usuba_code.specs.Machine.{NumberedCallees, NumberedEnvironment, run_code}

-- what holds of each of some things
abbrev pub Each : {A : Type 0} → (A → Type 0) → List A → Type 0
Each P [] = Unit {0}
Each P (x ∷ xs) = P x × Each P xs

-- operands of an operator are equally many, an operand of a shift is one element, and arguments fit the inputs
abbrev pub HasSizes : List Signature → Expression → Type 0
HasSizes signatures (number value) = Unit {0}
HasSizes signatures (cells read) = Unit {0}
HasSizes signatures nothing = Unit {0}
HasSizes signatures (joined a b) = HasSizes signatures a × HasSizes signatures b
HasSizes signatures (call name args) =
    HasSizes signatures args × ((signature_of signatures name).inputs ≡ size_of signatures args)
HasSizes signatures (complement a) = HasSizes signatures a
HasSizes signatures (operation op a b) =
    HasSizes signatures a × HasSizes signatures b × (size_of signatures a ≡ size_of signatures b)
HasSizes signatures (shift kind amount a) = HasSizes signatures a × (size_of signatures a ≡ 1)
HasSizes signatures (refresh k a) = HasSizes signatures a

-- a numbered cell holds what the cell holds
abbrev pub HoldsSame : {V : Type 0} → List Decl → NumberedEnvironment V → Environment V → Cell → Type 0
HoldsSame declared numbered environment cell = numbered (cell_number declared cell) ≡ environment cell

-- a numbered callee answers arguments that fit its inputs as the callee of a name does
abbrev pub AnswersSame : {V : Type 0} → List Signature → NumberedCallees V → Callees V → List ℕ → Type 0
AnswersSame {V} signatures numbered callees name =
    (elements : List V) → length elements ≡ (signature_of signatures name).inputs
    → numbered (callee_number signatures name) elements ≡ callees name elements

-- the callee of a name answers arguments that fit its inputs by as many elements as it has outputs
abbrev pub AnswersAll : {V : Type 0} → List Signature → Callees V → List ℕ → Type 0
AnswersAll {V} signatures callees name =
    (elements made : List V) → length elements ≡ (signature_of signatures name).inputs
    → callees name elements ≡ Some made → length made ≡ (signature_of signatures name).outputs

-- the code of an expression adds the value of the expression to a stack, and fails where the expression has no value
abbrev pub CodeGivesValue : Type 0 → Type 0
CodeGivesValue V = (operators : Operators V) (callees : Callees V) (environment : Environment V)
    (numbered_callees : NumberedCallees V) (numbered : NumberedEnvironment V) (signatures : List Signature)
    (declared : List Decl) (e : Expression)
    → HasSizes signatures e
    → Each (HoldsSame declared numbered environment) (cells_read e)
    → Each (AnswersSame signatures numbered_callees callees) (calls_of e)
    → Each (AnswersAll signatures callees) (calls_of e)
    → (stack : List V)
    → run_code operators numbered_callees numbered (code_of signatures declared e) stack
    ≡ option_map (λ value. stack ++ value) (value_of operators callees environment e)
