-- The meaning of expressions and statements, over a memory of rows of words and a stream of random words.
use Rattle.std.specs.Prelude.{ℕ, zero, suc, ◌+◌, ◌-◌, ◌*◌, ◌/◌, ◌%◌, ◌^◌, nat_lt, if◌then◌else◌, List, [], ◌∷◌, ◌++◌, take}
use Rattle.std.specs.Prelude.{Option, None, Some, Result, Ok, Err, length, slice_get, slice_index_or, slice_set, bit_and, bit_or, bit_xor}
use Rattle.c_tree.specs.declared.CExpr.{CExpr, fold-CExpr}
use Rattle.c_tree.specs.declared.CExpr.TheOpen.{CExpr-F}
use Rattle.c_tree.specs.declared.CStmt.{CStmt, fold-CStmt}
use Rattle.c_tree.specs.declared.CStmt.TheOpen.{CStmt-F}
use Rattle.c_tree.specs.declared.CIndex.{CIndex}
use Rattle.c_tree.specs.declared.COp.{COp}
use Rattle.c_tree.specs.declared.COp.TheVariants.{Xor, And, Or, Shl, Shr, Sub}
use Rattle.c_machine.specs.Scope.{Binding, Meaning, word, counter, meant_by, row_of, word_of, index_value, low_value}
use Rattle.c_machine.specs.declared.stop.Trap.{Trap}
use Rattle.c_machine.specs.declared.stop.Trap.TheVariants.{IndexOut, BadShift, WordsShort}

-- what an expression comes to: its word and the random words that are left, or what stops the run
abbrev pub Reading : Type 0
Reading = Result (ℕ × List ℕ) Trap

-- an expression's meaning, for the names in scope, the memory and the random words that are left
abbrev pub Evaluation : Type 0
Evaluation = List Binding → List (List ℕ) → List ℕ → Reading

-- the word of an operator, over words of 64 bits; a shift by 64 or more has none
abbrev pub operated : COp → ℕ → ℕ → Option ℕ
operated Xor a b = Some (bit_xor a b)
operated And a b = Some (bit_and a b)
operated Or a b = Some (bit_or a b)
operated Shl a b = if nat_lt b 64 then Some (a * 2 ^ b % 2 ^ 64) else None
operated Shr a b = if nat_lt b 64 then Some (a / 2 ^ b) else None
operated Sub a b = Some ((a + 2 ^ 64 - b) % 2 ^ 64)

-- word i of a row, where there is such a row and it has so many words
abbrev pub word_at : List (List ℕ) → Option ℕ → ℕ → Option ℕ
word_at memory None i = None
word_at memory (Some r) i = slice_get (slice_index_or memory r []) i

-- the memory with word i of a row replaced, where there is such a word
abbrev pub with_word : List (List ℕ) → Option ℕ → ℕ → ℕ → Option (List (List ℕ))
with_word memory None i value = None
with_word memory (Some r) i value =
    if nat_lt i (length (slice_index_or memory r []))
    then Some (slice_set memory r (slice_set (slice_index_or memory r []) i value))
    else None

-- a word that there may be, else what stops the run
abbrev pub read_as : Trap → List ℕ → Option ℕ → Reading
read_as trap stream None = Err trap
read_as trap stream (Some value) = Ok (value, stream)

-- the next random word
abbrev pub drawn : List ℕ → Reading
drawn [] = Err WordsShort
drawn (value ∷ stream) = Ok (value, stream)

-- an operator on a left operand's word and a right operand's reading
abbrev pub combined : COp → ℕ → Reading → Reading
combined op a (Err trap) = Err trap
combined op a (Ok (b, stream)) = read_as BadShift stream (operated op a b)

-- the right operand is computed after the left one, from the random words that that leaves
abbrev pub after_left : COp → (List ℕ → Reading) → Reading → Reading
after_left op right (Err trap) = Err trap
after_left op right (Ok (a, stream)) = combined op a (right stream)

-- an expression, given the meanings of its operands
abbrev pub expression_level : CExpr-F Evaluation → Evaluation
expression_level (CExpr-F.Cell array index) scope memory stream =
    read_as IndexOut stream (word_at memory (row_of (meant_by scope array)) (index_value scope index))
expression_level (CExpr-F.Word name) scope memory stream = Ok (word_of (meant_by scope name), stream)
expression_level (CExpr-F.Number n) scope memory stream = Ok (n, stream)
expression_level CExpr-F.Random scope memory stream = drawn stream
expression_level (CExpr-F.Two op left right) scope memory stream =
    after_left op (right scope memory) (left scope memory stream)

-- the meaning of an expression
abbrev pub evaluated : CExpr → Evaluation
evaluated = fold-CExpr Evaluation expression_level

-- the names in scope, the memory and the random words that are left after a statement
pub record State : Type 0 where
  pub scope : List Binding
  pub memory : List (List ℕ)
  pub stream : List ℕ

-- what a statement comes to
abbrev pub Outcome : Type 0
Outcome = Result State Trap

-- a statement's meaning
abbrev pub Action : Type 0
Action = State → Outcome

-- an action after another one
abbrev pub then_do : Outcome → Action → Outcome
then_do (Ok state) action = action state
then_do (Err trap) action = Err trap

-- actions in turn
abbrev pub in_turn : List Action → Action
in_turn [] state = Ok state
in_turn (action ∷ actions) state = then_do (action state) (in_turn actions)

-- the memory with a word written, where its place is there
abbrev pub stored : State → List ℕ → Option (List (List ℕ)) → Outcome
stored state stream None = Err IndexOut
stored state stream (Some memory) = Ok (record { scope = state.scope; memory = memory; stream = stream })

-- an assignment of a word cut to the bits of `reg`: the value is computed before the index on the left is tested
abbrev pub assigned : ℕ → State → List ℕ → CIndex → Reading → Outcome
assigned bits state array index (Err trap) = Err trap
assigned bits state array index (Ok (value, stream)) =
    stored state stream
    (with_word state.memory (row_of (meant_by state.scope array)) (index_value state.scope index) (value % 2 ^ bits))

-- a name comes into scope
abbrev pub entered : State → List ℕ → Meaning → State
entered state name meaning = record {
  scope = state.scope ++ record { name = name; meaning = meaning } ∷ [];
  memory = state.memory;
  stream = state.stream;
}

-- a word is declared
abbrev pub declared : State → List ℕ → Reading → Outcome
declared state name (Err trap) = Err trap
declared state name (Ok (value, stream)) =
    Ok (entered (record { scope = state.scope; memory = state.memory; stream = stream }) name (word value))

-- what was declared between braces is no longer in scope after them: only the names that were in scope before stay
abbrev pub closed : ℕ → Outcome → Outcome
closed before (Err trap) = Err trap
closed before (Ok state) = Ok (record { scope = take before state.scope; memory = state.memory; stream = state.stream })

-- so many rounds of a loop, from this counter value on
abbrev pub rounds : List ℕ → Action → ℕ → ℕ → Action
rounds name body zero value state = Ok state
rounds name body (suc count) value state =
    then_do
    (closed (length state.scope) (body (entered state name (counter value))))
    (rounds name body count (suc value))

-- a statement on d shares of `reg`s of these bits, given the meanings of the statements inside it
abbrev pub statement_level : ℕ → ℕ → CStmt-F Action → Action
statement_level d bits (CStmt-F.Assign array index value) state =
    assigned bits state array index (evaluated value state.scope state.memory state.stream)
statement_level d bits (CStmt-F.Let name value) state =
    declared state name (evaluated value state.scope state.memory state.stream)
statement_level d bits (CStmt-F.For name low body) state =
    rounds name (in_turn body) (d - low_value state.scope low) (low_value state.scope low) state

-- the meaning of a statement
abbrev pub executed : ℕ → ℕ → CStmt → Action
executed d bits = fold-CStmt Action (statement_level d bits)
