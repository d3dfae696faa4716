-- The meanings of expressions and statements, form by form.
use Rattle.std.proofs.Common.{◌≡◌, ℕ, ◌-◌, List, map, Some, Ok, sym, ap, ◌∙◌}
use Rattle.c_tree.specs.declared.CExpr.{CExpr, fold-roll-CExpr}
use Rattle.c_tree.specs.declared.CExpr.TheOpen.{CExpr-F}
use Rattle.c_tree.specs.declared.CExpr.TheVariants as e
use Rattle.c_tree.specs.declared.CIndex.{CIndex}
use Rattle.c_tree.specs.declared.CLow.{CLow}
use Rattle.c_tree.specs.declared.COp.{COp}
use Rattle.c_tree.specs.declared.CStmt.{CStmt, fold-roll-CStmt}
use Rattle.c_tree.specs.declared.CStmt.TheOpen.{CStmt-F}
use Rattle.c_tree.specs.declared.CStmt.TheVariants as s
use Rattle.c_machine.specs.Scope.{Binding, meant_by, row_of, word_of, index_value, low_value}
use Rattle.c_machine.specs.Machine.{Evaluation, Action, State, expression_level, statement_level, evaluated, executed, read_as, word_at, drawn, after_left, combined, operated, assigned, declared, rounds, in_turn}
use Rattle.c_machine.specs.declared.stop.Trap.TheVariants.{IndexOut, BadShift}

module _ (scope : List Binding) (memory : List (List ℕ)) where
  pub evaluated-cell : (array : List ℕ) (index : CIndex) (stream : List ℕ)
      → evaluated (e.Cell array index) scope memory stream
      ≡ read_as IndexOut stream (word_at memory (row_of (meant_by scope array)) (index_value scope index))
  evaluated-cell array index stream =
      ap (λ (v : Evaluation). v scope memory stream)
      (ap evaluated (sym (e.rolls-Cell array index)) ∙ fold-roll-CExpr Evaluation expression_level (CExpr-F.Cell array index))

  pub evaluated-word : (name : List ℕ) (stream : List ℕ)
      → evaluated (e.Word name) scope memory stream ≡ Ok (word_of (meant_by scope name), stream)
  evaluated-word name stream =
      ap (λ (v : Evaluation). v scope memory stream)
      (ap evaluated (sym (e.rolls-Word name)) ∙ fold-roll-CExpr Evaluation expression_level (CExpr-F.Word name))

  pub evaluated-number : (n : ℕ) (stream : List ℕ) → evaluated (e.Number n) scope memory stream ≡ Ok (n, stream)
  evaluated-number n stream =
      ap (λ (v : Evaluation). v scope memory stream)
      (ap evaluated (sym (e.rolls-Number n)) ∙ fold-roll-CExpr Evaluation expression_level (CExpr-F.Number n))

  pub evaluated-random : (stream : List ℕ) → evaluated e.Random scope memory stream ≡ drawn stream
  evaluated-random stream =
      ap (λ (v : Evaluation). v scope memory stream)
      (ap evaluated (sym e.rolls-Random) ∙ fold-roll-CExpr Evaluation expression_level CExpr-F.Random)

  pub evaluated-two : (op : COp) (left right : CExpr) (stream : List ℕ)
      → evaluated (e.Two op left right) scope memory stream
      ≡ after_left op (evaluated right scope memory) (evaluated left scope memory stream)
  evaluated-two op left right stream =
      ap (λ (v : Evaluation). v scope memory stream)
      (ap evaluated (sym (e.rolls-Two op left right)) ∙ fold-roll-CExpr Evaluation expression_level (CExpr-F.Two op left right))

  -- an operator whose operands are computed
  pub computed-two : (op : COp) (left right : CExpr) (a b w : ℕ) (first second third : List ℕ)
      → evaluated left scope memory first ≡ Ok (a, second) → evaluated right scope memory second ≡ Ok (b, third)
      → operated op a b ≡ Some w → evaluated (e.Two op left right) scope memory first ≡ Ok (w, third)
  computed-two op left right a b w first second third la rb is =
      evaluated-two op left right first ∙ ap (after_left op (evaluated right scope memory)) la
      ∙ ap (combined op a) rb ∙ ap (read_as BadShift third) is

  -- a word of an array
  pub computed-cell : (array : List ℕ) (index : CIndex) (r i w : ℕ) (stream : List ℕ)
      → row_of (meant_by scope array) ≡ Some r → index_value scope index ≡ i → word_at memory (Some r) i ≡ Some w
      → evaluated (e.Cell array index) scope memory stream ≡ Ok (w, stream)
  computed-cell array index r i w stream row at is =
      evaluated-cell array index stream
      ∙ ap (read_as IndexOut stream) ((λ k. word_at memory (row k) (at k)) ∙ is)

module _ (d bits : ℕ) (state : State) where
  pub executed-assign : (array : List ℕ) (index : CIndex) (value : CExpr)
      → executed d bits (s.Assign array index value) state
      ≡ assigned bits state array index (evaluated value state.scope state.memory state.stream)
  executed-assign array index value =
      ap (λ (a : Action). a state)
      (ap (executed d bits) (sym (s.rolls-Assign array index value)) ∙ fold-roll-CStmt Action (statement_level d bits) (CStmt-F.Assign array index value))

  pub executed-let : (name : List ℕ) (value : CExpr)
      → executed d bits (s.Let name value) state ≡ declared state name (evaluated value state.scope state.memory state.stream)
  executed-let name value =
      ap (λ (a : Action). a state)
      (ap (executed d bits) (sym (s.rolls-Let name value)) ∙ fold-roll-CStmt Action (statement_level d bits) (CStmt-F.Let name value))

  pub executed-for : (name : List ℕ) (low : CLow) (body : List CStmt)
      → executed d bits (s.For name low body) state
      ≡ rounds name (in_turn (map (executed d bits) body)) (d - low_value state.scope low) (low_value state.scope low) state
  executed-for name low body =
      ap (λ (a : Action). a state)
      (ap (executed d bits) (sym (s.rolls-For name low body)) ∙ fold-roll-CStmt Action (statement_level d bits) (CStmt-F.For name low body))
