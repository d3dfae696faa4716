-- What a run does with more random words: the same, unless the words are too few.
use Rattle.std.proofs.Common.{◌≡◌, ℕ, zero, suc, List, [], ◌∷◌, ◌++◌, map, Option, None, Some, Ok, Err, refl, sym, ap, subst}
use Rattle.c_tree.specs.declared.CExpr.{CExpr, ind-CExpr, roll-CExpr, map-CExpr}
use Rattle.c_tree.specs.declared.CExpr.TheOpen.{CExpr-F}
use Rattle.c_tree.specs.declared.CExpr.TheVariants as e
use Rattle.c_tree.specs.declared.CIndex.{CIndex}
use Rattle.c_tree.specs.declared.COp.{COp}
use Rattle.c_tree.specs.declared.CStmt.{CStmt, ind-CStmt, roll-CStmt, map-CStmt}
use Rattle.c_tree.specs.declared.CStmt.TheOpen.{CStmt-F}
use Rattle.c_tree.specs.declared.CStmt.TheVariants as s
use Rattle.c_machine.specs.Scope.{Binding, counter, meant_by, row_of, index_value}
use Rattle.c_machine.specs.Machine.{Reading, State, Outcome, Action, evaluated, executed, read_as, word_at, drawn, operated, after_left, combined, stored, assigned, declared, entered, closed, then_do, in_turn, rounds}
use Rattle.c_machine.specs.declared.stop.Trap.{Trap}
use Rattle.c_machine.specs.declared.stop.Trap.TheVariants.{IndexOut, BadShift, WordsShort}
use Rattle.masked_machine.proofs.Reading.{evaluated-cell, evaluated-word, evaluated-number, evaluated-random, evaluated-two, executed-assign, executed-let, executed-for}

-- a reading with more words: the same, with more words left, unless they were too few
abbrev pub Agrees : List ℕ → Reading → Reading → Type 0
Agrees more (Ok (value, rest)) longer = longer ≡ Ok (value, rest ++ more)
Agrees more (Err IndexOut) longer = longer ≡ Err IndexOut
Agrees more (Err BadShift) longer = longer ≡ Err BadShift
Agrees more (Err WordsShort) longer = Unit {0}

-- a state with more words
abbrev pub with_more : List ℕ → State → State
with_more more state = record { scope = state.scope; memory = state.memory; stream = state.stream ++ more }

-- an outcome with more words
abbrev pub AgreesOutcome : List ℕ → Outcome → Outcome → Type 0
AgreesOutcome more (Ok state) longer = longer ≡ Ok (with_more more state)
AgreesOutcome more (Err IndexOut) longer = longer ≡ Err IndexOut
AgreesOutcome more (Err BadShift) longer = longer ≡ Err BadShift
AgreesOutcome more (Err WordsShort) longer = Unit {0}

module _ (more : List ℕ) where
  stops : (trap : Trap) → Agrees more (Err trap) (Err trap)
  stops IndexOut = refl
  stops BadShift = refl
  stops WordsShort = tt

  read_agrees : (trap : Trap) (stream : List ℕ) (read : Option ℕ) → Agrees more (read_as trap stream read) (read_as trap (stream ++ more) read)
  read_agrees trap stream None = stops trap
  read_agrees trap stream (Some value) = refl

  drawn_agrees : (stream : List ℕ) → Agrees more (drawn stream) (drawn (stream ++ more))
  drawn_agrees [] = tt
  drawn_agrees (value ∷ stream) = refl

  combined_agrees : (op : COp) (a : ℕ) (r longer : Reading) → Agrees more r longer → Agrees more (combined op a r) (combined op a longer)
  combined_agrees op a (Ok (b, stream)) longer is =
      subst (λ l. Agrees more (combined op a (Ok (b, stream))) (combined op a l)) (sym is) (read_agrees BadShift stream (operated op a b))
  combined_agrees op a (Err IndexOut) longer is = ap (combined op a) is
  combined_agrees op a (Err BadShift) longer is = ap (combined op a) is
  combined_agrees op a (Err WordsShort) longer is = tt

  left_agrees : (op : COp) (right : List ℕ → Reading) → ((stream : List ℕ) → Agrees more (right stream) (right (stream ++ more)))
      → (r longer : Reading) → Agrees more r longer → Agrees more (after_left op right r) (after_left op right longer)
  left_agrees op right all (Ok (a, stream)) longer is =
      subst (λ l. Agrees more (combined op a (right stream)) (after_left op right l)) (sym is)
      (combined_agrees op a (right stream) (right (stream ++ more)) (all stream))
  left_agrees op right all (Err IndexOut) longer is = ap (after_left op right) is
  left_agrees op right all (Err BadShift) longer is = ap (after_left op right) is
  left_agrees op right all (Err WordsShort) longer is = tt

  -- an expression agrees with itself
  abbrev ExpressionAgrees : CExpr → Type 0
  ExpressionAgrees a = (scope : List Binding) (memory : List (List ℕ)) (stream : List ℕ)
      → Agrees more (evaluated a scope memory stream) (evaluated a scope memory (stream ++ more))

  abbrev Tree : Type 0
  Tree = (a : CExpr) × ExpressionAgrees a

  two_ways : (r longer r' longer' : Reading) → r ≡ r' → longer ≡ longer' → Agrees more r' longer' → Agrees more r longer
  two_ways r longer r' longer' p q it = subst (λ x. Agrees more x longer) (sym p) (subst (λ x. Agrees more r' x) (sym q) it)

  expression_at : (y : CExpr-F Tree) → ExpressionAgrees (roll-CExpr (map-CExpr Tree CExpr (λ t. t.0) y))
  expression_at (CExpr-F.Cell array index) =
      subst ExpressionAgrees (sym (e.rolls-Cell array index))
      (λ scope memory stream. two_ways _ _ _ _ (evaluated-cell scope memory array index stream) (evaluated-cell scope memory array index (stream ++ more))
      (read_agrees IndexOut stream (word_at memory (row_of (meant_by scope array)) (index_value scope index))))
  expression_at (CExpr-F.Word name) =
      subst ExpressionAgrees (sym (e.rolls-Word name))
      (λ scope memory stream. two_ways _ _ _ _ (evaluated-word scope memory name stream) (evaluated-word scope memory name (stream ++ more)) refl)
  expression_at (CExpr-F.Number n) =
      subst ExpressionAgrees (sym (e.rolls-Number n))
      (λ scope memory stream. two_ways _ _ _ _ (evaluated-number scope memory n stream) (evaluated-number scope memory n (stream ++ more)) refl)
  expression_at CExpr-F.Random =
      subst ExpressionAgrees (sym e.rolls-Random)
      (λ scope memory stream. two_ways _ _ _ _ (evaluated-random scope memory stream) (evaluated-random scope memory (stream ++ more)) (drawn_agrees stream))
  expression_at (CExpr-F.Two op l r) =
      subst ExpressionAgrees (sym (e.rolls-Two op l.0 r.0))
      (λ scope memory stream. two_ways _ _ _ _ (evaluated-two scope memory op l.0 r.0 stream) (evaluated-two scope memory op l.0 r.0 (stream ++ more))
      (left_agrees op (evaluated r.0 scope memory) (r.1 scope memory) (evaluated l.0 scope memory stream) (evaluated l.0 scope memory (stream ++ more)) (l.1 scope memory stream)))

  pub expression_agrees : (a : CExpr) → ExpressionAgrees a
  expression_agrees a = ind-CExpr ExpressionAgrees (λ x y is. subst (λ layer. ExpressionAgrees (roll-CExpr layer)) is (expression_at y)) a

  -- an action agrees with itself
  abbrev pub ActionAgrees : Action → Type 0
  ActionAgrees action = (state : State) → AgreesOutcome more (action state) (action (with_more more state))

  stops_outcome : (trap : Trap) → AgreesOutcome more (Err trap) (Err trap)
  stops_outcome IndexOut = refl
  stops_outcome BadShift = refl
  stops_outcome WordsShort = tt

  stored_agrees : (state : State) (stream : List ℕ) (memory : Option (List (List ℕ)))
      → AgreesOutcome more (stored state stream memory) (stored (with_more more state) (stream ++ more) memory)
  stored_agrees state stream None = refl
  stored_agrees state stream (Some memory) = refl

  assigned_agrees : (bits : ℕ) (state : State) (array : List ℕ) (index : CIndex) (r longer : Reading) → Agrees more r longer
      → AgreesOutcome more (assigned bits state array index r) (assigned bits (with_more more state) array index longer)
  assigned_agrees bits state array index (Ok (value, stream)) longer is =
      subst (λ l. AgreesOutcome more (assigned bits state array index (Ok (value, stream))) (assigned bits (with_more more state) array index l)) (sym is)
      (stored_agrees state stream _)
  assigned_agrees bits state array index (Err IndexOut) longer is = ap (assigned bits (with_more more state) array index) is
  assigned_agrees bits state array index (Err BadShift) longer is = ap (assigned bits (with_more more state) array index) is
  assigned_agrees bits state array index (Err WordsShort) longer is = tt

  declared_agrees : (state : State) (name : List ℕ) (r longer : Reading) → Agrees more r longer
      → AgreesOutcome more (declared state name r) (declared (with_more more state) name longer)
  declared_agrees state name (Ok (value, stream)) longer is = ap (declared (with_more more state) name) is
  declared_agrees state name (Err IndexOut) longer is = ap (declared (with_more more state) name) is
  declared_agrees state name (Err BadShift) longer is = ap (declared (with_more more state) name) is
  declared_agrees state name (Err WordsShort) longer is = tt

  then_agrees : (action : Action) → ActionAgrees action → (o longer : Outcome) → AgreesOutcome more o longer
      → AgreesOutcome more (then_do o action) (then_do longer action)
  then_agrees action all (Ok state) longer is =
      subst (λ l. AgreesOutcome more (action state) (then_do l action)) (sym is) (all state)
  then_agrees action all (Err IndexOut) longer is = ap (λ o. then_do o action) is
  then_agrees action all (Err BadShift) longer is = ap (λ o. then_do o action) is
  then_agrees action all (Err WordsShort) longer is = tt

  closed_agrees : (n : ℕ) (o longer : Outcome) → AgreesOutcome more o longer → AgreesOutcome more (closed n o) (closed n longer)
  closed_agrees n (Ok state) longer is = ap (closed n) is
  closed_agrees n (Err IndexOut) longer is = ap (closed n) is
  closed_agrees n (Err BadShift) longer is = ap (closed n) is
  closed_agrees n (Err WordsShort) longer is = tt

  rounds_agree : (name : List ℕ) (body : Action) → ActionAgrees body → (count value : ℕ) → ActionAgrees (rounds name body count value)
  rounds_agree name body all zero value state = refl
  rounds_agree name body all (suc count) value state =
      then_agrees (rounds name body count (suc value)) (rounds_agree name body all count (suc value)) _ _
      (closed_agrees _ _ _ (all (entered state name (counter value))))

  two_outcomes : (o longer o' longer' : Outcome) → o ≡ o' → longer ≡ longer' → AgreesOutcome more o' longer' → AgreesOutcome more o longer
  two_outcomes o longer o' longer' p q it = subst (λ x. AgreesOutcome more x longer) (sym p) (subst (λ x. AgreesOutcome more o' x) (sym q) it)

  module _ (d bits : ℕ) where
    abbrev StatementAgrees : CStmt → Type 0
    StatementAgrees a = ActionAgrees (executed d bits a)

    abbrev StatementTree : Type 0
    StatementTree = (a : CStmt) × StatementAgrees a

    trees_agree : (ts : List StatementTree) → ActionAgrees (in_turn (map (executed d bits) (map (λ t. t.0) ts)))
    trees_agree [] state = refl
    trees_agree (t ∷ ts) state = then_agrees (in_turn (map (executed d bits) (map (λ t. t.0) ts))) (trees_agree ts) _ _ (t.1 state)

    statement_at : (y : CStmt-F StatementTree) → StatementAgrees (roll-CStmt (map-CStmt StatementTree CStmt (λ t. t.0) y))
    statement_at (CStmt-F.Assign array index value) =
        subst StatementAgrees (sym (s.rolls-Assign array index value))
        (λ state. two_outcomes _ _ _ _ (executed-assign d bits state array index value) (executed-assign d bits (with_more more state) array index value)
        (assigned_agrees bits state array index _ _ (expression_agrees value state.scope state.memory state.stream)))
    statement_at (CStmt-F.Let name value) =
        subst StatementAgrees (sym (s.rolls-Let name value))
        (λ state. two_outcomes _ _ _ _ (executed-let d bits state name value) (executed-let d bits (with_more more state) name value)
        (declared_agrees state name _ _ (expression_agrees value state.scope state.memory state.stream)))
    statement_at (CStmt-F.For name low body) =
        subst StatementAgrees (sym (s.rolls-For name low (map (λ t. t.0) body)))
        (λ state. two_outcomes _ _ _ _ (executed-for d bits state name low (map (λ t. t.0) body)) (executed-for d bits (with_more more state) name low (map (λ t. t.0) body))
        (rounds_agree name (in_turn (map (executed d bits) (map (λ t. t.0) body))) (trees_agree body) _ _ state))

    pub statement_agrees : (a : CStmt) → StatementAgrees a
    statement_agrees a = ind-CStmt StatementAgrees (λ x y is. subst (λ layer. StatementAgrees (roll-CStmt layer)) is (statement_at y)) a

    -- statements in turn agree with themselves
    pub statements_agree : (statements : List CStmt) → ActionAgrees (in_turn (map (executed d bits) statements))
    statements_agree [] state = refl
    statements_agree (a ∷ statements) state =
        then_agrees (in_turn (map (executed d bits) statements)) (statements_agree statements) _ _ (statement_agrees a state)
