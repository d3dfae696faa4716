-- The meaning of a loop, and of rounds.
use Rattle.std.proofs.Common.{◌≡◌, ℕ, suc, ◌+◌, ◌-◌, ◌<◌, List, map, take, length, Ok, sym, ap, ◌∙◌, arith}
use Rattle.std.proofs.lemmas.List.{take-map, length-map}
use Rattle.c_tree.specs.declared.CLow.{CLow}
use Rattle.c_tree.specs.declared.CStmt.{CStmt, fold-roll-CStmt}
use Rattle.c_tree.specs.declared.CStmt.TheOpen.{CStmt-F}
use Rattle.c_tree.specs.declared.CStmt.TheVariants as s
use Rattle.c_machine.specs.Scope.{low_value}
use Rattle.c_machine.specs.Machine.{State, Action, in_turn, then_do, closed, entered, rounds, statement_level, executed}
use Rattle.c_machine.specs.Scope.{counter}
use Rattle.c_machine.specs.State.Scopes.{binding_of, scope_of}
use Rattle.c_machine.specs.declared.scope.Named.{Named}

-- a loop does its rounds from where it begins
pub executed-for : (d bits : ℕ) (name : List ℕ) (low : CLow) (body : List CStmt) (state : State)
    → executed d bits (s.For name low body) state
    ≡ rounds name (in_turn (map (executed d bits) body)) (d - low_value state.scope low) (low_value state.scope low) state
executed-for d bits name low body state =
    ap (λ (a : Action). a state)
    (ap (executed d bits) (sym (s.rolls-For name low body)) ∙ fold-roll-CStmt Action (statement_level d bits) (CStmt-F.For name low body))

-- one round, then the others
pub rounds-next : (name : List ℕ) (body : Action) (d value : ℕ) (state next : State) → value < d
    → closed (length state.scope) (body (entered state name (counter value))) ≡ Ok next
    → rounds name body (d - value) value state ≡ rounds name body (d - (value + 1)) (value + 1) next
rounds-next name body d value state next below done =
    let count : d - value ≡ suc (d - (value + 1)) = omega (arith, below) in
    ap (λ n. rounds name body n value state) count ∙ ap (λ o. then_do o (rounds name body (d - (value + 1)) (suc value))) done
    ∙ ap (λ v. rounds name body (d - (value + 1)) v next) (omega arith)

-- the names that were in scope before are the first ones
pub scope_before : (before : List Named) (names : List Named) → take (length (scope_of before)) (scope_of names) ≡ scope_of (take (length before) names)
scope_before before names = ap (λ n. take n (scope_of names)) (length-map before binding_of) ∙ take-map binding_of (length before) names
