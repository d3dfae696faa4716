use Rattle.std.proofs.Common.{◌≡◌, ◌-◌, Ok, length, take, map, sym, ap, ◌∙◌, subst, arith}
use Rattle.std.specs.Vec.{vec_items}
use Rattle.c_machine.specs.Machine as model
use Rattle.c_machine.specs.Scope as scope
use Rattle.c_machine.specs.State.Scopes.{scope_of}
use Rattle.c_machine.specs.State.Answers.{IsOutcome, state_of}
use Rattle.c_machine.proofs.Statements.{executed-for, rounds-next, scope_before}
use Rattle.c_machine.proofs.statement.+statements.Goals as goal

pub execute-returns-in-For : goal.execute-returns-in-For
execute-returns-in-For t c =
    let d = c.args.size.shares in
    let bits = c.args.size.bits in
    let state = state_of c.args.machine.now in
    let name = c.in-For.counter in
    let low : c.low_value-low.result ≡ scope.low_value state.scope c.in-For.low =
    c.low_value-low.ensures ∙ ap (λ ns. scope.low_value (scope_of ns) c.in-For.low) c.as_slice.ensures.value in
    let does : model.executed d bits c.args.statement.now state
    ≡ model.rounds name (model.in_turn (map (model.executed d bits) c.as_slice-in-For.result.now)) (d - c.low_value-low.result) c.low_value-low.result state =
    ap (λ s. model.executed d bits s state) c.in-For.is ∙ executed-for d bits name c.in-For.low c.in-For.body state
    ∙ ap (λ l. model.rounds name (model.in_turn (map (model.executed d bits) c.in-For.body)) (d - l) l state) (sym low)
    ∙ ap (λ b. model.rounds name (model.in_turn (map (model.executed d bits) b)) (d - c.low_value-low.result) c.low_value-low.result state) (sym c.as_slice-in-For.ensures) in
    subst (λ o. IsOutcome o c.run_rounds.result (state_of c.run_rounds.new.machine)) (sym does) c.run_rounds.ensures

pub run_round-returns : goal.run_round-returns
run_round-returns t c =
    let d = c.args.size.shares in
    let before = vec_items c.args.machine.now.names in
    let after = vec_items c.execute_all.new.machine.names in
    let body = model.in_turn (map (model.executed d c.args.size.bits) c.args.body.now) in
    let stays : take (length (scope_of before)) (scope_of after) ≡ scope_of (vec_items c.truncate.new.self) =
    scope_before before after ∙ ap scope_of (ap (λ ns. take (length ns) after) (sym c.as_slice-before.ensures.value) ∙ sym c.truncate.ensures.items) in
    ap (λ s. model.closed (length (scope_of before)) (body s)) (sym c.in_ok-enter.ensures)
    ∙ ap (model.closed (length (scope_of before))) c.in_ok-execute_all.ensures
    ∙ ap (λ sc. Ok (record { scope = sc; memory = vec_items c.execute_all.new.machine.rows; stream = c.execute_all.new.machine.stream.words.now })) stays

pub run_rounds-loop-value-preserved : goal.run_rounds-loop-value-preserved
run_rounds-loop-value-preserved t c =
    let body = model.in_turn (map (model.executed c.args.size.shares c.args.size.bits) c.args.body.now) in
    sym (rounds-next c.args.counter.now body c.args.size.shares c.loop-value.value (state_of c.loop-value.machine) (state_of c.run_round.new.machine)
    (omega arith) c.in_ok-run_round.ensures)
    ∙ c.loop-value.invariant
