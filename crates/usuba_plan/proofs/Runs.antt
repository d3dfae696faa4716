-- Code that is run, one operation after another.
use Rattle.std.proofs.Common.{◌≡◌, ℕ, zero, suc, ◌+◌, ◌-◌, ◌<◌, ◌≤◌, List, [], ◌∷◌, ◌++◌, length, take, drop, get_or, Option, Some, refl, sym, ap, ◌∙◌, subst, arith}
use Rattle.std.specs.Prelude.{option_map, option_and_then, IsSome}
use mathlib.Core.Path.{fun_ext}
use Rattle.std.proofs.lemmas.List.{length-map, length-drop, at_drop_more, at_drop_all, take_more, map-append}
use Rattle.usuba_trees.specs.declared.Def.{Def}
use Rattle.usuba_model.specs.Rounds.{Operators}
use Rattle.usuba_code.specs.CodeLaw.{Each}
use Rattle.usuba_code.specs.Machine.{NumberedEnvironment, with_last, with_last_two, with_answer, run_operation, run_code}
use Rattle.usuba_code.specs.declared.operation.Operation.{Operation}
use Rattle.usuba_code.specs.declared.operation.Operation.TheVariants as make
use Rattle.usuba_plan.specs.Fit.{OperationFits, AllFit}
use Rattle.usuba_plan.specs.Made.{made_below, plan_outcome}
use Rattle.usuba_plan.specs.Room.{operation_room, code_room, room_below, plan_room}
use Rattle.usuba_plan.specs.Running.{CanRun}
use Rattle.usuba_plan.specs.State.Handles.{handle_at, environment_of, CellsHeld}
use Rattle.usuba_plan.specs.State.Runs.{CanRunCode, CanRunOperation, CanCall}
use Rattle.usuba_plan.specs.Store.{Store, Gives, Keeps, meanings}
use Rattle.usuba_plan.specs.declared.plans.Plan.{Plan}
use Rattle.usuba_plan.proofs.Callees.{room_at, made_at, made_within}
use Rattle.usuba_plan.proofs.Eaches.{each_at, each_drop, each_take, each_push}
use Rattle.usuba_plan.proofs.Picking.{map_there}
use Rattle.usuba_plan.proofs.Splitting.{then_there, last_enough, two_enough, answer_enough, answer_handles, put_on, gives_as}
use Rattle.usuba_plan.proofs.Stores.{kept_itself, kept_on, kept_within, cells_held_on, same_environment}

room_more : (callees : ℕ → ℕ) (code : List Operation) (i : ℕ) (o : Operation) → i < length code → o ≡ get_or code i o
    → code_room callees (take (i + 1) code) ≡ code_room callees (take i code) + operation_room callees o
room_more callees code i o less is =
    ap (code_room callees) (take_more code i o less ∙ ap (λ (p : Operation). take i code ++ p ∷ []) (sym is)) ∙ pushed (take i code)
  where
    pushed : (ops : List Operation) → code_room callees (ops ++ o ∷ []) ≡ code_room callees ops + operation_room callees o
    pushed [] = omega arith
    pushed (p ∷ ops) = let later = pushed ops in omega (arith, later)

room_part : (callees : ℕ → ℕ) (code : List Operation) (i : ℕ) → code_room callees (take i code) ≤ code_room callees code
room_part callees code zero = omega arith
room_part callees [] (suc i) = omega arith
room_part callees (o ∷ code) (suc i) = let later = room_part callees code i in omega (arith, later)

pub call_same : {V : Type 0} (defs : List Def) (plans : List Plan) (operators : Operators V) (number callee inputs : ℕ) (vs : List V) → callee < number
    → with_answer inputs (made_below operators defs plans number callee) vs ≡ with_answer inputs (plan_outcome operators defs plans callee) vs
call_same {V} defs plans operators number callee inputs vs less =
    ap (λ (f : List V → Option (List V)). with_answer inputs f vs) (fun_ext (λ elements. made_at defs plans operators elements number callee less))

-- what an operation makes over cells, with the definitions below a number as callees
abbrev pub step_of : {V : Type 0} → List Def → List Plan → ℕ → Operators V → NumberedEnvironment V → Operation → List V → Option (List V)
step_of defs plans number operators environment o vs = run_operation operators (made_below operators defs plans number) environment o vs

module _ {H V : Type 0} where
  -- a stack from which the last elements can be taken has them
  pub can_apply : (s : Store H V) (n : ℕ) (f : List V → List V) (stack : List H) → IsSome (with_last n f (meanings s stack)) → n ≤ length stack
  can_apply s n f stack there =
      let enough = last_enough n f (meanings s stack) there in
      let len = length-map stack s.meaning in omega (arith, enough, len)

  pub can_combine : (s : Store H V) (n : ℕ) (f : List V → List V → List V) (stack : List H) → IsSome (with_last_two n f (meanings s stack)) → n + n ≤ length stack
  can_combine s n f stack there =
      let enough = two_enough n f (meanings s stack) there in
      let len = length-map stack s.meaning in omega (arith, enough, len)

  -- what a cell that is read makes
  pub cell_there : (s : Store H V) (cells : List (Option H)) (cell : ℕ) (vs : List V)
      → IsSome (option_map (λ v. vs ++ v ∷ []) (environment_of s cells cell)) → IsSome (handle_at cells cell)
  cell_there s cells cell vs there = map_there s.meaning (handle_at cells cell) (map_there (λ v. vs ++ v ∷ []) (environment_of s cells cell) there)

  pub cell_pushed : (s : Store H V) (cells : List (Option H)) (cell : ℕ) (stack : List H) (h : H) → CellsHeld s cells → Each s.holds stack
      → handle_at cells cell ≡ Some h
      → Gives s (stack ++ h ∷ []) (option_map (λ v. meanings s stack ++ v ∷ []) (environment_of s cells cell))
  cell_pushed s cells cell stack h cells_held held is = record {
    held = each_push s.holds stack h held (cells_held cell h is);
    means =
        ap (λ (o : Option H). option_map (λ v. meanings s stack ++ v ∷ []) (option_map s.meaning o)) is
        ∙ ap (λ (vs : List V). Some vs) (sym (map-append s.meaning stack (h ∷ [])));
  }

  module _ (defs : List Def) (plans : List Plan) where
    -- a call in code is one of a definition below
    pub call_below : (s : Store H V) (number callee inputs : ℕ) (cells : List (Option H)) (stack : List H)
        → CanRunOperation s defs plans number (make.Call callee inputs) cells stack → callee < number
    call_below s number callee inputs cells stack can =
        let enough : inputs ≤ length stack =
        (let e = answer_enough inputs (made_below s.operators defs plans number callee) (meanings s stack) can.makes in
        let len = length-map stack s.meaning in omega (arith, e, len)) in
        made_within defs plans s.operators (meanings s (drop (length stack - inputs) stack)) number callee
        (map_there (λ made. meanings s (take (length stack - inputs) stack) ++ made)
        (made_below s.operators defs plans number callee (meanings s (drop (length stack - inputs) stack)))
        (subst (λ (o : Option (List V)). IsSome o) (answer_handles s inputs (made_below s.operators defs plans number callee) stack enough) can.makes))

    pub can_call : (s : Store H V) (number callee inputs : ℕ) (cells : List (Option H)) (stack : List H)
        → CanRunOperation s defs plans number (make.Call callee inputs) cells stack → CanCall s defs plans callee inputs stack
    can_call s number callee inputs cells stack can =
        let less = call_below s number callee inputs cells stack can in record {
          fits = can.fits;
          count = can.operation_fits;
          held = can.held;
          room = subst (λ (n : ℕ). n ≤ s.room) (room_at defs plans number callee less) can.room;
          makes = subst (λ (o : Option (List V)). IsSome o) (call_same defs plans s.operators number callee inputs (meanings s stack) less) can.makes;
        }

    -- a call has enough on the stack, and its callee can be run
    pub call_enough : (s : Store H V) (callee inputs : ℕ) (stack : List H) → CanCall s defs plans callee inputs stack → inputs ≤ length stack
    call_enough s callee inputs stack can =
        let e = answer_enough inputs (plan_outcome s.operators defs plans callee) (meanings s stack) can.makes in
        let len = length-map stack s.meaning in omega (arith, e, len)

    pub can_run : (s : Store H V) (callee inputs : ℕ) (stack : List H) (can : CanCall s defs plans callee inputs stack) (last : List H)
        → last ≡ drop (length stack - inputs) stack → CanRun s defs plans callee last
    can_run s callee inputs stack can last is =
        let enough = call_enough s callee inputs stack can in
        subst (λ (hs : List H). CanRun s defs plans callee hs) (sym is) (record {
          fits = can.fits;
          held = each_drop s.holds (length stack - inputs) stack can.held;
          count = (let len = length-drop (length stack - inputs) stack in let same = can.count in omega (arith, enough, len)) ∙ can.count;
          room = can.room;
          makes = map_there (λ made. meanings s (take (length stack - inputs) stack) ++ made)
              (plan_outcome s.operators defs plans callee (meanings s (drop (length stack - inputs) stack)))
              (subst (λ (o : Option (List V)). IsSome o) (answer_handles s inputs (plan_outcome s.operators defs plans callee) stack enough) can.makes);
        })

    pub called : (m : ℕ) (old new : Store H V) (callee inputs : ℕ) (stack below last made : List H) → CanCall old defs plans callee inputs stack
        → below ≡ take (length stack - inputs) stack → last ≡ drop (length stack - inputs) stack → Keeps m old new
        → Gives new made (plan_outcome old.operators defs plans callee (meanings old last))
        → Gives new (below ++ made) (with_answer inputs (plan_outcome old.operators defs plans callee) (meanings old stack))
    called m old new callee inputs stack below last made can is is' kept gives =
        let f : List V → Option (List V) = plan_outcome old.operators defs plans callee in
        gives_as new (below ++ made) (with_answer inputs f (meanings old stack)) (option_map (λ vs. meanings old below ++ vs) (f (meanings old last)))
        (answer_handles old inputs f stack (call_enough old callee inputs stack can)
        ∙ ap (λ (hs : List H). option_map (λ vs. meanings old hs ++ vs) (f (meanings old (drop (length stack - inputs) stack)))) (sym is)
        ∙ ap (λ (hs : List H). option_map (λ vs. meanings old below ++ vs) (f (meanings old hs))) (sym is'))
        (put_on m old new below made (f (meanings old last)) kept
        (subst (λ (hs : List H). Each old.holds hs) (sym is) (each_take old.holds (length stack - inputs) stack can.held)) gives)

    module _ (number : ℕ) where
      -- code so far is run, and what is left makes the whole
      pub record Running (old now : Store H V) (code : List Operation) (cells : List (Option H)) (first stack : List H) (i : ℕ) : Type 0 where
        pub kept : Keeps (code_room (room_below defs plans number) (take i code)) old now
        pub held : Each now.holds stack
        pub left : run_code old.operators (made_below old.operators defs plans number) (environment_of old cells) (drop i code) (meanings now stack)
            ≡ run_code old.operators (made_below old.operators defs plans number) (environment_of old cells) code (meanings old first)

      pub run_begin : (s : Store H V) (code : List Operation) (cells : List (Option H)) (stack : List H) → Each s.holds stack
          → Running s s code cells stack stack 0
      run_begin s code cells stack held = record { kept = kept_itself s; held = held; left = refl }

      same_step : (old now : Store H V) (m : ℕ) → Keeps m old now → (cells : List (Option H)) → CellsHeld old cells → (o : Operation) (vs : List V)
          → step_of defs plans number now.operators (environment_of now cells) o vs ≡ step_of defs plans number old.operators (environment_of old cells) o vs
      same_step old now m kept cells cells_held o vs =
          ap (λ (e : NumberedEnvironment V). step_of defs plans number now.operators e o vs) (same_environment m old now kept cells cells_held)
          ∙ ap (λ (ops : Operators V). step_of defs plans number ops (environment_of old cells) o vs) kept.operators

      -- what is left at an operation
      left_at : (old now : Store H V) (code : List Operation) (cells : List (Option H)) (first stack : List H) (i : ℕ) (o : Operation)
          → i < length code → o ≡ get_or code i o → Running old now code cells first stack i
          → option_and_then (run_code old.operators (made_below old.operators defs plans number) (environment_of old cells) (drop (i + 1) code))
          (step_of defs plans number old.operators (environment_of old cells) o (meanings now stack))
          ≡ run_code old.operators (made_below old.operators defs plans number) (environment_of old cells) code (meanings old first)
      left_at old now code cells first stack i o less is r =
          let run : List Operation → Option (List V)
          = λ ops. run_code old.operators (made_below old.operators defs plans number) (environment_of old cells) ops (meanings now stack) in
          ap (λ (p : Operation). run (p ∷ drop (i + 1) code)) is ∙ sym (at_drop_more run code i o less) ∙ r.left

      pub can_step : (old now : Store H V) (code : List Operation) (cells : List (Option H)) (first stack : List H) (i : ℕ) (o : Operation)
          → CanRunCode old defs plans number code cells first → i < length code → o ≡ get_or code i o → Running old now code cells first stack i
          → CanRunOperation now defs plans number o cells stack
      can_step old now code cells first stack i o can less is r =
          let callees = room_below defs plans number in
          let fits_at : OperationFits old.width defs o
          = subst (λ (p : Operation). OperationFits old.width defs p) (sym is) (each_at (OperationFits old.width defs) code i o less can.code_fits) in
          let whole : IsSome (option_and_then (run_code old.operators (made_below old.operators defs plans number) (environment_of old cells) (drop (i + 1) code))
          (step_of defs plans number old.operators (environment_of old cells) o (meanings now stack)))
          = subst (λ (q : Option (List V)). IsSome q) (sym (left_at old now code cells first stack i o less is r)) can.makes in
          record {
            fits = subst (λ (w : ℕ). AllFit w defs plans) (sym r.kept.width) can.fits;
            operation_fits = subst (λ (w : ℕ). OperationFits w defs o) (sym r.kept.width) fits_at;
            cells_held = cells_held_on (code_room callees (take i code)) old now r.kept cells can.cells_held;
            held = r.held;
            room =
                let kept = r.kept.room in
                let all = can.room in
                let more = room_more callees code i o less is in
                let part = room_part callees code (i + 1) in
                omega (arith, kept, all, more, part);
            makes = subst (λ (q : Option (List V)). IsSome q)
                (sym (same_step old now (code_room callees (take i code)) r.kept cells can.cells_held o (meanings now stack)))
                (then_there (run_code old.operators (made_below old.operators defs plans number) (environment_of old cells) (drop (i + 1) code))
                (step_of defs plans number old.operators (environment_of old cells) o (meanings now stack)) whole);
          }

      pub run_more : (old now next : Store H V) (code : List Operation) (cells : List (Option H)) (first stack after : List H) (i : ℕ) (o : Operation)
          → CanRunCode old defs plans number code cells first → i < length code → o ≡ get_or code i o → Running old now code cells first stack i
          → Gives next after (step_of defs plans number now.operators (environment_of now cells) o (meanings now stack))
          → Keeps (operation_room (room_below defs plans number) o) now next
          → Running old next code cells first after (i + 1)
      run_more old now next code cells first stack after i o can less is r gives kept =
          let callees = room_below defs plans number in record {
            kept = subst (λ (m : ℕ). Keeps m old next) (sym (room_more callees code i o less is))
                (kept_on (code_room callees (take i code)) (operation_room callees o) old now next r.kept kept);
            held = gives.held;
            left =
                sym (ap (option_and_then (run_code old.operators (made_below old.operators defs plans number) (environment_of old cells) (drop (i + 1) code)))
                (sym (same_step old now (code_room callees (take i code)) r.kept cells can.cells_held o (meanings now stack)) ∙ gives.means))
                ∙ left_at old now code cells first stack i o less is r;
          }

      pub run_done : (old now : Store H V) (code : List Operation) (cells : List (Option H)) (first stack : List H) (i : ℕ) → length code ≤ i
          → Running old now code cells first stack i
          → Gives now stack (run_code old.operators (made_below old.operators defs plans number) (environment_of old cells) code (meanings old first))
      run_done old now code cells first stack i past r = record {
        held = r.held;
        means =
            sym r.left
            ∙ at_drop_all (λ ops. run_code old.operators (made_below old.operators defs plans number) (environment_of old cells) ops (meanings now stack)) code i past;
      }

      pub run_kept : (old now : Store H V) (code : List Operation) (cells : List (Option H)) (first stack : List H) (i : ℕ)
          → Running old now code cells first stack i → Keeps (code_room (room_below defs plans number) code) old now
      run_kept old now code cells first stack i r =
          kept_within (code_room (room_below defs plans number) (take i code)) (code_room (room_below defs plans number) code) old now r.kept
          (room_part (room_below defs plans number) code i)

      -- the same where the next operation wanted memory
      pub run_kept_after : (old now next : Store H V) (code : List Operation) (cells : List (Option H)) (first stack : List H) (i : ℕ) (o : Operation)
          → i < length code → o ≡ get_or code i o → Running old now code cells first stack i
          → Keeps (operation_room (room_below defs plans number) o) now next → Keeps (code_room (room_below defs plans number) code) old next
      run_kept_after old now next code cells first stack i o less is r kept =
          let callees = room_below defs plans number in
          kept_within (code_room callees (take i code) + operation_room callees o) (code_room callees code) old next
          (kept_on (code_room callees (take i code)) (operation_room callees o) old now next r.kept kept)
          (subst (λ (m : ℕ). m ≤ code_room callees code) (room_more callees code i o less is) (room_part callees code (i + 1)))

-- an operation that is a call
module _ {H V : Type 0} (defs : List Def) (plans : List Plan) (s : Store H V) (number callee inputs : ℕ) (cells : List (Option H)) (stack : List H)
    (o : Operation) (is : o ≡ make.Call callee inputs) (can : CanRunOperation s defs plans number o cells stack) where
  as_call : CanRunOperation s defs plans number (make.Call callee inputs) cells stack
  as_call = subst (λ (p : Operation). CanRunOperation s defs plans number p cells stack) is can

  pub operation_below : callee < number
  operation_below = call_below defs plans s number callee inputs cells stack as_call

  pub operation_can : CanCall s defs plans callee inputs stack
  operation_can = can_call defs plans s number callee inputs cells stack as_call

  pub operation_is : run_operation s.operators (made_below s.operators defs plans number) (environment_of s cells) o (meanings s stack)
      ≡ with_answer inputs (plan_outcome s.operators defs plans callee) (meanings s stack)
  operation_is =
      ap (λ (p : Operation). run_operation s.operators (made_below s.operators defs plans number) (environment_of s cells) p (meanings s stack)) is
      ∙ call_same defs plans s.operators number callee inputs (meanings s stack) operation_below

  pub operation_room_is : operation_room (room_below defs plans number) o ≡ plan_room defs plans callee
  operation_room_is = ap (operation_room (room_below defs plans number)) is ∙ room_at defs plans number callee operation_below
