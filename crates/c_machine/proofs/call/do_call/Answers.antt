use Rattle.std.proofs.Common.{◌≡◌, ℕ, List, Some, None, Ok, sym, ap, subst, ◌∙◌}
use Rattle.std.specs.Prelude.{option_copied}
use Rattle.c_tree.specs.declared.CArg.{CArg}
use Rattle.c_machine.specs.Run as run
use Rattle.c_machine.specs.State.Answers.{IsOutcome, state_of}
use Rattle.c_machine.specs.State.Scopes.{scope_of}
use Rattle.c_machine.proofs.call.do_call.Goals as goal

pub returns-in-Some : goal.returns-in-Some
returns-in-Some c =
    let file = c.args.file.now in
    let call = c.args.call.now in
    let d = c.args.size.shares in
    let before = state_of c.args.machine.now in
    let gadget = c.in-Some.gadget.now in
    let done = λ (bits : ℕ) (arguments : List CArg).
    run.body_done d bits gadget before.memory before.stream (run.bound file gadget.params arguments) in
    let named : run.gadget_named file.gadgets call.gadget ≡ Some gadget =
    sym (c.requires.found call.gadget) ∙ sym c.gadget_named.ensures ∙ ap option_copied c.in-Some.is in
    let same : done c.args.size.bits c.as_slice.result.now ≡ run.called d file call before.memory before.stream =
    ap (λ bits. done bits c.as_slice.result.now) c.requires.bits
    ∙ ap (done file.reg_bits) c.as_slice.ensures
    ∙ ap (run.call_done d file call.args before.memory before.stream) (sym named) in
    subst (λ o. IsOutcome o c.do_body.result (state_of c.do_body.new.machine)) same c.do_body.ensures

pub returns-in-None : goal.returns-in-None
returns-in-None c =
    let file = c.args.file.now in
    let call = c.args.call.now in
    let before = state_of c.args.machine.now in
    let named : run.gadget_named file.gadgets call.gadget ≡ None =
    sym (c.requires.found call.gadget) ∙ sym c.gadget_named.ensures ∙ ap option_copied c.in-None.is in
    ap (run.call_done c.args.size.shares file call.args before.memory before.stream) named
    ∙ ap (λ names. Ok (record { scope = scope_of names; memory = before.memory; stream = before.stream }))
    (sym c.truncate.ensures.items)
