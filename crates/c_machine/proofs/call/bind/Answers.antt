use Rattle.std.proofs.Common.{Some, refl, sym, ap, ◌∙◌, arith, vec_items}
use Rattle.std.proofs.lemmas.List.{append-nil}
use Rattle.std.specs.Option.{option_map}
use Rattle.c_machine.specs.State.Scopes.{scope_of, meaning_of}
use Rattle.c_machine.proofs.Bindings.{bound_before, bound-over, bound-stop}
use Rattle.c_machine.proofs.call.bind.Goals as goal

pub returns : goal.returns
returns c =
    sym c.loop-k.invariant
    ∙ ap (bound_before (scope_of (vec_items c.loop-k.names)))
    (bound-over c.args.file.now c.args.parameters.now c.args.arguments.now c.loop-k.k (omega (arith, c.min-k-end.ensures, c.loop-k-test.false)))
    ∙ ap Some (append-nil (scope_of (vec_items c.loop-k.names)))

pub returns-in_default : goal.returns-in_default
returns-in_default c =
    let none = sym c.argument_meaning.ensures ∙ ap (option_map meaning_of) c.in_default.is in (
      sym c.loop-k.invariant ∙ ap (bound_before (scope_of (vec_items c.loop-k.names)))
          (bound-stop c.args.file.now c.args.parameters.now c.args.arguments.now c.loop-k.k _ (omega (arith, c.min-k-end.ensures, c.loop-k-test.true)) none),
      refl,
    )
