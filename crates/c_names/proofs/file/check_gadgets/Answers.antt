use Rattle.std.proofs.Common.{◌++◌, ◌∷◌, [], take, Err, refl, sym, ap, subst, ◌∙◌}
use Rattle.std.specs.Prelude.{not, is_some}
use Rattle.c_names.specs.Names.{inner_names}
use Rattle.c_names.specs.State.Answers.{IsPassed, passed}
use Rattle.c_names.specs.State.Gadgets.{gadget_at}
use Rattle.c_names.proofs.Gadgets.{found-more}
use Rattle.c_names.proofs.Turns.{next_gadget, wrong_gadget}
use Rattle.c_names.proofs.file.check_gadgets.Goals as goal

pub returns-in_err-check_gadget-clause-names : goal.returns-in_err-check_gadget-clause-names
returns-in_err-check_gadget-clause-names c =
    let gs = c.args.gadgets.now in
    let k = c.loop-gadget.gadget-index in
    let g = c.gadget-item.result in
    let places = c.loop-gadget.places.left.now in
    let left = c.check_gadget.new.places.left.now in
    wrong_gadget gs (take k gs) k g places left left _ c.from_residual.result
    c.in_err-check_gadget.field-0.0 refl c.loop-gadget-test.true c.gadget-item.is c.loop-gadget.invariant.names c.from_residual.ensures.1
    (subst (λ o. IsPassed (passed ((not (is_some o) ∷ []) ++ inner_names g) places) (Err c.in_err-check_gadget.field-0.0) left)
    (c.loop-gadget.invariant.found g.name) c.in_err-check_gadget.ensures)

pub loop-gadget-preserved : goal.loop-gadget-preserved
loop-gadget-preserved c =
    let gs = c.args.gadgets.now in
    let k = c.loop-gadget.gadget-index in
    let g = c.gadget-item.result in
    let places = c.loop-gadget.places.left.now in
    record {
      names =
          next_gadget gs (take k gs) k g places c.check_gadget.new.places.left.now refl c.loop-gadget-test.true c.gadget-item.is
          (ap (λ o. passed ((not (is_some o) ∷ []) ++ inner_names g) places) (sym (c.loop-gadget.invariant.found g.name)) ∙ c.in_ok-check_gadget.ensures)
          ∙ c.loop-gadget.invariant.names;
      found = found-more gs k g (gadget_at c.loop-gadget.found) (gadget_at c.keep_gadget.new.found) c.loop-gadget-test.true c.gadget-item.is
          c.loop-gadget.invariant.found c.in_ok-keep_gadget.ensures;
    }
