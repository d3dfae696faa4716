use Rattle.std.proofs.Common.{◌≡◌, ◌<◌, [], ◌∷◌, ◌++◌, length, get_or, map, sym, ap, ◌∙◌, arith}
use Rattle.std.proofs.lemmas.List.{map_push, map_more}
use Rattle.std.proofs.lemmas.Option.{get_or_from_slice_get}
use Rattle.usuba0.specs.declared.circuit.Reg.{Reg}
use Rattle.usuba0.specs.Circuit.{registers}
use Rattle.share_gadgets.specs.MaskedRun.{sharing_at}
use Rattle.share_gadgets.proofs.EquationLemmas.{row_read}
use Rattle.share_gadgets.proofs.run.run_in_memory.Goals as goal

pub loop-k-preserved : goal.loop-k-preserved
loop-k-preserved g c =
    let outs = c.args.core.now.outputs in
    let k = c.loop-k.k in
    let r = c.unwrap-register.result in
    let items = c.in_ok-sharings.sharings.items in
    let rows = map (map g.R.Register.word) items in
    let within : k < length outs = omega (arith, c.loop-k-test.true, c.outputs-k-end.ensures) in
    let is : get_or outs k r ≡ r = get_or_from_slice_get outs k r r (sym c.output.ensures ∙ c.unwrap-register.ensures) in
    let below : (get_or outs k r).0 < registers c.args.core.now = c.in_ok-sharings.ensures.given.is_core.outputs k r within in
    let same : (get_or outs k r).0 ≡ r.0 = ap (λ (x : Reg). x.0) is in
    let there : r.0 < length items = omega (arith, below, same, c.in_ok-sharings.ensures.all, c.in_ok-sharings.sharings.ok.0) in
    let made : map g.R.Register.word c.in_ok-output.output ≡ sharing_at rows (get_or outs k r) =
    ap (map g.R.Register.word) c.in_ok-output.ensures.same ∙ row_read g.R.Register.word items r.0 c.index.result.now there c.index.ensures
    ∙ ap (sharing_at rows) (sym is) in
    ap (map (map g.R.Register.word)) c.in_ok-push.ensures.ok ∙ map_push (map g.R.Register.word) c.loop-k.outputs c.in_ok-output.output
    ∙ (λ i. c.loop-k.invariant i ++ made i ∷ []) ∙ sym (map_more (sharing_at rows) outs k r within)
