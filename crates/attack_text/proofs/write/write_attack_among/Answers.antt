use Rattle.std.proofs.Common.{refl}
use Rattle.tor_edge.proofs.Writing.{Wrote-is, Wrote-then, Wrote-stops}
use Rattle.attack_text.proofs.WriteLemmas.{text_parts}
use Rattle.attack_text.proofs.write.write_attack_among.Goals as goal

pub returns-in_err-put_head : goal.returns-in_err-put_head
returns-in_err-put_head g c =
    Wrote-is (text_parts c.args.columns c.args.view.now c.args.attack.now c.products.result _ _ c.products.ensures refl refl)
    (Wrote-stops _ c.in_err-put_head.ensures c.from_residual.ensures.0)

pub returns-in_err-put_leak : goal.returns-in_err-put_leak
returns-in_err-put_leak g c =
    Wrote-is (text_parts c.args.columns c.args.view.now c.args.attack.now c.products.result _ _ c.products.ensures refl refl)
    (Wrote-then c.in_ok-put_head.ensures (Wrote-stops _ c.in_err-put_leak.ensures c.from_residual-in_err-put_leak.ensures.0))

pub returns-in_err-put_steps : goal.returns-in_err-put_steps
returns-in_err-put_steps g c =
    Wrote-is (text_parts c.args.columns c.args.view.now c.args.attack.now c.products.result c.as_slice.result.now _ c.products.ensures c.as_slice.ensures refl)
    (Wrote-then c.in_ok-put_head.ensures (Wrote-then c.in_ok-put_leak.ensures (Wrote-stops _ c.in_err-put_steps.ensures c.from_residual-in_err-put_steps.ensures.0)))

pub returns-in_err-put_root : goal.returns-in_err-put_root
returns-in_err-put_root g c =
    Wrote-is
    (text_parts c.args.columns c.args.view.now c.args.attack.now c.products.result c.as_slice.result.now c.as_slice-2.result.now c.products.ensures c.as_slice.ensures c.as_slice-2.ensures)
    (Wrote-then c.in_ok-put_head.ensures
    (Wrote-then c.in_ok-put_leak.ensures (Wrote-then c.in_ok-put_steps.ensures (Wrote-stops _ c.in_err-put_root.ensures c.from_residual-in_err-put_root.ensures.0))))

pub returns : goal.returns
returns g c =
    Wrote-is
    (text_parts c.args.columns c.args.view.now c.args.attack.now c.products.result c.as_slice.result.now c.as_slice-2.result.now c.products.ensures c.as_slice.ensures c.as_slice-2.ensures)
    (Wrote-then c.in_ok-put_head.ensures
    (Wrote-then c.in_ok-put_leak.ensures (Wrote-then c.in_ok-put_steps.ensures (Wrote-then c.in_ok-put_root.ensures c.put_listing.ensures))))
