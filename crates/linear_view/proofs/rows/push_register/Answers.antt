use Rattle.std.proofs.Common.{◌≡◌, ℕ, ◌<◌, Bool, List, length, get_or, sym, subst, arith}
use Rattle.linear_view.specs.Rows.{gate_rows, rows_over}
use Rattle.linear_view.specs.Walk.{HoldsNeeds}
use Rattle.linear_view.proofs.WalkLemmas.{keeps_then, keeps_is, keeps_made, if_below}
use Rattle.linear_view.proofs.rows.push_register.Goals as goal

pub returns : goal.returns
returns c all h =
    let last = c.args.last_reads.now in
    let k = c.args.stage.equations in
    let old = c.args.registers.now.items in
    let made = rows_over c.args.columns.now.keys (gate_rows c.args.stage.width c.args.stage.products c.args.stage.refreshes all c.args.gate.now) in
    let many : c.args.registers.now.len ≡ length old = omega (arith, c.args.registers.now.ok.0) in
    let held = λ (read : k < get_or last (length old) 0).
    subst (λ (held : List (List (List Bool))). HoldsNeeds c.args.columns.now.keys all held c.args.gate.now) (sym c.as_slice.ensures.value)
    (h (subst (λ (n : ℕ). k < get_or last n 0) (sym many) read)) in
    let count : c.len.result ≡ length old = omega arith in
    let below : k < get_or last (length old) 0 → k < get_or last c.len.result 0 = λ h. subst (λ (n : ℕ). k < get_or last n 0) (sym count) h in
    keeps_then
    (keeps_made last k old made c.in_ok-rows.rows (λ read. if_below k (get_or last c.len.result 0) _ c.in_ok-rows.ensures (below read) all (held read)))
    (keeps_is c.in_ok-push.ensures.items (keeps_then c.release_read.ensures.rows c.release_read-2.ensures.rows))
