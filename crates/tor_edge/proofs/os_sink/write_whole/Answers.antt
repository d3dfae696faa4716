use Rattle.std.proofs.Common.{rules, ◌≡◌, arith, ◌≤◌, ◌+◌, ◌-◌, length, take, drop}
use Rattle.std.proofs.Math.Seq.{take-add}
use Rattle.std.proofs.KnownBytes.{Appends-trans}
use Rattle.std.proofs.lemmas.Grind.{common_steps}
use Rattle.tor_edge.proofs.os_sink.write_whole.Goals as goal

pub loop-at-preserved : goal.loop-at-preserved
loop-at-preserved g c =
    let bytes = c.args.bytes.now in
    let at = c.loop-at.at in
    let within : at + c.in-Ok.taken ≤ length bytes = search rules in
    let rest : take (length bytes - at) (drop at bytes) ≡ drop at bytes = grind (arith, common_steps) in
    (within, rw take-add (rw rest at (Appends-trans _ _ _ _ _ c.loop-at.invariant.1 c.in-Ok.ensures.bytes)))
