use Rattle.std.proofs.Common.{rules, ◌≡◌}
use Rattle.tor_edge.proofs.Writing.{Wrote-is}
use Rattle.tor_edge.proofs.Gathering.{Gathered-passed_on}
use Rattle.tor_edge.proofs.put.gather.Goals as goal

pub returns : goal.returns
returns g c =
    let waited : c.as_slice.result.now ≡ c.args.waiting.now.items = search rules in
    Gathered-passed_on (Wrote-is waited c.in_ok-put_bytes.ensures.wrote) c.put_text.ensures.wrote c.clear.ensures
