use Rattle.std.proofs.Common.{rules, ◌≡◌, Some, List, ℕ, ◌++◌, take, drop, ap}
use Rattle.std.proofs.lemmas.List.{take-append-drop}
use Rattle.tor_edge.proofs.mem_sink.MemSinkSink.put.Goals as goal

pub returns-then-fails-clause-prefix : goal.returns-then-fails-clause-prefix
returns-then-fails-clause-prefix c =
    let kept = c.kept_of-kept.result.0 in
    let appended : c.extend_from_slice.new.self.items ≡ c.args.self.now.bytes.items ++ take kept c.args.piece.now = search rules in
    (take kept c.args.piece.now, (drop kept c.args.piece.now, take-append-drop kept c.args.piece.now), ap (λ (bytes : List ℕ). Some bytes) appended)
