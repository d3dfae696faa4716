use Rattle.std.proofs.Common.{◌+◌, ◌-◌, ◌≤◌, vec_len}
use Rattle.tor_edge.specs.declared.files.TheConstants.{MAX_FILE_BYTES}
use Rattle.std.specs.Io.KnownBytes.{Consumes}
use Rattle.tor_edge.proofs.os_files.read_whole.Given as goal

abbrev pub invariant-loop-chunk : goal.invariant-loop-chunk
invariant-loop-chunk g l = (vec_len l.bytes ≤ MAX_FILE_BYTES + 1)
    × Consumes (g.R.Read.remaining l.fn.reader) (g.R.Read.remaining l.reader) l.bytes.items

abbrev pub decreases-loop-chunk : goal.decreases-loop-chunk
decreases-loop-chunk g l = (MAX_FILE_BYTES + 1) - vec_len l.bytes
