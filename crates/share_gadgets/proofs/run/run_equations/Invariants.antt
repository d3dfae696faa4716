use Rattle.std.proofs.Common.{◌≡◌, ◌+◌, All, drop, map, vec_len}
use Rattle.usuba0.specs.Circuit.{products_of, refreshes_of}
use Rattle.share_gadgets.specs.Sharing.{IsSharing}
use Rattle.share_gadgets.specs.MaskedRun.{run_shared}
use Rattle.share_gadgets.proofs.run.run_equations.Given as goal

abbrev pub invariant-loop-k : goal.invariant-loop-k
invariant-loop-k g l =
    let rows = map (map g.R.Register.word) l.sharings.items in
    record {
      same : run_shared l.width l.bits g.row.D l.words l.drawing rows (drop l.k l.core.equations)
          ≡ run_shared l.width l.bits g.row.D l.words 0 (map (map g.R.Register.word) l.inputs) l.core.equations;
      many : vec_len l.sharings ≡ l.core.inputs + l.k;
      due : l.drawing + (products_of (drop l.k l.core.equations) + refreshes_of (drop l.k l.core.equations))
          ≡ products_of l.core.equations + refreshes_of l.core.equations;
      shared : All (IsSharing l.bits g.row.D) rows;
    }
