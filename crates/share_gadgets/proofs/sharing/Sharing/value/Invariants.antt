use Rattle.std.proofs.Common.{◌≡◌, map, take}
use Rattle.share_gadgets.specs.Sharing.{sharing_value}
use Rattle.share_gadgets.proofs.sharing.Sharing.value.Given as goal

abbrev pub invariant-loop-share : goal.invariant-loop-share
invariant-loop-share g l =
    g.R.Register.word l.sum ≡ sharing_value (map g.R.Register.word (take l.share-index l.share-items))
