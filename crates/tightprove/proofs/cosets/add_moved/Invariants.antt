use Rattle.std.proofs.Common.{◌≡◌, ◌++◌, map, take, bit_xor}
use Rattle.tightprove.proofs.cosets.add_moved.Given as goal

abbrev pub invariant-loop-k : goal.invariant-loop-k
invariant-loop-k l = l.members.items ≡ l.fn.members.items ++ map (λ m. bit_xor m l.image) (take l.k l.fn.members.items)
