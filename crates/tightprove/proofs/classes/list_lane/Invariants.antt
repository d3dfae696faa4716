use Rattle.std.proofs.Common.{◌≡◌, ℕ, length, true, false, get_or, take}
use Rattle.std.specs.List.{Contains}
use Rattle.tightprove.specs.Classes.{AreListed}
use Rattle.tightprove.proofs.classes.list_lane.Given as goal

abbrev pub invariant-loop-i : goal.invariant-loop-i
invariant-loop-i l = record {
  listed : AreListed (length l.initial.listed) l.listed l.near.items;
  kept : (i : ℕ) → get_or l.initial.listed i false ≡ true → get_or l.listed i false ≡ true;
  lane : (i : ℕ) → Contains (take l.i-index l.lane) i → get_or l.listed i false ≡ true;
}
