-- The shifts and the rotation of an equation, as one.
use Rattle.std.specs.Prelude.{ℕ, ◌<◌, ◌≤◌}
use Rattle.usuba0.specs.Term.{shifted_left, shifted_right, rotated_left}
use Rattle.share_gadgets.specs.declared.shifts.Shift.{Shift}
use Rattle.share_gadgets.specs.declared.shifts.Shift.TheVariants as shift

-- a word of B bits after a shift
abbrev pub shifted : ℕ → Shift → ℕ → ℕ
shifted B (shift.Left k) x = shifted_left B k x
shifted B (shift.Right k) x = shifted_right k x
shifted B (shift.Rotate k) x = rotated_left B k x

-- by how many bits
abbrev pub amount : Shift → ℕ
amount (shift.Left k) = k
amount (shift.Right k) = k
amount (shift.Rotate k) = k

-- a shift by 1 to B - 1 bits in words of at most 64
pub record IsWithin (B : ℕ) (by : Shift) : Type 0 where
  pub some : 0 < amount by
  pub below : amount by < B
  pub fits : B ≤ 64
