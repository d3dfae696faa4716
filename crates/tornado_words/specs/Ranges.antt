-- The ranges of the numbers that words give.
use Rattle.std.specs.Prelude.{◌≡◌, ◌⊎◌, ℕ, ◌<◌, ◌≤◌, ◌^◌, IfSome}
use Rattle.tornado_words.specs.declared.order.Basis.{Basis}
use Rattle.tornado_words.specs.declared.order.Basis.TheVariants as basis
use Rattle.tornado_words.specs.declared.order.Order.{Order}
use Rattle.tornado_words.specs.declared.order.Order.TheVariants as order

-- the width that is asked for, where one is, is 1 to 64
abbrev pub HasFitWidth : Basis → Type 0
HasFitWidth (basis.Source width entry) = IfSome width (λ w. (0 < w) × (w ≤ 64))
HasFitWidth basis.CoreText = Unit {0}

-- the bits of a register of C
abbrev pub IsWordSize : ℕ → Type 0
IsWordSize size = (size ≡ 8) ⊎ ((size ≡ 16) ⊎ ((size ≡ 32) ⊎ (size ≡ 64)))

-- the numbers of an order are in their ranges
abbrev pub IsInRange : Order → Type 0
IsInRange (order.Core file basis) = HasFitWidth basis
IsInRange (order.Eval file values basis) = HasFitWidth basis
IsInRange (order.Rows file basis) = HasFitWidth basis
IsInRange (order.Check file basis) = HasFitWidth basis
IsInRange (order.Verify file attack basis) = HasFitWidth basis
IsInRange (order.Repair file basis) = HasFitWidth basis
IsInRange (order.Compile file word basis) = IfSome word IsWordSize × HasFitWidth basis
IsInRange (order.Run cfile values) = Unit {0}
IsInRange (order.Trial file shares seed basis) = (0 < shares) × (shares ≤ 8) × (seed < 2 ^ 64) × HasFitWidth basis
IsInRange (order.Gen seed size) = (seed < 2 ^ 64) × (0 < size) × (size ≤ 4096)
