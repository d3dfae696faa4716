-- What a line of a core text may say.
use Rattle.std.specs.Prelude.{ℕ, ◌==◌, ◌^◌, Bool, ◌&&◌, nat_lt, nat_le, List}
use Rattle.std.specs.List.{list_all}
use Rattle.core_text.specs.Forms.{Equation}
use Rattle.usuba0.specs.declared.circuit.Gate.{Gate}
use Rattle.usuba0.specs.declared.circuit.Gate.TheVariants as gate
use Rattle.usuba0.specs.declared.circuit.Reg.{Reg}
use Rattle.usuba0.specs.declared.limit.TheConstants.{MAX_WEIGHT, MAX_COLUMNS}
use Rattle.usuba0.specs.Circuit.{Circuit, weight, columns}

-- W is 1 to 64
abbrev pub is_width : ℕ → Bool
is_width w = nat_lt 0 w && nat_le w 64

-- N is 1 to 2^32 - 1
abbrev pub is_inputs : ℕ → Bool
is_inputs n = nat_lt 0 n && nat_lt n (2 ^ 32)

-- a register below n
abbrev pub is_earlier : ℕ → Reg → Bool
is_earlier n a = nat_lt a.0 n

-- C is below 2^w
abbrev pub is_constant : ℕ → ℕ → Bool
is_constant w c = nat_lt c (2 ^ w)

-- S is 1 to w - 1
abbrev pub is_amount : ℕ → ℕ → Bool
is_amount w k = nat_lt 0 k && nat_lt k w

-- a right side at width w that reads registers below n
abbrev pub is_gate : ℕ → ℕ → Gate → Bool
is_gate w n (gate.Const c) = is_constant w c
is_gate w n (gate.Xor a b) = is_earlier n a && is_earlier n b
is_gate w n (gate.Not a) = is_earlier n a
is_gate w n (gate.Mask c a) = is_constant w c && is_earlier n a
is_gate w n (gate.And a b) = is_earlier n a && is_earlier n b
is_gate w n (gate.Shl k a) = is_amount w k && is_earlier n a
is_gate w n (gate.Shr k a) = is_amount w k && is_earlier n a
is_gate w n (gate.Rotl k a) = is_amount w k && is_earlier n a
is_gate w n (gate.Refresh a) = is_earlier n a

-- the equation that makes register n
abbrev pub is_next : ℕ → ℕ → Equation → Bool
is_next w n equation = equation.register.0 == n && is_gate w n equation.gate

-- outputs of a core with n registers
abbrev pub are_outputs : ℕ → List Reg → Bool
are_outputs n registers = list_all (is_earlier n) registers

-- both limits of a core hold
abbrev pub is_within : Circuit → Bool
is_within core = nat_le (weight core) MAX_WEIGHT && nat_le (columns core) MAX_COLUMNS
