-- Index expressions: whole numbers, loop counters, `+ - * / %`, computed from left to right.
use Rattle.std.specs.Prelude.{ℕ, ◌^◌, Bool, true, false, ◌||◌, ◌==◌, nat_lt, if◌then◌else◌, List, [], ◌∷◌, Option, Some, None, bytes_eq, ℤ, pos, ◌+ℤ◌, ◌-ℤ◌, ◌*ℤ◌, nat_abs, int_div, int_rem}
use Rattle.usuba_trees.specs.declared.Index.{Index, fold-Index}
use Rattle.usuba_trees.specs.declared.Index.TheOpen.{Index-F}
use Rattle.usuba_trees.specs.declared.IndexOp.{IndexOp}
use Rattle.usuba_trees.specs.declared.IndexOp.TheVariants.{Add, Sub, Mul, Div, Rem}

-- a loop counter of the loops around a place, with its value there
pub record Counter : Type 0 where
  pub name : List ℕ
  pub value : ℤ

-- the value of a counter among those of the loops around, the innermost first
abbrev pub counter_value : List Counter → List ℕ → Option ℤ
counter_value [] name = None
counter_value (counter ∷ counters) name = if bytes_eq counter.name name then Some counter.value else counter_value counters name

-- what computing an index comes to: its value, if it has one; whether something was divided by zero on the way; whether a
-- number of 2^63 or more in absolute value was met
pub record Computed : Type 0 where
  pub value : Option ℤ
  pub divided_by_zero : Bool
  pub too_big : Bool

-- a number is met: one of 2^63 or more in absolute value is no value
abbrev pub met : ℤ → Computed
met number =
    if nat_lt (nat_abs number) (2 ^ 63)
    then record { value = Some number; divided_by_zero = false; too_big = false }
    else record { value = None; divided_by_zero = false; too_big = true }

-- what is computed from something without a value has none
abbrev pub no_value : Computed
no_value = record { value = None; divided_by_zero = false; too_big = false }

-- what is made of two operands, where both have values
abbrev pub made_of : (ℤ → ℤ → ℤ) → Option ℤ → Option ℤ → Computed
made_of f (Some a) (Some b) = met (f a b)
made_of f (Some a) None = no_value
made_of f None b = no_value

-- a division of something by a divisor that has a value
abbrev pub divided_by : (ℤ → ℤ → ℤ) → Option ℤ → ℤ → Computed
divided_by f a b =
    if nat_abs b == 0
    then record { value = None; divided_by_zero = true; too_big = false }
    else made_of f a (Some b)

-- a division: only a divisor without a value is no zero divisor
abbrev pub divided : (ℤ → ℤ → ℤ) → Option ℤ → Option ℤ → Computed
divided f a (Some b) = divided_by f a b
divided f a None = no_value

-- what an operator makes of the values of its operands; a division rounds toward zero, and the remainder has the dividend's sign
abbrev pub operated : IndexOp → Option ℤ → Option ℤ → Computed
operated Add a b = made_of ◌+ℤ◌ a b
operated Sub a b = made_of ◌-ℤ◌ a b
operated Mul a b = made_of ◌*ℤ◌ a b
operated Div a b = divided int_div a b
operated Rem a b = divided int_rem a b

-- what befell in two operands and in what is made of them
abbrev pub befell : Computed → Computed → Computed → Computed
befell a b c = record {
  value = c.value;
  divided_by_zero = a.divided_by_zero || b.divided_by_zero || c.divided_by_zero;
  too_big = a.too_big || b.too_big || c.too_big;
}

-- an operator on two computed operands
abbrev pub applied : IndexOp → Computed → Computed → Computed
applied op a b = befell a b (operated op a.value b.value)

-- a further operand of a chain of operators, once computed
pub record IndexPart : Type 0 where
  pub op : IndexOp
  pub operand : List Counter → Computed

-- a chain of operators associates to the left
abbrev pub applied_all : List Counter → Computed → List IndexPart → Computed
applied_all counters first [] = first
applied_all counters first (part ∷ parts) = applied_all counters (applied part.op first (part.operand counters)) parts

-- the value of a counter is met where the counter is there
abbrev pub met_counter : Option ℤ → Computed
met_counter (Some value) = met value
met_counter None = no_value

-- one level of an index expression
abbrev pub index_level : Index-F (List Counter → Computed) IndexPart → List Counter → Computed
index_level (Index-F.Number number) counters = met (pos number)
index_level (Index-F.Counter name) counters = met_counter (counter_value counters name.text)
index_level (Index-F.Chain first rest) counters = applied_all counters (first counters) rest

-- what computing an index comes to, where the counters of the loops around have these values
abbrev pub computed : Index → List Counter → Computed
computed = fold-Index (List Counter → Computed) IndexPart index_level (λ link. record { op = link.op; operand = link.operand })
