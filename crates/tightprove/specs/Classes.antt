-- The operands of products, gathered in classes: operands that span the same sets are one class.
use Rattle.std.specs.Prelude.{◌≡◌, ◌≢◌, ◌<◌, ◌≤◌, ◌↔◌, ◌⊎◌, ◌+◌, ◌^◌, ℕ, not, count_by, Option, None, IfSome, Bool, true, false, List, [], length, slice_index_or, All, Contains}
use Rattle.span_model.specs.Columns.{Columns, empty, sets_of}
use Rattle.span_model.specs.Span.{InSpan, SameSpan}
use Rattle.span_model.specs.Attack.{Product}
use Rattle.span_model.specs.Closure.{Step, operand, co_operand, IsClosed}
use Rattle.gf2_span.specs.Rows.{IsLast, HaveOwnLeads, LeadsNoMember}
use Rattle.linear_view.specs.Sides.{step_of, place_of}
use Rattle.linear_view.specs.declared.operand.Operand.{Operand}
use Rattle.tightprove.specs.declared.class.Class.{Class}
use Rattle.tightprove.specs.declared.classes.Classes.{Classes}

-- the class of this number; past the end one with no rows and no partners
abbrev pub class_at : List Class → ℕ → Class
class_at classes i = slice_index_or classes i (record { rows = []; partners = [] })

-- the rows of the class of this number, as sets of columns
abbrev pub class_rows : List Class → ℕ → List (Columns ℕ)
class_rows classes i = sets_of (class_at classes i).rows

-- an operand of class i stands beside one of class j
abbrev pub IsPartner : List Class → ℕ → ℕ → Type 0
IsPartner classes i j = Contains (class_at classes i).partners j

-- a step of the first n products takes an operand of class i and gives one of class j
pub record StepBetween (n : ℕ) (products : List (Product ℕ)) (classes : List Class) (i j : ℕ) (step : Step) : Type 0 where
  pub product : step.product < n
  pub operand_rows : SameSpan (class_rows classes i) (operand products step)
  pub co_operand_rows : SameSpan (class_rows classes j) (co_operand products step)

-- the steps of the first n products are those from a class to its partners
pub record AreStepsOf (n : ℕ) (products : List (Product ℕ)) (classes : List Class) : Type 0 where
  pub covered : (step : Step) → step.product < n → (i : ℕ) × (j : ℕ) × IsPartner classes i j × StepBetween n products classes i j step
  pub genuine : (i j : ℕ) → IsPartner classes i j → (step : Step) × StepBetween n products classes i j step

-- the classes are those of the products
abbrev pub AreClassesOf : List (Product ℕ) → List Class → Type 0
AreClassesOf products classes = AreStepsOf (length products) products classes

-- the rows of each class have this many columns and greatest columns of their own, and partners are numbers of classes
pub record AreClasses (columns : ℕ) (classes : List Class) : Type 0 where
  pub wide : (i k : ℕ) → k < length (class_at classes i).rows → length (slice_index_or (class_at classes i).rows k []) ≡ columns
  pub leads : (i : ℕ) → HaveOwnLeads (class_rows classes i)
  pub partners : (i j : ℕ) → IsPartner classes i j → j < length classes

-- the table has at each column the numbers of the classes of which a row has it as its greatest column, and only numbers of classes
pub record AreByLead (classes : List Class) (table : List (List ℕ)) : Type 0 where
  pub listed : (i k c : ℕ) → k < length (class_rows classes i) → IsLast (slice_index_or (class_rows classes i) k empty) c
      → Contains (slice_index_or table c []) i
  pub numbers : (c i : ℕ) → Contains (slice_index_or table c []) i → i < length classes

-- what is kept of the classes and their table: the classes are numbered in 32 bits
pub record IsGathered (gathered : Classes) : Type 0 where
  pub few : length gathered.list.items < 2 ^ 32
  pub classes : AreClasses gathered.columns gathered.list.items
  pub by_lead : AreByLead gathered.list.items gathered.by_lead.items

-- the old classes are still there, and the new ones have no partners
pub record HasClassesOf (old new : List Class) : Type 0 where
  pub count : length old ≤ length new
  pub kept : (i : ℕ) → i < length old → class_at new i ≡ class_at old i
  pub fresh : (i : ℕ) → length old ≤ i → (class_at new i).partners ≡ []

-- the class that is noted of an operand
abbrev pub noted_class : List (Option ℕ) → Operand → Option ℕ
noted_class placed operand = slice_index_or placed (place_of operand) None

-- the class of this number spans what the operand of these products spans
abbrev pub IsPlaced : List (Product ℕ) → List Class → Operand → ℕ → Type 0
IsPlaced products classes taken i =
    (i < length classes) × SameSpan (class_rows classes i) (operand products (step_of taken))

-- what is noted of operands is such a class
abbrev pub ArePlaced : List (Product ℕ) → List Class → List (Option ℕ) → Type 0
ArePlaced products classes placed = (taken : Operand) → IfSome (noted_class placed taken) (IsPlaced products classes taken)

-- j is a new partner of i, all other partners are as they were
abbrev pub HasPartnersAnd : (old : List Class) (i j : ℕ) (new : List Class) → Type 0
HasPartnersAnd old i j new = (a b : ℕ) → IsPartner new a b ↔ (IsPartner old a b ⊎ ((a ≡ i) × (b ≡ j)))

-- the new lists have a number at each of these columns, and otherwise what the old lists have
pub record HasInLanes (columns : List ℕ) (n : ℕ) (old new : List (List ℕ)) : Type 0 where
  pub there : (c : ℕ) → Contains columns c → Contains (slice_index_or new c []) n
  pub kept : (c j : ℕ) → Contains (slice_index_or old c []) j → Contains (slice_index_or new c []) j
  pub no_other : (c j : ℕ) → Contains (slice_index_or new c []) j → Contains (slice_index_or old c []) j ⊎ (n ≡ j)

-- numbers of classes that are listed, each flagged when it is
pub record AreListed (count : ℕ) (flags : List Bool) (near : List ℕ) : Type 0 where
  pub flag_count : length flags ≡ count
  pub once : length near + count_by not flags ≡ count
  pub numbers : All (λ i. i < count) near
  pub listed : (i : ℕ) → slice_index_or flags i false ≡ true → Contains near i

-- two lists of rows span no set in common but the empty one
abbrev pub MeetEmpty : (a b : List (Columns ℕ)) → Type 0
MeetEmpty a b = (v : Columns ℕ) → InSpan a v → InSpan b v → v ≡ empty

-- what two lists of rows span in common is in the span of a third
abbrev pub MeetOnly : (a b within : List (Columns ℕ)) → Type 0
MeetOnly a b within = (v : Columns ℕ) → InSpan a v → InSpan b v → InSpan within v

-- no member of the span of the rows has the greatest column of a member of the span of the others
abbrev pub LeadsApart : (rows others : List (Columns ℕ)) → Type 0
LeadsApart rows others = (v : Columns ℕ) (c : ℕ) → InSpan rows v → IsLast v c → LeadsNoMember others c

-- numbers of classes, at most as many as there are. Each class is among them, or has only members of the span `within` in common with the span of the rows
pub record AreNear (classes : List Class) (rows within : List (Columns ℕ)) (near : List ℕ) : Type 0 where
  pub few : length near ≤ length classes
  pub numbers : All (λ i. i < length classes) near
  pub others : (i : ℕ) → Contains near i ⊎ MeetOnly (class_rows classes i) rows within

-- the set is closed and not empty: by the law `leaks_are_closed` of `span_model` it is the leak of an attack
abbrev pub Leaks : List (Product ℕ) → Columns ℕ → Type 0
Leaks products v = (v ≢ empty) × IsClosed products v

-- no member of the span of the rows is a leak of products that have these classes
abbrev pub IsClean : List Class → List (Columns ℕ) → Type 0
IsClean classes rows =
    (products : List (Product ℕ)) → AreClassesOf products classes → (v : Columns ℕ) → InSpan rows v → ¬ Leaks products v

-- each member of the span of the rows that is a leak of products with these classes is in the span of the others
abbrev pub KeepsLeaks : List Class → (rows others : List (Columns ℕ)) → Type 0
KeepsLeaks classes rows others =
    (products : List (Product ℕ)) → AreClassesOf products classes → (v : Columns ℕ) → InSpan rows v → Leaks products v → InSpan others v

-- the set is a leak of each list of products that has these classes
abbrev pub IsLeakOf : List Class → Columns ℕ → Type 0
IsLeakOf classes v = (products : List (Product ℕ)) → AreClassesOf products classes → Leaks products v
