-- How many of the first products, without those of a set, leave a class without leaks.
use Rattle.std.specs.Prelude.{◌≡◌, ◌<◌, ◌≤◌, ◌+◌, ◌⊎◌, ℕ, Bool, true, false, List, length, slice_index}
use Rattle.span_model.specs.Columns.{Columns}
use Rattle.span_model.specs.Attack.{Product, HasAttack}
use Rattle.span_model.specs.Refresh.{left_out, without}
use Rattle.tightprove.specs.Classes.{IsClean, IsLeakOf}
use Rattle.tightprove.specs.declared.gathered.Gathered.{Gathered}
use Rattle.tightprove.specs.Private.Gathered.{beyond, rows_in, HasNoLeak}

-- how many classes there are
abbrev pub class_count : Gathered → ℕ
class_count gathered = length gathered.classes.list.items

-- each class has no leak among the first products of its bound
abbrev pub AreBounds : List (Product ℕ) → (ℕ → Bool) → Gathered → List ℕ → Type 0
AreBounds products set gathered bounds =
    (i : ℕ) → i < class_count gathered → HasNoLeak products (beyond set (slice_index bounds i)) (rows_in gathered i)

-- no class has a leak among the first products of one bound
abbrev pub IsCleanTo : List (Product ℕ) → (ℕ → Bool) → Gathered → ℕ → Type 0
IsCleanTo products set gathered b = (i : ℕ) → i < class_count gathered → HasNoLeak products (beyond set b) (rows_in gathered i)

-- where a class has its bound at this number or below, the first products of another bound have an attack
abbrev pub AreStuck : List (Product ℕ) → (ℕ → Bool) → Gathered → (m b : ℕ) → List ℕ → Type 0
AreStuck products set gathered m b bounds =
    (i : ℕ) → i < class_count gathered → slice_index bounds i ≤ m → HasAttack (left_out (beyond set b) products)

-- the least of the numbers, or `most` where none is below that
pub record IsLeastOf (numbers : List ℕ) (most least : ℕ) : Type 0 where
  pub lower : (i : ℕ) → i < length numbers → least ≤ slice_index numbers i
  pub within : least ≤ most
  pub there : least < most → (i : ℕ) × (i < length numbers) × (slice_index numbers i ≡ least)

-- the bound as it was, and where it is at m or below there is a leak; or all products, among which the class has no leak
abbrev pub IsCleanBound : Gathered → (i bound m all b : ℕ) → Type 0
IsCleanBound gathered i bound m all b =
    ((b ≡ bound) × (bound ≤ m → (v : Columns ℕ) × IsLeakOf gathered.classes.list.items v))
    ⊎ ((b ≡ all) × IsClean gathered.classes.list.items (rows_in gathered i))

-- the bound as it was, above m; or one above m, up to which the class has no leak; or m, and up to the next there is an attack
abbrev pub IsRestBound : List (Product ℕ) → (ℕ → Bool) → List (Columns ℕ) → (bound m b : ℕ) → Type 0
IsRestBound products set rows bound m b =
    ((b ≡ bound) × (m < b))
    ⊎ ((m < b) × HasNoLeak products (beyond set b) rows)
    ⊎ ((b ≡ m) × HasAttack (left_out (beyond set (m + 1)) products))

-- of the first m products it is settled which are in the set: without these no class has a leak among them, and each of
-- them brings an attack back
pub record IsSettled (products : List (Product ℕ)) (gathered : Gathered) (m : ℕ) (set : ℕ → Bool) (bounds : List ℕ) : Type 0 where
  pub clean : IsCleanTo products set gathered m
  pub within_bounds : AreBounds products set gathered bounds
  pub needed : (k : ℕ) → k < m → set k ≡ true → HasAttack (left_out (beyond (without k set) (k + 1)) products)
  pub later : (k : ℕ) → m ≤ k → set k ≡ false
