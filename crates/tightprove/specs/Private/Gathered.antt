-- The classes of the operands of products, of which some are left out.
use Rattle.std.specs.Prelude.{◌≡◌, ◌<◌, ◌≤◌, ◌||◌, nat_le, ℕ, Bool, false, List, [], length, slice_index_or, IfSome}
use Rattle.span_model.specs.Columns.{Columns}
use Rattle.span_model.specs.Span.{InSpan, SameSpan}
use Rattle.span_model.specs.Attack.{Product, product_at, IsLeak}
use Rattle.span_model.specs.Refresh.{left_out}
use Rattle.tightprove.specs.Classes.{class_rows, IsGathered}
use Rattle.tightprove.specs.Private.Images.{AreImages}
use Rattle.tightprove.specs.declared.class.Class.{Class}
use Rattle.tightprove.specs.declared.gathered.Gathered.{Gathered}
use Rattle.tightprove.specs.declared.gathered.Place.{Place}

-- the products whose marks are set
abbrev pub marks_of : List Bool → ℕ → Bool
marks_of marks k = slice_index_or marks k false

-- the products of the set, and those from number b on
abbrev pub beyond : (ℕ → Bool) → ℕ → ℕ → Bool
beyond set b k = set k || nat_le b k

-- the place of a product among the classes
abbrev pub place_at : List Place → ℕ → Place
place_at places k = slice_index_or places k (record { left = 0; right = 0 })

-- the rows of the class of this number
abbrev pub rows_in : Gathered → ℕ → List (Columns ℕ)
rows_in gathered i = class_rows gathered.classes.list.items i

-- the operands of a product are of the two classes of the place
pub record IsPlaceOf (classes : List Class) (place : Place) (product : Product ℕ) : Type 0 where
  pub left_number : place.left < length classes
  pub right_number : place.right < length classes
  pub left : SameSpan (class_rows classes place.left) product.left
  pub right : SameSpan (class_rows classes place.right) product.right

-- each product has its place among the classes, and there is a class with no member but the empty set
pub record IsGatheredOf (products : List (Product ℕ)) (gathered : Gathered) : Type 0 where
  pub count : length gathered.places.items ≡ length products
  pub bare : SameSpan (rows_in gathered gathered.bare) []
  pub placed : (k : ℕ) → k < length products → IsPlaceOf gathered.classes.list.items (place_at gathered.places.items k) (product_at products k)

-- what is kept of the classes, that places are numbers of classes, and what images there are
pub record IsReady (gathered : Gathered) : Type 0 where
  pub classes : IsGathered gathered.classes
  pub bare : gathered.bare < length gathered.classes.list.items
  pub left : (k : ℕ) → k < length gathered.places.items → (place_at gathered.places.items k).left < length gathered.classes.list.items
  pub right : (k : ℕ) → k < length gathered.places.items → (place_at gathered.places.items k).right < length gathered.classes.list.items
  pub images : IfSome gathered.images (λ images. AreImages gathered.classes.list.items images)

-- more classes, and the rows of the old ones as they were
pub record KeepsRows (old new : List Class) : Type 0 where
  pub count : length old ≤ length new
  pub rows : (i : ℕ) → i < length old → class_rows new i ≡ class_rows old i

-- the same classes with other partners
pub record HasSameRows (old new : Gathered) : Type 0 where
  pub count : length new.classes.list.items ≡ length old.classes.list.items
  pub rows : (i : ℕ) → rows_in new i ≡ rows_in old i
  pub columns : new.classes.columns ≡ old.classes.columns
  pub places : new.places ≡ old.places
  pub bare : new.bare ≡ old.bare
  pub images : new.images ≡ old.images

-- no member of the span of the rows is the leak of an attack on the products without those of the set
abbrev pub HasNoLeak : List (Product ℕ) → (ℕ → Bool) → List (Columns ℕ) → Type 0
HasNoLeak products set rows = (v : Columns ℕ) → InSpan rows v → ¬ IsLeak (left_out set products) v
