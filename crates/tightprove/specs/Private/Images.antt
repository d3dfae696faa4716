-- Images of sets of columns: exclusive-ors of a word for each column.
use Rattle.std.specs.Prelude.{◌≡◌, ◌<◌, ◌≤◌, ℕ, zero, suc, bit_xor, nat_eq, List, length, slice_index, slice_index_or, Some, Contains, if◌then◌else◌}
use Rattle.std.specs.HashMap.{get}
use Rattle.span_model.specs.Columns.{Columns, empty}
use Rattle.tightprove.specs.Classes.{class_rows, IsPartner}
use Rattle.tightprove.specs.declared.class.Class.{Class}
use Rattle.tightprove.specs.declared.images.Images.{Images}

-- the exclusive-or of the words of the set's columns below n
abbrev pub image_below : (words : List ℕ) → Columns ℕ → (n : ℕ) → ℕ
image_below words v zero = 0
image_below words v (suc n) = bit_xor (image_below words v n) (if v n then slice_index words n else 0)

-- the exclusive-or of the words of the set's columns
abbrev pub image : (words : List ℕ) → Columns ℕ → ℕ
image words v = image_below words v (length words)

-- the first of the rows; of no rows the empty set
abbrev pub first_row : List (Columns ℕ) → Columns ℕ
first_row rows = slice_index_or rows 0 empty

-- the image of number i
abbrev pub image_at : Images → ℕ → ℕ
image_at images i = slice_index images.by_class.items i

-- the images of n lists of rows: none has more than one row, each has the image of its row, and by the image of a row that of the
-- list is found
pub record AreImagesOf (words : List ℕ) (rows : ℕ → List (Columns ℕ)) (n : ℕ) (images : Images) : Type 0 where
  pub count : length images.by_class.items ≡ n
  pub single : (i : ℕ) → i < n → length (rows i) ≤ 1
  pub exact : (i : ℕ) → i < n → image_at images i ≡ image words (first_row (rows i))
  pub found : (i : ℕ) → i < n → length (rows i) ≡ 1 → get nat_eq images.class_of (image_at images i) ≡ Some i
  pub numbers : (m i : ℕ) → get nat_eq images.class_of m ≡ Some i → i < n

-- the images of classes of at most one row
abbrev pub AreImages : List Class → Images → Type 0
AreImages classes images = (words : List ℕ) × AreImagesOf words (class_rows classes) (length classes) images

-- the list holds with any three words their exclusive-or
abbrev pub IsCoset : List ℕ → Type 0
IsCoset members = (a b c : ℕ) → Contains members a → Contains members b → Contains members c → Contains members (bit_xor a (bit_xor b c))

-- the list holds with each word its exclusive-or with the image
abbrev pub IsKeptBy : (image : ℕ) → (members : List ℕ) → Type 0
IsKeptBy image members = (m : ℕ) → Contains members m → Contains members (bit_xor m image)

-- the new list is a coset that goes on from the old one, and is kept by each image that the old one is kept by
pub record Extends (old new : List ℕ) : Type 0 where
  pub coset : IsCoset new
  pub longer : length old ≤ length new
  pub front : (n : ℕ) → n < length old → slice_index new n ≡ slice_index old n
  pub kept : (image : ℕ) → IsKeptBy image old → IsKeptBy image new

-- the list is kept by the images of the partners of each class whose row has the image m
abbrev pub TakesPartners : List Class → Images → (m : ℕ) → (members : List ℕ) → Type 0
TakesPartners classes images m members =
    (i j : ℕ) → length (class_rows classes i) ≡ 1 → image_at images i ≡ m → IsPartner classes i j → IsKeptBy (image_at images j) members
