-- Affine cosets of images: the words that a linear map takes where it takes the image of a row.
use Rattle.std.specs.Prelude.{◌≡◌, ℕ, bit_xor, nat_eq, List, map, slice_index, if◌then◌else◌}
use Rattle.std.specs.Int.{bit_at, trailing_zeros, w64}
use Rattle.tightprove.specs.Classes.{IsPartner}
use Rattle.tightprove.specs.Private.Images.{AreImages}
use Rattle.tightprove.specs.declared.class.Class.{Class}
use Rattle.tightprove.specs.declared.gathered.Place.{Place}
use Rattle.tightprove.specs.declared.images.Images.{Images}

-- the word; its exclusive-or with the pivot, where it has a one at the place of the lowest one of the pivot
abbrev pub cleared_by : (pivot word : ℕ) → ℕ
cleared_by pivot word = if nat_eq (bit_at word (trailing_zeros w64 pivot)) 1 then bit_xor word pivot else word

-- the map takes the exclusive-or of two words to that of what it takes them to
abbrev pub IsLinear : (ℕ → ℕ) → Type 0
IsLinear f = (a b : ℕ) → f (bit_xor a b) ≡ bit_xor (f a) (f b)

-- a linear map takes the old words to the new ones
abbrev pub AreMapped : (old new : List ℕ) → Type 0
AreMapped old new = (f : ℕ → ℕ) × IsLinear f × (new ≡ map f old)

-- a linear map takes the images of the classes to these rests
abbrev pub AreRests : List Class → List ℕ → Type 0
AreRests classes rests = (images : Images) × AreImages classes images × AreMapped images.by_class.items rests

-- where the image of class k has the rest of that of class i, those of its partners have the rest 0
abbrev pub HasEnded : List Class → (rests : List ℕ) → (i k : ℕ) → Type 0
HasEnded classes rests i k = slice_index rests k ≡ slice_index rests i → (j : ℕ) → IsPartner classes k j → slice_index rests j ≡ 0

-- where the image of one operand of a product has the rest of that of class i, that of the other has the rest 0
pub record IsClosedAt (rests : List ℕ) (i : ℕ) (place : Place) : Type 0 where
  pub left : slice_index rests place.left ≡ slice_index rests i → slice_index rests place.right ≡ 0
  pub right : slice_index rests place.right ≡ slice_index rests i → slice_index rests place.left ≡ 0
