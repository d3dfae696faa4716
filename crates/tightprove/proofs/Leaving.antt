-- Products that are left out of the classes of their operands.
use Rattle.std.proofs.Common.{◌≡◌, inl, inr, ℕ, ◌+◌, ◌<◌, zero, suc, Bool, true, false, cond, List, [], ◌∷◌, ◌++◌, length, get_or, refl, sym, ap, ◌∙◌, subst, arith, Option, Some, None, MatchBool, MatchOption}
use Rattle.std.specs.List.{Contains}
use Rattle.std.specs.Option.{is_some, IfSome}
use mathlib.Core.Path.{fun_ext}
use Rattle.std.proofs.lemmas.Bool.{cases_lt, true≢false}
use Rattle.std.proofs.lemmas.List.{get_or_push, get_or_append_left}
use Rattle.span_model.specs.Columns.{Columns, sets_of, set_of}
use Rattle.span_model.specs.Span.{InSpan, SameSpan}
use Rattle.span_model.specs.Attack.{Product, product_at, HasAttack}
use Rattle.span_model.specs.AttackLaws.{LeaksAreClosed}
use Rattle.span_model.specs.Refresh.{left_out, left_out_from}
use Rattle.gf2_span.specs.Rows.{HaveOwnLeads}
use Rattle.tightprove.specs.Classes.{class_at, class_rows, AreStepsOf, AreClasses, AreClassesOf, HasClassesOf, IsClean, IsLeakOf}
use Rattle.tightprove.specs.declared.class.Class.{Class}
use Rattle.tightprove.specs.declared.gathered.Gathered.{Gathered}
use Rattle.tightprove.specs.declared.gathered.Place.{Place}
use Rattle.tightprove.specs.declared.images.Images.{Images}
use Rattle.tightprove.specs.Private.Gathered.{place_at, rows_in, IsPlaceOf, IsGatheredOf, KeepsRows, HasSameRows, HasNoLeak}
use Rattle.tightprove.specs.Private.Images.{AreImages, AreImagesOf}

-- ---- left out products

-- the product with no rows
abbrev bare_product : {C : Type 0} → Product C
bare_product = record { left = []; right = [] }

bare_at : {C : Type 0} (b : Bool) → cond b (bare_product {C = C}) bare_product ≡ bare_product
bare_at true = refl
bare_at false = refl

out_from : {C : Type 0} (k : ℕ) (out : ℕ → Bool) (products : List (Product C)) (j m : ℕ) → m ≡ k + j
    → product_at (left_out_from k out products) j ≡ cond (out m) bare_product (product_at products j)
out_from k out [] j m e = sym (bare_at (out m))
out_from k out (product ∷ products) zero m e =
    let same : k ≡ m = omega arith in ap (λ (x : ℕ). cond (out x) bare_product product) same
out_from k out (product ∷ products) (suc j) m e = out_from (suc k) out products j m (omega arith)

-- each product as it is among those that are left
pub out_at : {C : Type 0} (out : ℕ → Bool) (products : List (Product C)) (k : ℕ)
    → product_at (left_out out products) k ≡ cond (out k) bare_product (product_at products k)
out_at out products k = out_from 0 out products k k (omega arith)

length-left_out_from : {C : Type 0} (k : ℕ) (out : ℕ → Bool) (products : List (Product C)) → length (left_out_from k out products) ≡ length products
length-left_out_from k out [] = refl
length-left_out_from k out (product ∷ products) = ap suc (length-left_out_from (suc k) out products)

pub length-left_out : {C : Type 0} (out : ℕ → Bool) (products : List (Product C)) → length (left_out out products) ≡ length products
length-left_out out products = length-left_out_from 0 out products

-- ---- rows that stay

pub keeps_all : (old : List Class) → KeepsRows old old
keeps_all old = record { count = omega arith; rows = λ i h. refl }

pub kept_rows : (old new : List Class) → HasClassesOf old new → KeepsRows old new
kept_rows old new has = record { count = has.count; rows = λ i h. ap (λ (c : Class). sets_of c.rows) (has.kept i h) }

pub kept_twice : (old mid new : List Class) → KeepsRows old mid → KeepsRows mid new → KeepsRows old new
kept_twice old mid new first second =
    let many = first.count in
    let more = second.count in
    record { count = omega arith; rows = λ i h. second.rows i (omega arith) ∙ first.rows i h }

-- a place is one among more classes
pub place_kept : (old new : List Class) (place : Place) (product : Product ℕ) → KeepsRows old new → IsPlaceOf old place product → IsPlaceOf new place product
place_kept old new place product keeps is =
    let many = keeps.count in
    let l = is.left_number in
    let r = is.right_number in
    record {
      left_number = omega arith;
      right_number = omega arith;
      left = subst (λ (x : List (Columns ℕ)). SameSpan x product.left) (sym (keeps.rows place.left is.left_number)) is.left;
      right = subst (λ (x : List (Columns ℕ)). SameSpan x product.right) (sym (keeps.rows place.right is.right_number)) is.right;
    }

-- the place of a product
pub placed_at : (mid new : List Class) (i j : ℕ) (left right : List (Columns ℕ)) (product : Product ℕ) → KeepsRows mid new
    → (i < length mid) × SameSpan (class_rows mid i) left → (j < length new) × SameSpan (class_rows new j) right
    → left ≡ product.left → right ≡ product.right → IsPlaceOf new (record { left = i; right = j }) product
placed_at mid new i j left right product keeps first second l r =
    let many = keeps.count in
    let below = first.0 in
    record {
      left_number = omega arith;
      right_number = second.0;
      left = subst (λ (x : List (Columns ℕ)). SameSpan (class_rows new i) x) l
          (subst (λ (x : List (Columns ℕ)). SameSpan x left) (sym (keeps.rows i first.0)) first.1);
      right = subst (λ (x : List (Columns ℕ)). SameSpan (class_rows new j) x) r second.1;
    }

-- one place more
pub places_more : (classes : List Class) (products : List (Product ℕ)) (places : List Place) (place : Place) (k : ℕ) → length places ≡ k
    → ((p : ℕ) → p < k → IsPlaceOf classes (place_at places p) (product_at products p)) → IsPlaceOf classes place (product_at products k)
    → (p : ℕ) → p < k + 1 → IsPlaceOf classes (place_at (places ++ place ∷ []) p) (product_at products p)
places_more classes products places place k count before here p h = elim (cases_lt p k) [
  | inl below ↦
      subst (λ (x : Place). IsPlaceOf classes x (product_at products p))
      (sym (get_or_append_left places (place ∷ []) (record { left = 0; right = 0 }) p (omega arith))) (before p below)
  | inr last ↦
      let same : k ≡ p = omega arith in
      subst (λ (x : ℕ). IsPlaceOf classes (place_at (places ++ place ∷ []) x) (product_at products x)) same
      (subst (λ (x : Place). IsPlaceOf classes x (product_at products k))
      (sym (get_or_push places place (record { left = 0; right = 0 }) k count)) here)
]

-- ---- partners

-- classes whose partners are taken away
pub cleared_classes : (columns : ℕ) (old new : List Class) → AreClasses columns old → ((k : ℕ) → (class_at new k).rows ≡ (class_at old k).rows)
    → ((k : ℕ) → (class_at new k).partners ≡ []) → AreClasses columns new
cleared_classes columns old new are rows none =
    record {
      wide = λ a. subst (λ (r : List (List Bool)). (k : ℕ) → k < length r → length (get_or r k []) ≡ columns) (sym (rows a)) (are.wide a);
      leads = λ a. subst (λ (r : List (List Bool)). HaveOwnLeads (sets_of r)) (sym (rows a)) (are.leads a);
      partners = λ a b p. let h : Contains [] b = subst (λ (l : List ℕ). Contains l b) (none a) p in absurd (omega (arith, h.1));
    }

pub cleared_steps : (products : List (Product ℕ)) (new : List Class) → ((k : ℕ) → (class_at new k).partners ≡ []) → AreStepsOf 0 products new
cleared_steps products new none =
    record {
      covered = λ step h. absurd (omega arith);
      genuine = λ i j p. let h : Contains [] j = subst (λ (l : List ℕ). Contains l j) (none i) p in absurd (omega (arith, h.1));
    }

-- the same classes, as far as rows go
pub same_rows : (old new : List Class) → ((k : ℕ) → (class_at new k).rows ≡ (class_at old k).rows) → (k : ℕ) → class_rows new k ≡ class_rows old k
same_rows old new rows k = ap sets_of (rows k)

-- the classes of the place of a product that may be left out
pub place_spans : (products : List (Product ℕ)) (gathered : Gathered) (classes : List Class) (out : ℕ → Bool) (k : ℕ) (place : Place)
    → IsGatheredOf products gathered → ((i : ℕ) → class_rows classes i ≡ rows_in gathered i) → k < length gathered.places.items
    → place ≡ cond (out k) (record { left = gathered.bare; right = gathered.bare }) (place_at gathered.places.items k)
    → SameSpan (class_rows classes place.left) (product_at (left_out out products) k).left
    × SameSpan (class_rows classes place.right) (product_at (left_out out products) k).right
place_spans products gathered classes out k place is rows h e =
    let many = is.count in
    subst (λ (p : Place). SameSpan (class_rows classes p.left) (product_at (left_out out products) k).left
    × SameSpan (class_rows classes p.right) (product_at (left_out out products) k).right) (sym e)
    (subst (λ (p : Product ℕ). SameSpan (class_rows classes (cond (out k) (record { left = gathered.bare; right = gathered.bare }) (place_at gathered.places.items k)).left) p.left
    × SameSpan (class_rows classes (cond (out k) (record { left = gathered.bare; right = gathered.bare }) (place_at gathered.places.items k)).right) p.right)
    (sym (out_at out products k)) (by (out k)))
  where
    by : (b : Bool)
        → SameSpan (class_rows classes (cond b (record { left = gathered.bare; right = gathered.bare }) (place_at gathered.places.items k)).left) (cond b bare_product (product_at products k)).left
        × SameSpan (class_rows classes (cond b (record { left = gathered.bare; right = gathered.bare }) (place_at gathered.places.items k)).right) (cond b bare_product (product_at products k)).right
    by true =
        let none : SameSpan (class_rows classes gathered.bare) [] = subst (λ (r : List (Columns ℕ)). SameSpan r []) (sym (rows gathered.bare)) is.bare in
        (none, none)
    by false =
        let many = is.count in
        let at = is.placed k (omega arith) in (
          subst (λ (r : List (Columns ℕ)). SameSpan r (product_at products k).left) (sym (rows (place_at gathered.places.items k).left)) at.left,
          subst (λ (r : List (Columns ℕ)). SameSpan r (product_at products k).right) (sym (rows (place_at gathered.places.items k).right)) at.right,
        )

-- products are gathered as before, where only partners changed
pub gathered_same : (products : List (Product ℕ)) (old new : Gathered) → HasSameRows old new → IsGatheredOf products old → IsGatheredOf products new
gathered_same products old new same is =
    record {
      count = ap (λ (p : List Place). length p) (ap (λ (v : _). v.items) same.places) ∙ is.count;
      bare = subst (λ (x : ℕ). SameSpan (rows_in new x) []) (sym same.bare)
          (subst (λ (r : List (Columns ℕ)). SameSpan r []) (sym (same.rows old.bare)) is.bare);
      placed = λ k h. place_same k (is.placed k h);
    }
  where
    place_same : (k : ℕ) → IsPlaceOf old.classes.list.items (place_at old.places.items k) (product_at products k)
        → IsPlaceOf new.classes.list.items (place_at new.places.items k) (product_at products k)
    place_same k at =
        let places : old.places.items ≡ new.places.items = sym (ap (λ (v : _). v.items) same.places) in
        let many = same.count in
        let l = at.left_number in
        let r = at.right_number in
        subst (λ (p : List Place). IsPlaceOf new.classes.list.items (place_at p k) (product_at products k)) places
        (record {
          left_number = omega arith;
          right_number = omega arith;
          left = subst (λ (x : List (Columns ℕ)). SameSpan x (product_at products k).left) (sym (same.rows (place_at old.places.items k).left)) at.left;
          right = subst (λ (x : List (Columns ℕ)). SameSpan x (product_at products k).right) (sym (same.rows (place_at old.places.items k).right)) at.right;
        })

pub rows_twice : (old mid new : Gathered) → HasSameRows old mid → HasSameRows mid new → HasSameRows old new
rows_twice old mid new first second =
    record {
      count = second.count ∙ first.count;
      rows = λ i. second.rows i ∙ first.rows i;
      columns = second.columns ∙ first.columns;
      places = second.places ∙ first.places;
      bare = second.bare ∙ first.bare;
      images = second.images ∙ first.images;
    }

-- classes with the same rows have the same images
pub images_same : (old new : List Class) → length new ≡ length old → ((k : ℕ) → class_rows new k ≡ class_rows old k) → (images : Option Images)
    → IfSome images (λ own. AreImages old own) → IfSome images (λ own. AreImages new own)
images_same old new count rows None none = none
images_same old new count rows (Some own) (words, are) = (
  words,
  subst (λ (n : ℕ). AreImagesOf words (class_rows new) n own) (sym count)
      (subst (λ (all : ℕ → List (Columns ℕ)). AreImagesOf words all (length old) own) (sym (fun_ext rows)) are),
)

-- ---- answers

-- a leak that was found among the rows of a class, or none
pub found_answer : (classes : List Class) (i n : ℕ) (span rows : List (Columns ℕ)) (found : Option (List Bool)) (b : Bool) → b ≡ is_some found
    → MatchOption found (IsClean classes span) (λ leak. (length leak ≡ n) × IsLeakOf classes (set_of leak))
    → (IsClean classes span → IsClean classes rows) → MatchBool b ((v : Columns ℕ) × IsLeakOf classes v) (IsClean classes rows)
found_answer classes i n span rows None true e answer clean = absurd (true≢false e)
found_answer classes i n span rows None false e answer clean = clean answer
found_answer classes i n span rows (Some leak) true e answer clean = (set_of leak, answer.1)
found_answer classes i n span rows (Some leak) false e answer clean = absurd (true≢false (sym e))

-- what the answer says of the products that are not left out
pub below_answer : LeaksAreClosed ℕ → (products : List (Product ℕ)) (old new : Gathered) (out : ℕ → Bool) (i : ℕ) (b : Bool)
    → AreClassesOf (left_out out products) new.classes.list.items → HasSameRows old new
    → MatchBool b ((v : Columns ℕ) × IsLeakOf new.classes.list.items v) (IsClean new.classes.list.items (rows_in new i))
    → MatchBool b (HasAttack (left_out out products)) (HasNoLeak products out (rows_in old i))
below_answer law products old new out i true are same answer =
    (answer.0, (law (left_out out products) answer.0).1 (answer.1 (left_out out products) are))
below_answer law products old new out i false are same clean = λ v m leak.
    clean (left_out out products) are v (subst (λ (r : List (Columns ℕ)). InSpan r v) (sym (same.rows i)) m) ((law (left_out out products) v).0 leak)
