-- Cosets of images, and leaks that do not reach the image 0.
use Rattle.std.proofs.Common.{◌≡◌, ◌⊎◌, inl, inr, ℕ, ◌+◌, ◌<◌, ◌≤◌, zero, suc, Bool, true, false, not, List, [], ◌∷◌, ◌++◌, length, map, take, get_or, bit_xor, eqb, refl, sym, ap, ◌∙◌, subst, arith, Some}
use Rattle.std.specs.List.{Contains, IsAnyAnswer}
use Rattle.std.specs.Prelude.{nat_eq}
use Rattle.std.specs.HashMap.{get}
use Rattle.std.specs.Int.Bits.{xor_assoc, xor_self, xor_zero_l, xor_zero_r}
use Rattle.std.proofs.lemmas.Nat.{xor_comm}
use Rattle.std.proofs.lemmas.Bool.{cases_lt}
use Rattle.std.proofs.lemmas.List.{get_or-map, length-map, get_or_default, get_or_append_left, length-append, append_assoc, map-append, take_more}
use Rattle.std.proofs.lemmas.List.Elements.{Contains-append_left, Contains-append_right, Contains-append_cases, Contains-get_or, Decides-contains, contains_decides}
use Rattle.std.proofs.lemmas.Bool.Decides.{Decides-eqb, not_from_Decides}
use Rattle.span_model.specs.Columns.{Columns, empty, ◌△◌}
use Rattle.span_model.specs.Span.{InSpan, SameSpan}
use Rattle.span_model.specs.Attack.{Product}
use Rattle.span_model.specs.Closure.{Step, operand, co_operand, co_operands, IsChain, IsClosed}
use Rattle.span_model.proofs.Sets.{△_cancel_right, △-empty}
use Rattle.span_model.proofs.Members.{in_none, in_cases, in_parts}
use Rattle.tightprove.specs.Classes.{class_rows, IsPartner, IsClean}
use Rattle.tightprove.specs.Private.Images.{image, first_row, image_at, AreImages, IsCoset, IsKeptBy, Extends, TakesPartners}
use Rattle.tightprove.specs.declared.class.Class.{Class}
use Rattle.tightprove.specs.declared.images.Images.{Images}
use Rattle.tightprove.proofs.Closures.{partner_of}
use Rattle.tightprove.proofs.Imaging.{xor_shared, image-sum, image-empty}

-- ---- a coset and its exclusive-or with one more word

-- the members, and the exclusive-or of each with a word
abbrev doubled : List ℕ → ℕ → List ℕ
doubled members p = members ++ map (λ m. bit_xor m p) members

-- by what a member is moved: not at all, or by the word
abbrev IsShift : ℕ → ℕ → Type 0
IsShift p e = (e ≡ 0) ⊎ (e ≡ p)

shift_sum : (p d e : ℕ) → IsShift p d → IsShift p e → IsShift p (bit_xor d e)
shift_sum p d e (inl a) (inl b) = inl (ap (λ x. bit_xor x e) a ∙ xor_zero_l e ∙ b)
shift_sum p d e (inl a) (inr b) = inr (ap (λ x. bit_xor x e) a ∙ xor_zero_l e ∙ b)
shift_sum p d e (inr a) (inl b) = inr (ap (λ x. bit_xor d x) b ∙ xor_zero_r d ∙ a)
shift_sum p d e (inr a) (inr b) = inl (ap (λ x. bit_xor x e) a ∙ ap (λ x. bit_xor p x) b ∙ xor_self p)

contains_map : (f : ℕ → ℕ) (xs : List ℕ) (x : ℕ) → Contains xs x → Contains (map f xs) (f x)
contains_map f xs x (k, lt, e) = (k, omega (arith, length-map xs f), get_or-map f xs k x (f x) lt ∙ ap f e)

to_doubled : (members : List ℕ) (p m e : ℕ) → Contains members m → IsShift p e → Contains (doubled members p) (bit_xor m e)
to_doubled members p m e there (inl none) =
    subst (λ x. Contains (doubled members p) x) (sym (ap (λ x. bit_xor m x) none ∙ xor_zero_r m))
    (Contains-append_left members (map (λ x. bit_xor x p) members) m there)
to_doubled members p m e there (inr by_p) =
    subst (λ x. Contains (doubled members p) (bit_xor m x)) (sym by_p)
    (Contains-append_right members (map (λ x. bit_xor x p) members) (bit_xor m p) (contains_map (λ x. bit_xor x p) members m there))

from_doubled : (members : List ℕ) (p y : ℕ) → Contains (doubled members p) y
    → (m : ℕ) × (e : ℕ) × Contains members m × IsShift p e × (bit_xor m e ≡ y)
from_doubled members p y there = elim (Contains-append_cases members (map (λ x. bit_xor x p) members) y there) [
  | inl old ↦ (y, 0, old, inl refl, xor_zero_r y)
  | inr new ↦ (
    get_or members new.0 0,
    p,
    Contains-get_or members new.0 0 (omega (arith, new.1, length-map members (λ x. bit_xor x p))),
    inr refl,
    sym (get_or-map (λ x. bit_xor x p) members new.0 0 y (omega (arith, new.1, length-map members (λ x. bit_xor x p)))) ∙ new.2,
  )
]

coset_doubled : (members : List ℕ) (p : ℕ) → IsCoset members → IsCoset (doubled members p)
coset_doubled members p coset a b c in_a in_b in_c =
    let x = from_doubled members p a in_a in
    let y = from_doubled members p b in_b in
    let z = from_doubled members p c in_c in
    let is : bit_xor (bit_xor x.0 (bit_xor y.0 z.0)) (bit_xor x.1 (bit_xor y.1 z.1)) ≡ bit_xor a (bit_xor b c) =
    xor_shared x.0 (bit_xor y.0 z.0) x.1 (bit_xor y.1 z.1)
    ∙ ap (λ u. bit_xor (bit_xor x.0 x.1) u) (xor_shared y.0 z.0 y.1 z.1)
    ∙ ap (λ u. bit_xor u (bit_xor (bit_xor y.0 y.1) (bit_xor z.0 z.1))) x.4
    ∙ ap (λ u. bit_xor a (bit_xor u (bit_xor z.0 z.1))) y.4
    ∙ ap (λ u. bit_xor a (bit_xor b u)) z.4 in
    subst (λ u. Contains (doubled members p) u) is
    (to_doubled members p (bit_xor x.0 (bit_xor y.0 z.0)) (bit_xor x.1 (bit_xor y.1 z.1)) (coset x.0 y.0 z.0 x.2 y.2 z.2)
    (shift_sum p x.1 (bit_xor y.1 z.1) x.3 (shift_sum p y.1 z.1 y.3 z.3)))

kept_doubled : (members : List ℕ) (p q : ℕ) → IsKeptBy q members → IsKeptBy q (doubled members p)
kept_doubled members p q kept y there =
    let x = from_doubled members p y there in
    let is : bit_xor (bit_xor x.0 q) x.1 ≡ bit_xor y q =
    xor_assoc x.0 q x.1 ∙ ap (λ u. bit_xor x.0 u) (xor_comm q x.1) ∙ sym (xor_assoc x.0 x.1 q) ∙ ap (λ u. bit_xor u q) x.4 in
    subst (λ u. Contains (doubled members p) u) is (to_doubled members p (bit_xor x.0 q) x.1 (kept x.0 x.2) x.3)

-- the word that was added keeps the coset
pub kept_new : (members : List ℕ) (p : ℕ) → IsKeptBy p (doubled members p)
kept_new members p y there =
    let x = from_doubled members p y there in
    let is : bit_xor x.0 (bit_xor x.1 p) ≡ bit_xor y p = sym (xor_assoc x.0 x.1 p) ∙ ap (λ u. bit_xor u p) x.4 in
    subst (λ u. Contains (doubled members p) u) is (to_doubled members p x.0 (bit_xor x.1 p) x.2 (shift_sum p x.1 p x.3 (inr refl)))

-- a word that moves the first member to a member keeps the coset
pub kept_inside : (members : List ℕ) (first p : ℕ) → IsCoset members → Contains members first → Contains members (bit_xor first p) → IsKeptBy p members
kept_inside members first p coset there moved m in_m =
    let is : bit_xor m (bit_xor first (bit_xor first p)) ≡ bit_xor m p =
    ap (λ u. bit_xor m u) (sym (xor_assoc first first p) ∙ ap (λ u. bit_xor u p) (xor_self first) ∙ xor_zero_l p) in
    subst (λ u. Contains members u) is (coset m first (bit_xor first p) in_m there moved)

-- a list of one word is a coset
pub coset_one : (x : ℕ) → IsCoset (x ∷ [])
coset_one x a b c in_a in_b in_c =
    let is : x ≡ bit_xor a (bit_xor b c) =
    sym (ap (λ u. bit_xor x u) (xor_self x) ∙ xor_zero_r x)
    ∙ ap (λ u. bit_xor u (bit_xor x x)) (one a in_a) ∙ ap (λ u. bit_xor a (bit_xor u x)) (one b in_b) ∙ ap (λ u. bit_xor a (bit_xor b u)) (one c in_c) in
    subst (λ u. Contains (x ∷ []) u) is (0, omega arith, refl)
  where
    one : (y : ℕ) → Contains (x ∷ []) y → x ≡ y
    one y (zero, lt, e) = e
    one y (suc k, lt, e) = absurd (omega arith)

-- one more member that is moved
pub doubled_more : (old now : List ℕ) (p k member : ℕ) → k < length old → now ≡ old ++ map (λ m. bit_xor m p) (take k old) → member ≡ get_or now k 0
    → now ++ bit_xor member p ∷ [] ≡ old ++ map (λ m. bit_xor m p) (take (k + 1) old)
doubled_more old now p k member lt is at =
    let same : member ≡ get_or old k 0 =
    at ∙ ap (λ (xs : List ℕ). get_or xs k 0) is ∙ get_or_append_left old (map (λ m. bit_xor m p) (take k old)) 0 k lt in
    ap (λ (xs : List ℕ). xs ++ bit_xor member p ∷ []) is
    ∙ append_assoc old (map (λ m. bit_xor m p) (take k old)) (bit_xor member p ∷ [])
    ∙ ap (λ (xs : List ℕ). old ++ xs)
    (ap (λ x. map (λ m. bit_xor m p) (take k old) ++ bit_xor x p ∷ []) same
    ∙ sym (map-append (λ m. bit_xor m p) (take k old) (get_or old k 0 ∷ []))
    ∙ ap (λ (xs : List ℕ). map (λ m. bit_xor m p) xs) (sym (take_more old k 0 lt)))

-- ---- a coset that is extended

pub extends_none : (members : List ℕ) → IsCoset members → Extends members members
extends_none members coset = record { coset = coset; longer = omega arith; front = λ n lt. refl; kept = λ image kept. kept }

pub extends_doubled : (members : List ℕ) (p : ℕ) → IsCoset members → Extends members (doubled members p)
extends_doubled members p coset = record {
  coset = coset_doubled members p coset;
  longer = omega (arith, length-append members (map (λ x. bit_xor x p) members));
  front = λ n lt. get_or_append_left members (map (λ x. bit_xor x p) members) 0 n lt;
  kept = λ q kept. kept_doubled members p q kept;
}

pub extends_twice : (old mid new : List ℕ) → Extends old mid → Extends mid new → Extends old new
extends_twice old mid new first then = record {
  coset = then.coset;
  longer = omega (arith, first.longer, then.longer);
  front = λ n lt. then.front n (omega (arith, lt, first.longer)) ∙ first.front n lt;
  kept = λ q kept. then.kept q (first.kept q kept);
}

pub takes_kept : (classes : List Class) (images : Images) (m : ℕ) (old new : List ℕ) → Extends old new → TakesPartners classes images m old
    → TakesPartners classes images m new
takes_kept classes images m old new more takes i j one is partner = more.kept (image_at images j) (takes i j one is partner)

-- ---- words at places of lists

pub at_same : (xs : List ℕ) (k x : ℕ) → k < length xs → get_or xs k x ≡ x → get_or xs k 0 ≡ x
at_same xs k x lt is = sym (get_or_default xs k x 0 lt) ∙ is

pub contains_at : (xs : List ℕ) (k x : ℕ) → k < length xs → get_or xs k 0 ≡ x → Contains xs x
contains_at xs k x lt is = (k, lt, get_or_default xs k x 0 lt ∙ is)

-- the members at the first places, and the next one, have their partners taken
pub takes_more : (classes : List Class) (images : Images) (old new : List ℕ) (k member : ℕ) → Extends old new → k < length old → member ≡ get_or old k 0
    → ((n : ℕ) → n < k → TakesPartners classes images (get_or old n 0) old) → TakesPartners classes images member new
    → (n : ℕ) → n < k + 1 → TakesPartners classes images (get_or new n 0) new
takes_more classes images old new k member more lt is before here n within = elim (cases_lt n k) [
  | inl less ↦
      subst (λ m. TakesPartners classes images m new) (sym (more.front n (omega arith)))
      (takes_kept classes images (get_or old n 0) old new more (before n less))
  | inr now ↦
      let e : k ≡ n = omega arith in
      subst (λ m. TakesPartners classes images m new) (is ∙ sym (more.front k lt) ∙ ap (λ i. get_or new i 0) e) here
]

-- a class that is found by its image is the only one whose row has it
pub takes_found : (classes : List Class) (images : Images) (m i : ℕ) (members : List ℕ) → AreImages classes images → get nat_eq images.class_of m ≡ Some i
    → ((j : ℕ) → IsPartner classes i j → IsKeptBy (image_at images j) members) → TakesPartners classes images m members
takes_found classes images m i members (words, own) there kept a b one is partner =
    let found : Some a ≡ Some i =
    sym (own.found a (partner_of classes a b partner) one) ∙ ap (λ x. get nat_eq images.class_of x) is ∙ there in
    let same : a ≡ i = cc found in
    kept b (subst (λ x. IsPartner classes x b) same partner)

-- the test whether a list holds a word
pub test_holds : (xs : List ℕ) (x : ℕ) (r : Bool) → IsAnyAnswer (λ y b. eqb y x ≡ b) xs r → r ≡ true → Contains xs x
test_holds xs x r h = (Decides-contains xs x r (contains_decides eqb Decides-eqb xs x r h)).0

pub test_misses : (xs : List ℕ) (x : ℕ) (r : Bool) → IsAnyAnswer (λ y b. eqb y x ≡ b) xs r → r ≡ false → ¬ Contains xs x
test_misses xs x r h = not_from_Decides r (Decides-contains xs x r (contains_decides eqb Decides-eqb xs x r h))

pub not_true : (b : Bool) → not b ≡ true → b ≡ false
not_true true e = cc e
not_true false e = refl

-- ---- leaks

-- words that are kept by the images of all that follows from a leak whose image is among them
along : (words : List ℕ) (Member : ℕ → Type 0) (products : List (Product ℕ)) (v : Columns ℕ) → Member (image words v)
    → ((step : Step) → step.product < length products → (r : Columns ℕ) → InSpan (operand products step) r → Member (image words r)
    → (p : Columns ℕ) → InSpan (co_operand products step) p → (m : ℕ) → Member m → Member (bit_xor m (image words p)))
    → (steps : List Step) → IsChain products v steps → (s : Columns ℕ) → InSpan (co_operands products steps) s
    → (m : ℕ) → Member m → Member (bit_xor m (image words s))
along words Member products v there closed [] chain s in_s m in_m =
    subst Member (sym (ap (λ u. bit_xor m (image words u)) (in_none s in_s) ∙ ap (λ u. bit_xor m u) (image-empty words) ∙ xor_zero_r m)) in_m
along words Member products v there closed (step ∷ before) chain s in_s m in_m =
    let of_v = in_parts (operand products step) (co_operands products before) v chain.1 in
    let of_s = in_parts (co_operand products step) (co_operands products before) s in_s in
    let is_r : bit_xor (image words v) (image words of_v.1) ≡ image words of_v.0 =
    sym (image-sum words v of_v.1) ∙ ap (λ u. image words u) (ap (λ (u : Columns ℕ). u △ of_v.1) (sym of_v.4) ∙ △_cancel_right of_v.0 of_v.1) in
    let in_r : Member (image words of_v.0) =
    subst Member is_r (along words Member products v there closed before chain.2 of_v.1 of_v.3 (image words v) there) in
    let is_s : bit_xor (bit_xor m (image words of_s.0)) (image words of_s.1) ≡ bit_xor m (image words s) =
    xor_assoc m (image words of_s.0) (image words of_s.1)
    ∙ ap (λ u. bit_xor m u) (sym (image-sum words of_s.0 of_s.1) ∙ ap (λ u. image words u) of_s.4) in
    subst Member is_s (along words Member products v there closed before chain.2 of_s.1 of_s.3 (bit_xor m (image words of_s.0))
    (closed step chain.0 of_v.0 of_v.2 in_r of_s.0 of_s.2 m in_m))

-- of at most one row the members are the empty set and the row
pub members_of : (rows : List (Columns ℕ)) (v : Columns ℕ) → length rows ≤ 1 → InSpan rows v → (v ≡ empty) ⊎ ((length rows ≡ 1) × (v ≡ first_row rows))
members_of [] v single there = inl (in_none v there)
members_of (row ∷ []) v single there = elim (in_cases row [] v there) [
  | inl m ↦ inl (in_none v m)
  | inr m ↦ inr (refl, sym (ap (λ (u : Columns ℕ). row △ u) (sym (in_none m.0 m.1)) ∙ m.2) ∙ △-empty row)
]
members_of (row ∷ other ∷ rows) v single there = absurd (omega arith)

-- words are kept by the images of one list of rows where those of another are among them
abbrev pub KeepsStep : (words : List ℕ) → (Member : ℕ → Type 0) → (operand co_operand : List (Columns ℕ)) → Type 0
KeepsStep words Member operand co_operand =
    (r : Columns ℕ) → InSpan operand r → Member (image words r) → (p : Columns ℕ) → InSpan co_operand p → (m : ℕ) → Member m
    → Member (bit_xor m (image words p))

-- a set is not closed where its image is among words that each step keeps, and that do not come to 0
pub not_closed : (words : List ℕ) (Member : ℕ → Type 0) (products : List (Product ℕ)) (v : Columns ℕ) → Member (image words v)
    → ((step : Step) → step.product < length products → KeepsStep words Member (operand products step) (co_operand products step))
    → ¬ Member 0 → ¬ IsClosed products v
not_closed words Member products v there kept apart leak =
    apart (subst Member (xor_self (image words v)) (along words Member products v there kept leak.0 leak.1 v leak.2 (image words v) there))

-- operands of at most one row, by the images of these rows
pub step_kept : (words : List ℕ) (Member : ℕ → Type 0) (rows others operand co_operand : List (Columns ℕ)) → ¬ Member 0
    → length rows ≤ 1 → length others ≤ 1 → SameSpan rows operand → SameSpan others co_operand
    → (length rows ≡ 1 → Member (image words (first_row rows)) → (m : ℕ) → Member m → Member (bit_xor m (image words (first_row others))))
    → KeepsStep words Member operand co_operand
step_kept words Member rows others operand co_operand apart single also_single same also_same takes r in_r there p in_p m in_m =
    elim (members_of rows r single ((same r).1 in_r)) [
      | inl none ↦ absurd (apart (subst Member (ap (λ u. image words u) none ∙ image-empty words) there))
      | inr row ↦ elim (members_of others p also_single ((also_same p).1 in_p)) [
        | inl none ↦ subst Member (sym (ap (λ u. bit_xor m (image words u)) none ∙ ap (λ u. bit_xor m u) (image-empty words) ∙ xor_zero_r m)) in_m
        | inr other ↦
            subst (λ u. Member (bit_xor m u)) (sym (ap (λ u. image words u) other.1))
            (takes row.0 (subst Member (ap (λ u. image words u) row.1) there) m in_m)
      ]
    ]

-- a class is clean where the image of its row is among words that are kept by the images of partners of classes whose images are
-- among them, and that do not come to 0
pub apart_clean : (Member : ℕ → Type 0) (classes : List Class) (images : Images) (i : ℕ) → AreImages classes images
    → ((a b : ℕ) → IsPartner classes a b → b < length classes) → i < length classes → Member (image_at images i)
    → ((a b : ℕ) → length (class_rows classes a) ≡ 1 → Member (image_at images a) → IsPartner classes a b
    → (m : ℕ) → Member m → Member (bit_xor m (image_at images b)))
    → ¬ Member 0 → IsClean classes (class_rows classes i)
apart_clean Member classes images i (words, own) partners lt first takes apart products are v in_v leak =
    elim (members_of (class_rows classes i) v (own.single i lt) in_v) [
      | inl none ↦ leak.0 none
      | inr row ↦ not_closed words Member products v (subst Member (own.exact i lt ∙ sym (ap (λ u. image words u) row.1)) first) kept apart leak.1
    ]
  where
    kept : (step : Step) → step.product < length products → KeepsStep words Member (operand products step) (co_operand products step)
    kept step within =
        let c = are.covered step within in
        let a_lt : c.0 < length classes = partner_of classes c.0 c.1 c.2 in
        let b_lt : c.1 < length classes = partners c.0 c.1 c.2 in
        step_kept words Member (class_rows classes c.0) (class_rows classes c.1) (operand products step) (co_operand products step) apart
        (own.single c.0 a_lt) (own.single c.1 b_lt) c.3.operand_rows c.3.co_operand_rows
        (λ one there m in_m. subst (λ u. Member (bit_xor m u)) (own.exact c.1 b_lt) (takes c.0 c.1 one (subst Member (sym (own.exact c.0 a_lt)) there) c.2 m in_m))

-- a class is clean where the coset that is grown for its row does not come to 0
pub coset_clean : (classes : List Class) (images : Images) (i : ℕ) (members : List ℕ) → AreImages classes images
    → ((a b : ℕ) → IsPartner classes a b → b < length classes) → i < length classes → Contains members (image_at images i)
    → ((m : ℕ) → Contains members m → TakesPartners classes images m members) → ¬ Contains members 0
    → IsClean classes (class_rows classes i)
coset_clean classes images i members are partners lt first takes apart =
    apart_clean (λ m. Contains members m) classes images i are partners lt first
    (λ a b one there partner. takes (image_at images a) there a b one refl partner) apart
