-- What holds of a span because it holds of its rows, and attacks that carry over to other products.
use Rattle.std.proofs.Common.{◌≡◌, ◌≢◌, ◌<◌, ◌≤◌, inl, inr, ℕ, zero, suc, Bool, true, false, cond, not, List, [], ◌∷◌, ◌++◌, length, get_or, map, All, Option, Some, None, refl, sym, ap, ◌∙◌, subst, arith, suc-le-suc}
use native.Mathlib.Nat.{le_of_suc-le-suc}
use mathlib.Core.Path.{fun_ext}
use lib.ListN.{length-map, get_or-map}
use Rattle.std.specs.Bool.{beq}
use Rattle.std.specs.Option.{option_map_or}
use Rattle.span_model.specs.Columns.{Columns, empty, ◌△◌}
use Rattle.span_model.specs.Span.{InSpan}
use Rattle.span_model.specs.Attack.{Product, Probe, IsProbe, product_at, shown, seen, IsAttack, HasAttack}
use Rattle.span_model.specs.Renaming.{named_in, renamed_product, renamed, AreRenamed, renumbered, IsCovered}
use Rattle.span_model.proofs.Members.{empty_in, in_as, in_none, in_cases, in_sum, in_head, in_later, in_parts, in_behind, in_front}

module _ {C : Type 0} where
  -- it holds of the empty set, and of the symmetric difference of two sets of which it holds
  pub record IsLinear (P : Columns C → Type 0) : Type 0 where
    pub at_empty : P empty
    pub at_sum : (v w : Columns C) → P v → P w → P (v △ w)

  -- it holds of each set in the span
  abbrev pub Throughout : (P : Columns C → Type 0) → List (Columns C) → Type 0
  Throughout P rows = (v : Columns C) → InSpan rows v → P v

  pub throughout_none : (P : Columns C → Type 0) → IsLinear P → Throughout P []
  throughout_none P linear v m = subst P (sym (in_none v m)) linear.at_empty

  pub throughout_cons : (P : Columns C → Type 0) → IsLinear P → (row : Columns C) (rows : List (Columns C)) → P row → Throughout P rows → Throughout P (row ∷ rows)
  throughout_cons P linear row rows h k v m = elim (in_cases row rows v m) [
    | inl x ↦ k v x
    | inr x ↦ subst P x.2 (linear.at_sum row x.0 h (k x.0 x.1))
  ]

  pub throughout_all : (P : Columns C → Type 0) → IsLinear P → (rows : List (Columns C)) → All P rows → Throughout P rows
  throughout_all P linear [] h = throughout_none P linear
  throughout_all P linear (row ∷ rows) h =
      throughout_cons P linear row rows (h 0 row (omega arith)) (throughout_all P linear rows (λ k d lt. h (suc k) d (suc-le-suc lt)))

  pub throughout_both : (P : Columns C → Type 0) → IsLinear P → (a b : List (Columns C)) → Throughout P a → Throughout P b → Throughout P (a ++ b)
  throughout_both P linear a b h k v m =
      let p = in_parts a b v m in subst P p.4 (linear.at_sum p.0 p.1 (h p.0 p.2) (k p.1 p.3))

  throughout_if : (P : Columns C → Type 0) → IsLinear P → (rows : List (Columns C)) (b : Bool) → (b ≡ true → Throughout P rows) → Throughout P (cond b rows [])
  throughout_if P linear rows true h = h refl
  throughout_if P linear rows false h = throughout_none P linear

  -- it holds of what probes show, where it holds of the operands
  pub throughout_seen : (P : Columns C → Type 0) → IsLinear P → (products : List (Product C))
      → ((k : ℕ) → Throughout P (product_at products k).left) → ((k : ℕ) → Throughout P (product_at products k).right)
      → (probes : List Probe) (s : ℕ) → Throughout P (seen products probes s)
  throughout_seen P linear products left right [] s = throughout_none P linear
  throughout_seen P linear products left right (probe ∷ probes) s =
      throughout_both P linear (shown products probe s) (seen products probes s)
      (throughout_both P linear _ _
      (throughout_if P linear (product_at products probe.product).left _ (λ _. left probe.product))
      (throughout_if P linear (product_at products probe.product).right _ (λ _. right probe.product)))
      (throughout_seen P linear products left right probes s)

below : (k m n : ℕ) → k < m → m ≤ n → k < n
below k m n lt le = omega arith

renumbered_same : (probes : List Probe) → map (renumbered (λ k. k)) probes ≡ probes
renumbered_same [] = refl
renumbered_same (probe ∷ probes) = ap (λ (rest : List Probe). probe ∷ rest) (renumbered_same probes)

-- probes of products are probes of those that have their numbers
within_to : (n m t : ℕ) (number : ℕ → ℕ) → ((k : ℕ) → k < n → number k < m) → (probes : List Probe)
    → All (IsProbe n t) probes
    → All (IsProbe m t) (map (renumbered number) probes)
within_to n m t number there [] h k d lt = absurd (omega arith)
within_to n m t number there (probe ∷ probes) h zero d lt =
    let p = h 0 probe (omega arith) in record { product = there probe.product p.product; left_share = p.left_share; right_share = p.right_share }
within_to n m t number there (probe ∷ probes) h (suc k) d lt =
    within_to n m t number there probes (λ j e below. h (suc j) e (suc-le-suc below)) k d (le_of_suc-le-suc lt)

named_sum : {C : Type 0} (v w : Columns C) (o : Option C) → option_map_or (v △ w) o false ≡ not (beq (option_map_or v o false) (option_map_or w o false))
named_sum v w None = refl
named_sum v w (Some column) = refl

named_none : {C : Type 0} (o : Option C) → option_map_or (empty {C = C}) o false ≡ false
named_none None = refl
named_none (Some column) = refl

module _ {C D : Type 0} where
  -- the map keeps the empty set and symmetric differences
  pub record Keeps (f : Columns C → Columns D) : Type 0 where
    pub at_empty : f empty ≡ empty
    pub at_sum : (v w : Columns C) → f (v △ w) ≡ f v △ f w

  pub named_keeps : (name : D → Option C) → Keeps (named_in name)
  named_keeps name = record {
    at_empty = fun_ext (λ d. named_none (name d));
    at_sum = λ v w. fun_ext (λ d. named_sum v w (name d));
  }

  -- the map takes each set in the span of the rows into the span of the others
  abbrev pub Carries : (f : Columns C → Columns D) → List (Columns C) → List (Columns D) → Type 0
  Carries f rows others = (v : Columns C) → InSpan rows v → InSpan others (f v)

  pub carried_linear : (f : Columns C → Columns D) → Keeps f → (others : List (Columns D)) → IsLinear (λ v. InSpan others (f v))
  carried_linear f keeps others = record {
    at_empty = in_as others (sym keeps.at_empty) (empty_in others);
    at_sum = λ v w h k. in_as others (sym (keeps.at_sum v w)) (in_sum others (f v) (f w) h k);
  }

  pub carries_map : (f : Columns C → Columns D) → Keeps f → (rows : List (Columns C)) → Carries f rows (map f rows)
  carries_map f keeps [] = throughout_none _ (carried_linear f keeps [])
  carries_map f keeps (row ∷ rows) =
      throughout_cons (λ v. InSpan (f row ∷ map f rows) (f v)) (carried_linear f keeps (f row ∷ map f rows)) row rows
      (in_head (f row) (map f rows)) (λ v m. in_later (f row) (map f rows) (f v) (carries_map f keeps rows v m))

  carries_if : (f : Columns C → Columns D) → Keeps f → (rows : List (Columns C)) (others : List (Columns D)) (b : Bool)
      → Carries f rows others → Carries f (cond b rows []) (cond b others [])
  carries_if f keeps rows others true h = h
  carries_if f keeps rows others false h = throughout_none _ (carried_linear f keeps [])

  pub carries_both : (f : Columns C → Columns D) → Keeps f → (a b : List (Columns C)) (x y : List (Columns D)) → Carries f a x → Carries f b y → Carries f (a ++ b) (x ++ y)
  carries_both f keeps a b x y h k = throughout_both (λ v. InSpan (x ++ y) (f v)) (carried_linear f keeps (x ++ y)) a b
      (λ v m. in_behind x y (f v) (h v m)) (λ v m. in_front x y (f v) (k v m))

  -- each operand of the products is carried into that of one of a number among the others
  pub record CarriesTo (f : Columns C → Columns D) (number : ℕ
      → ℕ) (products : List (Product C)) (others : List (Product D)) : Type 0 where
    pub there : (k : ℕ) → k < length products → number k < length others
    pub left : (k : ℕ) → k < length products
        → Carries f (product_at products k).left (product_at others (number k)).left
    pub right : (k : ℕ) → k < length products
        → Carries f (product_at products k).right (product_at others (number k)).right

  carries_seen : (f : Columns C → Columns D) → Keeps f → (number : ℕ
      → ℕ) (products : List (Product C)) (others : List (Product D))
      → CarriesTo f number products others → (t : ℕ) (probes : List Probe)
      → All (IsProbe (length products) t) probes → (s : ℕ)
      → Carries f (seen products probes s) (seen others (map (renumbered number) probes) s)
  carries_seen f keeps number products others all t [] within s = throughout_none _ (carried_linear f keeps [])
  carries_seen f keeps number products others all t (probe ∷ probes) within s =
      let here : probe.product < length products = (within 0 probe (omega arith)).product in
      carries_both f keeps (shown products probe s) (seen products probes s) (shown others
      (renumbered number probe) s) (seen others (map (renumbered number) probes) s)
      (carries_both f keeps _ _ _ _
      (carries_if f keeps (product_at products probe.product).left (product_at others
      (number probe.product)).left _ (all.left probe.product here))
      (carries_if f keeps (product_at products probe.product).right (product_at others
      (number probe.product)).right _ (all.right probe.product here)))
      (carries_seen f keeps number products others all t probes (λ k d lt. within (suc k) d (suc-le-suc lt)) s)

  -- the attack carries over with other numbers, where the leak does not vanish
  pub attack_carried_to : (f : Columns C → Columns D) → Keeps f → (number : ℕ
      → ℕ) (products : List (Product C)) (others : List (Product D))
      → CarriesTo f number products others → (t : ℕ) (leak : Columns C) (probes : List Probe)
      → IsAttack products t leak probes → f leak ≢ empty
      → IsAttack others t (f leak) (map (renumbered number) probes)
  attack_carried_to f keeps number products others all t leak probes attack nonempty = record {
    count = length-map probes (renumbered number) ∙ attack.count;
    within = within_to (length products) (length others) t number all.there probes attack.within;
    nonempty = nonempty;
    spanned = λ s le. carries_seen f keeps number products others all t probes attack.within s leak
        (attack.spanned s le);
  }

  -- each operand of the products is carried into that of the others
  pub record CarriesAll (f : Columns C → Columns D) (products : List (Product C)) (others : List (Product D)) : Type 0 where
    pub count : length products ≤ length others
    pub left : (k : ℕ) → k < length products → Carries f (product_at products k).left (product_at others k).left
    pub right : (k : ℕ) → k < length products → Carries f (product_at products k).right (product_at others k).right

  -- the attack carries over, where the leak does not vanish
  pub attack_carried : (f : Columns C → Columns D) → Keeps f → (products : List (Product C)) (others : List (Product D)) → CarriesAll f products others
      → (t : ℕ) (leak : Columns C) (probes : List Probe) → IsAttack products t leak probes → f leak ≢ empty → IsAttack others t (f leak) probes
  attack_carried f keeps products others all t leak probes attack nonempty =
      let to : CarriesTo f (λ k. k) products others =
      record {
        there = λ k lt. below k (length products)
            (length others) lt all.count;
        left = all.left;
        right = all.right;
      } in
      subst (λ (p : List Probe). IsAttack others t (f leak) p) (renumbered_same probes)
      (attack_carried_to f keeps (λ k. k) products others to t leak probes attack nonempty)

  -- the span of an operand is carried into that of one that covers it
  pub covered_carries : (name : D → Option C) (number : ℕ → ℕ) (products : List (Product C)) (others : List (Product D))
      → IsCovered name number products others → CarriesTo (named_in name) number products others
  covered_carries name number products others covered = record {
    there = covered.there;
    left = λ k lt v m. covered.left k lt (named_in name v) (carries_map (named_in name) (named_keeps name) (product_at products k).left v m);
    right = λ k lt v m. covered.right k lt (named_in name v) (carries_map (named_in name) (named_keeps name) (product_at products k).right v m);
  }

  pub covered_attacks : (name : D → Option C) (number : ℕ → ℕ) (products : List (Product C)) (others : List (Product D))
      → IsCovered name number products others → (t : ℕ) (leak : Columns C) (probes : List Probe)
      → IsAttack products t leak probes
      → named_in name leak ≢ empty → IsAttack others t (named_in name leak) (map (renumbered number) probes)
  covered_attacks name number products others covered =
      attack_carried_to (named_in name) (named_keeps name) number products others
      (covered_carries name number products others covered)

  -- the product of a number, renamed
  pub renamed_at : (name : D → Option C) (products : List (Product C)) (k : ℕ)
      → product_at (renamed name products) k ≡ renamed_product name (product_at products k)
  renamed_at name products k = get_or-map (renamed_product name) products k (record { left = []; right = [] })

  pub renamed_carries : (name : D → Option C) (products : List (Product C)) → CarriesAll (named_in name) products (renamed name products)
  renamed_carries name products =
      let is : (k : ℕ) → renamed_product name (product_at products k) ≡ product_at (renamed name products) k = λ k. sym (renamed_at name products k) in
      record {
        count = omega (arith, length-map products (renamed_product name));
        left = λ k lt v m. subst (λ (p : Product D). InSpan p.left (named_in name v)) (is k)
            (carries_map (named_in name) (named_keeps name) (product_at products k).left v m);
        right = λ k lt v m. subst (λ (p : Product D). InSpan p.right (named_in name v)) (is k)
            (carries_map (named_in name) (named_keeps name) (product_at products k).right v m);
      }

module _ {C : Type 0} where
  abbrev rest_of : List (Columns C) → List (Columns C)
  rest_of [] = []
  rest_of (row ∷ rows) = rows

  all_same : (f : Columns C → Columns C) (rows : List (Columns C)) → map f rows ≡ rows → All (λ row. f row ≡ row) rows
  all_same f [] e k d lt = absurd (omega arith)
  all_same f (row ∷ rows) e zero d lt = ap (λ (xs : List (Columns C)). get_or xs 0 d) e
  all_same f (row ∷ rows) e (suc k) d lt = all_same f rows (ap rest_of e) k d (le_of_suc-le-suc lt)

module _ {C D : Type 0} where
  -- the columns' names there and back give the set again
  pub there_and_back : (name : D → Option C) (back : C → Option D) → IsLinear (λ (v : Columns C). named_in back (named_in name v) ≡ v)
  there_and_back name back = record {
    at_empty = ap (named_in back) (named_keeps name).at_empty ∙ (named_keeps back).at_empty;
    at_sum = λ v w h k. ap (named_in back) ((named_keeps name).at_sum v w) ∙ (named_keeps back).at_sum (named_in name v) (named_in name w)
        ∙ ap (λ x. x △ named_in back (named_in name w)) h ∙ ap (λ x. v △ x) k;
  }

  map_twice : (f : Columns C → Columns D) (g : Columns D → Columns C) (rows : List (Columns C)) → map g (map f rows) ≡ map (λ v. g (f v)) rows
  map_twice f g [] = refl
  map_twice f g (row ∷ rows) = ap (λ (xs : List (Columns C)). g (f row) ∷ xs) (map_twice f g rows)

  rows_back : (name : D → Option C) (back : C → Option D) (rows : List (Columns C)) → map (named_in back) (map (named_in name) rows) ≡ rows
      → Throughout (λ v. named_in back (named_in name v) ≡ v) rows
  rows_back name back rows e = throughout_all _ (there_and_back name back) rows
      (all_same (λ v. named_in back (named_in name v)) rows (sym (map_twice (named_in name) (named_in back) rows) ∙ e))

  product_back : (name : D → Option C) (back : C → Option D) (products : List (Product C)) → renamed back (renamed name products) ≡ products
      → (k : ℕ) → renamed_product back (renamed_product name (product_at products k)) ≡ product_at products k
  product_back name back products e k =
      ap (renamed_product back) (sym (renamed_at name products k)) ∙ sym (renamed_at back (renamed name products) k)
      ∙ ap (λ (xs : List (Product C)). product_at xs k) e

  pub renamed_attacks : (name : D → Option C) (back : C → Option D) (products : List (Product C)) (others : List (Product D))
      → renamed name products ≡ others → renamed back others ≡ products
      → (t : ℕ) (leak : Columns C) (probes : List Probe) → IsAttack products t leak probes → IsAttack others t (named_in name leak) probes
  renamed_attacks name back products others there again t leak probes attack =
      let both : renamed back (renamed name products) ≡ products = ap (renamed back) there ∙ again in
      let same : named_in back (named_in name leak) ≡ leak = throughout_seen _ (there_and_back name back) products
      (λ k. rows_back name back (product_at products k).left (ap (λ (p : Product C). p.left) (product_back name back products both k)))
      (λ k. rows_back name back (product_at products k).right (ap (λ (p : Product C). p.right) (product_back name back products both k)))
      probes 0 leak (attack.spanned 0 (omega arith)) in
      subst (λ (xs : List (Product D)). IsAttack xs t (named_in name leak) probes) there
      (attack_carried (named_in name) (named_keeps name) products (renamed name products) (renamed_carries name products) t leak probes attack
      (λ vanishes. attack.nonempty (sym same ∙ ap (named_in back) vanishes ∙ (named_keeps back).at_empty)))

module _ {C D : Type 0} where
  -- products that are renamed have an attack exactly where the others have one
  pub renamed_have : (products : List (Product C)) (others : List (Product D)) → AreRenamed products others
      → (HasAttack products → HasAttack others) × (HasAttack others → HasAttack products)
  renamed_have products others names = (
    λ h. (
      named_in names.name h.0,
      (h.1.0, h.1.1, renamed_attacks names.name names.back products others names.there names.again h.1.0 h.0 h.1.1 h.1.2),
    ),
    λ h. (
      named_in names.back h.0,
      (h.1.0, h.1.1, renamed_attacks names.back names.name others products names.again names.there h.1.0 h.0 h.1.1 h.1.2),
    ),
  )
