-- What is picked one after another, where each is there.
use Rattle.std.proofs.Common.{◌≡◌, ℕ, ◌+◌, ◌<◌, ◌≤◌, Bool, true, false, List, [], ◌∷◌, ◌++◌, length, map, drop, get_or, Option, Some, None, refl, sym, ap, ◌∙◌, subst, append_assoc}
use Rattle.std.specs.Prelude.{option_map, IsSome, is_some}
use Rattle.std.proofs.lemmas.List.{append-nil, at_drop_more, at_drop_all}
use Rattle.std.specs.List.{range_with_len}
use Rattle.std.proofs.lemmas.List.FromFn.{get_or-range_with_len, length-range_with_len}
use Rattle.usuba_model.specs.Rounds.{both, whole}

pub false_true {ℓ} : {A : Type ℓ} → false ≡ true → A
false_true e = absurd (subst (λ (b : Bool). elim b as (λ _. Type 0) [ true ↦ ⊥ | false ↦ Unit {0} ]) e tt)

-- both parts of what is there are there
pub first_there : {A B C : Type 0} (f : A → B → C) (o : Option A) (p : Option B) → IsSome (both f o p) → IsSome o
first_there f (Some a) p e = refl
first_there f None p e = e

pub map_there : {A B : Type 0} (f : A → B) (o : Option A) → IsSome (option_map f o) → IsSome o
map_there f (Some a) e = refl
map_there f None e = e

pub there_map : {A B : Type 0} (f : A → B) (o : Option A) → IsSome o → IsSome (option_map f o)
there_map f (Some a) e = refl
there_map f None e = e

-- what is there is something
pub what_is_there : {A : Type 0} (o : Option A) → IsSome o → (x : A) × (o ≡ Some x)
what_is_there (Some x) e = (x, refl)
what_is_there None e = false_true e

pub is_there : {A : Type 0} (o : Option A) (x : A) → o ≡ Some x → IsSome o
is_there o x e = ap is_some e

module _ {X Y : Type 0} (g : X → Option Y) where
  -- those that were picked and what the others give are the whole
  abbrev pub Picking : List X → List Y → ℕ → Type 0
  Picking xs found i = whole (map g xs) ≡ option_map (λ rest. found ++ rest) (whole (map g (drop i xs)))

  pub pick_begin : (xs : List X) → Picking xs [] 0
  pick_begin xs = same (whole (map g xs))
    where
      same : (o : Option (List Y)) → o ≡ option_map (λ rest. [] ++ rest) o
      same (Some ys) = refl
      same None = refl

  pub pick_there : (xs : List X) (found : List Y) (i : ℕ) (x : X) → i < length xs → x ≡ get_or xs i x → Picking xs found i
      → IsSome (whole (map g xs)) → IsSome (g x)
  pick_there xs found i x less is p there =
      let now : IsSome (whole (map g (drop i xs))) = map_there (λ rest. found ++ rest) (whole (map g (drop i xs))) (subst (λ (o : Option (List Y)). IsSome o) p there) in
      let next : IsSome (both (λ v vs. v ∷ vs) (g (get_or xs i x)) (whole (map g (drop (i + 1) xs))))
      = subst (λ (o : Option (List Y)). IsSome o) (at_drop_more (λ rest. whole (map g rest)) xs i x less) now in
      subst (λ (y : X). IsSome (g y)) (sym is) (first_there (λ v vs. v ∷ vs) (g (get_or xs i x)) (whole (map g (drop (i + 1) xs))) next)

  pub pick_step : (xs : List X) (found : List Y) (i : ℕ) (x : X) (y : Y) → i < length xs → x ≡ get_or xs i x → Picking xs found i
      → g x ≡ Some y → Picking xs (found ++ y ∷ []) (i + 1)
  pick_step xs found i x y less is p e =
      let at : g (get_or xs i x) ≡ Some y = ap g (sym is) ∙ e in
      p ∙ ap (option_map (λ rest. found ++ rest)) (at_drop_more (λ rest. whole (map g rest)) xs i x less
      ∙ ap (λ (o : Option Y). both (λ v vs. v ∷ vs) o (whole (map g (drop (i + 1) xs)))) at)
      ∙ moved (whole (map g (drop (i + 1) xs)))
    where
      moved : (o : Option (List Y)) → option_map (λ rest. found ++ rest) (both (λ v vs. v ∷ vs) (Some y) o)
          ≡ option_map (λ rest. (found ++ y ∷ []) ++ rest) o
      moved (Some ys) = ap (λ (zs : List Y). Some zs) (sym (append_assoc found (y ∷ []) ys))
      moved None = refl

  pub pick_done : (xs : List X) (found : List Y) (i : ℕ) → length xs ≤ i → Picking xs found i → whole (map g xs) ≡ Some found
  pick_done xs found i past p =
      p ∙ ap (option_map (λ rest. found ++ rest)) (at_drop_all (λ rest. whole (map g rest)) xs i past)
      ∙ ap (λ (zs : List Y). Some zs) (append-nil found)

module _ {Y : Type 0} (g : ℕ → Option Y) (from count : ℕ) where
  range_at : (k : ℕ) → k < count → from + k ≡ get_or (range_with_len from count) k (from + k)
  range_at k less = sym (get_or-range_with_len from count k (from + k) less)

  in_range : (k : ℕ) → k < count → k < length (range_with_len from count)
  in_range k less = subst (λ (n : ℕ). k < n) (sym (length-range_with_len from count)) less

  -- the same for numbers in a row
  pub range_there : (found : List Y) (k : ℕ) → k < count → Picking g (range_with_len from count) found k
      → IsSome (whole (map g (range_with_len from count))) → IsSome (g (from + k))
  range_there found k less p there = pick_there g (range_with_len from count) found k (from + k) (in_range k less) (range_at k less) p there

  pub range_step : (found : List Y) (k : ℕ) (y : Y) → k < count → Picking g (range_with_len from count) found k → g (from + k) ≡ Some y
      → Picking g (range_with_len from count) (found ++ y ∷ []) (k + 1)
  range_step found k y less p e = pick_step g (range_with_len from count) found k (from + k) y (in_range k less) (range_at k less) p e

  pub range_done : (found : List Y) (k : ℕ) → count ≤ k → Picking g (range_with_len from count) found k
      → whole (map g (range_with_len from count)) ≡ Some found
  range_done found k past p =
      pick_done g (range_with_len from count) found k (subst (λ (n : ℕ). n ≤ k) (sym (length-range_with_len from count)) past) p
