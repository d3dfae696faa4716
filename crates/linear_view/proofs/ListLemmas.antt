-- What holds of each item of a list that is made of others.
use Rattle.std.proofs.Common.{◌≡◌, ℕ, zero, suc, ◌+◌, ◌<◌, List, [], ◌∷◌, ◌++◌, map, All, Result, Ok, Err, IfOk, arith}
use Rattle.std.specs.List.{AllByRecursion, range_with_len}

-- lists with the same first item and the same rest
pub cons_same : {X : Type 0} {x y : X} {xs ys : List X} → x ≡ y → xs ≡ ys → x ∷ xs ≡ y ∷ ys
cons_same p q = cc

-- what holds item by item holds by place
pub all_from_each : {X : Type 0} (P : X → Type 0) (xs : List X) → AllByRecursion P xs → All P xs
all_from_each P [] h k d within = absurd (omega arith)
all_from_each P (x ∷ xs) h zero d within = h.0
all_from_each P (x ∷ xs) h (suc k) d within = all_from_each P xs h.1 k d (omega arith)

-- what holds of two lists holds of both behind each other
pub each_append : {X : Type 0} (P : X → Type 0) (xs ys : List X) → AllByRecursion P xs → AllByRecursion P ys
    → AllByRecursion P (xs ++ ys)
each_append P [] ys p q = q
each_append P (x ∷ xs) ys p q = (p.0, each_append P xs ys p.1 q)

-- what holds of everything
pub each_item : {X : Type 0} (P : X → Type 0) (xs : List X) → ((x : X) → P x) → AllByRecursion P xs
each_item P [] h = tt
each_item P (x ∷ xs) h = (h x, each_item P xs h)

-- what holds of each image
pub each_map : {X Y : Type 0} (P : Y → Type 0) (f : X → Y) (xs : List X) → ((x : X) → P (f x))
    → AllByRecursion P (map f xs)
each_map P f [] h = tt
each_map P f (x ∷ xs) h = (h x, each_map P f xs h)

-- what holds of the image of each number of a range
pub each_range : {X : Type 0} (P : X → Type 0) (f : ℕ → X) (a n : ℕ) → ((k : ℕ) → k < a + n → P (f k))
    → AllByRecursion P (map f (range_with_len a n))
each_range P f a zero h = tt
each_range P f a (suc n) h = (h a (omega arith), each_range P f (a + 1) n (λ k below. h k (omega arith)))

-- what follows of a value, where there is one
pub if_ok : {T E : Type 0} (r : Result T E) (P Q : T → Type 0) → ((x : T) → P x → Q x) → IfOk r P → IfOk r Q
if_ok (Ok x) P Q f h = f x h
if_ok (Err e) P Q f h = tt
