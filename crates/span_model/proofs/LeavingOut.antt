-- With left operands refreshed there is an attack exactly where there is one without their products.
use Rattle.std.proofs.Common.{◌≡◌, ◌<◌, ◌+◌, ◌⊎◌, inl, inr, ℕ, zero, suc, Bool, true, false, cond, List, [], ◌∷◌, ◌++◌, length, map, refl, sym, ap, ◌∙◌, subst, arith}
use mathlib.Core.Path.{fun_ext}
use Rattle.span_model.specs.Columns.{Columns, empty, ◌△◌}
use Rattle.span_model.specs.Span.{InSpan}
use Rattle.span_model.specs.Attack.{Product, product_at, HasAttack}
use Rattle.span_model.specs.Closure.{Step, Side, on_left, on_right, side_of, other_side, co_operands, IsChain, IsClosed}
use Rattle.span_model.specs.Renaming.{named_in}
use Rattle.span_model.specs.Refresh.{RefreshedColumn, kept, added, kept_name, added_column, added_rows, refreshed, left_out_from, left_out}
use Rattle.span_model.proofs.Members.{empty_in, in_as}
use Rattle.span_model.proofs.Closing.{attack_closes}
use Rattle.span_model.proofs.Unfolding.{closed_attacks}
use Rattle.span_model.proofs.Carrying.{IsLinear, throughout_none, throughout_all, throughout_both, Keeps, named_keeps, Carries, carried_linear, carries_map, carries_both, CarriesAll, attack_carried}
use Rattle.span_model.proofs.Refreshing.{as_kept, rows_again, right_at, left_at_true, left_at_false, length-refreshed_from, new_rows, added_lacks}

module _ {C : Type 0} where
  -- the product with no rows
  abbrev bare : Product C
  bare = record { left = []; right = [] }

  bare_at : (b : Bool) → cond b (bare) bare ≡ bare
  bare_at true = refl
  bare_at false = refl

  out_from : (k : ℕ) (set : ℕ → Bool) (products : List (Product C)) (j m : ℕ) → m ≡ k + j
      → product_at (left_out_from k set products) j ≡ cond (set m) bare (product_at products j)
  out_from k set [] j m e = sym (bare_at (set m))
  out_from k set (product ∷ products) zero m e =
      let same : k ≡ m = omega arith in ap (λ (x : ℕ). cond (set x) bare product) same
  out_from k set (product ∷ products) (suc j) m e = out_from (suc k) set products j m (omega arith)

  length-left_out_from : (k : ℕ) (set : ℕ → Bool) (products : List (Product C)) → length (left_out_from k set products) ≡ length products
  length-left_out_from k set [] = refl
  length-left_out_from k set (product ∷ products) = ap suc (length-left_out_from (suc k) set products)

  out_true : (set : ℕ → Bool) (products : List (Product C)) (k : ℕ) → set k ≡ true → product_at (left_out set products) k ≡ bare
  out_true set products k e = out_from 0 set products k k (omega arith) ∙ ap (λ (b : Bool). cond b bare (product_at products k)) e

  out_false : (set : ℕ → Bool) (products : List (Product C)) (k : ℕ) → set k ≡ false → product_at (left_out set products) k ≡ product_at products k
  out_false set products k e = out_from 0 set products k k (omega arith) ∙ ap (λ (b : Bool). cond b bare (product_at products k)) e

module _ {C D : Type 0} where
  -- the same map between lists under other names
  carries_as : (f : Columns C → Columns D) {a b : List (Columns C)} {x y : List (Columns D)} → a ≡ b → x ≡ y → Carries f b y → Carries f a x
  carries_as f {a} {b} {x} {y} p q h v m =
      subst (λ (rows : List (Columns D)). InSpan rows (f v)) (sym q) (h v (subst (λ (rows : List (Columns C)). InSpan rows v) p m))

  carries_none : (f : Columns C → Columns D) → Keeps f → (others : List (Columns D)) → Carries f [] others
  carries_none f keeps others = throughout_none _ (carried_linear f keeps others)

module _ {C : Type 0} where
  -- where the products that are left have an attack

  back_left : (set : ℕ → Bool) (products : List (Product C)) (k : ℕ) (b : Bool) → set k ≡ b
      → Carries (named_in kept_name) (product_at (left_out set products) k).left (product_at (refreshed set products) k).left
  back_left set products k true e =
      carries_as (named_in kept_name) (ap (λ (p : Product C). p.left) (out_true set products k e)) refl
      (carries_none (named_in kept_name) (named_keeps kept_name) (product_at (refreshed set products) k).left)
  back_left set products k false e =
      carries_as (named_in kept_name) (ap (λ (p : Product C). p.left) (out_false set products k e)) (left_at_false set products k e)
      (carries_map (named_in kept_name) (named_keeps kept_name) (product_at products k).left)

  back_right : (set : ℕ → Bool) (products : List (Product C)) (k : ℕ) (b : Bool) → set k ≡ b
      → Carries (named_in kept_name) (product_at (left_out set products) k).right (product_at (refreshed set products) k).right
  back_right set products k true e =
      carries_as (named_in kept_name) (ap (λ (p : Product C). p.right) (out_true set products k e)) refl
      (carries_none (named_in kept_name) (named_keeps kept_name) (product_at (refreshed set products) k).right)
  back_right set products k false e =
      carries_as (named_in kept_name) (ap (λ (p : Product C). p.right) (out_false set products k e)) (right_at set products k)
      (carries_map (named_in kept_name) (named_keeps kept_name) (product_at products k).right)

  back_all : (set : ℕ → Bool) (products : List (Product C)) → CarriesAll (named_in kept_name) (left_out set products) (refreshed set products)
  back_all set products = record {
    count = omega (arith, length-left_out_from 0 set products, length-refreshed_from 0 set products);
    left = λ k lt. back_left set products k (set k) refl;
    right = λ k lt. back_right set products k (set k) refl;
  }

  back : (set : ℕ → Bool) (products : List (Product C)) → HasAttack (left_out set products) → HasAttack (refreshed set products)
  back set products (leak, l) = (
    named_in kept_name leak,
    (
      l.0,
      l.1,
      attack_carried (named_in kept_name) (named_keeps kept_name) (left_out set products) (refreshed set products) (back_all set products) l.0 leak l.1 l.2
          (λ e. l.2.nonempty (ap (named_in as_kept) e)),
    ),
  )

  -- where the refreshed products have an attack: of a step of a refreshed product only the rows of its right operand count, and those show nothing new

  plain_new : (k i : ℕ) (column : C) → named_in as_kept (added_column k i) column ≡ false
  plain_new k i column = refl

  goes_plain : IsLinear (λ (v : Columns (RefreshedColumn C)). named_in as_kept v ≡ empty)
  goes_plain = record {
    at_empty = (named_keeps as_kept).at_empty;
    at_sum = λ v w h k. (named_keeps as_kept).at_sum v w ∙ ap (λ x. x △ named_in as_kept w) h ∙ ap (λ x. empty △ x) k;
  }

  carries_new : (k : ℕ) (rows : List (Columns C)) (others : List (Columns C)) → Carries (named_in as_kept) (added_rows k 0 rows) others
  carries_new k rows others v m = in_as others
      (sym (throughout_all _ goes_plain (added_rows k 0 rows) (new_rows (λ w. named_in as_kept w ≡ empty) k (λ i. refl) 0 rows) v m)) (empty_in others)

  carries_kept : (rows : List (Columns C)) → Carries (named_in as_kept) (map (named_in kept_name) rows) rows
  carries_kept rows = carries_as (named_in as_kept) refl (sym (rows_again rows))
      (carries_map (named_in as_kept) (named_keeps as_kept) (map (named_in kept_name) rows))

  plain_side : (set : ℕ → Bool) (products : List (Product C)) (k : ℕ) → set k ≡ false → (side : Side)
      → Carries (named_in as_kept) (side_of (product_at (refreshed set products) k) side) (side_of (product_at (left_out set products) k) side)
  plain_side set products k e on_left =
      carries_as (named_in as_kept) (left_at_false set products k e) (ap (λ (p : Product C). p.left) (out_false set products k e))
      (carries_kept (product_at products k).left)
  plain_side set products k e on_right =
      carries_as (named_in as_kept) (right_at set products k) (ap (λ (p : Product C). p.right) (out_false set products k e))
      (carries_kept (product_at products k).right)

  new_left : (set : ℕ → Bool) (products : List (Product C)) (k : ℕ) → set k ≡ true → (others : List (Columns C))
      → Carries (named_in as_kept) (product_at (refreshed set products) k).left others
  new_left set products k e others =
      carries_as (named_in as_kept) (left_at_true set products k e) refl (carries_new k (product_at products k).left others)

  -- steps among the products that are left whose co-operands give as much
  record Follows (set : ℕ → Bool) (products : List (Product C)) (leak : Columns (RefreshedColumn C)) (rows : List (Columns (RefreshedColumn C))) : Type 0 where
    steps : List Step
    chain : IsChain (left_out set products) (named_in as_kept leak) steps
    given : Carries (named_in as_kept) rows (co_operands (left_out set products) steps)

  next : (set : ℕ → Bool) (products : List (Product C)) (leak : Columns (RefreshedColumn C)) (k : ℕ) → k < length products → (side : Side)
      → (rows : List (Columns (RefreshedColumn C))) → InSpan (side_of (product_at (refreshed set products) k) side ++ rows) leak
      → Follows set products leak rows → (b : Bool) → set k ≡ b
      → IsClosed (left_out set products) (named_in as_kept leak) ⊎ Follows set products leak (side_of (product_at (refreshed set products) k) (other_side side) ++ rows)
  next set products leak k lt side rows m f false e = inr (record {
    steps = record { product = k; side = side } ∷ f.steps;
    chain = (
      omega (arith, length-left_out_from 0 set products),
      carries_both (named_in as_kept) (named_keeps as_kept) _ _ _ _ (plain_side set products k e side) f.given leak m,
      f.chain,
    );
    given = carries_both (named_in as_kept) (named_keeps as_kept) _ _ _ _ (plain_side set products k e (other_side side)) f.given;
  })
  next set products leak k lt on_left rows m f true e = inl (
    f.steps,
    f.chain,
    throughout_both _ (carried_linear (named_in as_kept) (named_keeps as_kept) (co_operands (left_out set products) f.steps))
        (product_at (refreshed set products) k).left rows (new_left set products k e (co_operands (left_out set products) f.steps)) f.given leak m,
  )
  next set products leak k lt on_right rows m f true e = inr (record {
    steps = f.steps;
    chain = f.chain;
    given = throughout_both _ (carried_linear (named_in as_kept) (named_keeps as_kept) (co_operands (left_out set products) f.steps))
        (product_at (refreshed set products) k).left rows (new_left set products k e (co_operands (left_out set products) f.steps)) f.given;
  })

  follows : (set : ℕ → Bool) (products : List (Product C)) (leak : Columns (RefreshedColumn C)) (steps : List Step) → IsChain (refreshed set products) leak steps
      → IsClosed (left_out set products) (named_in as_kept leak) ⊎ Follows set products leak (co_operands (refreshed set products) steps)
  follows set products leak [] chain = inr (record { steps = []; chain = tt; given = carries_none (named_in as_kept) (named_keeps as_kept) [] })
  follows set products leak (step ∷ before) chain = elim (follows set products leak before chain.2) [
    | inl closed ↦ inl closed
    | inr f ↦ (let count : length (refreshed set products) ≡ length products = length-refreshed_from 0 set products in
        let here : step.product < length (refreshed set products) = chain.0 in
        next set products leak step.product (omega arith) step.side (co_operands (refreshed set products) before) chain.1 f (set step.product) refl)
  ]

  closed_again : (set : ℕ → Bool) (products : List (Product C)) (leak : Columns (RefreshedColumn C)) → IsClosed (refreshed set products) leak
      → IsClosed (left_out set products) (named_in as_kept leak)
  closed_again set products leak (steps, chain, closed) = elim (follows set products leak steps chain) [
    | inl done ↦ done
    | inr f ↦ (f.steps, f.chain, f.given leak closed)
  ]

  all_gone : (leak : Columns (RefreshedColumn C)) → named_in as_kept leak ≡ empty → ((k row : ℕ) → leak (added k row) ≡ false)
      → (column : RefreshedColumn C) → leak column ≡ false
  all_gone leak e none (kept column) = ap (λ (v : Columns C). v column) e
  all_gone leak e none (added k row) = none k row

  forth : (set : ℕ → Bool) (products : List (Product C)) → HasAttack (refreshed set products) → HasAttack (left_out set products)
  forth set products (leak, l) = (
    named_in as_kept leak,
    closed_attacks (left_out set products) (named_in as_kept leak)
        (λ e. l.2.nonempty (fun_ext (all_gone leak e (added_lacks products set leak l))))
        (closed_again set products leak (attack_closes (refreshed set products) l.0 leak l.1 l.2)),
  )

  pub same_attacks : (products : List (Product C)) (set : ℕ → Bool)
      → (HasAttack (refreshed set products) → HasAttack (left_out set products)) × (HasAttack (left_out set products) → HasAttack (refreshed set products))
  same_attacks products set = (forth set products, back set products)
