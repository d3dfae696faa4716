-- Columns on left operands alone, and the attacks that refreshes leave.
use Rattle.std.proofs.Common.{◌≡◌, ◌<◌, ◌+◌, ◌⊎◌, inl, inr, ℕ, zero, suc, Bool, true, false, not, ◌&&◌, List, [], ◌∷◌, ◌++◌, length, map, All, Option, Some, None, eqb, ne_eqb, refl, sym, ap, ap₂, ◌∙◌, subst, arith, true≢false}
use native.Mathlib.Nat.{le_of_suc-le-suc}
use mathlib.Core.Path.{fun_ext}
use Rattle.std.specs.Bool.{beq}
use Rattle.span_model.specs.Columns.{Columns, empty, ◌△◌}
use Rattle.span_model.specs.Span.{InSpan}
use Rattle.span_model.specs.Attack.{Product, Probe, product_at, IsAttack, IsLeak, HasAttack}
use Rattle.span_model.specs.Closure.{Step, Side, on_left, on_right, side_of, other_side, co_operands, IsChain, IsClosed}
use Rattle.span_model.specs.Renaming.{named_in, renamed_product, renamed}
use Rattle.span_model.specs.Refresh.{RefreshedColumn, kept, added, kept_name, added_column, added_rows, refreshed_product, refreshed_from, refreshed, IsWithin, without, IsRepairSet, IsOnLeftAlone, IsLeftFresh}
use Rattle.span_model.proofs.Members.{empty_in, in_as}
use Rattle.span_model.proofs.Closing.{attack_closes}
use Rattle.span_model.proofs.Carrying.{IsLinear, Throughout, throughout_none, throughout_all, throughout_both, Keeps, named_keeps, Carries, CarriesAll, attack_carried, renamed_attacks}

differ_true : (a b : Bool) → not (beq a b) ≡ true → (a ≡ true) ⊎ (b ≡ true)
differ_true true b e = inl refl
differ_true false true e = inr refl
differ_true false false e = absurd (true≢false (sym e))

not_in_less : (less set : ℕ → Bool) → IsWithin less set → (k : ℕ) → set k ≡ false → (b : Bool) → less k ≡ b → less k ≡ false
not_in_less less set within k e true f = absurd (true≢false (sym (within k f) ∙ e))
not_in_less less set within k e false f = f

module _ {C : Type 0} where
  -- a column that is not in the set
  pub lacks : (column : C) → IsLinear (λ (v : Columns C). v column ≡ false)
  lacks column = record { at_empty = refl; at_sum = λ v w h k. ap₂ (λ a b. not (beq a b)) h k }

  lacks_right : (products : List (Product C)) (column : C) → IsOnLeftAlone products column → (k : ℕ)
      → Throughout (λ v. v column ≡ false) (product_at products k).right
  lacks_right products column alone k = throughout_all _ (lacks column) (product_at products k).right (alone k)

  lacks_next : (products : List (Product C)) (column : C) → IsOnLeftAlone products column → (leak : Columns C) → leak column ≡ true
      → (k : ℕ) (side : Side) (rows : List (Columns C)) → InSpan (side_of (product_at products k) side ++ rows) leak
      → Throughout (λ v. v column ≡ false) rows → Throughout (λ v. v column ≡ false) (side_of (product_at products k) (other_side side) ++ rows)
  lacks_next products column alone leak e k on_left rows m h =
      throughout_both _ (lacks column) (product_at products k).right rows (lacks_right products column alone k) h
  lacks_next products column alone leak e k on_right rows m h =
      absurd (true≢false (sym e ∙ throughout_both _ (lacks column) (product_at products k).right rows (lacks_right products column alone k) h leak m))

  lacks_all : (products : List (Product C)) (column : C) → IsOnLeftAlone products column → (leak : Columns C) → leak column ≡ true
      → (steps : List Step) → IsChain products leak steps → Throughout (λ v. v column ≡ false) (co_operands products steps)
  lacks_all products column alone leak e [] chain = throughout_none _ (lacks column)
  lacks_all products column alone leak e (step ∷ before) chain =
      lacks_next products column alone leak e step.product step.side (co_operands products before) chain.1
      (lacks_all products column alone leak e before chain.2)

  closed_lacks : (products : List (Product C)) (column : C) → IsOnLeftAlone products column → (leak : Columns C) → IsClosed products leak
      → (b : Bool) → leak column ≡ b → leak column ≡ false
  closed_lacks products column alone leak closed true e = lacks_all products column alone leak e closed.0 closed.1 leak closed.2
  closed_lacks products column alone leak closed false e = e

  pub leak_lacks : (products : List (Product C)) (column : C) → IsOnLeftAlone products column → (leak : Columns C) → IsLeak products leak → leak column ≡ false
  leak_lacks products column alone leak l =
      closed_lacks products column alone leak (attack_closes products l.0 leak l.1 l.2) (leak column) refl

  -- the set has only columns that are on left operands alone
  abbrev OnlyLeft : List (Product C) → Columns C → Type 0
  OnlyLeft products v = (column : C) → v column ≡ true → IsOnLeftAlone products column

  only_left : (products : List (Product C)) → IsLinear (OnlyLeft products)
  only_left products = record {
    at_empty = λ column e. absurd (true≢false (sym e));
    at_sum = λ v w h k column e. elim (differ_true (v column) (w column) e) [ inl x ↦ h column x | inr x ↦ k column x ];
  }

  vanishes_at : (products : List (Product C)) (leak : Columns C) → IsLeak products leak → OnlyLeft products leak → (column : C) (b : Bool)
      → leak column ≡ b → leak column ≡ false
  vanishes_at products leak l only column true e = leak_lacks products column (only column e) leak l
  vanishes_at products leak l only column false e = e

  not_only_left : (products : List (Product C)) (leak : Columns C) → IsLeak products leak → OnlyLeft products leak → ⊥
  not_only_left products leak l only = l.2.nonempty (fun_ext (λ column. vanishes_at products leak l only column (leak column) refl))

  only_next : (products : List (Product C)) → ((k : ℕ) → k < length products → IsLeftFresh products k) → (leak : Columns C) → IsLeak products leak
      → (k : ℕ) → k < length products → (side : Side) (rows : List (Columns C)) → InSpan (side_of (product_at products k) side ++ rows) leak
      → Throughout (OnlyLeft products) rows → Throughout (OnlyLeft products) (side_of (product_at products k) (other_side side) ++ rows)
  only_next products fresh leak l k lt on_left rows m h =
      absurd (not_only_left products leak l (throughout_both _ (only_left products) (product_at products k).left rows
      (throughout_all _ (only_left products) (product_at products k).left (fresh k lt)) h leak m))
  only_next products fresh leak l k lt on_right rows m h =
      throughout_both _ (only_left products) (product_at products k).left rows
      (throughout_all _ (only_left products) (product_at products k).left (fresh k lt)) h

  only_all : (products : List (Product C)) → ((k : ℕ) → k < length products → IsLeftFresh products k) → (leak : Columns C) → IsLeak products leak
      → (steps : List Step) → IsChain products leak steps → Throughout (OnlyLeft products) (co_operands products steps)
  only_all products fresh leak l [] chain = throughout_none _ (only_left products)
  only_all products fresh leak l (step ∷ before) chain =
      only_next products fresh leak l step.product chain.0 step.side (co_operands products before) chain.1
      (only_all products fresh leak l before chain.2)

  pub fresh_secure : (products : List (Product C)) → ((k : ℕ) → k < length products → IsLeftFresh products k) → ¬ HasAttack products
  fresh_secure products fresh (leak, l) =
      let closed = attack_closes products l.0 leak l.1 l.2 in
      not_only_left products leak l (only_all products fresh leak l closed.0 closed.1 leak closed.2)

module _ {C : Type 0} where
  -- the rows of a left operand, refreshed or not
  abbrev left_rows : Bool → ℕ → List (Columns C) → List (Columns (RefreshedColumn C))
  left_rows true k rows = added_rows k 0 rows
  left_rows false k rows = map (named_in kept_name) rows

  left_rows_none : (b : Bool) (k : ℕ) → [] ≡ left_rows b k []
  left_rows_none true k = refl
  left_rows_none false k = refl

  product_left : (b : Bool) (k : ℕ) (product : Product C) → (refreshed_product b k product).left ≡ left_rows b k product.left
  product_left true k product = refl
  product_left false k product = refl

  product_right : (b : Bool) (k : ℕ) (product : Product C) → (refreshed_product b k product).right ≡ map (named_in kept_name) product.right
  product_right true k product = refl
  product_right false k product = refl

  right_from : (k : ℕ) (set : ℕ → Bool) (products : List (Product C)) (j : ℕ)
      → (product_at (refreshed_from k set products) j).right ≡ map (named_in kept_name) (product_at products j).right
  right_from k set [] j = refl
  right_from k set (product ∷ products) zero = product_right (set k) k product
  right_from k set (product ∷ products) (suc j) = right_from (suc k) set products j

  left_from : (k : ℕ) (set : ℕ → Bool) (products : List (Product C)) (j m : ℕ) → m ≡ k + j
      → (product_at (refreshed_from k set products) j).left ≡ left_rows (set m) m (product_at products j).left
  left_from k set [] j m e = left_rows_none (set m) m
  left_from k set (product ∷ products) zero m e =
      let same : k ≡ m = omega arith in
      product_left (set k) k product ∙ ap (λ (x : ℕ). left_rows (set x) x product.left) same
  left_from k set (product ∷ products) (suc j) m e = left_from (suc k) set products j m (omega arith)

  pub length-refreshed_from : (k : ℕ) (set : ℕ → Bool) (products : List (Product C)) → length (refreshed_from k set products) ≡ length products
  length-refreshed_from k set [] = refl
  length-refreshed_from k set (product ∷ products) = ap suc (length-refreshed_from (suc k) set products)

  pub right_at : (set : ℕ → Bool) (products : List (Product C)) (k : ℕ)
      → (product_at (refreshed set products) k).right ≡ map (named_in kept_name) (product_at products k).right
  right_at set products k = right_from 0 set products k

  pub left_at : (set : ℕ → Bool) (products : List (Product C)) (k : ℕ)
      → (product_at (refreshed set products) k).left ≡ left_rows (set k) k (product_at products k).left
  left_at set products k = left_from 0 set products k k (omega arith)

  pub left_at_true : (set : ℕ → Bool) (products : List (Product C)) (k : ℕ) → set k ≡ true
      → (product_at (refreshed set products) k).left ≡ added_rows k 0 (product_at products k).left
  left_at_true set products k e = left_at set products k ∙ ap (λ (b : Bool). left_rows b k (product_at products k).left) e

  pub left_at_false : (set : ℕ → Bool) (products : List (Product C)) (k : ℕ) → set k ≡ false
      → (product_at (refreshed set products) k).left ≡ map (named_in kept_name) (product_at products k).left
  left_at_false set products k e = left_at set products k ∙ ap (λ (b : Bool). left_rows b k (product_at products k).left) e

  pub kept_rows : (P : Columns (RefreshedColumn C) → Type 0) → ((v : Columns C) → P (named_in kept_name v)) → (rows : List (Columns C)) → All P (map (named_in kept_name) rows)
  kept_rows P h [] k d lt = absurd (omega arith)
  kept_rows P h (row ∷ rows) zero d lt = h row
  kept_rows P h (row ∷ rows) (suc k) d lt = kept_rows P h rows k d (le_of_suc-le-suc lt)

  pub new_rows : (P : Columns (RefreshedColumn C) → Type 0) (k : ℕ) → ((i : ℕ) → P (added_column k i)) → (i : ℕ) (rows : List (Columns C)) → All P (added_rows k i rows)
  new_rows P k h i [] j d lt = absurd (omega arith)
  new_rows P k h i (row ∷ rows) zero d lt = h i
  new_rows P k h i (row ∷ rows) (suc j) d lt = new_rows P k h (suc i) rows j d (le_of_suc-le-suc lt)

  -- no right operand has a column that a refresh added
  added_on_left : (products : List (Product C)) (set : ℕ → Bool) (i row : ℕ) → IsOnLeftAlone (refreshed set products) (added i row)
  added_on_left products set i row k =
      subst (λ (rows : List (Columns (RefreshedColumn C))). All (λ v. v (added i row) ≡ false) rows) (sym (right_at set products k))
      (kept_rows (λ v. v (added i row) ≡ false) (λ v. refl) (product_at products k).right)

  pub added_lacks : (products : List (Product C)) (set : ℕ → Bool) (leak : Columns (RefreshedColumn C)) → IsLeak (refreshed set products) leak
      → (i row : ℕ) → leak (added i row) ≡ false
  added_lacks products set leak l i row = leak_lacks (refreshed set products) (added i row) (added_on_left products set i row) leak l

  new_on_left : (products : List (Product C)) (set : ℕ → Bool) (k i : ℕ) (column : RefreshedColumn C) → added_column k i column ≡ true
      → IsOnLeftAlone (refreshed set products) column
  new_on_left products set k i (kept column) e = absurd (true≢false (sym e))
  new_on_left products set k i (added j row) e = added_on_left products set j row

  pub all_secure : (products : List (Product C)) (set : ℕ → Bool) → ((k : ℕ) → k < length products → set k ≡ true) → ¬ HasAttack (refreshed set products)
  all_secure products set all = fresh_secure (refreshed set products) (λ k lt.
      let count : length (refreshed set products) ≡ length products = length-refreshed_from 0 set products in
      let here : k < length products = omega arith in
      subst (λ (rows : List (Columns (RefreshedColumn C))). All (λ row. (column : RefreshedColumn C) → row column ≡ true → IsOnLeftAlone (refreshed set products) column) rows)
      (sym (left_at_true set products k (all k here)))
      (new_rows (λ row. (column : RefreshedColumn C) → row column ≡ true → IsOnLeftAlone (refreshed set products) column) k (λ i column e. new_on_left products set k i column e) 0 (product_at products k).left))

  -- the names of columns with those of added ones left out
  abbrev not_added : RefreshedColumn C → Option (RefreshedColumn C)
  not_added (kept column) = Some (kept column)
  not_added (added k row) = None

  abbrev cleared : Columns (RefreshedColumn C) → Columns (RefreshedColumn C)
  cleared = named_in not_added

  cleared_keeps : Keeps cleared
  cleared_keeps = named_keeps not_added

  stays : IsLinear (λ v. cleared v ≡ v)
  stays = record {
    at_empty = cleared_keeps.at_empty;
    at_sum = λ v w h k. cleared_keeps.at_sum v w ∙ ap (λ x. x △ cleared w) h ∙ ap (λ x. v △ x) k;
  }

  goes : IsLinear (λ v. cleared v ≡ empty)
  goes = record {
    at_empty = cleared_keeps.at_empty;
    at_sum = λ v w h k. cleared_keeps.at_sum v w ∙ ap (λ x. x △ cleared w) h ∙ ap (λ x. empty △ x) k;
  }

  kept_stays : (v : Columns C) (column : RefreshedColumn C) → cleared (named_in kept_name v) column ≡ named_in kept_name v column
  kept_stays v (kept column) = refl
  kept_stays v (added k row) = refl

  new_goes : (k i : ℕ) (column : RefreshedColumn C) → cleared (added_column k i) column ≡ false
  new_goes k i (kept column) = refl
  new_goes k i (added j row) = refl

  clear_at : (leak : Columns (RefreshedColumn C)) → ((i row : ℕ) → leak (added i row) ≡ false) → (column : RefreshedColumn C) → cleared leak column ≡ leak column
  clear_at leak none (kept column) = refl
  clear_at leak none (added i row) = sym (none i row)

  carries_kept : (rows : List (Columns C)) → Carries cleared (map (named_in kept_name) rows) (map (named_in kept_name) rows)
  carries_kept rows v m = in_as (map (named_in kept_name) rows)
      (sym (throughout_all _ stays (map (named_in kept_name) rows) (kept_rows (λ w. cleared w ≡ w) (λ w. fun_ext (kept_stays w)) rows) v m)) m

  carries_new : (k : ℕ) (rows : List (Columns C)) (others : List (Columns (RefreshedColumn C))) → Carries cleared (added_rows k 0 rows) others
  carries_new k rows others v m = in_as others
      (sym (throughout_all _ goes (added_rows k 0 rows) (new_rows (λ w. cleared w ≡ empty) k (λ i. fun_ext (new_goes k i)) 0 rows) v m)) (empty_in others)

  carries_as : {f : Columns (RefreshedColumn C) → Columns (RefreshedColumn C)} {a b x y : List (Columns (RefreshedColumn C))}
      → a ≡ b → x ≡ y → Carries f b y → Carries f a x
  carries_as {f} {a} {b} {x} {y} p q h v m =
      subst (λ (rows : List (Columns (RefreshedColumn C))). InSpan rows (f v)) (sym q) (h v (subst (λ (rows : List (Columns (RefreshedColumn C))). InSpan rows v) p m))

  fewer_left : (products : List (Product C)) (less set : ℕ → Bool) → IsWithin less set → (k : ℕ) (b : Bool) → set k ≡ b
      → Carries cleared (product_at (refreshed set products) k).left (product_at (refreshed less products) k).left
  fewer_left products less set within k true e =
      carries_as (left_at_true set products k e) refl (carries_new k (product_at products k).left (product_at (refreshed less products) k).left)
  fewer_left products less set within k false e =
      carries_as (left_at_false set products k e) (left_at_false less products k (not_in_less less set within k e (less k) refl))
      (carries_kept (product_at products k).left)

  fewer_carries : (products : List (Product C)) (less set : ℕ → Bool) → IsWithin less set → CarriesAll cleared (refreshed set products) (refreshed less products)
  fewer_carries products less set within = record {
    count = omega (arith, length-refreshed_from 0 set products, length-refreshed_from 0 less products);
    left = λ k lt. fewer_left products less set within k (set k) refl;
    right = λ k lt. carries_as (right_at set products k) (right_at less products k) (carries_kept (product_at products k).right);
  }

  pub fewer_attack : (products : List (Product C)) (less set : ℕ → Bool) → IsWithin less set
      → (t : ℕ) (leak : Columns (RefreshedColumn C)) (probes : List Probe) → IsAttack (refreshed set products) t leak probes
      → IsAttack (refreshed less products) t leak probes
  fewer_attack products less set within t leak probes attack =
      let same : cleared leak ≡ leak = fun_ext (clear_at leak (added_lacks products set leak (t, probes, attack))) in
      subst (λ (v : Columns (RefreshedColumn C)). IsAttack (refreshed less products) t v probes) same
      (attack_carried cleared cleared_keeps (refreshed set products) (refreshed less products) (fewer_carries products less set within) t leak probes attack
      (λ e. attack.nonempty (sym same ∙ e)))

  pub fewer_has : (products : List (Product C)) (less set : ℕ → Bool) → IsWithin less set → HasAttack (refreshed set products) → HasAttack (refreshed less products)
  fewer_has products less set within (leak, l) = (leak, (l.0, l.1, fewer_attack products less set within l.0 leak l.1 l.2))

within_both : (less set : ℕ → Bool) → IsWithin less set → (k j : ℕ) → (b c : Bool) → less j ≡ b → not (eqb j k) ≡ c → (b && c) ≡ true → (set j && not (eqb j k)) ≡ true
within_both less set within k j true true e f g = ap₂ (λ x y. x && y) (within j e) f
within_both less set within k j true false e f g = absurd (true≢false (sym g))
within_both less set within k j false c e f g = absurd (true≢false (sym g))

within_without : (less set : ℕ → Bool) → IsWithin less set → (k : ℕ) → IsWithin (without k less) (without k set)
within_without less set within k j h = within_both less set within k j (less j) (not (eqb j k)) refl refl h

without_gone : (less set : ℕ → Bool) → IsWithin less set → (k : ℕ) → less k ≡ false → IsWithin less (without k set)
without_gone less set within k gone j h =
    ap₂ (λ x y. x && y) (within j h)
    (ap not (ne_eqb j k (λ e. true≢false (sym h ∙ ap less e ∙ gone))))

module _ {C : Type 0} where
  pub needed_has : (products : List (Product C)) (less set : ℕ → Bool) → IsWithin less set
      → (k : ℕ) → HasAttack (refreshed (without k set) products) → HasAttack (refreshed (without k less) products)
  needed_has products less set within k h = fewer_has products (without k less) (without k set) (within_without less set within k) h

  pub repair_least : (products : List (Product C)) (less set : ℕ → Bool) → IsRepairSet products set → IsWithin less set
      → (k : ℕ) → k < length products → set k ≡ true → less k ≡ false → HasAttack (refreshed less products)
  repair_least products less set repair within k lt here gone =
      fewer_has products less (without k set) (without_gone less set within k gone) (repair.needed k lt here)

  -- the name that a column of the products has among those of refreshed products
  abbrev pub as_kept : C → Option (RefreshedColumn C)
  as_kept column = Some (kept column)

  pub rows_again : (rows : List (Columns C)) → map (named_in as_kept) (map (named_in kept_name) rows) ≡ rows
  rows_again [] = refl
  rows_again (row ∷ rows) = ap (λ (xs : List (Columns C)). row ∷ xs) (rows_again rows)

  products_again : (products : List (Product C)) → renamed as_kept (renamed kept_name products) ≡ products
  products_again [] = refl
  products_again (product ∷ products) = λ i.
      record { left = rows_again product.left i; right = rows_again product.right i } ∷ products_again products i

  none_from : (k : ℕ) (products : List (Product C)) → renamed kept_name products ≡ refreshed_from k (λ _. false) products
  none_from k [] = refl
  none_from k (product ∷ products) = ap (λ (xs : List (Product (RefreshedColumn C))). renamed_product kept_name product ∷ xs) (none_from (suc k) products)

  none_again : (products : List (Product C)) → renamed as_kept (refreshed (λ _. false) products) ≡ products
  none_again products = ap (renamed as_kept) (sym (none_from 0 products)) ∙ products_again products

  pub none_same : (products : List (Product C)) → (HasAttack (refreshed (λ _. false) products) → HasAttack products) × (HasAttack products → HasAttack (refreshed (λ _. false) products))
  none_same products = (
    λ h. (
      named_in as_kept h.0,
      (
        h.1.0,
        h.1.1,
        renamed_attacks as_kept kept_name (refreshed (λ _. false) products) products (none_again products) (none_from 0 products) h.1.0 h.0 h.1.1 h.1.2,
      ),
    ),
    λ h. (
      named_in kept_name h.0,
      (
        h.1.0,
        h.1.1,
        renamed_attacks kept_name as_kept products (refreshed (λ _. false) products) (none_from 0 products) (none_again products) h.1.0 h.0 h.1.1 h.1.2,
      ),
    ),
  )
