-- The cases known by hand.
use Rattle.std.proofs.Common.{◌≡◌, ◌<◌, ◌≤◌, ◌==◌, ℕ, zero, suc, Bool, true, false, not, [], ◌∷◌, All, refl, sym, ap, ap₂, ◌∙◌, arith, true≢false}
use Rattle.std.specs.Bool.{beq}
use mathlib.Core.Path.{fun_ext}
use Rattle.span_model.specs.Columns.{Columns, empty, set_of, ◌△◌}
use Rattle.span_model.specs.Span.{InSpan}
use Rattle.span_model.specs.Attack.{IsProbe, product_at, seen, IsAttack, HasAttack}
use Rattle.span_model.specs.Refresh.{refreshed, without, left_out, IsOnLeftAlone, IsLeftFresh, IsRepairSet}
use Rattle.span_model.specs.Cases.{x_column, y_column, both_columns, x_and_x, x_and_y, x_and_both, pair_and_both, probe}
use Rattle.span_model.proofs.Sets.{△-empty}
use Rattle.span_model.proofs.Carrying.{IsLinear, throughout_none, throughout_cons}
use Rattle.span_model.proofs.Refreshing.{lacks, fresh_secure, all_secure, none_same}
use Rattle.span_model.proofs.LeavingOut.{same_attacks}

not_empty : (v : Columns ℕ) (c : ℕ) → v c ≡ true → v ≡ empty → ⊥
not_empty v c e gone = true≢false (sym e ∙ ap (λ (w : Columns ℕ). w c) gone)

-- a set in the span of one row has no column that the row lacks
one_row_lacks : (row v : Columns ℕ) (c : ℕ) → row c ≡ false → InSpan (row ∷ []) v → v c ≡ true → ⊥
one_row_lacks row v c e m here =
    true≢false (sym here ∙ throughout_cons _ (lacks c) row [] e (throughout_none _ (lacks c)) v m)

one_within : All (IsProbe 1 1) (probe 0 1 0 ∷ [])
one_within zero d lt = record { product = omega arith; left_share = omega arith; right_share = omega arith }
one_within (suc k) d lt = absurd (omega arith)

one_spanned : (s : ℕ) → s ≤ 1 → InSpan (seen (x_and_x ∷ []) (probe 0 1 0 ∷ []) s) x_column
one_spanned zero le = (true ∷ [], △-empty x_column)
one_spanned (suc zero) le = (true ∷ [], △-empty x_column)
one_spanned (suc (suc s)) le = absurd (omega arith)

pub one_probe : IsAttack (x_and_x ∷ []) 1 x_column (probe 0 1 0 ∷ [])
one_probe = record { count = refl; within = one_within; nonempty = not_empty x_column 0 refl; spanned = one_spanned }

pub repaired : ¬ HasAttack (refreshed (λ _. true) (x_and_x ∷ []))
repaired = all_secure (x_and_x ∷ []) (λ _. true) (λ k lt. refl)

-- y does not hold the column of x
x_not_in_y : (k : ℕ) → All (λ row. row 0 ≡ false) (product_at (x_and_y ∷ []) k).right
x_not_in_y zero zero d lt = refl
x_not_in_y zero (suc i) d lt = absurd (omega arith)
x_not_in_y (suc k) i d lt = absurd (omega arith)

x_alone : (c : ℕ) → x_column c ≡ true → IsOnLeftAlone (x_and_y ∷ []) c
x_alone zero e = x_not_in_y
x_alone (suc c) e = absurd (true≢false (sym e))

x_fresh : (k : ℕ) → k < 1 → IsLeftFresh (x_and_y ∷ []) k
x_fresh zero below zero d lt = x_alone
x_fresh zero below (suc i) d lt = absurd (omega arith)
x_fresh (suc k) below i d lt = absurd (omega arith)

pub secure : ¬ HasAttack (x_and_y ∷ [])
secure = fresh_secure (x_and_y ∷ []) x_fresh

two_within : All (IsProbe 2 2) (probe 0 1 0 ∷ probe 1 2 0 ∷ [])
two_within zero d lt = record { product = omega arith; left_share = omega arith; right_share = omega arith }
two_within (suc zero) d lt = record { product = omega arith; left_share = omega arith; right_share = omega arith }
two_within (suc (suc k)) d lt = absurd (omega arith)

x_of_both : (c : ℕ) → (y_column △ (both_columns △ empty)) c ≡ x_column c
x_of_both zero = refl
x_of_both (suc zero) = refl
x_of_both (suc (suc c)) = refl

two_spanned : (s : ℕ) → s ≤ 2 → InSpan (seen (x_and_y ∷ x_and_both ∷ []) (probe 0 1 0 ∷ probe 1 2 0 ∷ []) s) x_column
two_spanned zero le = (true ∷ true ∷ [], fun_ext x_of_both)
two_spanned (suc zero) le = (true ∷ [], △-empty x_column)
two_spanned (suc (suc zero)) le = (true ∷ [], △-empty x_column)
two_spanned (suc (suc (suc s))) le = absurd (omega arith)

pub two_probes : IsAttack (x_and_y ∷ x_and_both ∷ []) 2 x_column (probe 0 1 0 ∷ probe 1 2 0 ∷ [])
two_probes = record { count = refl; within = two_within; nonempty = not_empty x_column 0 refl; spanned = two_spanned }

pub share_moved : ¬ IsAttack (x_and_y ∷ x_and_both ∷ []) 2 x_column (probe 0 1 0 ∷ probe 1 2 1 ∷ [])
share_moved attack = one_row_lacks y_column x_column 0 refl (attack.spanned 0 (omega arith)) refl

pub other_leak : ¬ IsAttack (x_and_y ∷ x_and_both ∷ []) 2 y_column (probe 0 1 0 ∷ probe 1 2 0 ∷ [])
other_leak attack = one_row_lacks x_column y_column 1 refl (attack.spanned 1 (omega arith)) refl

pub empty_leak : ¬ IsAttack (x_and_y ∷ x_and_both ∷ []) 2 (set_of []) (probe 0 1 0 ∷ probe 1 2 0 ∷ [])
empty_leak attack = attack.nonempty refl

-- ---- an operand of two rows

both_of_rows : (c : ℕ) → (x_column △ (y_column △ empty)) c ≡ both_columns c
both_of_rows zero = refl
both_of_rows (suc zero) = refl
both_of_rows (suc (suc c)) = refl

rows_spanned : (s : ℕ) → s ≤ 1 → InSpan (seen (pair_and_both ∷ []) (probe 0 1 0 ∷ []) s) both_columns
rows_spanned zero le = (true ∷ [], △-empty both_columns)
rows_spanned (suc zero) le = (true ∷ true ∷ [], fun_ext both_of_rows)
rows_spanned (suc (suc s)) le = absurd (omega arith)

pub two_rows : IsAttack (pair_and_both ∷ []) 1 both_columns (probe 0 1 0 ∷ [])
two_rows = record { count = refl; within = one_within; nonempty = not_empty both_columns 0 refl; spanned = rows_spanned }

-- x and y are both in the set, or neither is
together : IsLinear (λ (v : Columns ℕ). v 0 ≡ v 1)
together = record { at_empty = refl; at_sum = λ v w h k. ap₂ (λ (a b : Bool). not (beq a b)) h k }

pub one_row : ¬ IsAttack (pair_and_both ∷ []) 1 x_column (probe 0 1 0 ∷ [])
one_row attack =
    true≢false
    (throughout_cons _ together both_columns (empty ∷ []) refl (throughout_cons _ together empty [] refl
    (throughout_none _ together)) x_column
    (attack.spanned 0 (omega arith)))

-- ---- repair sets

x_and_x_attacked : HasAttack (refreshed (λ _. false) (x_and_x ∷ []))
x_and_x_attacked = (none_same (x_and_x ∷ [])).1 (x_column, (1, probe 0 1 0 ∷ [], one_probe))

x_and_y_secure : ¬ HasAttack (refreshed (λ _. false) (x_and_y ∷ []))
x_and_y_secure has = secure ((none_same (x_and_y ∷ [])).0 has)

pub repair : IsRepairSet (x_and_x ∷ []) (λ _. true)
repair = record { secure = repaired; needed = needed }
  where
    needed : (k : ℕ) → k < 1 → true ≡ true → HasAttack (refreshed (without k (λ _. true)) (x_and_x ∷ []))
    needed zero lt e = x_and_x_attacked
    needed (suc k) lt e = absurd (omega arith)

pub no_repair : ¬ IsRepairSet (x_and_x ∷ []) (λ _. false)
no_repair set = set.secure x_and_x_attacked

pub nothing_to_repair : IsRepairSet (x_and_y ∷ []) (λ _. false)
nothing_to_repair = record { secure = x_and_y_secure; needed = λ k lt e. absurd (true≢false (sym e)) }

pub needless_repair : ¬ IsRepairSet (x_and_y ∷ []) (λ _. true)
needless_repair set = x_and_y_secure (set.needed 0 (omega arith) refl)

-- with the second product left out none holds the column of x on its right
x_not_right : (k : ℕ) → All (λ row. row 0 ≡ false) (product_at (left_out (λ k. k == 1)
    (x_and_y ∷ x_and_both ∷ [])) k).right
x_not_right zero zero d lt = refl
x_not_right zero (suc i) d lt = absurd (omega arith)
x_not_right (suc zero) i d lt = absurd (omega arith)
x_not_right (suc (suc k)) i d lt = absurd (omega arith)

x_on_left : (c : ℕ) → x_column c ≡ true → IsOnLeftAlone (left_out (λ k. k == 1) (x_and_y ∷ x_and_both ∷ [])) c
x_on_left zero e = x_not_right
x_on_left (suc c) e = absurd (true≢false (sym e))

lefts_fresh : (k : ℕ) → k < 2 → IsLeftFresh (left_out (λ k. k == 1) (x_and_y ∷ x_and_both ∷ [])) k
lefts_fresh zero below zero d lt = x_on_left
lefts_fresh zero below (suc i) d lt = absurd (omega arith)
lefts_fresh (suc zero) below i d lt = absurd (omega arith)
lefts_fresh (suc (suc k)) below i d lt = absurd (omega arith)

second_secure : ¬ HasAttack (refreshed (λ k. k == 1) (x_and_y ∷ x_and_both ∷ []))
second_secure has =
    fresh_secure (left_out (λ k. k == 1) (x_and_y ∷ x_and_both ∷ [])) lefts_fresh ((same_attacks
    (x_and_y ∷ x_and_both ∷ []) (λ k. k == 1)).0 has)

pub second_of_two : IsRepairSet (x_and_y ∷ x_and_both ∷ []) (λ k. k == 1)
second_of_two = record { secure = second_secure; needed = needed }
  where
    needed : (k : ℕ) → k < 2 → (k == 1) ≡ true
        → HasAttack (refreshed (without k (λ j. j == 1)) (x_and_y ∷ x_and_both ∷ []))
    needed zero lt e = absurd (true≢false (sym e))
    needed (suc zero) lt e = (none_same (x_and_y ∷ x_and_both ∷ [])).1 (
      x_column,
      (2, probe 0 1 0 ∷ probe 1 2 0 ∷ [], two_probes),
    )
    needed (suc (suc k)) lt e = absurd (omega arith)

pub both_of_two : ¬ IsRepairSet (x_and_y ∷ x_and_both ∷ []) (λ _. true)
both_of_two set = second_secure (set.needed 0 (omega arith) refl)
