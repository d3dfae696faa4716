-- A row that spans with a span what is left of a leak.
use Rattle.std.proofs.Common.{◌≡◌, ◌<◌, ◌++◌, ℕ, Bool, true, false, not, List, [], ◌∷◌, length, get_or, refl, sym, ap, ◌∙◌, subst, arith, Option, Some, None, MatchOption}
use Rattle.std.specs.Bool.{beq, MatchBool, OnTrue}
use Rattle.std.specs.Option.{IsSome}
use Rattle.span_model.specs.Columns.{Columns, set_of, sets_of, ◌△◌}
use Rattle.span_model.specs.Span.{difference, InSpan}
use Rattle.span_model.proofs.Sets.{△_comm, △_cancel}
use Rattle.gf2_span.specs.Rows.{IsLast, LeadsNoMember}

-- the greatest column of a sum of two sets whose own ones differ
pub sum_last : (a b : Columns ℕ) (c d : ℕ) → IsLast a c → IsLast b d → c < d → IsLast (a △ b) d
sum_last a b c d at_c at_d less = record {
  there = ap (λ (x : Bool). not (beq x (b d))) (at_c.none_after d less) ∙ ap (λ (y : Bool). not (beq false y)) at_d.there;
  none_after = λ e h.
      (let past : c < e = omega arith in
      ap (λ (x : Bool). not (beq x (b e))) (at_c.none_after e past) ∙ ap (λ (y : Bool). not (beq false y)) (at_d.none_after e h));
}

-- where it leads no member of the span, the sum is none
pub right_apart : (rows : List (Columns ℕ)) (a b : Columns ℕ) (c d : ℕ) → IsLast a c → IsLast b d → c < d → LeadsNoMember rows d → ¬ InSpan rows (a △ b)
right_apart rows a b c d at_c at_d less none inside = none (a △ b) inside (sum_last a b c d at_c at_d less)

pub left_apart : (rows : List (Columns ℕ)) (a b : Columns ℕ) (c d : ℕ) → IsLast a c → IsLast b d → d < c → LeadsNoMember rows c → ¬ InSpan rows (a △ b)
left_apart rows a b c d at_c at_d less none inside =
    none (a △ b) inside (subst (λ (v : Columns ℕ). IsLast v c) (△_comm b a) (sum_last b a d c at_d at_c less))

pub if_none : (b : Bool) (P Q R : Type 0) → MatchBool b P Q → (Q → R) → OnTrue (not b) R
if_none true P Q R answer follows = tt
if_none false P Q R answer follows = follows answer

-- a set that a span does not have is spanned with one more row just where its sum with the row is a member
pub with_row : (rows : List (Columns ℕ)) (row left : Columns ℕ) → InSpan rows (row △ left) → InSpan (row ∷ rows) left
with_row rows row left (picks, e) = (true ∷ picks, ap (λ (v : Columns ℕ). row △ v) e ∙ △_cancel row left)

pub without_row : (rows : List (Columns ℕ)) (row left : Columns ℕ) → ¬ InSpan rows left → InSpan (row ∷ rows) left → InSpan rows (row △ left)
without_row rows row left outside ([], e) = absurd (outside ([], e))
without_row rows row left outside (false ∷ picks, e) = absurd (outside (picks, e))
without_row rows row left outside (true ∷ picks, e) =
    (picks, sym (△_cancel row (difference picks rows)) ∙ ap (λ (v : Columns ℕ). row △ v) e)

pub row_spans : (rows : List (Columns ℕ)) (row left : Columns ℕ) (holds : Bool) → ¬ InSpan rows left
    → MatchBool holds (InSpan rows (row △ left)) (¬ InSpan rows (row △ left)) → MatchBool holds (InSpan (row ∷ rows) left) (¬ InSpan (row ∷ rows) left)
row_spans rows row left true outside answer = with_row rows row left answer
row_spans rows row left false outside answer = λ inside. answer (without_row rows row left outside inside)

single : (rows : List (List Bool)) (only : List Bool) → length rows ≡ 1 → only ≡ get_or rows 0 only → rows ≡ only ∷ []
single [] only one at = absurd (omega (arith, one))
single (row ∷ []) only one at = ap (λ (r : List Bool). r ∷ []) (sym at)
single (row ∷ other ∷ rows) only one at = absurd (omega (arith, one))

-- the same of a list of one row
pub only_row_spans : (rows : List (List Bool)) (known : List (Columns ℕ)) (row : List Bool) (left : Columns ℕ) (holds : Bool) → length rows ≡ 1
    → row ≡ get_or rows 0 row → ¬ InSpan known left → MatchBool holds (InSpan known (set_of row △ left)) (¬ InSpan known (set_of row △ left))
    → MatchBool holds (InSpan (sets_of rows ++ known) left) (¬ InSpan (sets_of rows ++ known) left)
only_row_spans rows known row left holds one at outside answer =
    subst (λ (r : List (List Bool)). MatchBool holds (InSpan (sets_of r ++ known) left) (¬ InSpan (sets_of r ++ known) left)) (sym (single rows row one at))
    (row_spans known (set_of row) left holds outside answer)

-- what is left of a leak is no member where the leak is none
pub left_outside : (known : List (Columns ℕ)) (leak left : Columns ℕ) → (InSpan known left → InSpan known leak) → ¬ InSpan known leak → ¬ InSpan known left
left_outside known leak left follows none inside = none (follows inside)

-- a sum that is told to be no member
pub apart_answer : (apart : Bool) (P : Type 0) → apart ≡ true → OnTrue apart (¬ P) → MatchBool (not apart) P (¬ P)
apart_answer true P e none = none
apart_answer false P e none = cc e

-- an answer that is there unless something holds that does not
pub some_unless : {X : Type 0} (found : Option X) (P : Type 0) (Q : X → Type 0) → MatchOption found P Q → ¬ P → IsSome found
some_unless None P Q h none = absurd (none h)
some_unless (Some x) P Q h none = refl
