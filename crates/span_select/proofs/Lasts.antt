-- Sets of numbered columns: their last columns, sets that are moved up, and sets that hold no last column of a member.
use Rattle.std.proofs.Common.{◌≡◌, ◌⊎◌, ℕ, ◌+◌, ◌-◌, ◌<◌, ◌≤◌, zero, suc, Bool, true, false, not, List, cond, eq-eqb, ne_eqb, eqb-true, lt-ltb, le-ltb, ltb, refl, sym, ap, ◌∙◌, subst, inl, inr, arith, true≢false}
use Rattle.std.specs.Bool.{beq}
use mathlib.Core.Path.{fun_ext}
use native.Mathlib.Nat.{eq-or-lt_of_le}
use Rattle.std.proofs.lemmas.Bool.{cases_order}
use Rattle.span_model.specs.Columns.{Columns, empty, ◌△◌}
use Rattle.gf2_span.specs.Rows.{IsLast, HaveOwnLeads, HoldsNoLead, LeadsAreKept}
use Rattle.span_select.specs.Words.{unit, raised, IsReduced}

-- ---- tests

pub not_true : (b : Bool) → (b ≡ true → ⊥) → b ≡ false
not_true true h = absurd (h refl)
not_true false h = refl

pub both_false : (a b : Bool) → a ≡ false → b ≡ false → not (beq a b) ≡ false
both_false a b x y = ap (λ z. not (beq z b)) x ∙ ap (λ z. not (beq false z)) y

pub first_only : (a b : Bool) → a ≡ true → b ≡ false → not (beq a b) ≡ true
first_only a b x y = ap (λ z. not (beq z b)) x ∙ ap (λ z. not (beq true z)) y

pub first_stays : (a b : Bool) → b ≡ false → not (beq a b) ≡ a
first_stays true b y = ap (λ z. not (beq true z)) y
first_stays false b y = ap (λ z. not (beq false z)) y

pub second_only : (a b : Bool) → a ≡ false → b ≡ true → not (beq a b) ≡ true
second_only a b x y = ap (λ z. not (beq z b)) x ∙ ap (λ z. not (beq false z)) y

pub both_there : (a b : Bool) → a ≡ true → b ≡ true → not (beq a b) ≡ false
both_there a b x y = ap (λ z. not (beq z b)) x ∙ ap (λ z. not (beq true z)) y

-- a difference that is not there is of two equal tests
pub same_tests : (a b : Bool) → not (beq a b) ≡ false → a ≡ b
same_tests true true h = refl
same_tests true false h = absurd (true≢false h)
same_tests false true h = absurd (true≢false h)
same_tests false false h = refl

-- a difference that is there is of one that is there
pub one_there : (a b : Bool) → not (beq a b) ≡ true → (a ≡ true) ⊎ (b ≡ true)
one_there true b h = inl refl
one_there false true h = inr refl
one_there false false h = absurd (true≢false (sym h))

-- ---- last columns

pub last_unique : (v : Columns ℕ) (c d : ℕ) → IsLast v c → IsLast v d → c ≡ d
last_unique v c d at_c at_d = elim (cases_order c d) [
  | inl same ↦ same
  | inr other ↦ elim other [
    | inl less ↦ absurd (true≢false (sym at_d.there ∙ at_c.none_after d less))
    | inr more ↦ absurd (true≢false (sym at_c.there ∙ at_d.none_after c more))
  ]
]

pub there_not_empty : (v : Columns ℕ) (c : ℕ) → v c ≡ true → v ≡ empty → ⊥
there_not_empty v c there e = true≢false (sym there ∙ ap (λ (x : Columns ℕ). x c) e)

last_in_cases : (n : ℕ) (v : Columns ℕ) → ((c : ℕ) → suc n ≤ c → v c ≡ false) → (((c : ℕ) → n ≤ c → v c ≡ false) → (v ≡ empty) ⊎ ((c : ℕ) × IsLast v c)) → (b : Bool) → v n ≡ b
    → (v ≡ empty) ⊎ ((c : ℕ) × IsLast v c)
last_in_cases n v above less true e = inr (n, record { there = e; none_after = λ d h. above d (omega arith) })
last_in_cases n v above less false e = less (λ c le. elim (eq-or-lt_of_le le) [
  | inl same ↦ subst (λ (k : ℕ). v k ≡ false) same e
  | inr lt ↦ above c lt
])

-- a set with no column at n or above is empty or has a last column
pub last_below : (n : ℕ) (v : Columns ℕ) → ((c : ℕ) → n ≤ c → v c ≡ false) → (v ≡ empty) ⊎ ((c : ℕ) × IsLast v c)
last_below zero v above = inl (fun_ext (λ c. above c (omega arith)))
last_below (suc n) v above = last_in_cases n v above (last_below n v) (v n) refl

-- ---- sets that hold no last column of a member

pub reduced_sum : (rows : List (Columns ℕ)) (v w : Columns ℕ) → IsReduced rows v → IsReduced rows w → IsReduced rows (v △ w)
reduced_sum rows v w x y u c member last = both_false (v c) (w c) (x u c member last) (y u c member last)

pub reduced_as : (rows : List (Columns ℕ)) (v w : Columns ℕ) → v ≡ w → IsReduced rows v → IsReduced rows w
reduced_as rows v w e h = let P : Columns ℕ → Type 0 = λ (x : Columns ℕ). IsReduced rows x in subst P e h

-- the last column of a member is that of a row
pub reduced_from : LeadsAreKept → (rows : List (Columns ℕ)) (v : Columns ℕ) → HaveOwnLeads rows → HoldsNoLead rows v → IsReduced rows v
reduced_from kept rows v own none w c member last =
    let found = kept rows own w member (there_not_empty w c last.there) in
    let same : found.1 ≡ c = last_unique w found.1 c found.4 last in
    subst (λ (k : ℕ). v k ≡ false) same (none found.0 found.1 found.2 found.3)

-- ---- the set of one column

pub unit_here : (c : ℕ) → unit c c ≡ true
unit_here c = eq-eqb c c refl

pub unit_other : (c d : ℕ) → (d ≡ c → ⊥) → unit c d ≡ false
unit_other c d other = ne_eqb d c other

pub unit_is : (c d : ℕ) → unit c d ≡ true → d ≡ c
unit_is c d h = eqb-true d c h

-- ---- sets that are moved up

pub raised_low : (n : ℕ) (v : Columns ℕ) (c : ℕ) → c < n → raised n v c ≡ false
raised_low n v c h = ap (λ b. cond b false (v (c - n))) (lt-ltb c n h)

pub raised_high : (n : ℕ) (v : Columns ℕ) (c : ℕ) → n ≤ c → raised n v c ≡ v (c - n)
raised_high n v c h = ap (λ b. cond b false (v (c - n))) (le-ltb c n h)

pub raised_at : (n : ℕ) (v : Columns ℕ) (c : ℕ) → raised n v (n + c) ≡ v c
raised_at n v c = raised_high n v (n + c) (omega arith) ∙ ap v (let e : n + c - n ≡ c = omega arith in e)

choice_sum : (b x y : Bool) → cond b false (not (beq x y)) ≡ not (beq (cond b false x) (cond b false y))
choice_sum true x y = refl
choice_sum false x y = refl

choice_none : (b : Bool) → cond b false false ≡ false
choice_none true = refl
choice_none false = refl

pub raised_sum : (n : ℕ) (a b : Columns ℕ) → raised n (a △ b) ≡ raised n a △ raised n b
raised_sum n a b = fun_ext (λ c. choice_sum (ltb c n) (a (c - n)) (b (c - n)))

pub raised_empty : (n : ℕ) → raised n empty ≡ empty
raised_empty n = fun_ext (λ c. choice_none (ltb c n))

pub raised_none : (n : ℕ) (v : Columns ℕ) → raised n v ≡ empty → v ≡ empty
raised_none n v e = fun_ext (λ c. sym (raised_at n v c) ∙ ap (λ (x : Columns ℕ). x (n + c)) e)
