-- What is noted of operands: their greatest columns, and which of them span what is left of a leak.
use Rattle.std.proofs.Common.{◌≡◌, ◌<◌, ◌≤◌, ◌+◌, ◌++◌, ℕ, zero, suc, Bool, get_or, set, replicate, refl, List, [], ◌∷◌, length, sym, ap, ◌∙◌, subst, arith, Option, Some, None, IfSome, inl, inr}
use Rattle.std.specs.Bool.{MatchBool}
use Rattle.std.proofs.lemmas.Bool.{cases_eq, cases_lt}
use Rattle.std.proofs.lemmas.List.{get_or_push, get_or_append_left, get_or_past, length-append, get_or-set_same, get_or-set_other}
use Rattle.span_model.specs.Columns.{Columns}
use Rattle.span_model.specs.Span.{InSpan}
use Rattle.span_model.specs.Attack.{Product}
use Rattle.span_model.specs.Closure.{operand}
use Rattle.gf2_span.specs.Rows.{IsLast, LeadsNoMember}
use Rattle.linear_view.specs.Sides.{step_of, place_of}
use Rattle.linear_view.proofs.PlaceLemmas.{same_place}
use Rattle.linear_view.specs.declared.operand.Operand.{Operand}
use Rattle.attack_cert.specs.Levelled.{noted_of, IsOnlyLead, AreLeads, IsTold, AreTold}
use Rattle.attack_cert.proofs.Sums.{without_row, right_apart, left_apart}

-- one more operand's
pub one_more : (products : List (Product ℕ)) (leads : List (Option ℕ)) (o : Operand) (lead : Option ℕ)
    → AreLeads products leads → length leads ≡ place_of o → IfSome lead (IsOnlyLead (operand products (step_of o)))
    → AreLeads products (leads ++ lead ∷ [])
one_more products leads o lead those count is q =
    elim (cases_eq (place_of q) (place_of o)) [
      | inl same ↦
          subst (λ (x : Option ℕ). IfSome x (IsOnlyLead (operand products (step_of q))))
          (sym (get_or_push leads lead None (place_of q) (count ∙ sym same)))
          (subst (λ (p : Operand). IfSome lead (IsOnlyLead (operand products (step_of p)))) (sym (same_place q o same)) is)
      | inr other ↦ elim (cases_lt (place_of q) (length leads)) [
        | inl below ↦
            subst (λ (x : Option ℕ). IfSome x (IsOnlyLead (operand products (step_of q))))
            (sym (get_or_append_left leads (lead ∷ []) None (place_of q) below)) (those q)
        | inr past ↦
            subst (λ (x : Option ℕ). IfSome x (IsOnlyLead (operand products (step_of q))))
            (sym (get_or_past (leads ++ lead ∷ []) (place_of q) None (behind q past other))) tt
      ]
    ]
  where
    behind : (q : Operand) → length leads ≤ place_of q → (place_of q ≡ place_of o → ⊥) → length (leads ++ lead ∷ []) ≤ place_of q
    behind q past other =
        let n = length-append leads (lead ∷ []) in
        let strict : length leads + 1 ≤ place_of q = by (length leads) (place_of q) past (λ e. other (sym e ∙ count)) in
        omega arith
      where
        by : (a b : ℕ) → a ≤ b → (a ≡ b → ⊥) → a + 1 ≤ b
        by a b h differ = grind arith

-- rows of which one is alone, and leads with what is left no member, do not span it
pub apart_right : (known rows : List (Columns ℕ)) (left : Columns ℕ) (c lead : ℕ) → IsOnlyLead rows c → IsLast left lead
    → ¬ InSpan known left → c < lead → LeadsNoMember known lead → ¬ InSpan (rows ++ known) left
apart_right known rows left c lead own last outside less none inside =
    right_apart known own.row left c lead own.last last less none
    (without_row known own.row left outside (subst (λ (r : List (Columns ℕ)). InSpan (r ++ known) left) own.only inside))

pub apart_left : (known rows : List (Columns ℕ)) (left : Columns ℕ) (c lead : ℕ) → IsOnlyLead rows c → IsLast left lead
    → ¬ InSpan known left → lead < c → LeadsNoMember known c → ¬ InSpan (rows ++ known) left
apart_left known rows left c lead own last outside less none inside =
    left_apart known own.row left c lead own.last last less none
    (without_row known own.row left outside (subst (λ (r : List (Columns ℕ)). InSpan (r ++ known) left) own.only inside))

-- nothing is noted at first
none_there : (n i : ℕ) → get_or (let l : List (Option Bool) = replicate n None in l) i None ≡ None
none_there zero i = refl
none_there (suc n) zero = refl
none_there (suc n) (suc i) = none_there n i

pub none_told : (products : List (Product ℕ)) (leak : Columns ℕ) (rows : List (Columns ℕ)) (told : List (Option Bool)) (n : ℕ)
    → told ≡ replicate n None → AreTold products leak rows told
none_told products leak rows told n e o =
    subst (λ (x : Option Bool). IfSome x (IsTold products leak rows o))
    (sym (ap (λ (l : List (Option Bool)). get_or l (place_of o) None) e ∙ none_there n (place_of o))) tt

-- one more answer
pub one_told : (products : List (Product ℕ)) (leak : Columns ℕ) (rows : List (Columns ℕ)) (told : List (Option Bool)) (o : Operand) (spans : Bool)
    → AreTold products leak rows told → place_of o < length told → IsTold products leak rows o spans
    → AreTold products leak rows (set told (place_of o) (Some spans))
one_told products leak rows told o spans those within is q =
    elim (cases_eq (place_of q) (place_of o)) [
      | inl same ↦
          subst (λ (p : Operand). IfSome (noted_of (set told (place_of o) (Some spans)) p) (IsTold products leak rows p)) (sym (same_place q o same))
          (subst (λ (x : Option Bool). IfSome x (IsTold products leak rows o))
          (sym (get_or-set_same told (place_of o) (Some spans) None within)) is)
      | inr other ↦
          subst (λ (x : Option Bool). IfSome x (IsTold products leak rows q))
          (sym (get_or-set_other told (place_of o) (place_of q) (Some spans) None other)) (those q)
    ]

-- the answer of an operand with the same rows
pub told_alike : (products : List (Product ℕ)) (leak : Columns ℕ) (rows : List (Columns ℕ)) (like o : Operand) (spans : Bool)
    → operand products (step_of like) ≡ operand products (step_of o) → IsTold products leak rows like spans
    → IsTold products leak rows o spans
told_alike products leak rows like o spans same is =
    subst (λ (r : List (Columns ℕ)). MatchBool spans (InSpan (r ++ rows) leak) (¬ InSpan (r ++ rows) leak)) same is
