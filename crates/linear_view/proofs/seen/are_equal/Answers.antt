use Rattle.std.proofs.Common.{◌≡◌, ◌≢◌, ◌<◌, ◌+◌, inl, inr, ℕ, Bool, List, [], length, get_or, sym, ap, subst, ◌∙◌, arith}
use Rattle.std.proofs.lemmas.Bool.{cases_lt}
use Rattle.std.proofs.lemmas.List.{same_lists, get_or_default}
use Rattle.linear_view.proofs.seen.are_equal.Goals as goal

-- one more row that is the same
same_more : (a b : List (List Bool)) (k : ℕ) (x y : List Bool) → k < length a → k < length b → x ≡ get_or a k x → y ≡ get_or b k y → x ≡ y
    → ((j : ℕ) → j < k → get_or a j [] ≡ get_or b j []) → (j : ℕ) → j < k + 1 → get_or a j [] ≡ get_or b j []
same_more a b k x y in_a in_b at_a at_b same before j h = elim (cases_lt j k) [
  | inl old ↦ before j old
  | inr new ↦
      let e : k ≡ j = omega arith in
      let here : get_or a k [] ≡ get_or b k [] =
      get_or_default a k [] x in_a ∙ sym at_a ∙ same ∙ at_b ∙ sym (get_or_default b k [] y in_b) in
      subst (λ (n : ℕ). get_or a n [] ≡ get_or b n []) e here
]

-- lists with a row that differs
row_differs : (a b : List (List Bool)) (k : ℕ) (x y : List Bool) → k < length a → k < length b → x ≡ get_or a k x → y ≡ get_or b k y
    → x ≢ y → a ≢ b
row_differs a b k x y in_a in_b at_a at_b differ same =
    differ (at_a ∙ get_or_default a k x y in_a ∙ ap (λ (rows : List (List Bool)). get_or rows k y) same ∙ sym at_b)

pub returns-then-a-b : goal.returns-then-a-b
returns-then-a-b c = λ e. absurd (omega (arith, ap length e))

pub returns-then-not-equals : goal.returns-then-not-equals
returns-then-not-equals c =
    row_differs c.args.a.now c.args.b.now c.loop-k.k c.index-a-k.result c.index-b-k.result (omega arith) (omega arith)
    c.index-a-k.is c.index-b-k.is c.if-not-equals.ensures

pub loop-k-preserved : goal.loop-k-preserved
loop-k-preserved c =
    same_more c.args.a.now c.args.b.now c.loop-k.k c.index-a-k.result c.index-b-k.result (omega arith) (omega arith) c.index-a-k.is c.index-b-k.is c.if-not-equals.ensures c.loop-k.invariant

pub returns : goal.returns
returns c =
    same_lists c.args.a.now c.args.b.now (omega arith)
    (λ k d h.
    get_or_default c.args.a.now k d [] h ∙ c.loop-k.invariant k (omega arith)
    ∙ sym (get_or_default c.args.b.now k d [] (omega arith)))
